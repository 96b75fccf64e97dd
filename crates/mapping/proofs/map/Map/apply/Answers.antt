use Rattle.std.proofs.Common.{sym, ◌∙◌, subst, arith}
use Rattle.cache_model.specs.Records.{Entries}
use Rattle.cache_model.specs.Entries.{Fits, IsMap}
use Rattle.mapping.specs.MapValue.{MapValue}
use Rattle.mapping.proofs.ApplyLemmas.{others_same, one_change, blocks_recounted, some_blocks}
use Rattle.mapping.proofs.MarkedLemmas.{count_enough, count_few, count_now, has_room, some_marked, counted_after}
use Rattle.mapping.proofs.map.Map.apply.Goals as goal

pub change_entries-now-requires-clause-block : goal.change_entries-now-requires-clause-block
change_entries-now-requires-clause-block c = record { some = c.block_of-before.ensures.some; none = c.block_of-before.ensures.none }

pub recount_dirty-dirty-requires-clause-some : goal.recount_dirty-dirty-requires-clause-some
recount_dirty-dirty-requires-clause-some c =
    let g = c.self.inside.geometry in
    let group = c.span_of-span.result.group in
    count_enough g c.self.inside.held.entries c.change_entries-now.new.held.entries group (others_same g c.args.change.now _ _ group c.change_entries-now.ensures.entries c.span_of-span.ensures.group)
    _ _ _ c.self.invariant.index.dirty c.change_entries-now.ensures.index.dirty (c.count-count.ensures ∙ c.self.invariant.marked_groups.dirty.each group)

pub recount_dirty-dirty-requires-clause-few : goal.recount_dirty-dirty-requires-clause-few
recount_dirty-dirty-requires-clause-few c =
    let fits = subst (λ (v : MapValue). Fits v.geometry c.args.change.now v.entries) (sym c.self.view_is) c.requires.fits in
    let g = c.self.inside.geometry in
    let group = c.span_of-span.result.group in
    count_few g c.self.inside.held.entries c.change_entries-now.new.held.entries group (others_same g c.args.change.now _ _ group c.change_entries-now.ensures.entries c.span_of-span.ensures.group)
    _ _ _ c.self.invariant.index.dirty c.change_entries-now.ensures.index.dirty (c.count-count.ensures ∙ c.self.invariant.marked_groups.dirty.each group)
    c.self.invariant.is_map (subst (λ (m : Entries). IsMap g m) (sym c.change_entries-now.ensures.entries) fits.leaves)

pub set-requires : goal.set-requires
set-requires c =
    let fits = subst (λ (v : MapValue). Fits v.geometry c.args.change.now v.entries) (sym c.self.view_is) c.requires.fits in
    let g = c.self.inside.geometry in
    let m = c.self.inside.held.entries in
    let n = c.change_entries-now.new.held.entries in
    let group = c.span_of-span.result.group in
    let others = others_same g c.args.change.now m n group c.change_entries-now.ensures.entries c.span_of-span.ensures.group in
    let now = count_now g m n group others _ _ _ c.self.invariant.index.dirty c.change_entries-now.ensures.index.dirty (c.count-count.ensures ∙ c.self.invariant.marked_groups.dirty.each group) c.recount_dirty-dirty.result c.recount_dirty-dirty.ensures in
    has_room g m n group others c.self.inside.marked.dirty c.self.invariant.marked_groups.dirty c.recount_dirty-dirty.result now (subst (λ (m : Entries). IsMap g m) (sym c.change_entries-now.ensures.entries) fits.leaves)

pub recount-self-inside-requires-clause-some : goal.recount-self-inside-requires-clause-some
recount-self-inside-requires-clause-some c = some_blocks c.self.inside.geometry c.self.inside.held.geometry c.self.inside.held.entries c.span_of-span.result.group c.block_of-before.result
    c.is_some.result c.self.inside.marked.data_blocks c.self.invariant.geometry c.is_some.ensures c.block_of-before.ensures.some c.block_of-before.ensures.none c.self.invariant.marked_groups.data_blocks

pub recount-self-inside-requires-clause-few : goal.recount-self-inside-requires-clause-few
recount-self-inside-requires-clause-few c =
    let is = c.self.invariant.marked_groups.data_blocks in
    let few = c.self.invariant.is_map.data_blocks in
    omega (arith, is, few, c.self.inside.geometry.in_range.c_high)

pub note-requires : goal.note-requires
note-requires c =
    let fits = subst (λ (v : MapValue). Fits v.geometry c.args.change.now v.entries) (sym c.self.view_is) c.requires.fits in
    let g = c.self.inside.geometry in
    let m = c.self.inside.held.entries in
    let n = c.change_entries-now.new.held.entries in
    let group = c.span_of-span.result.group in
    let others = others_same g c.args.change.now m n group c.change_entries-now.ensures.entries c.span_of-span.ensures.group in
    let now = count_now g m n group others _ _ _ c.self.invariant.index.dirty c.change_entries-now.ensures.index.dirty (c.count-count.ensures ∙ c.self.invariant.marked_groups.dirty.each group) c.recount_dirty-dirty.result c.recount_dirty-dirty.ensures in (
      m,
      n,
      group,
      one_change g c.self.inside.held.geometry c.change_entries-now.new.held.geometry c.args.change.now m n group c.block_of-before.result c.change_entries-now.result _
          c.self.invariant.geometry (c.change_entries-now.ensures.tables.geometry ∙ c.self.invariant.geometry) c.self.invariant.is_map fits c.change_entries-now.ensures.entries c.span_of-span.ensures.group c.block_of-before.ensures.some
          c.block_of-before.ensures.none c.change_entries-now.ensures.block.some c.change_entries-now.ensures.block.none (some_marked g n group c.recount_dirty-dirty.result now),
      c.self.invariant.are_candidates,
    )

pub invariant_of-self : goal.invariant_of-self
invariant_of-self c =
    let fits = subst (λ (v : MapValue). Fits v.geometry c.args.change.now v.entries) (sym c.self.view_is) c.requires.fits in
    let g = c.self.inside.geometry in
    let m = c.self.inside.held.entries in
    let n = c.change_entries-now.new.held.entries in
    let group = c.span_of-span.result.group in
    let others = others_same g c.args.change.now m n group c.change_entries-now.ensures.entries c.span_of-span.ensures.group in
    let now = count_now g m n group others _ _ _ c.self.invariant.index.dirty c.change_entries-now.ensures.index.dirty (c.count-count.ensures ∙ c.self.invariant.marked_groups.dirty.each group) c.recount_dirty-dirty.result c.recount_dirty-dirty.ensures in
    let change = one_change g c.self.inside.held.geometry c.change_entries-now.new.held.geometry c.args.change.now m n group c.block_of-before.result c.change_entries-now.result _
    c.self.invariant.geometry (c.change_entries-now.ensures.tables.geometry ∙ c.self.invariant.geometry) c.self.invariant.is_map fits c.change_entries-now.ensures.entries c.span_of-span.ensures.group c.block_of-before.ensures.some
    c.block_of-before.ensures.none c.change_entries-now.ensures.block.some c.change_entries-now.ensures.block.none (some_marked g n group c.recount_dirty-dirty.result now) in
    record {
      geometry = c.change_entries-now.ensures.tables.geometry ∙ c.self.invariant.geometry;
      is_map = change.new_map;
      index = c.change_entries-now.ensures.index;
      are_candidates = c.note.ensures m n group change c.self.invariant.are_candidates;
      marked_groups = record {
        dirty = counted_after g m n group others c.self.inside.marked.dirty c.self.invariant.marked_groups.dirty c.recount_dirty-dirty.result now _ c.set.ensures.counts c.set.ensures.len c.set.ensures.room;
        data_blocks = blocks_recounted g m n group c.block_of-before.result c.change_entries-now.result _ change c.is_some.result c.is_some-2.result
            c.self.inside.marked.data_blocks c.recount-self-inside.result c.is_some.ensures c.is_some-2.ensures c.self.invariant.marked_groups.data_blocks c.recount-self-inside.ensures;
      };
      room_pages = let room = c.self.invariant.room_pages in let left = c.change_entries-now.ensures.pages in let taken = c.taken_pages.ensures in omega (arith, room, left, taken);
      room_groups = let room = c.self.invariant.room_groups in let left = c.change_entries-now.ensures.groups in let taken = c.taken_groups.ensures in omega (arith, room, left, taken);
      few_pages = let few = c.self.invariant.few_pages in omega (arith, few);
      few_groups = let few = c.self.invariant.few_groups in omega (arith, few);
    }
