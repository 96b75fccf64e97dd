use Rattle.std.proofs.Common.{◌≡◌, [], length, map, List, refl, ◌∙◌, ap, subst, arith}
use Rattle.std.proofs.lemmas.List.{length-map}
use Rattle.ft_base.specs.declared.record.Record.{Record}
use Rattle.sparse_map.specs.Slots.{items_of}
use Rattle.mapping.specs.Checkpoint.{HasWindow}
use Rattle.mapping.specs.Packed.{HeldValue, block_record}
use Rattle.mapping.proofs.CheckpointLemmas.{window_none}
use Rattle.mapping.proofs.ListingLemmas.{records_as, items_few}
use Rattle.mapping.proofs.held.Held.offer_records.Goals as goal

pub offer_all_blocks-before-requires : goal.offer_all_blocks-before-requires
offer_all_blocks-before-requires c = let few = items_few c.self.inside.geometry c.self.inside.pages c.self.inside.blocks c.self.invariant in omega (arith, few)

pub offer_all_pages-requires : goal.offer_all_pages-requires
offer_all_pages-requires c =
    let few = items_few c.self.inside.geometry c.self.inside.pages c.self.inside.blocks c.self.invariant in
    let count = c.offer_all_blocks-before.ensures.count in
    omega (arith, few, count)

pub returns : goal.returns
returns c =
    let blocks = map block_record (items_of c.self.inside.blocks.slots) in
    let count : length (items_of c.self.inside.blocks.slots) ≡ c.offer_all_blocks-before.result = omega (arith, c.offer_all_blocks-before.ensures.count) in
    let first = c.offer_all_blocks-before.ensures.window [] refl (window_none c.args.from c.args.out.now) in
    let all = c.offer_all_pages.ensures.window blocks (length-map (items_of c.self.inside.blocks.slots) block_record ∙ count) first in
    subst (λ (l : List Record). HasWindow l c.args.from c.offer_all_pages.new.out) (records_as c.self.inside.geometry c.self.inside.pages c.self.inside.blocks c.self.invariant ∙ ap (λ (v : HeldValue). v.records) c.self.view_is) all
