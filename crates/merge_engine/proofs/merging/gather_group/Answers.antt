use Rattle.std.proofs.Common.{rules, ◌≤◌, ◌∙◌, ap, subst, inr}
use Rattle.ft_base.specs.declared.geometry.Geometry.{Geometry}
use Rattle.ft_base.specs.Layout.{first_pool}
use Rattle.ft_media.proofs.DrivesLemmas.{drives_then, only_then}
use Rattle.checkpoint.specs.Current.{PoolStays}
use Rattle.block_pool.specs.Pool.{IsNextTaken}
use Rattle.merge_engine.specs.declared.parts.Parts.{Parts}
use Rattle.merge_engine.proofs.GoesLemmas.{room_for_one}
use Rattle.merge_engine.proofs.RoleLemmas.{free_in_pool}
use Rattle.merge_engine.proofs.ResultLemmas.{on_ok_from, ok_at}
use Rattle.checkpoint.proofs.OnlyLemmas.{only_failed}
use Rattle.merge_engine.proofs.TakeLemmas.{agree_map}
use Rattle.merge_engine.proofs.MoveLemmas.{room_still, held_still, stands_listed, copied_still, moved_still, stands_still, either_same, merged_moved, others_moved, filled_still, fillers_moved, moved_counts, reach_still}
use Rattle.merge_engine.proofs.BeginLemmas.{page_left}
use Rattle.merge_engine.proofs.CostLemmas.{committed_next, copy_counts, less_than, page_after, reach_committed}
use Rattle.merge_engine.proofs.merging.gather_group.Goals as goal

pub returns-in_err-block-clause-drives : goal.returns-in_err-block-clause-drives
returns-in_err-block-clause-drives g c = only_failed _ _ _ _ _ c.in_ok-commit.ensures.drives.flash c.in_err-block.ensures.drives (search rules)

pub put_group-requires-clause-is_map : goal.put_group-requires-clause-is_map
put_group-requires-clause-is_map g c = agree_map c.copy_out.new.cache (g.M.Media.state c.copy_out.new.media).contents c.in_ok-block.ensures.agree

pub returns-in_err-block-clause-kept : goal.returns-in_err-block-clause-kept
returns-in_err-block-clause-kept g c = record {
  agree = search rules;
  nothing_waits = search rules;
  lists = search rules;
  stands = λ list durable lists.
      let same = ap (λ (p : Parts). p.geometry) c.copy_out.ensures.cache ∙ ap (λ (p : Parts). p.geometry) c.commit.ensures.cache in
      stands_listed c.args.cache.now.geometry c.copy_out.new.cache (g.M.Media.state c.copy_out.new.media).contents.flash.page durable list same (c.copy_out.ensures.lists list list (c.in_ok-commit.ensures.kept.lists list durable lists));
}

pub put_group-requires-clause-room : goal.put_group-requires-clause-room
put_group-requires-clause-room g c = record {
  pages = search rules;
  groups = search rules;
  room = room_for_one c.copy_out.new.cache.log (ap (λ (p : Parts). p.log.buffered) c.copy_out.ensures.cache ∙ c.in_ok-commit.ensures.kept.nothing_waits);
}

pub put_group-requires-clause-held : goal.put_group-requires-clause-held
put_group-requires-clause-held g c =
    let old = c.args.cache.now in
    let now = c.copy_out.new.cache in
    let same = ap (λ (p : Parts). p.geometry) c.copy_out.ensures.cache ∙ ap (λ (p : Parts). p.geometry) c.commit.ensures.cache in
    let is = ap (λ (p : Parts). p.map.entries) c.copy_out.ensures.cache ∙ ap (λ (p : Parts). p.map.entries) c.commit.ensures.cache in
    held_still old.geometry now.geometry old.map.entries now.map.entries c.args.group same is c.requires.held

pub put_group-requires-clause-block : goal.put_group-requires-clause-block
put_group-requires-clause-block g c =
    let old = c.args.cache.now in
    let now = c.copy_out.new.cache in
    let same = ap (λ (p : Parts). p.geometry) c.copy_out.ensures.cache ∙ ap (λ (p : Parts). p.geometry) c.commit.ensures.cache in
    let is = ap (λ (p : Parts). p.map.entries) c.copy_out.ensures.cache ∙ ap (λ (p : Parts). p.map.entries) c.commit.ensures.cache in
    room_still old.geometry now.geometry old.map.entries now.map.entries c.args.group same is c.requires.block

pub commit-requires-2 : goal.commit-requires-2
commit-requires-2 g c =
    let mid = c.commit.new.cache in
    let now = c.copy_out.new.cache in
    let contents = (g.M.Media.state c.copy_out.new.media).contents in
    let same = ap (λ (p : Parts). p.geometry) c.copy_out.ensures.cache in
    let is = ap (λ (p : Parts). p.map.entries) c.copy_out.ensures.cache in
    record { agree = (c.put_group.ensures.stays contents (copied_still mid.geometry now.geometry mid.map.entries now.map.entries c.args.group same is c.in_ok-block.block contents.flash.page c.in_ok-block.ensures.copied)).agree c.in_ok-block.ensures.agree }

pub returns-clause-kept : goal.returns-clause-kept
returns-clause-kept g c = record {
  agree = c.commit-2.ensures.kept.agree;
  nothing_waits = c.commit-2.ensures.kept.nothing_waits;
  lists = on_ok_from c.commit-2.result (λ v is. λ list durable lists.
      let mid = c.commit.new.cache in
      let now = c.copy_out.new.cache in
      let contents = (g.M.Media.state c.copy_out.new.media).contents in
      let same = ap (λ (p : Parts). p.geometry) c.copy_out.ensures.cache in
      let entries = ap (λ (p : Parts). p.map.entries) c.copy_out.ensures.cache in
      let copied = copied_still mid.geometry now.geometry mid.map.entries now.map.entries c.args.group same entries c.in_ok-block.block contents.flash.page c.in_ok-block.ensures.copied in
      ok_at c.commit-2.result v is c.commit-2.ensures.kept.lists list list
      ((c.put_group.ensures.stays contents copied).lists list list (c.copy_out.ensures.lists list list (c.in_ok-commit.ensures.kept.lists list durable lists))));
  stands = λ list durable lists.
      let mid = c.commit.new.cache in
      let now = c.copy_out.new.cache in
      let contents = (g.M.Media.state c.copy_out.new.media).contents in
      let same = ap (λ (p : Parts). p.geometry) c.copy_out.ensures.cache in
      let entries = ap (λ (p : Parts). p.map.entries) c.copy_out.ensures.cache in
      let copied = copied_still mid.geometry now.geometry mid.map.entries now.map.entries c.args.group same entries c.in_ok-block.block contents.flash.page c.in_ok-block.ensures.copied in
      let geometry = ap (λ (p : Parts). p.geometry) c.put_group.ensures.cache ∙ same ∙ ap (λ (p : Parts). p.geometry) c.commit.ensures.cache in
      inr (either_same c.args.cache.now.geometry (g.M.Media.state c.commit-2.new.media).contents.flash.page list
      (stands_still c.args.cache.now.geometry c.put_group.new.cache.geometry (g.M.Media.state c.commit-2.new.media).contents.flash.page list list geometry
      (c.commit-2.ensures.kept.stands list list ((c.put_group.ensures.stays contents copied).lists list list (c.copy_out.ensures.lists list list (c.in_ok-commit.ensures.kept.lists list durable lists))))));
}

pub returns-clause-gathered : goal.returns-clause-gathered
returns-clause-gathered g c = on_ok_from c.commit-2.result (λ v is. record {
  merged = let old = c.args.cache.now in
      let now = c.copy_out.new.cache in
      let same = ap (λ (p : Parts). p.geometry) c.copy_out.ensures.cache ∙ ap (λ (p : Parts). p.geometry) c.commit.ensures.cache in
      let entries = ap (λ (p : Parts). p.map.entries) c.copy_out.ensures.cache ∙ ap (λ (p : Parts). p.map.entries) c.commit.ensures.cache in
      merged_moved old.geometry old.map.entries c.commit-2.new.cache.map.entries c.args.group c.in_ok-block.block
      (ap (λ (p : Parts). p.map.entries) c.commit-2.ensures.cache ∙ c.put_group.ensures.map.entries ∙ moved_still old.geometry now.geometry old.map.entries now.map.entries c.args.group same entries c.in_ok-block.block);
  filled = let old = c.args.cache.now in
      let mid = c.commit.new.cache in
      let now = c.copy_out.new.cache in
      let page = (g.M.Media.state c.copy_out.new.media).contents.flash.page in
      let page' = (g.M.Media.state c.commit-2.new.media).contents.flash.page in
      let first = ap (λ (p : Parts). p.geometry) c.commit.ensures.cache in
      let first_entries = ap (λ (p : Parts). p.map.entries) c.commit.ensures.cache in
      let same = ap (λ (p : Parts). p.geometry) c.copy_out.ensures.cache ∙ first in
      let entries = ap (λ (p : Parts). p.map.entries) c.copy_out.ensures.cache ∙ first_entries in
      let put = ap (λ (p : Parts). p.geometry) c.put_group.ensures.cache ∙ same in
      let high = (free_in_pool now c.in_ok-block.ensures.agree.sound.of_one c.in_ok-block.block c.in_ok-block.ensures.free).0 in
      fillers_moved old.geometry old.map.entries c.commit-2.new.cache.map.entries c.args.group c.in_ok-block.block
      (ap (λ (p : Parts). p.map.entries) c.commit-2.ensures.cache ∙ c.put_group.ensures.map.entries ∙ moved_still old.geometry now.geometry old.map.entries now.map.entries c.args.group same entries c.in_ok-block.block)
      page page' (subst (λ (h : Geometry). first_pool h ≤ c.in_ok-block.block) same high) (subst (λ (h : Geometry). PoolStays h page page') put c.commit-2.ensures.pool)
      (filled_still old.geometry mid.geometry old.map.entries mid.map.entries c.args.group c.in_ok-block.block page first first_entries c.in_ok-block.ensures.filled);
})

pub returns-clause-others : goal.returns-clause-others
returns-clause-others g c = on_ok_from c.commit-2.result (λ v is.
    let old = c.args.cache.now in
    let now = c.copy_out.new.cache in
    let same = ap (λ (p : Parts). p.geometry) c.copy_out.ensures.cache ∙ ap (λ (p : Parts). p.geometry) c.commit.ensures.cache in
    let entries = ap (λ (p : Parts). p.map.entries) c.copy_out.ensures.cache ∙ ap (λ (p : Parts). p.map.entries) c.commit.ensures.cache in
    others_moved old.geometry old.map.entries c.commit-2.new.cache.map.entries c.args.group c.in_ok-block.block
    (ap (λ (p : Parts). p.map.entries) c.commit-2.ensures.cache ∙ c.put_group.ensures.map.entries ∙ moved_still old.geometry now.geometry old.map.entries now.map.entries c.args.group same entries c.in_ok-block.block))

pub returns-clause-drives : goal.returns-clause-drives
returns-clause-drives g c = only_then _ _ _ _
    (drives_then _ _ _ _ _ c.in_ok-commit.ensures.drives.flash c.in_ok-block.ensures.drives.flash) c.commit-2.ensures.drives

pub returns-clause-taken : goal.returns-clause-taken
returns-clause-taken g c = on_ok_from c.commit-2.result (λ v is.
    let old = c.args.cache.now in
    let now = c.copy_out.new.cache in
    let same = ap (λ (p : Parts). p.geometry) c.copy_out.ensures.cache ∙ ap (λ (p : Parts). p.geometry) c.commit.ensures.cache in
    let entries = ap (λ (p : Parts). p.map.entries) c.copy_out.ensures.cache ∙ ap (λ (p : Parts). p.map.entries) c.commit.ensures.cache in (
      c.in_ok-block.block,
      subst (λ (p : Parts). IsNextTaken p.pool c.in_ok-block.block) c.commit.ensures.cache c.in_ok-block.ensures.taken,
      ap (λ (p : Parts). p.map.entries) c.commit-2.ensures.cache ∙ c.put_group.ensures.map.entries ∙ moved_still old.geometry now.geometry old.map.entries now.map.entries c.args.group same entries c.in_ok-block.block,
    ))

pub returns-clause-costs : goal.returns-clause-costs
returns-clause-costs g c = on_ok_from c.commit-2.result (λ v is.
    let old = c.args.cache.now in
    let mid = c.commit.new.cache in
    let same = ap (λ (p : Parts). p.geometry) c.put_group.ensures.cache ∙ ap (λ (p : Parts). p.geometry) c.copy_out.ensures.cache ∙ ap (λ (p : Parts). p.geometry) c.commit.ensures.cache in
    let next = c.put_group.ensures.next ∙ ap (λ (p : Parts). p.log.next) c.copy_out.ensures.cache in
    record {
      counts = λ none low pages reach.
          let first = c.commit.ensures.nothing none in
          moved_counts pages (g.M.Media.state c.args.media.now) (g.M.Media.state c.commit.new.media) (g.M.Media.state c.copy_out.new.media) (g.M.Media.state c.commit-2.new.media) first.2
          (c.in_ok-block.ensures.counts pages (reach_still old mid c.args.group pages first.1 reach))
          (ok_at c.commit-2.result v is c.commit-2.ensures.one_page c.put_group.ensures.waits
          (page_left old.log c.put_group.new.cache.log old.geometry c.put_group.new.cache.geometry (next ∙ ap (λ (p : Parts). p.log.next) first.1) same low));
      one_more = λ some low pages reach.
          copy_counts pages _ _ _ _ (c.in_ok-commit.ensures.one_page some (less_than low))
          (c.in_ok-block.ensures.counts pages (reach_committed old mid c.args.group pages c.commit.ensures.cache reach))
          (ok_at c.commit-2.result v is c.commit-2.ensures.one_page c.put_group.ensures.waits
          (page_after old c.put_group.new.cache (next ∙ committed_next old mid c.requires.agree.sound.of_one c.in_ok-commit.ensures.log some (less_than low)) same low));
    })
