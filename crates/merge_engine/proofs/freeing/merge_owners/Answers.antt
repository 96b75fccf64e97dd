use Rattle.std.proofs.Common.{◌≡◌, false, true, rules, inl, refl, ◌∙◌, ap, subst, arith}
use Rattle.ft_base.specs.declared.geometry.Geometry.{Geometry}
use Rattle.merge_engine.specs.Room.{FreesGroups}
use Rattle.ft_media.proofs.DrivesLemmas.{drives_then}
use Rattle.merge_engine.proofs.GoesLemmas.{given_then, given_from, goes_then}
use Rattle.checkpoint.proofs.OnlyLemmas.{only_failed}
use Rattle.merge_engine.proofs.OwnerLemmas.{unowned_in, none_before-more, none_before-all, unowned_still}
use Rattle.merge_engine.proofs.SwitchLemmas.{lose_then, used_before}
use Rattle.merge_engine.proofs.TakeLemmas.{agree_map}
use Rattle.merge_engine.proofs.FreedLemmas.{frees_none, frees_then, mapped_stay_then, blocks_most}
use Rattle.merge_engine.proofs.freeing.merge_owners.Goals as goal

pub returns-in_err-merge_owner-clause-goes : goal.returns-in_err-merge_owner-clause-goes
returns-in_err-merge_owner-clause-goes g c = record {
  agree = search rules;
  room = search rules;
  lists = search rules;
  stands = λ list durable lists.
      let l = c.loop-page in
      given_then c.args.cache.now.log l.cache (g.M.Media.state l.media).contents.flash.page c.args.cache.now.geometry l.invariant.geometry list durable (g.M.Media.state c.merge_owner.new.media).contents.flash.page
      (l.invariant.lists list durable lists) c.merge_owner.ensures.goes.stands;
}

pub returns-in_err-merge_owner-clause-drives : goal.returns-in_err-merge_owner-clause-drives
returns-in_err-merge_owner-clause-drives g c = only_failed _ _ _ _ _ c.loop-page.invariant.drives c.in_err-merge_owner.ensures.drives (search rules)

pub loop-page-preserved : goal.loop-page-preserved
loop-page-preserved g c =
    let l = c.loop-page in
    let k = l.invariant in
    let e = c.in_ok-merge_owner.ensures in
    let logs = lose_then c.args.block c.args.cache.now.log_blocks l.cache.log_blocks c.merge_owner.new.cache.log_blocks k.log_blocks c.merge_owner.ensures.log_blocks in
    record {
      geometry = c.merge_owner.ensures.geometry ∙ k.geometry;
      log_blocks = logs;
      pages = c.merge_owner.ensures.room.pages ∙ k.pages;
      groups = let first = k.groups in let then = c.merge_owner.ensures.room.groups in omega arith;
      no_more = let first = k.no_more in let then = c.merge_owner.ensures.room.no_more in omega arith;
      buckets = c.merge_owner.ensures.room.buckets ∙ k.buckets;
      group_buckets = c.merge_owner.ensures.room.group_buckets ∙ k.group_buckets;
      agree = e.goes.agree;
      room = e.goes.room;
      nothing = λ unheld. let was = k.nothing unheld in let now = c.merge_owner.ensures.nothing (unowned_in c.args.cache.now l.cache c.args.block l.page was.0 unheld) in (now.1 ∙ was.0, now.2 ∙ was.1);
      unowned = λ used. none_before-more c.merge_owner.new.cache.map.entries c.args.block l.page
          (λ page low. unowned_still l.cache.map.entries c.merge_owner.new.cache (record { block = c.args.block; page = page }) e.goes.agree.sound.roles used e.page_mapped
          (k.unowned (used_before c.args.block l.cache.log_blocks c.merge_owner.new.cache.log_blocks c.merge_owner.ensures.log_blocks c.args.block used) page low))
          (e.unowned used);
      lists = λ list durable lists. goes_then c.args.cache.now.log l.cache (g.M.Media.state l.media).contents.flash.page c.args.cache.now.geometry k.geometry list durable c.merge_owner.new.cache (g.M.Media.state c.merge_owner.new.media).contents.flash.page
          (c.merge_owner.ensures.geometry ∙ k.geometry) (k.lists list durable lists) e.goes.lists;
      freed = frees_then c.args.cache.now.geometry c.args.block c.args.cache.now.map.entries l.cache.map.entries c.merge_owner.new.cache.map.entries k.freed k.page_mapped
          (subst (λ (h : Geometry). FreesGroups h c.args.block l.cache.map.entries c.merge_owner.new.cache.map.entries) k.geometry e.groups)
          (blocks_most c.args.cache.now.geometry c.merge_owner.new.cache (g.M.Media.state c.merge_owner.new.media).contents e.goes.agree (c.merge_owner.ensures.geometry ∙ k.geometry));
      page_mapped = mapped_stay_then c.args.cache.now.map.entries l.cache.map.entries c.merge_owner.new.cache.map.entries k.page_mapped e.page_mapped;
      drives = drives_then _ _ _ _ _ k.drives e.drives.flash;
    }

pub loop-page-init : goal.loop-page-init
loop-page-init g c = record {
  geometry = refl;
  log_blocks = inl refl;
  pages = refl;
  groups = search rules;
  no_more = search rules;
  buckets = refl;
  group_buckets = refl;
  agree = c.requires.can.agree;
  room = c.requires.can.room;
  nothing = λ unheld. (refl, refl);
  unowned = λ used page low. absurd (omega (arith, low));
  lists = λ list durable lists. inl (refl, lists);
  freed = frees_none c.args.cache.now.geometry c.args.block c.args.cache.now.map.entries c.args.cache.now.map.entries refl;
  page_mapped = λ a e is. inl is;
  drives = search rules;
}

pub returns-clause-unheld : goal.returns-clause-unheld
returns-clause-unheld g c = λ used.
    let l = c.loop-page in
    let past = c.loop-page-test.false in
    let same = ap (λ (h : Geometry). h.p) l.invariant.geometry in
    none_before-all l.cache.geometry l.cache.map.entries c.args.block (agree_map l.cache (g.M.Media.state l.media).contents l.invariant.agree)
    (λ page low. l.invariant.unowned used page (omega arith))

pub returns-clause-goes : goal.returns-clause-goes
returns-clause-goes g c = record {
  agree = c.loop-page.invariant.agree;
  room = c.loop-page.invariant.room;
  lists = c.loop-page.invariant.lists;
  stands = λ list durable lists.
      let l = c.loop-page in
      given_from c.args.cache.now.log l.cache (g.M.Media.state l.media).contents.flash.page c.args.cache.now.geometry l.invariant.geometry list durable (l.invariant.lists list durable lists);
}

pub returns-in_err-merge_owner-clause-nothing : goal.returns-in_err-merge_owner-clause-nothing
returns-in_err-merge_owner-clause-nothing g c = λ unheld.
    let l = c.loop-page in
    let was = l.invariant.nothing unheld in
    let now = c.in_err-merge_owner.ensures.nothing (unowned_in c.args.cache.now l.cache c.args.block l.page was.0 unheld) in
    let both : false ≡ true = now.0 in
    absurd (cc)

pub returns-in_err-merge_owner-clause-log_blocks : goal.returns-in_err-merge_owner-clause-log_blocks
returns-in_err-merge_owner-clause-log_blocks g c = lose_then c.args.block c.args.cache.now.log_blocks c.loop-page.cache.log_blocks c.merge_owner.new.cache.log_blocks c.loop-page.invariant.log_blocks c.merge_owner.ensures.log_blocks
