use Rattle.std.proofs.Common.{◌<◌, sym, ap, subst}
use Rattle.ft_base.specs.declared.geometry.Geometry.{Geometry}
use Rattle.ft_base.specs.Layout.{log_pages}
use Rattle.merge_engine.specs.declared.parts.Parts.{Parts}
use Rattle.merge_engine.proofs.ResultLemmas.{on_ok_from, ok_at}
use Rattle.merge_engine.proofs.MoveLemmas.{stands_still}
use Rattle.merge_engine.proofs.TakeLemmas.{agree_map}
use Rattle.merge_engine.proofs.switching.switch_group.Goals as goal

pub switch_block-requires-clause-is_map : goal.switch_block-requires-clause-is_map
switch_block-requires-clause-is_map g c = agree_map c.args.cache.now (g.M.Media.state c.args.media.now).contents c.requires.can.agree

pub commit-requires : goal.commit-requires
commit-requires g c = record { agree = (c.switch_block.ensures.stays (g.M.Media.state c.args.media.now).contents).agree c.requires.can.agree }

pub returns-clause-kept : goal.returns-clause-kept
returns-clause-kept g c = record {
  agree = c.commit.ensures.kept.agree;
  nothing_waits = c.commit.ensures.kept.nothing_waits;
  lists = on_ok_from c.commit.result (λ v is. λ list durable lists.
      ok_at c.commit.result v is c.commit.ensures.kept.lists list durable ((c.switch_block.ensures.stays (g.M.Media.state c.args.media.now).contents).lists list durable lists));
  stands = λ list durable lists.
      stands_still c.args.cache.now.geometry c.switch_block.new.cache.geometry (g.M.Media.state c.commit.new.media).contents.flash.page durable list (ap (λ (p : Parts). p.geometry) c.switch_block.ensures.cache)
      (c.commit.ensures.kept.stands list durable ((c.switch_block.ensures.stays (g.M.Media.state c.args.media.now).contents).lists list durable lists));
}

pub returns-clause-one_program : goal.returns-clause-one_program
returns-clause-one_program g c = on_ok_from c.commit.result (λ v is. λ low.
    let same = ap (λ (p : Parts). p.geometry) c.switch_block.ensures.cache in
    let left = subst (λ n. n < log_pages c.switch_block.new.cache.geometry) (sym c.switch_block.ensures.next) (subst (λ (h : Geometry). c.args.cache.now.log.next < log_pages h) (sym same) low) in
    ok_at c.commit.result v is c.commit.ensures.one_page c.switch_block.ensures.waits left)
