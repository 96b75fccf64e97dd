use Rattle.std.proofs.Common.{ap, inl, inr}
use Rattle.merge_engine.specs.declared.parts.Parts.{Parts}
use Rattle.merge_engine.proofs.ResultLemmas.{on_ok_from, ok_at}
use Rattle.merge_engine.proofs.TakeLemmas.{agree_map}
use Rattle.merge_engine.proofs.MoveLemmas.{merged_moved, others_moved}
use Rattle.merge_engine.proofs.SwitchLemmas.{fillers_switched, is_switched, with_logs}
use Rattle.merge_engine.proofs.FreedLemmas.{own_moved}
use Rattle.merge_engine.proofs.merging.move_group.Goals as goal

pub log_block_in_order-requires-clause-is_map : goal.log_block_in_order-requires-clause-is_map
log_block_in_order-requires-clause-is_map g c = agree_map c.args.cache.now (g.M.Media.state c.args.media.now).contents c.requires.can.agree

pub returns-in-Some-clause-cache : goal.returns-in-Some-clause-cache
returns-in-Some-clause-cache g c = with_logs c.args.cache.now c.switch_group.new.cache _ c.switch_group.ensures.cache

pub returns-in-None-clause-cache : goal.returns-in-None-clause-cache
returns-in-None-clause-cache g c = with_logs c.args.cache.now c.gather_group.new.cache c.args.cache.now.log_blocks c.gather_group.ensures.cache

pub returns-in-Some-clause-log_blocks : goal.returns-in-Some-clause-log_blocks
returns-in-Some-clause-log_blocks g c = inr (c.in-Some.block, c.in-Some.ensures.some, ap (λ (p : Parts). p.log_blocks) c.switch_group.ensures.cache)

pub returns-in-None-clause-log_blocks : goal.returns-in-None-clause-log_blocks
returns-in-None-clause-log_blocks g c = inl (ap (λ (p : Parts). p.log_blocks) c.gather_group.ensures.cache)

pub returns-in-Some-clause-gathered : goal.returns-in-Some-clause-gathered
returns-in-Some-clause-gathered g c = on_ok_from c.switch_group.result (λ v is. record {
  merged = merged_moved c.args.cache.now.geometry c.args.cache.now.map.entries c.switch_group.new.cache.map.entries c.args.group c.in-Some.block c.switch_group.ensures.map.entries;
  filled = fillers_switched c.args.cache.now.geometry c.args.cache.now.map.entries c.switch_group.new.cache.map.entries c.args.group c.in-Some.block (g.M.Media.state c.switch_group.new.media).contents.flash.page
      c.in-Some.ensures.some.in_order c.switch_group.ensures.map.entries;
})

pub returns-in-Some-clause-others : goal.returns-in-Some-clause-others
returns-in-Some-clause-others g c = on_ok_from c.switch_group.result (λ v is.
    others_moved c.args.cache.now.geometry c.args.cache.now.map.entries c.switch_group.new.cache.map.entries c.args.group c.in-Some.block c.switch_group.ensures.map.entries)

pub returns-in-Some-clause-costs : goal.returns-in-Some-clause-costs
returns-in-Some-clause-costs g c = on_ok_from c.switch_group.result (λ v is. record {
  switched = λ block can.
      is_switched c.args.cache.now c.switch_group.new.cache c.args.group c.in-Some.block block c.in-Some.ensures.some can (ap (λ (p : Parts). p.log_blocks) c.switch_group.ensures.cache) c.switch_group.ensures.map.entries;
  one_program = λ block can low. ok_at c.switch_group.result v is c.switch_group.ensures.one_program low;
  taken = λ cannot. absurd (cannot c.in-Some.block c.in-Some.ensures.some);
  copied = λ cannot. absurd (cannot c.in-Some.block c.in-Some.ensures.some);
})

pub returns-in-None-clause-costs : goal.returns-in-None-clause-costs
returns-in-None-clause-costs g c = on_ok_from c.gather_group.result (λ v is. record {
  switched = λ block can. absurd (c.in-None.ensures.none block can);
  one_program = λ block can. absurd (c.in-None.ensures.none block can);
  taken = λ cannot. ok_at c.gather_group.result v is c.gather_group.ensures.taken;
  copied = λ cannot. ok_at c.gather_group.result v is c.gather_group.ensures.costs;
})

pub returns-in-Some-clause-own : goal.returns-in-Some-clause-own
returns-in-Some-clause-own g c = on_ok_from c.switch_group.result (λ v is.
    own_moved c.args.cache.now.geometry c.args.cache.now.map.entries c.switch_group.new.cache.map.entries c.args.group c.in-Some.block c.switch_group.ensures.map.entries c.requires.held)

pub returns-in-None-clause-own : goal.returns-in-None-clause-own
returns-in-None-clause-own g c = on_ok_from c.gather_group.result (λ v is.
    let taken = ok_at c.gather_group.result v is c.gather_group.ensures.taken in
    own_moved c.args.cache.now.geometry c.args.cache.now.map.entries c.gather_group.new.cache.map.entries c.args.group taken.0 taken.2 c.requires.held)
