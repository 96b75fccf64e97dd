use Rattle.std.proofs.Common.{◌≡◌, List, refl, ap, ◌∙◌, subst, arith, take, length}
use Rattle.std.proofs.lemmas.List.{take_all}
use Rattle.trace_replay.specs.Saying.{count_unless}
use Rattle.trace_replay.specs.Went.{cut_if}
use Rattle.trace_replay.specs.declared.recent.Recent.{Recent}
use Rattle.trace_replay.specs.Owing.{IsReadBack}
use Rattle.trace_replay.proofs.BackLemmas.{written_iff}
use Rattle.trace_replay.proofs.LaterLemmas.{one_within}
use Rattle.trace_replay.proofs.OwingLemmas.{all_at, shows_clear}
use Rattle.trace_replay.proofs.WentLemmas.{ends_after, goes_then, went_ends, went_none, went_then}
use Rattle.trace_replay.proofs.back.read_recent.Goals as goal

pub loop-i-init : goal.loop-i-init
loop-i-init g c = record {
  owns = c.requires.may.can.owns;
  told = refl;
  clear = c.requires.may.clear;
  same = refl;
  found = λ d stood found. found;
  fewer = omega arith;
  low = omega arith;
  kept = λ d stood. stood;
  went = went_none g.P.Script.state g.P.Script.came g.P.Script.broke g.P.Script.knows _ _ c.requires.may.can.on;
}

pub read_once-requires-clause-within : goal.read_once-requires-clause-within
read_once-requires-clause-within g c =
    let all = all_at c.loop-i.invariant.told c.loop-i.invariant.same c.requires.may.recent in
    one_within (g.V.Volume.state c.loop-i.volume).told.geometry.size c.loop-i.i c.loop-i.work.recent c.get-write.result all c.get-write.ensures

pub loop-i-preserved : goal.loop-i-preserved
loop-i-preserved g c =
    let none : cut_if c.in_ok-cut.cut ≡ 0 = ap cut_if c.if-cut.false in
    let fewer = c.loop-i.invariant.fewer in
    let less = c.look-found.ensures.fewer in
    record {
      owns = c.read_once.ensures.owner.0;
      told = c.read_once.ensures.owner.1 ∙ c.loop-i.invariant.told;
      clear = c.in_ok-cut.ensures.clear c.loop-i.invariant.clear;
      same = c.loop-i.invariant.same;
      found = λ d stood start. c.look-found.ensures.found c.args.request.count c.args.request.tag d (c.loop-i.invariant.found d stood start)
          (written_iff c.loop-i.work.recent c.loop-i.i c.get-write.result d c.read_once.new.block c.pattern.new.out c.is_same-shows.result c.get-write.ensures
          (c.in_ok-cut.ensures.found c.if-cut.false d (shows_clear _ _ _ d c.loop-i.invariant.clear.nothing_owed (c.loop-i.invariant.kept d stood))) c.pattern.ensures c.is_same-shows.ensures);
      fewer = omega (arith, fewer, less);
      low = c.look-found.ensures.lost;
      kept = λ d stood. c.read_once.ensures.kept c.loop-i.invariant.clear.nothing_owed d (c.loop-i.invariant.kept d stood);
      went = went_then g.P.Script.state g.P.Script.came g.P.Script.broke g.P.Script.knows 0 (cut_if c.in_ok-cut.cut) 0 0 0 0 _ _ _ _ _ _ c.loop-i.invariant.went c.in_ok-cut.ensures.went.done (omega (arith, none)) refl;
    }

pub returns-in_err-cut-clause-went : goal.returns-in_err-cut-clause-went
returns-in_err-cut-clause-went g c =
    went_ends g.P.Script.state g.P.Script.came g.P.Script.broke g.P.Script.knows count_unless 0 _ _ _ _ c.from_residual.result _ c.from_residual.ensures.1
    (goes_then g.P.Script.state g.P.Script.came g.P.Script.broke g.P.Script.knows _ _ _ _ _ _ c.loop-i.invariant.went.goes c.read_once.ensures.went.goes)
    (ends_after g.P.Script.state g.P.Script.came g.P.Script.broke g.P.Script.knows _ 0 0 _ _ _ _ _ _ c.loop-i.invariant.went c.in_err-cut.ensures.went.ended)

pub returns-clause-found : goal.returns-clause-found
returns-clause-found g c = λ d stood start.
    let few = c.loop-i-test.false in
    let same : take c.loop-i.i c.loop-i.work.recent ≡ c.args.work.now.recent = take_all c.loop-i.i c.loop-i.work.recent (let long = c.len-i-end.ensures in let same_length = ap (λ (l : List Recent). length l) c.loop-i.invariant.same in omega (arith, few, long, same_length)) ∙ c.loop-i.invariant.same in
    subst (λ (l : List Recent). IsReadBack c.args.request.lba c.args.request.count c.args.request.tag l d c.loop-i.found.kept c.loop-i.found.lost) same (c.loop-i.invariant.found d stood start)
