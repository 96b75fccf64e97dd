use Rattle.std.proofs.Common.{◌≡◌, List, ap, refl, ◌∙◌, subst, arith}
use Rattle.trace_replay.specs.declared.recent.Recent.{Recent}
use Rattle.trace_replay.specs.Owing.{IsReadBack}
use Rattle.trace_replay.specs.Saying.{count_unless}
use Rattle.trace_replay.proofs.CutsLemmas.{left_after}
use Rattle.trace_replay.proofs.OwingLemmas.{all_at}
use Rattle.trace_replay.proofs.WentLemmas.{ends_after, goes_then, went_ends, went_none, went_then}
use Rattle.trace_replay.proofs.back.settle.Goals as goal

pub again-init : goal.again-init
again-init g c =
    let few = c.armed-armed.ensures.few in
    let armed = c.armed-armed.ensures.armed in
    record {
      owns = c.requires.may.can.owns;
      told = refl;
      clear = c.requires.may.clear;
      same = refl;
      within = c.requires.may.recent;
      kept = λ d stood. stood;
      went = went_none g.P.Script.state g.P.Script.came g.P.Script.broke g.P.Script.knows _ _ c.requires.may.can.on;
      few = omega arith;
    }

pub again-preserved : goal.again-preserved
again-preserved g c =
    let one : count_unless c.in_ok-back.back ≡ 1 = ap count_unless c.in_default.is in
    record {
      owns = c.read_back.ensures.leaves.owner.0;
      told = c.read_back.ensures.leaves.owner.1 ∙ c.again.invariant.told;
      clear = c.in_ok-back.ensures.leaves.clear;
      same = c.read_back.ensures.recent ∙ c.again.invariant.same;
      within = all_at c.read_back.ensures.leaves.owner.1 (c.read_back.ensures.recent) c.again.invariant.within;
      kept = λ d stood. c.read_back.ensures.leaves.kept d (c.again.invariant.kept d stood);
      went = went_then g.P.Script.state g.P.Script.came g.P.Script.broke g.P.Script.knows c.again.cuts (count_unless c.in_ok-back.back) 0 0 _ 0 _ _ _ _ _ _ c.again.invariant.went c.in_ok-back.ensures.went.done (omega (arith, one)) refl;
      few = c.again.invariant.few;
    }

pub again-smaller : goal.again-smaller
again-smaller g c =
    let one : count_unless c.in_ok-back.back ≡ 1 = ap count_unless c.in_default.is in
    let left = left_after (count_unless c.in_ok-back.back) 0 _ _ c.in_ok-back.ensures.went.done.cut in
    omega (arith, one, left)

pub returns-in_err-back-clause-went : goal.returns-in_err-back-clause-went
returns-in_err-back-clause-went g c =
    went_ends g.P.Script.state g.P.Script.came g.P.Script.broke g.P.Script.knows (λ s. s.cuts) 0 _ _ _ _ c.from_residual.result _ c.from_residual.ensures.1
    (goes_then g.P.Script.state g.P.Script.came g.P.Script.broke g.P.Script.knows _ _ _ _ _ _ c.again.invariant.went.goes c.read_back.ensures.went.goes)
    (ends_after g.P.Script.state g.P.Script.came g.P.Script.broke g.P.Script.knows _ c.again.cuts 0 _ _ _ _ _ _ c.again.invariant.went c.in_err-back.ensures.went.ended)

pub returns-in-Some-clause-found : goal.returns-in-Some-clause-found
returns-in-Some-clause-found g c = λ d stood.
    let found = (rw c.in-Some.is at c.in_ok-back.ensures.found) d (c.again.invariant.kept d stood) in
    subst (λ (l : List Recent). IsReadBack c.args.request.lba c.args.request.count c.args.request.tag l d c.in-Some.found.kept c.in-Some.found.lost) c.again.invariant.same found

pub returns-in-Some-clause-leaves : goal.returns-in-Some-clause-leaves
returns-in-Some-clause-leaves g c = record {
  owner = (c.read_back.ensures.leaves.owner.0, c.read_back.ensures.leaves.owner.1 ∙ c.again.invariant.told);
  kept = λ d stood. c.read_back.ensures.leaves.kept d (c.again.invariant.kept d stood);
  clear = c.in_ok-back.ensures.leaves.clear;
}
