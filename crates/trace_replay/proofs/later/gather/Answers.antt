use Rattle.std.proofs.Common.{◌≡◌, ap, refl, ◌∙◌, arith}
use Rattle.trace_replay.specs.Went.{cut_if}
use Rattle.trace_replay.proofs.OwingLemmas.{shows_clear}
use Rattle.trace_replay.proofs.WentLemmas.{ends_after, goes_then, went_ends, went_none, went_then}
use Rattle.trace_replay.proofs.later.gather.Goals as goal

pub again-init : goal.again-init
again-init g c =
    let few = c.armed-armed.ensures.few in
    let armed = c.armed-armed.ensures.armed in
    record {
      owns = c.requires.may.can.owns;
      told = refl;
      clear = c.requires.may.clear;
      kept = λ d stood. stood;
      went = went_none g.P.Script.state g.P.Script.came g.P.Script.broke g.P.Script.knows _ _ c.requires.may.can.on;
      few = omega arith;
    }

pub again-preserved : goal.again-preserved
again-preserved g c =
    let one : cut_if c.in_ok-cut.cut ≡ 1 = ap cut_if c.if-not-cut.false in
    record {
      owns = c.gather_once.ensures.owner.0;
      told = c.gather_once.ensures.owner.1 ∙ c.again.invariant.told;
      clear = c.in_ok-cut.ensures.clear c.again.invariant.clear;
      kept = λ d stood. c.gather_once.ensures.kept c.again.invariant.clear d (c.again.invariant.kept d stood);
      went = went_then g.P.Script.state g.P.Script.came g.P.Script.broke g.P.Script.knows c.again.cuts (cut_if c.in_ok-cut.cut) 0 0 _ 0 _ _ _ _ _ _ c.again.invariant.went c.in_ok-cut.ensures.went.done (omega (arith, one)) refl;
      few = c.again.invariant.few;
    }

pub returns-in_err-cut-clause-went : goal.returns-in_err-cut-clause-went
returns-in_err-cut-clause-went g c =
    went_ends g.P.Script.state g.P.Script.came g.P.Script.broke g.P.Script.knows (λ cuts. cuts) 0 _ _ _ _ c.from_residual.result _ c.from_residual.ensures.1
    (goes_then g.P.Script.state g.P.Script.came g.P.Script.broke g.P.Script.knows _ _ _ _ _ _ c.again.invariant.went.goes c.gather_once.ensures.went.goes)
    (ends_after g.P.Script.state g.P.Script.came g.P.Script.broke g.P.Script.knows _ c.again.cuts 0 _ _ _ _ _ _ c.again.invariant.went c.in_err-cut.ensures.went.ended)

pub returns-then-not-cut-clause-found : goal.returns-then-not-cut-clause-found
returns-then-not-cut-clause-found g c = λ d stood. c.in_ok-cut.ensures.found c.if-not-cut.true d (shows_clear _ _ _ d c.again.invariant.clear.nothing_owed (c.again.invariant.kept d stood))

pub returns-then-not-cut-clause-leaves : goal.returns-then-not-cut-clause-leaves
returns-then-not-cut-clause-leaves g c = record {
  owner = (c.gather_once.ensures.owner.0, c.gather_once.ensures.owner.1 ∙ c.again.invariant.told);
  kept = λ d stood. c.gather_once.ensures.kept c.again.invariant.clear d (c.again.invariant.kept d stood);
  clear = c.in_ok-cut.ensures.clear c.again.invariant.clear;
}
