use Rattle.std.proofs.Common.{◌≡◌, ap, refl, ◌∙◌, arith}
use Rattle.std.proofs.lemmas.Grind.{common_steps}
use Rattle.trace_replay.proofs.BlocksLemmas.{read_backs_more}
use Rattle.trace_replay.proofs.OwingLemmas.{older_owing, owing_ends, owing_plus, owing_same}
use Rattle.trace_replay.proofs.WentLemmas.{ends_after, ends_memory, goes_then, went_ends, went_none, went_then}
use Rattle.trace_replay.specs.Spends.{touches_of}
use Rattle.trace_replay.specs.Went.{cut_if}
use Rattle.trace_replay.proofs.SpendsLemmas.{never_cut, spends_ends, spent_none, touches_end, touches_more}
use Rattle.trace_replay.proofs.later.gather_once.Goals as goal

pub loop-i-init : goal.loop-i-init
loop-i-init g c = record {
  owns = c.requires.can.owns;
  told = refl;
  clear = λ clear. clear;
  shows = λ d shown. shown;
  found = λ d shown. c.clear.ensures.items;
  owing = λ most writes o. o;
  kept = λ clear d stood. stood;
  went = went_none g.P.Script.state g.P.Script.came g.P.Script.broke g.P.Script.knows _ _ c.requires.can.on;
  spent = λ quiet. spent_none _ _ quiet;
}

pub loop-i-preserved : goal.loop-i-preserved
loop-i-preserved g c =
    let none : cut_if c.in_ok-cut.cut ≡ 0 = ap cut_if c.if-cut.false in
    record {
      owns = c.read_once.ensures.owner.0;
      told = c.read_once.ensures.owner.1 ∙ c.loop-i.invariant.told;
      clear = λ clear. c.in_ok-cut.ensures.clear (c.loop-i.invariant.clear clear);
      shows = λ d shown. c.in_ok-cut.ensures.shows c.if-cut.false d (c.loop-i.invariant.shows d shown);
      found = λ d shown. read_backs_more c.args.lba c.loop-i.i c.tag.result c.read_once.new.block d c.loop-i.scratch.answers.items c.push.new.self.items (c.loop-i.invariant.found d shown) (grind (arith, common_steps)) c.tag.ensures (c.in_ok-cut.ensures.found c.if-cut.false d (c.loop-i.invariant.shows d shown));
      owing = λ most writes o. owing_same _ _ _ most writes (c.in_ok-cut.ensures.owing.done none most writes (c.loop-i.invariant.owing most writes o));
      kept = λ clear d stood. c.read_once.ensures.kept (c.loop-i.invariant.clear clear).nothing_owed d (c.loop-i.invariant.kept clear d stood);
      went = went_then g.P.Script.state g.P.Script.came g.P.Script.broke g.P.Script.knows 0 (cut_if c.in_ok-cut.cut) 0 0 0 0 _ _ _ _ _ _ c.loop-i.invariant.went c.in_ok-cut.ensures.went.done (omega (arith, none)) refl;
      spent = λ quiet. let spent = c.loop-i.invariant.spent quiet in touches_more _ _ _ _ c.args.lba c.loop-i.i _ _ spent (c.in_ok-cut.ensures.spends.done spent.quiet);
    }

pub returns-in_err-cut-clause-kept : goal.returns-in_err-cut-clause-kept
returns-in_err-cut-clause-kept g c = λ clear d stood. c.read_once.ensures.kept (c.loop-i.invariant.clear clear).nothing_owed d (c.loop-i.invariant.kept clear d stood)

pub returns-in_err-cut-clause-owing : goal.returns-in_err-cut-clause-owing
returns-in_err-cut-clause-owing g c =
    owing_ends cut_if 0 (λ writes. writes) _ _ _ _ _ _ c.from_residual.result _ c.from_residual.ensures.1 (λ most writes o. c.read_once.ensures.owing.images most writes (c.loop-i.invariant.owing most writes o))

pub returns-in_err-cut-clause-went : goal.returns-in_err-cut-clause-went
returns-in_err-cut-clause-went g c =
    went_ends g.P.Script.state g.P.Script.came g.P.Script.broke g.P.Script.knows cut_if 0 _ _ _ _ c.from_residual.result _ c.from_residual.ensures.1
    (goes_then g.P.Script.state g.P.Script.came g.P.Script.broke g.P.Script.knows _ _ _ _ _ _ c.loop-i.invariant.went.goes c.read_once.ensures.went.goes)
    (ends_after g.P.Script.state g.P.Script.came g.P.Script.broke g.P.Script.knows _ 0 0 _ _ _ _ _ _ c.loop-i.invariant.went c.in_err-cut.ensures.went.ended)

pub returns-in_err-cut-clause-spends : goal.returns-in_err-cut-clause-spends
returns-in_err-cut-clause-spends g c =
    spends_ends (touches_of c.args.lba c.args.count) _ _ _ _ c.from_residual.result _ c.from_residual.ensures.1
    (λ quiet. let spent = c.loop-i.invariant.spent quiet in touches_end _ _ _ _ c.args.lba c.loop-i.i c.args.count _ (omega arith) spent (c.in_err-cut.ensures.spends.ended spent.quiet))

pub returns-then-cut-clause-kept : goal.returns-then-cut-clause-kept
returns-then-cut-clause-kept g c = λ clear d stood. c.read_once.ensures.kept (c.loop-i.invariant.clear clear).nothing_owed d (c.loop-i.invariant.kept clear d stood)

pub returns-then-cut-clause-clear : goal.returns-then-cut-clause-clear
returns-then-cut-clause-clear g c = λ clear. c.in_ok-cut.ensures.clear (c.loop-i.invariant.clear clear)

pub returns-then-cut-clause-owing : goal.returns-then-cut-clause-owing
returns-then-cut-clause-owing g c =
    let one : cut_if c.in_ok-cut.cut ≡ 1 = ap cut_if c.if-cut.true in
    record {
      done = λ none. absurd (omega (arith, none, one));
      nothing = λ _. c.in_ok-cut.ensures.owing.nothing (omega (arith, one));
      cut = λ _ most writes o. c.in_ok-cut.ensures.owing.cut (omega (arith, one)) most writes (c.loop-i.invariant.owing most writes o);
      images = λ most writes o. c.read_once.ensures.owing.images most writes (c.loop-i.invariant.owing most writes o);
    }

pub returns-then-cut-clause-went : goal.returns-then-cut-clause-went
returns-then-cut-clause-went g c =
    let one : cut_if c.in_ok-cut.cut ≡ 1 = ap cut_if c.if-cut.true in
    let went = went_then g.P.Script.state g.P.Script.came g.P.Script.broke g.P.Script.knows 0 (cut_if c.in_ok-cut.cut) 0 0 1 0 _ _ _ _ _ _ c.loop-i.invariant.went c.in_ok-cut.ensures.went.done (omega (arith, one)) refl in
    record { goes = went.goes; done = went; ended = tt }

pub returns-then-cut-clause-spends : goal.returns-then-cut-clause-spends
returns-then-cut-clause-spends g c =
    let one : cut_if c.in_ok-cut.cut ≡ 1 = ap cut_if c.if-cut.true in
    record {
      done = λ quiet. absurd (never_cut (cut_if c.in_ok-cut.cut) _ _ c.in_ok-cut.ensures.went.done.cut.few (omega (arith, one)) (c.loop-i.invariant.spent quiet).quiet);
      ended = tt;
    }

pub returns-in_default-clause-kept : goal.returns-in_default-clause-kept
returns-in_default-clause-kept g c = λ clear d stood. c.read_once.ensures.kept (c.loop-i.invariant.clear clear).nothing_owed d (c.loop-i.invariant.kept clear d stood)

pub returns-in_default-clause-owing : goal.returns-in_default-clause-owing
returns-in_default-clause-owing g c =
    record { done = tt; nothing = tt; cut = tt; images = λ most writes o. c.read_once.ensures.owing.images most writes (c.loop-i.invariant.owing most writes o) }

pub returns-in_default-clause-went : goal.returns-in_default-clause-went
returns-in_default-clause-went g c =
    let none : cut_if c.in_ok-cut.cut ≡ 0 = ap cut_if c.if-cut.false in
    let went = went_then g.P.Script.state g.P.Script.came g.P.Script.broke g.P.Script.knows 0 (cut_if c.in_ok-cut.cut) 0 0 0 0 _ _ _ _ _ _ c.loop-i.invariant.went c.in_ok-cut.ensures.went.done (omega (arith, none)) refl in
    record { goes = went.goes; done = tt; ended = ends_memory g.P.Script.state g.P.Script.came g.P.Script.broke g.P.Script.knows 0 0 _ _ _ _ went }

pub returns-in_default-clause-spends : goal.returns-in_default-clause-spends
returns-in_default-clause-spends g c = record {
  done = tt;
  ended = λ quiet. let spent = c.loop-i.invariant.spent quiet in touches_end _ _ _ _ c.args.lba c.loop-i.i c.args.count _ (omega arith) spent (c.in_ok-cut.ensures.spends.done spent.quiet).most;
}

pub returns-clause-owing : goal.returns-clause-owing
returns-clause-owing g c =
    record {
      done = λ _ most writes o. owing_plus _ _ _ most writes (c.loop-i.invariant.owing most writes o);
      nothing = λ some. absurd (omega arith);
      cut = λ some. absurd (omega arith);
      images = λ most writes o. older_owing _ (g.V.Volume.stands (g.V.Volume.state c.loop-i.volume).told) _ _ _ (owing_plus _ _ _ most writes (c.loop-i.invariant.owing most writes o));
    }
