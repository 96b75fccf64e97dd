use Rattle.std.proofs.Common.{◌≡◌, ◌==◌, false, true, sym, ◌∙◌, arith}
use Rattle.std.proofs.lemmas.Bool.Decides.{nat_tests}
use Rattle.trace_replay.specs.declared.recent.Recent.{Recent}
use Rattle.trace_replay.proofs.BackLemmas.{among_here, among_more, none_or}
use Rattle.trace_replay.proofs.back.is_among.Goals as goal

pub loop-j-preserved : goal.loop-j-preserved
loop-j-preserved c =
    let other : (c.get.result.lba == c.args.lba) ≡ false = (let differ = c.if-get-lba.false in grind (arith, nat_tests, differ)) in
    record { none = among_more (λ (r : Recent). r.lba == c.args.lba) c.args.recent.now c.args.from c.loop-j.j c.get.result c.get.ensures c.loop-j.auto.j ∙ none_or _ _ c.loop-j.invariant.none other }

pub returns-then-get-lba : goal.returns-then-get-lba
returns-then-get-lba c =
    let same : (c.get.result.lba == c.args.lba) ≡ true = (let is = c.if-get-lba.true in grind (arith, nat_tests, is)) in
    sym (among_here (λ (r : Recent). r.lba == c.args.lba) c.args.recent.now c.args.from c.loop-j.j c.args.to c.get.result c.get.ensures c.loop-j.auto.j c.loop-j-test.true c.requires.within same)
