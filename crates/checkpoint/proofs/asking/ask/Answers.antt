use Rattle.std.proofs.Common.{◌≡◌, ◌-◌, length, take, drop, min, ◌∙◌, ap₂, subst}
use Rattle.checkpoint.proofs.AskedLemmas.{asked_now}
use Rattle.checkpoint.proofs.asking.ask.Goals as goal

pub returns-then-sequence-eq0-clause-run : goal.returns-then-sequence-eq0-clause-run
returns-then-sequence-eq0-clause-run c =
    let rs = c.args.map.now.records in
    let n = c.checkpoint_part-count.result in
    let out = c.checkpoint_part-count.new.out in
    asked_now c.args.geometry.now rs out c.args.sequence n c.if-sequence-eq0.true
    (c.checkpoint_part-count.ensures.count ∙ ap₂ (λ a b. min a (length rs - b)) c.requires.room c.first_of.ensures)
    (subst (λ k. take n out ≡ take n (drop k rs)) c.first_of.ensures c.checkpoint_part-count.ensures.records)
