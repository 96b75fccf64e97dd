use Rattle.std.proofs.Common.{[], inl, inr, refl}
use Rattle.trace_replay.proofs.AskedLemmas.{asked_refused, asked_still, at_some, refused_also}
use Rattle.trace_replay.proofs.counting.CountingScriptScript.next.Goals as goal

pub returns-in-Ok-Some-clause-line : goal.returns-in-Ok-Some-clause-line
returns-in-Ok-Some-clause-line g c =
    let given = at_some _ _ c.in-Ok-Some.line c.in-Ok-Some.field-0-is c.in-Ok-Some.ensures.line in (
      given.0,
      given.1,
      given.2,
      λ s b e came. (given.3 s b e came.0, c.give.ensures e came.1),
    )

pub returns-in-Ok-None-clause-end : goal.returns-in-Ok-None-clause-end
returns-in-Ok-None-clause-end g c = λ none.
    let ended = c.in-Ok-None.ensures.end c.in-Ok-None.field-0-is in (
      λ s b e came. (ended.0 s b e came.0, asked_still e [] c.args.self.now.asked refl refl came.1),
      λ s b e came. ended.1 s b e came.0,
    )

pub returns-in-Err-clause-refused : goal.returns-in-Err-clause-refused
returns-in-Err-clause-refused g c = λ is s b e came.
    let refused = c.in-Err.ensures.refused is s b e came.0 in
    (refused.0, refused_also _ _ _ _ s e c.args.armed refused.0 (λ lines all whole known. known) refused.1, (refused.2, asked_refused e refused.0 c.args.self.now.asked came.1))

pub returns-in-Err-clause-source : goal.returns-in-Err-clause-source
returns-in-Err-clause-source g c = λ is.
    let failed = c.in-Err.ensures.source is in (
      failed.0,
      λ s b e came. (failed.1 s b e came.0, asked_still e [] c.args.self.now.asked refl refl came.1),
      λ s b e came. failed.2 s b e came.0,
    )

pub returns-in-Err-clause-sink : goal.returns-in-Err-clause-sink
returns-in-Err-clause-sink g c = λ is.
    let failed = c.in-Err.ensures.sink is in (
      failed.0,
      λ s b e came. elim (failed.1 s b e came.0) [
        | inl refused ↦ inl (refused.0, refused_also _ _ _ _ s e c.args.armed refused.0 (λ lines all whole known. known) refused.1, refused.2)
        | inr said ↦ absurd said.1.1
      ],
    )

pub returns-in-Err-clause-memory : goal.returns-in-Err-clause-memory
returns-in-Err-clause-memory g c = λ is.
    let none = c.in-Err.ensures.memory is in (
      λ s b e came. (none.0 s b e came.0, asked_still e [] c.args.self.now.asked refl refl came.1),
      λ spare s b e came. (let refused = none.1 spare s b e came.0 in (refused.0, refused_also _ _ _ _ s e c.args.armed refused.0 (λ lines all whole known. known) refused.1)),
    )
