use Rattle.std.proofs.Common.{refl, sym, subst, arith, rules}
use Rattle.sha2.specs.Hashers.{Holds256}
use Rattle.trace_replay.proofs.HeldLemmas.{held_breaks, held_takes}
use Rattle.trace_replay.proofs.SayingLemmas.{says_by}
use Rattle.trace_replay.proofs.StreamLemmas.{takes_bytes}
use Rattle.trace_replay.proofs.held.HeldScriptScript.answers.Goals as goal

pub returns-clause-said : goal.returns-clause-said
returns-clause-said g c =
    let x = g.O.Sink.state c.args.self.now.sink.now in
    let y = g.O.Sink.state c.say_all.new.sink in
    says_by _ _ _ _ _ _ x y c.args.answers.now c.say_all.result
    (record { source = omega arith; sink = c.say_all.ensures.later; lent = first_of (search rules, cc); size = refl; turns = omega arith; knew = λ s lines all whole known. known })
    (λ given said s b e came. (held_takes _ _ _ _ b e came.0 y given said, subst (Holds256 c.args.self.now.digest.hasher) (sym (takes_bytes e given)) came.1))
    (λ given next part s b e came. held_breaks _ _ _ _ b e came.0 y given next part)
    c.say_all.ensures.ok c.say_all.ensures.part c.say_all.ensures.only c.say_all.ensures.rose
