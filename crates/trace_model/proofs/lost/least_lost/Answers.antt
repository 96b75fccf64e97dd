use Rattle.std.proofs.Common.{arith, ◌∙◌, sym, subst}
use Rattle.trace_model.specs.Lost.{IsLeastLost}
use Rattle.trace_model.proofs.LookLemmas.{first_is_least}
use Rattle.trace_model.proofs.SearchLemmas.{first-found, first-more, first-none, rest_is}
use Rattle.trace_model.proofs.lost.least_lost.Goals as goal

pub returns-then-looks_right-clause-first : goal.returns-then-looks_right-clause-first
returns-then-looks_right-clause-first c = sym (first-found c.args.looked.now c.loop-lost.lost (omega arith) c.loop-lost.invariant (rest_is c.args.looked.now c.loop-lost.lost c.looks_right.result c.looks_right.ensures ∙ c.if-looks_right.true))

pub returns-then-looks_right-clause-least : goal.returns-then-looks_right-clause-least
returns-then-looks_right-clause-least c = λ writes disk looked. subst (IsLeastLost writes disk) (first-found c.args.looked.now c.loop-lost.lost (omega arith) c.loop-lost.invariant (rest_is c.args.looked.now c.loop-lost.lost c.looks_right.result c.looks_right.ensures ∙ c.if-looks_right.true)) (first_is_least c.args.looked.now writes disk looked)

pub loop-lost-preserved : goal.loop-lost-preserved
loop-lost-preserved c = first-more c.args.looked.now c.loop-lost.lost (omega arith) c.loop-lost.invariant (rest_is c.args.looked.now c.loop-lost.lost c.looks_right.result c.looks_right.ensures ∙ c.if-looks_right.false)

pub returns-clause-first : goal.returns-clause-first
returns-clause-first c = sym (first-none c.args.looked.now c.loop-lost.lost (omega arith) (omega arith) c.loop-lost.invariant)

pub returns-clause-least : goal.returns-clause-least
returns-clause-least c = λ writes disk looked. subst (IsLeastLost writes disk) (first-none c.args.looked.now c.loop-lost.lost (omega arith) (omega arith) c.loop-lost.invariant) (first_is_least c.args.looked.now writes disk looked)
