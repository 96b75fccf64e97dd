use Rattle.std.proofs.Common.{arith, sym, ◌∙◌, []}
use Rattle.trace_model.specs.Lost.{look_right}
use Rattle.trace_model.proofs.SearchLemmas.{not_right, right-more, right-none}
use Rattle.trace_model.proofs.lost.looks_right.Goals as goal

pub returns-then-not-is_right : goal.returns-then-not-is_right
returns-then-not-is_right c = sym (not_right c.args.looked.now c.loop-i.i _ (look_right [] c.args.looked.now) (omega arith) c.loop-i.invariant (sym c.is_right.ensures ∙ c.if-not-is_right.true))

pub loop-i-preserved : goal.loop-i-preserved
loop-i-preserved c = right-more c.args.looked.now c.loop-i.i _ (look_right [] c.args.looked.now) (omega arith) c.loop-i.invariant (sym c.is_right.ensures ∙ c.if-not-is_right.false)

pub returns : goal.returns
returns c = sym (right-none c.args.looked.now c.loop-i.i (look_right [] c.args.looked.now) (omega arith) c.loop-i.invariant)
