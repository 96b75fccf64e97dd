use Rattle.std.proofs.Common.{◌∙◌}
use Rattle.disk_model.proofs.StoreLemmas.{taken_present, rest_present, taken_keeps, taken_back}
use Rattle.disk_model.proofs.store.Store.settle.Goals as goal

pub put_back-requires : goal.put_back-requires
put_back-requires c = taken_present c.loop-last.self.newest _ c.pop.new.self.items c.in-Some.last c.in-Some.ensures.items c.loop-last.self.written

pub invariant_of-self : goal.invariant_of-self
invariant_of-self c = record {
  written = rest_present c.loop-last.self.newest _ c.pop.new.self.items c.in-Some.last c.in-Some.ensures.items c.put_back.new.newest c.put_back.ensures.keys c.loop-last.self.written;
}

pub loop-last-preserved-then-not-keeps_newest : goal.loop-last-preserved-then-not-keeps_newest
loop-last-preserved-then-not-keeps_newest c = λ a.
    taken_back c.loop-last.self.newest _ c.pop.new.self.items c.in-Some.last c.in-Some.ensures.items c.args.outcome c.put_back.new.newest c.if-not-keeps_newest.ensures c.put_back.ensures.blocks a
    ∙ c.loop-last.invariant a

pub invariant_of-self-else-not-keeps_newest : goal.invariant_of-self-else-not-keeps_newest
invariant_of-self-else-not-keeps_newest c = record {
  written = rest_present c.loop-last.self.newest _ c.pop.new.self.items c.in-Some.last c.in-Some.ensures.items c.loop-last.self.newest (λ a absent. absent) c.loop-last.self.written;
}

pub loop-last-preserved-else-not-keeps_newest : goal.loop-last-preserved-else-not-keeps_newest
loop-last-preserved-else-not-keeps_newest c = λ a.
    taken_keeps c.loop-last.self.newest _ c.pop.new.self.items c.in-Some.last c.in-Some.ensures.items c.args.outcome c.if-not-keeps_newest.ensures a
    ∙ c.loop-last.invariant a

pub loop-last-preserved : goal.loop-last-preserved
loop-last-preserved c = λ a.
    taken_keeps c.loop-last.self.newest _ c.pop.new.self.items c.in-Some.last c.in-Some.ensures.items c.args.outcome c.if-not-keeps_newest.ensures a
    ∙ c.loop-last.invariant a
