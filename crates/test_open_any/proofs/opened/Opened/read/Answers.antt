use Rattle.test_open_any.proofs.opened.Opened.read.Goals as goal

pub read-requires-clause-up : goal.read-requires-clause-up
read-requires-clause-up c = c.self.invariant.up
