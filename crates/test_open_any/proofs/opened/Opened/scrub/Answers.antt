use Rattle.test_open_any.proofs.opened.Opened.scrub.Goals as goal

pub scrub-requires : goal.scrub-requires
scrub-requires c = record { up = c.self.invariant.up }
