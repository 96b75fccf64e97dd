use Rattle.std.proofs.Common.{[], refl}
use Rattle.cached_disk.proofs.OpenedLemmas.{reserved_tells}
use Rattle.cached_disk.proofs.ReadLemmas.{reserved_left}
use Rattle.write_through.proofs.volume.WriteThrough.reserve.Goals as goal

pub returns-then-is_err-clause-left : goal.returns-then-is_err-clause-left
returns-then-is_err-clause-left c = λ contents left.
    let to = c.reserve.ensures in
    record {
      disk = reserved_left c.args.self.now.disk c.reserve.new.self (record { geometry = to.same; holds = to.holds; pending = to.pending; stopped = to.stopped }) contents contents refl left.disk;
      mode = left.mode;
    }

pub returns-clause-left : goal.returns-clause-left
returns-clause-left c = λ contents left.
    let to = c.reserve.ensures in
    record {
      disk = reserved_left c.args.self.now.disk c.reserve.new.self (record { geometry = to.same; holds = to.holds; pending = to.pending; stopped = to.stopped }) contents contents refl left.disk;
      mode = left.mode;
    }

pub returns-then-is_err-clause-same : goal.returns-then-is_err-clause-same
returns-then-is_err-clause-same c = reserved_tells [] c.args.self.now.disk c.reserve.new.self c.reserve.ensures.parts c.reserve.ensures.entries c.reserve.ensures.stopped

pub returns-clause-same : goal.returns-clause-same
returns-clause-same c = reserved_tells [] c.args.self.now.disk c.reserve.new.self c.reserve.ensures.parts c.reserve.ensures.entries c.reserve.ensures.stopped
