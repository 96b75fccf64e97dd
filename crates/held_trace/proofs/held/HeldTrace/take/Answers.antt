use Rattle.std.proofs.Common.{◌<◌, length, map, take}
use Rattle.trace_model.specs.Readings.{accepted}
use Rattle.held_trace.specs.Front.{is_whole}
use Rattle.held_trace.specs.Held.{lines_of}
use Rattle.held_trace.specs.Sweep.{sweep_readings}
use Rattle.held_trace.proofs.FrontLemmas.{known_at_end, known_at_fault, known_to}
use Rattle.held_trace.proofs.SweepLemmas.{ok_weaker}
use Rattle.held_trace.proofs.held.HeldTrace.take.Goals as goal

pub returns-clause-held : goal.returns-clause-held
returns-clause-held g c =
    let read = c.read_front-count in
    ok_weaker c.hold_front.result _ _ (λ t so.
    known_at_end c.args.size (g.I.Source.state c.args.source.now) (g.I.Source.state read.new.source) (take read.result.0 read.new.buffer) read.ensures.taken (read.result.0 < length read.new.buffer) (read.result.0 < length read.new.buffer) (map accepted (lines_of t)) read.result.1 c.hold_front.ensures.so_far read.ensures.end so.0 so.1) c.hold_front.ensures.held

pub returns-clause-refused : goal.returns-clause-refused
returns-clause-refused g c = λ line cause is.
    let read = c.read_front-count in (
      sweep_readings c.args.size (is_whole read.result.1) (take read.result.0 read.new.buffer),
      is_whole read.result.1,
      known_to c.args.size (g.I.Source.state c.args.source.now) (g.I.Source.state read.new.source) (take read.result.0 read.new.buffer) read.ensures.taken (read.result.0 < length read.new.buffer) (read.result.0 < length read.new.buffer) read.result.1 c.hold_front.ensures.so_far read.ensures.end read.ensures.fault,
      c.hold_front.ensures.refused line cause is,
    )

pub returns-clause-source : goal.returns-clause-source
returns-clause-source g c = λ is.
    let read = c.read_front-count in
    let (at_fault, (lines, says)) = c.hold_front.ensures.source is in (
      (read.ensures.fault at_fault).0,
      (
        lines,
        known_at_fault c.args.size (g.I.Source.state c.args.source.now) (g.I.Source.state read.new.source) (take read.result.0 read.new.buffer) read.ensures.taken (read.result.0 < length read.new.buffer) (read.result.0 < length read.new.buffer) (map accepted lines) read.result.1 c.hold_front.ensures.so_far read.ensures.fault at_fault says,
      ),
    )
