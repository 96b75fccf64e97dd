use Rattle.std.proofs.Common.{◌∷◌, ◌++◌, ◌-◌, ℕ, Bool, false, List, length, take}
use Rattle.ft_base.specs.StreamState.{SinkState, SourceState}
use Rattle.trace_model.specs.Readings.{Reading}
use Rattle.trace_replay.specs.Events.{Event, Says, ScriptState}
use Rattle.trace_replay.specs.Saying.{GoesScript}
use Rattle.many_disks.specs.declared.script.ManyScript.{ManyScript}
use Rattle.many_disks.specs.Readings.{ReadsMany}
use Rattle.many_disks.specs.Script.{BrokeMany, CameMany}
use Rattle.many_disks.proofs.script.ManyScriptScript.answers.Given as goal

-- what holds of this script

abbrev pub Many : goal.Over → Type 0
Many g = ManyScript g.row.I.Denot g.row.O.Denot g.I.Source g.O.Sink

abbrev pub tells : (g : goal.Over) → Many g → ScriptState
tells g v = record {
  size = v.size;
  turns = 4294967296 - v.reader.bytes;
  spare = false;
  source_faults = (g.I.Source.state v.source.now).faults;
  sink_faults = (g.O.Sink.state v.sink.now).faults;
  lent = v.share ∷ v.disks ∷ v.source.ghost_name ∷ v.sink.ghost_name ∷ length (g.I.Source.state v.source.now).lent ∷ (g.I.Source.state v.source.now).lent ++ (g.O.Sink.state v.sink.now).lent;
}

abbrev pub came : (g : goal.Over) → SourceState → SinkState → List Event → Many g → Type 0
came g s b e v = CameMany v.share v.disks v.reader v.chosen v.tallies.each (g.I.Source.state v.source.now) (g.O.Sink.state v.sink.now) s b e

abbrev pub broke : (g : goal.Over) → SourceState → SinkState → List Event → Event → Many g → Type 0
broke g s b e event v = BrokeMany v.share v.disks (g.O.Sink.state v.sink.now) s b e event

abbrev pub knows : (g : goal.Over) → SourceState → Many g → ℕ → List Reading → Bool → Type 0
knows g s v lines all whole = ReadsMany v.share v.disks s (g.I.Source.state v.source.now) lines all whole

abbrev pub invariant-loop-answer : goal.invariant-loop-answer
invariant-loop-answer g l = record {
  goes : GoesScript (tells g) (came g) (broke g) (knows g) l.fn.self l.self;
  said : Says (came g) l.fn.self l.self (take l.answer-index l.answers);
}
