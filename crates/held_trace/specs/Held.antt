-- The contents of a trace that is held.
use Rattle.std.specs.Prelude.{ℕ, List}
use Rattle.trace_model.specs.declared.line.Line.{Line}
use Rattle.held_trace.specs.declared.held.HeldTrace.{HeldTrace}

-- the trace's lines, in their order
abbrev pub lines_of : HeldTrace → List Line
lines_of t = t.lines.items

-- the number of blocks of the volume for which the lines were read
abbrev pub size_of : HeldTrace → ℕ
size_of t = t.size
