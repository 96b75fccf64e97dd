-- The next line of a script over several disks, when more of the source was read.
use Rattle.std.proofs.Common.{◌≡◌, ◌≤◌, ◌+◌, ◌-◌, ◌++◌, ◌∷◌, [], ℕ, List, Ok, Some, map, refl, ap, ◌∙◌, arith}
use Rattle.ft_base.specs.StreamState.{SinkState, SourceState}
use Rattle.trace_model.specs.declared.answer.Answer.TheVariants as answer
use Rattle.trace_model.specs.declared.line.Line.{Line}
use Rattle.trace_model.specs.declared.line.Line.TheVariants as line
use Rattle.trace_model.specs.declared.line.LineError.{LineError}
use Rattle.trace_model.specs.SoFar.{is_stop}
use Rattle.trace_replay.specs.declared.reader.Reader.{Reader}
use Rattle.trace_replay.specs.Events.{Event, lines_given, refusal_after, taking}
use Rattle.trace_replay.specs.Events.Event.{Took}
use Rattle.trace_replay.specs.Pending.{line_so_far}
use Rattle.trace_replay.specs.Reader.{CameTo}
use Rattle.trace_replay.specs.Said.{Said, SaidPart}
use Rattle.many_disks.specs.declared.line.ManyLine.{ManyLine}
use Rattle.many_disks.specs.declared.line.ManyLine.TheVariants.{Plain}
use Rattle.many_disks.specs.declared.tally.Tally.{Tally}
use Rattle.many_disks.specs.Known.{as_many}
use Rattle.many_disks.specs.Lines.{many_of, shifted}
use Rattle.many_disks.specs.Script.{BrokeMany, CameMany, code, coded, coded_reading}
use Rattle.many_disks.proofs.ScriptLemmas.{answer_broke, answer_took, came_read}

-- a line arms a stop, whatever its addresses are
pub stop_shifted : (by : ℕ) (l : Line) → is_stop (shifted by l) ≡ is_stop (code (Plain l))
stop_shifted by (line.Write lba count tag) = refl
stop_shifted by (line.Read lba count) = refl
stop_shifted by line.Flush = refl
stop_shifted by line.Idle = refl
stop_shifted by (line.Stop after outcome) = refl
stop_shifted by (line.Cut outcome) = refl
stop_shifted by line.Nothing = refl

-- what the code of the gathered line says
pub code_says : (disks share : ℕ) (r : Reader) (m : ManyLine) → r.size ≡ share → many_of share disks (line_so_far r.pending) ≡ Ok m → coded disks r.size (r.lines + 1) (line_so_far r.pending) ≡ Ok (code m)
code_says disks share r m size is = ap (λ n. coded_reading (many_of n disks (line_so_far r.pending))) size ∙ ap coded_reading is

-- a line more can't be given again
pub one_turn : (now next : ℕ) → now + 1 ≤ next → next ≤ 4294967296 → (4294967296 - next) + 1 ≤ 4294967296 - now
one_turn now next more few = omega arith

module _ (share disks : ℕ) (r : Reader) (chosen : ℕ) (tallies : List Tally) (a : SourceState) (x y : SinkState) (s : SourceState) (b : SinkState) (e : List Event) (came : CameMany share disks r chosen tallies a x s b e) (n : ℕ) (cause : LineError) (is : n ≡ r.lines + 1) where
  -- the answer that says the refusal of the next line
  refusal_is : answer.Refused n cause ≡ refusal_after e cause
  refusal_is = ap (λ k. answer.Refused k cause) (is ∙ ap (λ k. k + 1) (came.read.numbered ∙ as_many share came.many (lines_given e) came.given))

  pub refusal_took : Said x y (answer.Refused n cause ∷ []) → CameMany share disks r chosen tallies a y s b (e ++ taking (refusal_after e cause ∷ []))
  refusal_took said = answer_took share disks r chosen tallies a x y (refusal_after e cause) (answer.Refused n cause) refl refusal_is said s b e came

  pub refusal_broke : SaidPart x y [] (Some (answer.Refused n cause)) → BrokeMany share disks y s b e (Took (refusal_after e cause))
  refusal_broke part = answer_broke share disks r chosen tallies a x y (refusal_after e cause) (answer.Refused n cause) refl refusal_is part s b e came

-- more of the source was read
pub came_sought : (share disks chosen : ℕ) (tallies : List Tally) (r q : Reader) (a z : SourceState) (x : SinkState) → q.size ≡ r.size → ((s : SourceState) (lines : List Line) → CameTo (coded disks) s lines a r → CameTo (coded disks) s lines z q)
    → (s : SourceState) (b : SinkState) (e : List Event) → CameMany share disks r chosen tallies a x s b e → CameMany share disks q chosen tallies z x s b e
came_sought share disks chosen tallies r q a z x size moved s b e came = came_read share disks r chosen tallies a x s b e came q z size (moved s (map code came.many) came.read)

-- the gathered line, by the size for which the reader reads
pub gathered_says : (disks share : ℕ) (r : Reader) (m : ManyLine) → r.size ≡ share → many_of share disks (line_so_far r.pending) ≡ Ok m → many_of r.size disks (line_so_far r.pending) ≡ Ok m
gathered_says disks share r m size is = ap (λ n. many_of n disks (line_so_far r.pending)) size ∙ is
