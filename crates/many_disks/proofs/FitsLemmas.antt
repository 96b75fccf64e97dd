-- The theorem of a run, with what is known of its lines beside what was said.
use Rattle.std.proofs.Common.{ℕ, Bool, List, Option, Result, Ok, Err}
use Rattle.ft_base.specs.Contents.{Image}
use Rattle.ft_base.specs.PlainDisk.{PlainDisk}
use Rattle.ft_base.specs.Told.{Told}
use Rattle.ft_media.specs.State.{State}
use Rattle.trace_model.specs.declared.answer.Answer.{Answer}
use Rattle.trace_model.specs.declared.ran.Ran.{Ran}
use Rattle.trace_model.specs.Fits.{FitsRun}
use Rattle.trace_model.specs.Readings.{Reading}
use Rattle.trace_replay.specs.declared.ended.Ended.{Ended}
use Rattle.trace_replay.specs.declared.ended.Ended.TheVariants as ended
use Rattle.trace_replay.specs.Theorem.{EndsAs, EndsEarly, EndsPart, EndsRefused, EndsUnread, RunsWhole}
use Rattle.trace_replay.proofs.FromLemmas.{takes_from}

module _ (o : Told) (reads : ℕ → List Reading → Bool → Type 0) (says : List Ran → List Answer → Type 0) (short : List Ran → List Answer → Option Answer → Type 0) (stands : Image → PlainDisk → Type 0) (first now : State) where
  -- that was said, and each line of the run can have become this
  abbrev pub Saying : List Ran → List Answer → Type 0
  Saying run answers = FitsRun o.ack run × says run answers

  abbrev pub Shorter : List Ran → List Answer → Option Answer → Type 0
  Shorter run answers next = FitsRun o.ack run × short run answers next

  whole_fits : RunsWhole o reads says stands first now → RunsWhole o reads Saying stands first now
  whole_fits whole = record {
    all = whole.all;
    run = whole.run;
    cuts = whole.cuts;
    lost = whole.lost;
    trace = whole.trace;
    lines = whole.lines;
    printed = (whole.lines.fits, whole.printed);
    leaves = whole.leaves;
    backs = whole.backs;
  }

  refused_fits : EndsRefused o reads says stands first now → EndsRefused o reads Saying stands first now
  refused_fits ends = record {
    all = ends.all;
    whole = ends.whole;
    run = ends.run;
    left = ends.left;
    cause = ends.cause;
    trace = ends.trace;
    lines = ends.lines;
    why = ends.why;
    printed = (ends.lines.fits, ends.printed);
    leaves = ends.leaves;
  }

  unread_fits : EndsUnread o reads says stands first now → EndsUnread o reads Saying stands first now
  unread_fits ends = record {
    all = ends.all;
    run = ends.run;
    trace = ends.trace;
    lines = ends.lines;
    printed = (ends.lines.fits, ends.printed);
    leaves = ends.leaves;
  }

  part_fits : (e : Ended) → EndsPart o reads says short stands first now e → EndsPart o reads Saying Shorter stands first now e
  part_fits e ends = record {
    all = ends.all;
    whole = ends.whole;
    run = ends.run;
    left = ends.left;
    due = ends.due;
    given = ends.given;
    after = ends.after;
    next = ends.next;
    trace = ends.trace;
    lines = ends.lines;
    may = ends.may;
    part = record {
      front = ends.part.front;
      rest = ends.part.rest;
      both = ends.part.both;
      taken = takes_from e (says ends.run) (Saying ends.run) (short ends.run) (Shorter ends.run) (λ answers said. (ends.lines.fits, said)) (λ answers next said. (ends.lines.fits, said)) ends.part.front ends.part.rest ends.part.taken;
    };
    proper = ends.proper;
    stops = ends.stops;
    media = ends.media;
    rig = ends.rig;
  }

  early_fits : (e : Ended) → EndsEarly o reads says short stands first now e → EndsEarly o reads Saying Shorter stands first now e
  early_fits ended.Trace ends = refused_fits ends
  early_fits ended.Source ends = unread_fits ends
  early_fits ended.Sink ends = part_fits ended.Sink ends
  early_fits ended.Flash ends = part_fits ended.Flash ends
  early_fits ended.Disk ends = part_fits ended.Disk ends
  early_fits ended.Memory ends = part_fits ended.Memory ends

  pub ends_fits : (r : Result (Unit {0}) Ended) → EndsAs o reads says short stands first now r → EndsAs o reads Saying Shorter stands first now r
  ends_fits (Ok done) ends = whole_fits ends
  ends_fits (Err e) ends = early_fits e ends
