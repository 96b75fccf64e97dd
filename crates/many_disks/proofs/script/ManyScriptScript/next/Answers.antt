use Rattle.std.proofs.Common.{◌+◌, ◌*◌, ◌++◌, ◌∷◌, [], true, false, inl, inr, map, refl, sym, ap, ◌∙◌, subst, arith}
use Rattle.trace_model.specs.declared.answer.Answer.TheVariants as answer
use Rattle.trace_model.specs.declared.line.Line.{Line}
use Rattle.trace_model.specs.Lines.{IsRunnable}
use Rattle.trace_model.specs.SoFar.{is_stop}
use Rattle.trace_replay.specs.declared.ended.Ended.TheVariants as ended
use Rattle.trace_replay.specs.Events.{lines_given, touched_in}
use Rattle.trace_replay.specs.Events.Event.{Gave}
use Rattle.trace_replay.proofs.StreamLemmas.{as_error, at_memory, at_sink, few_read, same_error}
use Rattle.many_disks.specs.declared.line.ManyLine.TheVariants.{Disk, Plain}
use Rattle.many_disks.specs.declared.next.Next.TheVariants as next
use Rattle.many_disks.specs.Script.{CameMany, code, coded}
use Rattle.many_disks.proofs.NextLemmas.{came_sought, code_says, gathered_says, one_turn, refusal_broke, refusal_took, stop_shifted}
use Rattle.many_disks.proofs.ReadLemmas.{knows_lines, next_refused, next_said}
use Rattle.many_disks.proofs.ScriptLemmas.{adds_none, broke_disk, came_disk, came_none, came_plain, runnable_volume, start_within}
use Rattle.many_disks.proofs.TallyLemmas.{count_more, counted_nothing}
use Rattle.many_disks.proofs.script.ManyScriptScript.next.Goals as goal

-- ---- a line that chooses a disk

pub pass-requires : goal.pass-requires
pass-requires g c = record { stands = (c.seek_line.ensures.line (Disk c.in-Line-Disk.disk) (c.in-Line-Disk.is ∙ ap next.Line c.in-Line-Disk.field-0-is)).0 }

pub invariant_of-self : goal.invariant_of-self
invariant_of-self g c =
    let self = c.args.self.now in
    let bytes = c.seek_line.ensures.bytes in
    let more = c.pass.ensures.bytes in
    record {
      sized = self.sized;
      some = self.some;
      few = self.few;
      within = self.within;
      choice = (let within = (c.seek_line.ensures.line (Disk c.in-Line-Disk.disk) (c.in-Line-Disk.is ∙ ap next.Line c.in-Line-Disk.field-0-is)).2 in omega (arith, within));
      counted = count_more self.reader.bytes c.pass.new.self.bytes self.tallies.each (omega (arith, bytes, more)) self.counted;
    }

pub returns-in-Ok-clause-line : goal.returns-in-Ok-clause-line
returns-in-Ok-clause-line g c =
    let self = c.args.self.now in
    let disk = c.in-Line-Disk.disk in
    let q = c.seek_line.new.reader in
    let z = g.I.Source.state c.seek_line.new.source in
    let x = g.O.Sink.state self.sink.now in
    let at = c.seek_line.ensures.line (Disk disk) (c.in-Line-Disk.is ∙ ap next.Line c.in-Line-Disk.field-0-is) in (
      tt,
      one_turn self.reader.bytes c.pass.new.self.bytes (let bytes = c.seek_line.ensures.bytes in let more = c.pass.ensures.bytes in omega (arith, bytes, more)) (few_read c.pass.new.self),
      λ stop. absurd (cc),
      λ s b e came.
          let now = came_sought self.share self.disks self.chosen self.tallies.each self.reader q (g.I.Source.state self.source.now) z x c.seek_line.ensures.size c.seek_line.ensures.came s b e came in
          came_disk self.share self.disks q self.chosen self.tallies.each z x s b e now disk c.pass.new.self (g.O.Sink.state c.say_disk.new.sink) c.pass.ensures.size
          (c.pass.ensures.came (coded self.disks) (code (Disk disk)) (code_says self.disks self.share q (Disk disk) now.size at.1) z s (map code now.many) now.read)
          (counted_nothing self.share (lines_given e) (touched_in e) self.tallies.each now.tally)
          c.in-Ok.ensures.said.done,
    )

pub returns-in-Err-clause-sink : goal.returns-in-Err-clause-sink
returns-in-Err-clause-sink g c = λ is.
    let self = c.args.self.now in
    let disk = c.in-Line-Disk.disk in
    let q = c.seek_line.new.reader in
    let z = g.I.Source.state c.seek_line.new.source in
    let x = g.O.Sink.state self.sink.now in
    let at = c.seek_line.ensures.line (Disk disk) (c.in-Line-Disk.is ∙ ap next.Line c.in-Line-Disk.field-0-is) in
    let part = c.in-Err.ensures.said.part (as_error c.in-Err.ended ended.Sink is) in (
      c.in-Err.ensures.rose (as_error c.in-Err.ended ended.Sink is),
      λ s b e came.
          let now = came_sought self.share self.disks self.chosen self.tallies.each self.reader q (g.I.Source.state self.source.now) z x c.seek_line.ensures.size c.seek_line.ensures.came s b e came in
          inr (
            next_said self.share self.disks q self.chosen self.tallies.each z x s b e now _ _ (λ lines all whole reads. reads) disk at.0 (gathered_says self.disks self.share q (Disk disk) now.size at.1),
            broke_disk self.share self.disks q self.chosen self.tallies.each z x s b e now disk (g.O.Sink.state c.say_disk.new.sink) part.0 at.0 (gathered_says self.disks self.share q (Disk disk) now.size at.1) part.1 part.2,
          ),
    )

pub returns-in-Err-clause-memory : goal.returns-in-Err-clause-memory
returns-in-Err-clause-memory g c = λ is.
    let self = c.args.self.now in
    let q = c.seek_line.new.reader in
    let z = g.I.Source.state c.seek_line.new.source in
    let x = g.O.Sink.state self.sink.now in (
      λ s b e came.
          let now = came_sought self.share self.disks self.chosen self.tallies.each self.reader q (g.I.Source.state self.source.now) z x c.seek_line.ensures.size c.seek_line.ensures.came s b e came in
          came_none self.share self.disks q self.chosen self.tallies.each z x s b e now (g.O.Sink.state c.say_disk.new.sink) (c.in-Err.ensures.said.none (as_error c.in-Err.ended ended.Memory is)),
      λ spare. absurd (cc),
    )

-- ---- another line

pub count-requires-clause-few : goal.count-requires-clause-few
count-requires-clause-few g c =
    let self = c.args.self.now in
    count_more self.reader.bytes 4294967296 self.tallies.each (few_read self.reader) self.counted

pub pass-requires-in-Line-Plain : goal.pass-requires-in-Line-Plain
pass-requires-in-Line-Plain g c = record { stands = (c.seek_line.ensures.line (Plain c.in-Line-Plain.line) (c.in-Line-Plain.is ∙ ap next.Line c.in-Line-Plain.field-0-is)).0 }

pub invariant_of-self-in-Line-Plain : goal.invariant_of-self-in-Line-Plain
invariant_of-self-in-Line-Plain g c =
    let self = c.args.self.now in
    let bytes = c.seek_line.ensures.bytes in
    let more = c.pass-in-Line-Plain.ensures.bytes in
    record {
      sized = self.sized;
      some = self.some;
      few = self.few;
      within = self.within;
      choice = self.choice;
      counted = count_more (self.reader.bytes + 1) c.pass-in-Line-Plain.new.self.bytes c.count.new.self.each (omega (arith, bytes, more)) (c.count.ensures.few self.reader.bytes self.counted);
    }

pub volume_line-given-requires : goal.volume_line-given-requires
volume_line-given-requires g c = record { runnable = (c.seek_line.ensures.line (Plain c.in-Line-Plain.line) (c.in-Line-Plain.is ∙ ap next.Line c.in-Line-Plain.field-0-is)).2 }

pub returns-in-Line-Plain-clause-line : goal.returns-in-Line-Plain-clause-line
returns-in-Line-Plain-clause-line g c =
    let self = c.args.self.now in
    let l = c.in-Line-Plain.line in
    let q = c.seek_line.new.reader in
    let z = g.I.Source.state c.seek_line.new.source in
    let x = g.O.Sink.state self.sink.now in
    let at = c.seek_line.ensures.line (Plain l) (c.in-Line-Plain.is ∙ ap next.Line c.in-Line-Plain.field-0-is) in
    let one = c.volume_line-given.ensures in (
      subst (IsRunnable self.size) (sym one) (runnable_volume self.share self.chosen self.size l (start_within self.chosen self.share self.disks self.size self.choice self.within) at.2),
      one_turn self.reader.bytes c.pass-in-Line-Plain.new.self.bytes (let bytes = c.seek_line.ensures.bytes in let more = c.pass-in-Line-Plain.ensures.bytes in omega (arith, bytes, more)) (few_read c.pass-in-Line-Plain.new.self),
      λ stop. at.3 (sym (stop_shifted (self.chosen * self.share) l) ∙ ap is_stop (sym one) ∙ stop),
      λ s b e came.
          let now = came_sought self.share self.disks self.chosen self.tallies.each self.reader q (g.I.Source.state self.source.now) z x c.seek_line.ensures.size c.seek_line.ensures.came s b e came in
          subst (λ (k : Line). CameMany self.share self.disks c.pass-in-Line-Plain.new.self self.chosen c.count.new.self.each z x s b (e ++ Gave k ∷ [])) (sym one)
          (came_plain self.share self.disks q self.chosen self.tallies.each z x s b e now l c.pass-in-Line-Plain.new.self c.count.new.self.each c.pass-in-Line-Plain.ensures.size
          (c.pass-in-Line-Plain.ensures.came (coded self.disks) (code (Plain l)) (code_says self.disks self.share q (Plain l) now.size at.1) z s (map code now.many) now.read)
          at.2
          (c.count.ensures.counted self.share (lines_given e) (touched_in e) at.2 now.tally)),
    )

-- ---- no line

pub returns-in-End-clause-end : goal.returns-in-End-clause-end
returns-in-End-clause-end g c = λ _.
    let self = c.args.self.now in
    let q = c.seek_line.new.reader in
    let z = g.I.Source.state c.seek_line.new.source in
    let x = g.O.Sink.state self.sink.now in (
      λ s b e came.
          let now = came_sought self.share self.disks self.chosen self.tallies.each self.reader q (g.I.Source.state self.source.now) z x c.seek_line.ensures.size c.seek_line.ensures.came s b e came in
          came_none self.share self.disks q self.chosen self.tallies.each z x s b e now x (adds_none x),
      λ s b e came.
          let now = came_sought self.share self.disks self.chosen self.tallies.each self.reader q (g.I.Source.state self.source.now) z x c.seek_line.ensures.size c.seek_line.ensures.came s b e came in
          knows_lines self.share self.disks q self.chosen self.tallies.each z x s b e now true (c.in-End.ensures.end refl s (map code now.many) now.read),
    )

pub returns-in-Failed-clause-source : goal.returns-in-Failed-clause-source
returns-in-Failed-clause-source g c = λ _.
    let self = c.args.self.now in
    let q = c.seek_line.new.reader in
    let z = g.I.Source.state c.seek_line.new.source in
    let x = g.O.Sink.state self.sink.now in (
      c.in-Failed.ensures.fault refl,
      λ s b e came.
          let now = came_sought self.share self.disks self.chosen self.tallies.each self.reader q (g.I.Source.state self.source.now) z x c.seek_line.ensures.size c.seek_line.ensures.came s b e came in
          came_none self.share self.disks q self.chosen self.tallies.each z x s b e now x (adds_none x),
      λ s b e came.
          let now = came_sought self.share self.disks self.chosen self.tallies.each self.reader q (g.I.Source.state self.source.now) z x c.seek_line.ensures.size c.seek_line.ensures.came s b e came in
          knows_lines self.share self.disks q self.chosen self.tallies.each z x s b e now false (c.in-Failed.ensures.failed refl s (map code now.many) now.read),
    )

-- ---- a line that is refused

pub returns-in-Ok-say-clause-refused : goal.returns-in-Ok-say-clause-refused
returns-in-Ok-say-clause-refused g c = λ _ s b e came.
    let self = c.args.self.now in
    let cause = c.in-Refused.cause in
    let q = c.seek_line.new.reader in
    let z = g.I.Source.state c.seek_line.new.source in
    let x = g.O.Sink.state self.sink.now in
    let now = came_sought self.share self.disks self.chosen self.tallies.each self.reader q (g.I.Source.state self.source.now) z x c.seek_line.ensures.size c.seek_line.ensures.came s b e came in (
      cause,
      next_refused self.share self.disks q self.chosen self.tallies.each z x s b e now _ _ (λ lines all whole reads. reads) c.args.armed cause (c.in-Refused.ensures.refused cause refl now.size s (map code now.many) now.read),
      refusal_took self.share self.disks q self.chosen self.tallies.each z x (g.O.Sink.state c.say.new.sink) s b e now c.number-line.result cause c.number-line.ensures c.in-Ok-say.ensures.ok,
    )

pub returns-in-Err-say-clause-sink : goal.returns-in-Err-say-clause-sink
returns-in-Err-say-clause-sink g c = λ is.
    let self = c.args.self.now in
    let cause = c.in-Refused.cause in
    let q = c.seek_line.new.reader in
    let z = g.I.Source.state c.seek_line.new.source in
    let x = g.O.Sink.state self.sink.now in
    let y = g.O.Sink.state c.say.new.sink in (
      c.in-Err-say.ensures.rose (as_error c.in-Err-say.ended ended.Sink is),
      λ s b e came.
          let now = came_sought self.share self.disks self.chosen self.tallies.each self.reader q (g.I.Source.state self.source.now) z x c.seek_line.ensures.size c.seek_line.ensures.came s b e came in inl (
            cause,
            next_refused self.share self.disks q self.chosen self.tallies.each z x s b e now _ _ (λ lines all whole reads. reads) c.args.armed cause (c.in-Refused.ensures.refused cause refl now.size s (map code now.many) now.read),
            refusal_broke self.share self.disks q self.chosen self.tallies.each z x y s b e now c.number-line.result cause c.number-line.ensures
                (at_sink c.in-Err-say.ended x y (answer.Refused c.number-line.result cause) (same_error c.in-Err-say.ended ended.Sink is) c.in-Err-say.ensures.part),
          ),
    )

pub returns-in-Err-say-clause-memory : goal.returns-in-Err-say-clause-memory
returns-in-Err-say-clause-memory g c = λ is.
    let self = c.args.self.now in
    let q = c.seek_line.new.reader in
    let z = g.I.Source.state c.seek_line.new.source in
    let x = g.O.Sink.state self.sink.now in
    let y = g.O.Sink.state c.say.new.sink in (
      λ s b e came.
          let now = came_sought self.share self.disks self.chosen self.tallies.each self.reader q (g.I.Source.state self.source.now) z x c.seek_line.ensures.size c.seek_line.ensures.came s b e came in
          came_none self.share self.disks q self.chosen self.tallies.each z x s b e now y
          (at_memory c.in-Err-say.ended x y (answer.Refused c.number-line.result c.in-Refused.cause) (same_error c.in-Err-say.ended ended.Memory is) c.in-Err-say.ensures.part),
      λ spare. absurd (cc),
    )
