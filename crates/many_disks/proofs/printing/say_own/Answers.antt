use Rattle.std.proofs.Common.{◌≡◌, ◌<◌, ◌+◌, [], List, length, map, take, drop, sym, ap, arith, rules}
use Rattle.std.proofs.lemmas.List.{length-map, take-append-drop}
use Rattle.trace_model.specs.declared.answer.Answer.{Answer}
use Rattle.trace_replay.proofs.PieceLemmas.{Gathered, ends_memory, ends_sink, gathered_next, gathered_same, gathered_sent}
use Rattle.many_disks.specs.Told as told
use Rattle.many_disks.proofs.PrintingLemmas.{own_line}
use Rattle.many_disks.proofs.printing.say_own.Goals as goal
use Rattle.many_disks.proofs.printing.say_own.Goals.{else-len-ge-PIECE, then-len-ge-PIECE+in-Ok-send}

pub returns-in_default-clause-part : goal.returns-in_default-clause-part
returns-in_default-clause-part g c =
    let all : List Answer = map (told.own c.args.start) c.args.answers.now in
    let long = length-map c.args.answers.now (told.own c.args.start) in
    let within : c.loop-answer.answer-index < length all = omega arith in
    ends_memory _ _ all c.loop-answer.answer-index _ within c.loop-answer.invariant.gathered

pub returns-in_default-send-clause-part : goal.returns-in_default-send-clause-part
returns-in_default-send-clause-part g c =
    let all : List Answer = map (told.own c.args.start) c.args.answers.now in
    let i = c.loop-answer.answer-index in
    let long = length-map c.args.answers.now (told.own c.args.start) in
    let within : i < length all = omega arith in
    let more : Gathered (g.O.Sink.state c.args.sink.now) (g.O.Sink.state c.loop-answer.sink) (take (i + 1) all) c.put_answer.new.out.items =
    gathered_next _ _ all i _ within c.loop-answer.invariant.gathered _ _ (own_line c.args.start c.args.answers.now i _ _ _ _ c.own.ensures c.in-Ok.ensures.put) in
    ends_sink _ _ _ _ more _ c.as_slice.result.now c.as_slice.ensures.value c.in_default-send.ensures.refused all (drop (i + 1) all) (sym (take-append-drop (i + 1) all))

pub loop-answer-preserved : goal.loop-answer-preserved
loop-answer-preserved g c =
    let all : List Answer = map (told.own c.args.start) c.args.answers.now in
    let i = c.loop-answer.answer-index in
    let long = length-map c.args.answers.now (told.own c.args.start) in
    let within : i < length all = omega arith in
    let was = c.loop-answer.invariant.later in
    let lent = c.loop-answer.invariant.lent in
    let more : Gathered (g.O.Sink.state c.args.sink.now) (g.O.Sink.state c.loop-answer.sink) (take (i + 1) all) c.put_answer.new.out.items =
    gathered_next _ _ all i _ within c.loop-answer.invariant.gathered _ _ (own_line c.args.start c.args.answers.now i _ _ _ _ c.own.ensures c.in-Ok.ensures.put) in
    elim c.if-len-ge-PIECE.branch [
      | then-len-ge-PIECE+in-Ok-send w ↦
          let same : g.O.Sink.state c.if-len-ge-PIECE.sink ≡ g.O.Sink.state w.send.new.sink = ap g.O.Sink.state w.sink-is in
          let none : c.if-len-ge-PIECE.lines.items ≡ [] = first_of (search rules, cc) in
          let later = w.send.ensures.cause.later in
          record {
            gathered = gathered_sent _ _ _ _ more _ _ w.as_slice.result.now _ w.as_slice.ensures.value w.in-Ok-send.ensures.ok w.in-Ok-send.ensures.cause.stays same none;
            later = rw same (omega arith);
            lent = first_of (search rules, cc);
          }
      | else-len-ge-PIECE w ↦
          let same : g.O.Sink.state c.if-len-ge-PIECE.sink ≡ g.O.Sink.state c.loop-answer.sink = ap g.O.Sink.state w.sink-is in
          let held : c.if-len-ge-PIECE.lines.items ≡ c.put_answer.new.out.items = first_of (search rules, cc) in
          record {
            gathered = gathered_same _ _ _ _ more _ _ same held;
            later = rw same was;
            lent = first_of (search rules, cc);
          }
    ]

pub returns-clause-part : goal.returns-clause-part
returns-clause-part g c =
    let all : List Answer = map (told.own c.args.start) c.args.answers.now in
    let i = c.loop-answer.answer-index in
    ends_sink _ _ _ _ c.loop-answer.invariant.gathered _ c.as_slice-2.result.now c.as_slice-2.ensures.value c.in-Err.ensures.refused all (drop i all) (sym (take-append-drop i all))
