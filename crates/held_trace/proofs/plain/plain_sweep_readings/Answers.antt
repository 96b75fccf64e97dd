use Rattle.std.proofs.Common.{Bool, sym, ap, ◌∙◌, arith}
use Rattle.held_trace.specs.Sweep.{sweep_readings}
use Rattle.held_trace.proofs.SweepLemmas.{ok_weaker, readings_whole}
use Rattle.held_trace.proofs.plain.plain_sweep_readings.Goals as goal

pub returns-then-bytes-gt-BYTE_LIMIT : goal.returns-then-bytes-gt-BYTE_LIMIT
returns-then-bytes-gt-BYTE_LIMIT c = ok_weaker c.plain_past.result _ _ (λ readings all. all c.args.whole) c.plain_past.ensures

pub returns-then-whole : goal.returns-then-whole
returns-then-whole c =
    ok_weaker c.plain_lines.result _ _ (λ readings is.
    is
    ∙ sym (readings_whole c.args.size c.args.bytes.now (omega arith))
    ∙ ap (λ (w : Bool). sweep_readings c.args.size w c.args.bytes.now) (sym c.if-whole.true)) c.plain_lines.ensures

pub returns : goal.returns
returns c =
    ok_weaker c.plain_part.result _ _ (λ readings is. is ∙ ap (λ (w : Bool). sweep_readings c.args.size w c.args.bytes.now) (sym c.if-whole.false)) c.plain_part.ensures
