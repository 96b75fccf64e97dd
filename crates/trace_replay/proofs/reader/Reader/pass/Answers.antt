use Rattle.std.proofs.Common.{◌≡◌, ◌+◌, List, ℕ, length, refl, ap, arith}
use Rattle.trace_replay.specs.Pending.{ahead, line_so_far, past_next, rest_of}
use Rattle.trace_replay.proofs.ReaderLemmas.{feed_at, last_at, line_held, read_last, read_line, rest_held}
use Rattle.trace_replay.proofs.reader.Reader.pass.Goals as goal

pub returns-then-self-clause-came : goal.returns-then-self-clause-came
returns-then-self-clause-came c = λ form l says a s lines so.
    let r = c.args.self.now in
    let p = r.pending in
    let stands = last_at r c.requires.stands c.if-self.true in
    read_last (form r.size) r.ended (rest_of p) r.bytes r.lines s a lines so (line_so_far p) (rest_of c.drop_last.new.self) l (r.bytes + length c.line.result.now) (r.lines + 1)
    stands.0
    (rest_held (line_so_far p) (ahead p) stands.1)
    c.drop_last.ensures.rest
    p.unended
    stands.2
    says
    (ap (λ (bytes : List ℕ). r.bytes + length bytes) c.line.ensures.held)
    refl

pub returns-else-self-clause-came : goal.returns-else-self-clause-came
returns-else-self-clause-came c = λ form l says a s lines so.
    let r = c.args.self.now in
    let p = r.pending in
    let stands = feed_at r c.requires.stands c.if-self.false in
    let as_long : length c.line.result.now ≡ length (line_so_far p) = ap length c.line.ensures.held in
    read_line (form r.size) r.ended (rest_of p) r.bytes r.lines s a lines so (line_so_far p) (rest_of c.drop_line.new.self) l (r.bytes + length c.line.result.now + 1) (r.lines + 1)
    stands.0
    (line_held (line_so_far p) (ahead p) (past_next p) (rest_of c.drop_line.new.self) stands.1 c.drop_line.ensures.rest)
    p.unended
    says
    (omega (arith, as_long))
    refl
