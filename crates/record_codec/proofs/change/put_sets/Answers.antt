use Rattle.std.proofs.Common.{true, false}
use Rattle.record_codec.proofs.RecordLemmas.{sets_put}
use Rattle.record_codec.proofs.change.put_sets.Goals as goal

pub returns-then-wide : goal.returns-then-wide
returns-then-wide c = rw c.if-wide.true (sets_put true c.args.line.now c.put_u128.new.line c.put_u128-then-wide.new.line c.args.present c.args.dirty c.told-line c.put_u128.ensures c.put_u128-then-wide.ensures)

pub returns-else-wide : goal.returns-else-wide
returns-else-wide c = rw c.if-wide.false (sets_put false c.args.line.now c.put_u64.new.line c.put_u64-else-wide.new.line c.args.present c.args.dirty c.told-line c.put_u64.ensures.placed c.put_u64-else-wide.ensures.placed)
