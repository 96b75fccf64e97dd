use Rattle.std.proofs.Common.{rules}
use Rattle.disk_model.proofs.StoreLemmas.{write_present}
use Rattle.disk_model.proofs.store.Store.write.Goals as goal

pub invariant_of-self-in-Ok-insert : goal.invariant_of-self-in-Ok-insert
invariant_of-self-in-Ok-insert c = record {
  written = write_present c.args.self.now.newest c.insert.new.self c.args.self.now.replaced.items c.push_reserved.new.self.items c.args.lba c.args.block.now c.in-Ok.fresh c.in-Ok-insert.old
      c.in-Ok-insert.ensures.old c.in-Ok.ensures.ok c.in-Ok-insert.ensures.updates (search rules) c.args.self.now.written;
}
