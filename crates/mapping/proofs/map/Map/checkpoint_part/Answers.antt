use Rattle.std.proofs.Common.{subst, arith}
use Rattle.mapping.specs.Checkpoint.{HasWindow}
use Rattle.mapping.specs.MapValue.{MapValue}
use Rattle.mapping.proofs.CheckpointLemmas.{part_is}
use Rattle.mapping.proofs.map.Map.checkpoint_part.Goals as goal

pub returns-clause-records : goal.returns-clause-records
returns-clause-records c =
    let has = subst (λ (v : MapValue). HasWindow v.records c.args.from c.offer_records.new.out) c.self.view_is c.offer_records.ensures in
    part_is c.args.self.now.records c.offer_records.new.out c.args.from c.min-count.result has (omega arith) (omega arith) (omega arith)
