use Rattle.bench_run.specs.Floor.{no_slot}
use Rattle.bench_run.proofs.SlotLemmas.{copied_next}
use Rattle.bench_run.proofs.slot.copy_next.Goals as goal

pub returns : goal.returns
returns c = copied_next c.args.slots.now c.split_at_mut-front.result.0.now c.split_at_mut-front.result.1.now c.args.at _ no_slot c.copy_slot.new.to c.split_at_mut-front.ensures.value c.split_at_mut-front.ensures.front_len c.copy_slot.ensures
