use Rattle.std.proofs.Common.{ap, rules, ℕ}
use Rattle.ft_base.specs.Contents.{Flash, Values}
use Rattle.mem_rig.proofs.rig.MemRig.cut_power.Goals as goal

pub invariant_of-self : goal.invariant_of-self
invariant_of-self c = record {
  cuts_small = search rules;
  unready = λ off b. ap (λ (f : Flash). f.next b) c.stop.ensures.flash;
  settled = λ off lba. ap (λ (d : ℕ → Values). (d lba).earlier) c.settle.ensures.disk;
}
