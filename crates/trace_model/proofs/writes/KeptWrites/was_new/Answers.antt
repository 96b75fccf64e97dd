use Rattle.std.proofs.Common.{◌-◌, ◌∙◌, ap, arith, drop, length, ◌<◌}
use Rattle.ft_base.specs.Pattern.{pat}
use Rattle.trace_model.specs.Plain.{kept_in}
use Rattle.trace_model.specs.Run.{disk_written}
use Rattle.trace_model.proofs.KeepLemmas.{differ, new_from, new_is}
use Rattle.trace_model.proofs.writes.KeptWrites.was_new.Goals as goal

pub returns : goal.returns
returns c =
    let all = c.args.self.now.writes.ok.0 in
    let is = c.index-write.ensures in
    let ws = c.args.self.now.writes.items in
    let lost = c.args.lost in
    let some = c.requires in
    let within : lost - 1 < length ws = omega arith in
    let read_is = c.read_without.ensures ∙ ap (λ w. disk_written (drop lost (kept_in c.args.self.now)) w.lba) is in
    let block_is = c.block_of.ensures ∙ ap (λ w. pat w.lba w.tag) is in
    let either = differ c.is_same.result _ c.is_same.ensures in (
      λ isnt. new_from ws lost c.index-write.result.now c.read_without.result c.block_of.result some within read_is block_is (either.0 isnt),
      λ new. either.1 (new_is ws lost c.index-write.result.now c.read_without.result c.block_of.result some within read_is block_is new),
    )
