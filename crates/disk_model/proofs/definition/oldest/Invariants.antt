use Rattle.std.proofs.Common.{◌≡◌, drop}
use Rattle.ft_media.specs.Rig.{oldest}
use Rattle.disk_model.proofs.definition.oldest.Given as goal

abbrev pub invariant-loop-block : goal.invariant-loop-block
invariant-loop-block l = oldest l.last (drop l.block-index l.earlier) ≡ oldest l.fn.newest l.earlier
