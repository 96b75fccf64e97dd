use Rattle.std.proofs.Common.{◌*◌, ◌==◌, ◌∙◌}
use Rattle.many_disks.specs.Lines.{shifted}
use Rattle.many_disks.proofs.AloneLemmas.{beside_is, shifted_request}
use Rattle.many_disks.proofs.FollowLemmas.{shifted_is_at}
use Rattle.many_disks.proofs.laws.own_lines_law.Goals as goal

pub returns : goal.returns
returns c = λ share disk chosen l runs. beside_is share disk chosen (shifted (chosen * share) l) (shifted_is_at share chosen l runs) ∙ shifted_request (chosen * share) l (chosen == disk)
