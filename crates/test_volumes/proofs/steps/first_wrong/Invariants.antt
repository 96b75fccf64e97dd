use Rattle.ft_volume.specs.Volume.{StaysOwner}
use Rattle.test_volumes.proofs.steps.first_wrong.Given as goal

abbrev pub invariant-loop-i : goal.invariant-loop-i
invariant-loop-i g l = record { owner : StaysOwner (g.V.Volume.owns l.volume) (g.R.Media.state l.rig).contents (g.V.Volume.state l.fn.volume) (g.V.Volume.state l.volume) }
