-- A rig as it is fitted for a volume.
use Rattle.ft_base.specs.Layout.{blocks}
use Rattle.ft_base.specs.declared.geometry.Geometry.{Geometry}
use Rattle.ft_media.specs.Fitted.{fitted}
use Rattle.ft_media.specs.State.{State}

-- a rig of just the blocks, pages and size of the geometry, with nothing on it
abbrev pub fitted_for : Geometry → State → State
fitted_for g old = fitted old (blocks g) g.p g.size
