use Rattle.std.proofs.Common.{◌-◌, ◌∙◌, ap}
use Rattle.ft_base.specs.declared.geometry.Geometry.{Geometry}
use Rattle.ft_base.specs.Layout.{log_pages}
use Rattle.ssc.proofs.cache.Ssc.log_room.Goals as goal

pub returns : goal.returns
returns c = λ contents s holds. c.room.ensures.room ∙ ap (λ (g : Geometry). log_pages g - c.args.self.now.parts.log.next) holds.agree.sound.of_one.log
