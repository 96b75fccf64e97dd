use Rattle.std.proofs.Common.{◌∙◌, ap}
use Rattle.ft_base.specs.declared.geometry.Geometry.{Geometry}
use Rattle.mapping.specs.declared.bits.Choice.TheVariants.{Dirty}
use Rattle.mapping.specs.Bits.{chosen_of}
use Rattle.ssc.specs.CacheState.{entries_of, geometry_of}
use Rattle.ssc.proofs.ListedLemmas.{pages_same}
use Rattle.ssc.proofs.cache.Ssc.dirty_bits.Goals as goal

pub returns-clause-bits : goal.returns-clause-bits
returns-clause-bits c = λ contents s holds. c.dirty_bits.ensures ∙ ap (λ (g : Geometry). chosen_of Dirty g (entries_of c.args.self.now) c.args.group) holds.agree.sound.of_one.map

pub returns-clause-list : goal.returns-clause-list
returns-clause-list c = λ contents s holds.
    c.dirty_bits.ensures ∙ ap (λ (g : Geometry). chosen_of Dirty g (entries_of c.args.self.now) c.args.group) holds.agree.sound.of_one.map
    ∙ pages_same c.args.self.now contents s holds (geometry_of c.args.self.now) c.args.group
