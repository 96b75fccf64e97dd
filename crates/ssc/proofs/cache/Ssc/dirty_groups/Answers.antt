use Rattle.std.proofs.Common.{◌≤◌, sym, subst, ◌∙◌, ap}
use Rattle.ft_base.specs.declared.geometry.Geometry.{Geometry}
use Rattle.mapping.specs.Counts.{dirty_group_count}
use Rattle.ssc.specs.CacheState.{geometry_of}
use Rattle.ssc.proofs.DirtyLemmas.{dirty_same}
use Rattle.ssc.proofs.cache.Ssc.dirty_groups.Goals as goal

pub returns-clause-count : goal.returns-clause-count
returns-clause-count c = λ contents s holds.
    let map = c.args.self.now.parts.map in
    c.dirty_groups.ensures.count ∙ ap (λ (g : Geometry). dirty_group_count g map.entries) holds.agree.sound.of_one.map
    ∙ sym (dirty_same (geometry_of c.args.self.now) contents.flash.page map.entries s holds.agree.sound.whole.whole holds.lists.held)

pub returns-clause-most : goal.returns-clause-most
returns-clause-most c = λ contents s holds.
    subst (λ (g : Geometry). c.dirty_groups.result ≤ g.c) holds.agree.sound.of_one.map c.dirty_groups.ensures.most
