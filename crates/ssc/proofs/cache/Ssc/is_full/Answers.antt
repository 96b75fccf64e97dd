use Rattle.std.proofs.Common.{◌≤◌, ◌/◌, ◌∙◌, ap, subst, arith, eqb-true, eq-eqb}
use Rattle.std.proofs.lemmas.Bool.{both_ways}
use Rattle.ft_base.specs.declared.geometry.Geometry.{Geometry}
use Rattle.mapping.specs.declared.bits.Choice.TheVariants.{Dirty}
use Rattle.mapping.specs.Counts.{dirty_group_count}
use Rattle.mapping.specs.Bits.{chosen_of}
use Rattle.ssc.proofs.DirtyLemmas.{room_below, room_there, full_absent}
use Rattle.ssc.proofs.cache.Ssc.is_full.Goals as goal

pub returns-then-dirty_groups-self-clause-room : goal.returns-then-dirty_groups-self-clause-room
returns-then-dirty_groups-self-clause-room c = λ no.
    let parts = c.args.self.now.parts in
    let count = c.dirty_groups.ensures.count ∙ ap (λ (g : Geometry). dirty_group_count g parts.map.entries) c.requires.of_one in
    room_below parts.geometry parts.map.entries c.args.lba c.dirty_groups.result count c.if-dirty_groups-self.true

pub returns-clause-full : goal.returns-clause-full
returns-clause-full c = λ zero.
    let parts = c.args.self.now.parts in
    let g = parts.geometry in
    let count = c.dirty_groups.ensures.count ∙ ap (λ (g : Geometry). dirty_group_count g parts.map.entries) c.requires.of_one in
    let most = subst (λ (g : Geometry). c.dirty_groups.result ≤ g.c) c.requires.of_one c.dirty_groups.ensures.most in
    let bits = c.dirty_bits.ensures ∙ ap (λ (h : Geometry). chosen_of Dirty h parts.map.entries (c.args.lba / g.p)) c.requires.of_one in
    full_absent g parts.map.entries c.args.lba c.dirty_groups.result c.dirty_bits.result (omega (arith, g.in_range.p_low)) count most c.if-dirty_groups-self.false bits (eqb-true _ _ zero)

pub returns-clause-room : goal.returns-clause-room
returns-clause-room c = λ set.
    let parts = c.args.self.now.parts in
    let g = parts.geometry in
    let count = c.dirty_groups.ensures.count ∙ ap (λ (g : Geometry). dirty_group_count g parts.map.entries) c.requires.of_one in
    let most = subst (λ (g : Geometry). c.dirty_groups.result ≤ g.c) c.requires.of_one c.dirty_groups.ensures.most in
    let bits = c.dirty_bits.ensures ∙ ap (λ (h : Geometry). chosen_of Dirty h parts.map.entries (c.args.lba / g.p)) c.requires.of_one in
    room_there g parts.map.entries c.args.lba c.dirty_groups.result c.dirty_bits.result (omega (arith, g.in_range.p_low)) count most bits (λ none. both_ways _ set (eq-eqb _ _ none))
