use Rattle.std.proofs.Common.{false, refl, subst, sym, ◌/◌}
use Rattle.std.proofs.lemmas.Bool.{both_ways}
use Rattle.ft_base.specs.declared.geometry.Geometry.{Geometry}
use Rattle.silent_evict.specs.Candidates.{GivesWayBefore}
use Rattle.silent_evict.proofs.PlainLemmas.{least_passed, least_more, least_all, never_victim}
use Rattle.silent_evict.proofs.plain.is_victim.Goals as goal

pub loop-i-preserved-in_default : goal.loop-i-preserved-in_default
loop-i-preserved-in_default c = least_passed c.args.map.now.geometry c.args.map.now.entries c.args.group c.loop-i.i c.loop-i.invariant c.in_default.ensures.none

pub returns-then-gives_way_before : goal.returns-then-gives_way_before
returns-then-gives_way_before c =
    let x = c.gives_way_before.ensures.0 c.if-gives_way_before.true in
    (λ t. absurd (both_ways false refl t), λ victim. absurd (never_victim c.args.map.now.geometry c.args.map.now.entries c.args.group _ x.0 x.1 victim))

pub loop-i-preserved : goal.loop-i-preserved
loop-i-preserved c = least_more c.args.map.now.geometry c.args.map.now.entries c.in-Some.ensures.is_map c.args.group c.loop-i.i c.in-Some.lba c.in-Some.field-0-1 c.in-Some.ensures.some c.loop-i.invariant
    (λ fewer may. both_ways c.gives_way_before.result c.if-gives_way_before.false (c.gives_way_before.ensures.1 (subst (λ (g : Geometry). GivesWayBefore c.args.map.now.geometry c.args.map.now.entries (c.in-Some.lba / g.p) c.args.group) (sym c.requires) (fewer, may))))

pub returns : goal.returns
returns c =
    (λ t. least_all c.args.map.now.geometry c.args.map.now.entries c.args.group c.loop-i.i c.numbers-i-end.result c.numbers-i-end.ensures.each c.loop-i-test.false c.loop-i.invariant (c.is_candidate.ensures.0 t), λ victim. c.is_candidate.ensures.1 victim.candidate)
