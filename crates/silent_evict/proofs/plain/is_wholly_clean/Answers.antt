use Rattle.std.proofs.Common.{◌≡◌, ◌/◌, subst, sym}
use Rattle.std.proofs.lemmas.Bool.{both_ways}
use Rattle.ft_base.specs.declared.geometry.Geometry.{Geometry}
use Rattle.silent_evict.proofs.PlainLemmas.{clean_passed, clean_here, clean_elsewhere, clean_all, clean_held}
use Rattle.silent_evict.proofs.plain.is_wholly_clean.Goals as goal
use Rattle.silent_evict.proofs.plain.is_wholly_clean.Goals.{then-lba-geometry+else-is_dirty, else-lba-geometry}

pub loop-i-preserved-in_default : goal.loop-i-preserved-in_default
loop-i-preserved-in_default c = clean_passed c.args.map.now.geometry c.args.map.now.entries c.args.group c.loop-i.i c.loop-i.held c.loop-i.invariant c.in_default.ensures.none

pub loop-i-preserved : goal.loop-i-preserved
loop-i-preserved c =
    let g = c.args.map.now.geometry in
    let m = c.args.map.now.entries in
    elim c.if-lba-geometry.branch [
      | then-lba-geometry+else-is_dirty w ↦
          rw w.held-is (clean_here g m c.in-Some.ensures.is_map c.args.group c.loop-i.i c.in-Some.lba c.in-Some.field-0-1 c.loop-i.held c.in-Some.ensures.some c.loop-i.invariant
          (subst (λ (g : Geometry). c.in-Some.lba / g.p ≡ c.args.group) c.requires w.if-lba-geometry.true) (λ dirty. both_ways w.is_dirty.result w.if-is_dirty.false (w.is_dirty.ensures.1 dirty)))
      | else-lba-geometry w ↦
          rw w.held-is (clean_elsewhere g m c.in-Some.ensures.is_map c.args.group c.loop-i.i c.in-Some.lba c.in-Some.field-0-1 c.loop-i.held c.in-Some.ensures.some c.loop-i.invariant
          (λ here. w.if-lba-geometry.false (subst (λ (g : Geometry). c.in-Some.lba / g.p ≡ c.args.group) (sym c.requires) here)))
    ]

pub returns : goal.returns
returns c = (
  clean_all c.args.map.now.geometry c.args.map.now.entries c.args.group c.loop-i.i c.numbers-i-end.result c.loop-i.held c.numbers-i-end.ensures.each c.loop-i-test.false
      c.loop-i.invariant,
  clean_held c.args.map.now.geometry c.args.map.now.entries c.args.group c.loop-i.i c.numbers-i-end.result c.loop-i.held c.numbers-i-end.ensures.each c.loop-i-test.false
      c.loop-i.invariant,
)
