use Rattle.std.proofs.Common.{◌≡◌, ◌-◌, length, take, drop, sym, ◌∙◌}
use Rattle.std.proofs.lemmas.Bool.{false≢true}
use Rattle.std.proofs.lemmas.Bool.Decides.{Decides-eqb}
use Rattle.std.proofs.lemmas.Slice.Eq.{slice_eq-Decides}
use Rattle.std.specs.Bool.{Decides}
use Rattle.ft_base.proofs.FilledLemmas.{filled_of_parts, front_of_filled, rest_of_filled}
use Rattle.ft_base.proofs.patterns.is_filled.Goals as goal

pub returns-then-eq : goal.returns-then-eq
returns-then-eq c =
    let front : Decides c.eq.result (take c.min-n.result c.args.bytes.now ≡ take c.min-n.result c.args.head.now) = slice_eq-Decides Decides-eqb _ _ _ c.eq.ensures in
    let back : Decides c.eq-then-eq.result (take (length c.args.bytes.now - c.min-n.result) (drop c.min-n.result c.args.bytes.now) ≡ take (length c.args.bytes.now - c.min-n.result) c.args.bytes.now) = slice_eq-Decides Decides-eqb _ _ _ c.eq-then-eq.ensures in (
      λ yes. filled_of_parts c.args.head.now c.args.bytes.now c.min-n.result c.min-n.ensures (front.0 c.if-eq.true) (back.0 yes),
      λ same. back.1 (rest_of_filled c.args.head.now c.args.bytes.now c.min-n.result c.min-n.ensures same),
    )

pub returns-else-eq : goal.returns-else-eq
returns-else-eq c =
    let front : Decides c.eq.result (take c.min-n.result c.args.bytes.now ≡ take c.min-n.result c.args.head.now) = slice_eq-Decides Decides-eqb _ _ _ c.eq.ensures in (
      λ yes. absurd (false≢true (sym c.if-eq.false ∙ yes)),
      λ same. front.1 (front_of_filled c.args.head.now c.args.bytes.now c.min-n.result c.told-head c.min-n.ensures same),
    )
