use Rattle.std.proofs.Common.{◌≤◌, ℕ, arith, ◌∙◌, ap, position, nat_eq}
use Rattle.std.proofs.lemmas.List.Elements.{All-from_get_or}
use Rattle.lanes.proofs.LeastLemmas.{least_by_position}
use Rattle.lanes.proofs.least.Goals as goal

pub returns : goal.returns
returns c =
    let xs = c.args.counts.now in
    let small = All-from_get_or (λ x. x ≤ 65535) xs 0 (λ i lt. omega (arith, c.type_inv.counts i)) in
    let found = c.place_of.ensures ∙ ap (λ v. position (λ (x : ℕ). nat_eq x v) xs) c.least_count.ensures in
    let both = least_by_position xs c.place_of.result small found in
    record { none = both.0; first = both.1 }
