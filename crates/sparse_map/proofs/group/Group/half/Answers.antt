use Rattle.std.proofs.Common.{◌≡◌, ◌+◌, ◌*◌, ◌%◌, ◌/◌, ◌^◌, count_ones, length, take, drop, refl, sym, ap, ◌∙◌, arith}
use Rattle.sparse_map.specs.Slots.{unpacked, slot_at, items_of, group}
use Rattle.sparse_map.specs.Groups.{slots_in}
use Rattle.sparse_map.proofs.HalfLemmas.{split_within, lower_placed, lower_items, upper_counted, upper_placed, upper_items}
use Rattle.sparse_map.proofs.group.Group.half.Goals as goal

pub split_at-requires : goal.split_at-requires
split_at-requires g c =
    let u = c.args.self.now in
    let low = u.occupied % 2 ^ 32 in
    omega (arith, split_within u low refl (count_ones low) refl, ap length c.as_slice.ensures.value)

pub returns-then-i-eq0-clause-placed : goal.returns-then-i-eq0-clause-placed
returns-then-i-eq0-clause-placed g c =
    let u = c.args.self.now in
    let low = u.occupied % 2 ^ 32 in
    λ k lt.
    ap (λ xs. unpacked low xs k) (c.split_at.ensures.front ∙ ap (take (count_ones low)) c.as_slice.ensures.value)
    ∙ lower_placed u low refl (count_ones low) refl k lt
    ∙ ap (λ i. slot_at (slots_in u) (32 * i + k)) (sym c.if-i-eq0.true)

pub returns-then-i-eq0-clause-items : goal.returns-then-i-eq0-clause-items
returns-then-i-eq0-clause-items g c =
    let u = c.args.self.now in
    let low = u.occupied % 2 ^ 32 in
    c.split_at.ensures.front
    ∙ ap (take (count_ones low)) c.as_slice.ensures.value
    ∙ lower_items u low refl (count_ones low) refl
    ∙ ap (λ i. items_of (group (slots_in u) i)) (sym c.if-i-eq0.true)

pub returns-else-i-eq0-clause-counted : goal.returns-else-i-eq0-clause-counted
returns-else-i-eq0-clause-counted g c =
    let u = c.args.self.now in
    let low = u.occupied % 2 ^ 32 in
    ap length (c.split_at.ensures.back ∙ ap (drop (count_ones low)) c.as_slice.ensures.value)
    ∙ upper_counted u low refl (count_ones low) refl

pub returns-else-i-eq0-clause-placed : goal.returns-else-i-eq0-clause-placed
returns-else-i-eq0-clause-placed g c =
    let u = c.args.self.now in
    let low = u.occupied % 2 ^ 32 in
    let ne = c.if-i-eq0.false in
    let one : 1 ≡ c.args.i = omega (arith, ne, c.requires) in
    λ k lt.
    ap (λ xs. unpacked (u.occupied / 2 ^ 32) xs k) (c.split_at.ensures.back ∙ ap (drop (count_ones low)) c.as_slice.ensures.value)
    ∙ upper_placed u low refl (count_ones low) refl k lt
    ∙ ap (λ i. slot_at (slots_in u) (32 * i + k)) one

pub returns-else-i-eq0-clause-items : goal.returns-else-i-eq0-clause-items
returns-else-i-eq0-clause-items g c =
    let u = c.args.self.now in
    let low = u.occupied % 2 ^ 32 in
    let ne = c.if-i-eq0.false in
    let one : 1 ≡ c.args.i = omega (arith, ne, c.requires) in
    c.split_at.ensures.back
    ∙ ap (drop (count_ones low)) c.as_slice.ensures.value
    ∙ upper_items u low refl (count_ones low) refl
    ∙ ap (λ i. items_of (group (slots_in u) i)) one
