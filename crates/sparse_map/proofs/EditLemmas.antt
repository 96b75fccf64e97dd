-- An item that changes places with the one before it.
use Rattle.std.proofs.Common.{◌≡◌, ℕ, ◌+◌, ◌-◌, ◌≤◌, List, length, sym, ap, ◌∙◌, inl, inr, arith, get_or}
use Rattle.std.specs.Prelude.{insert}
use Rattle.std.specs.List.{SwappedAt}
use Rattle.std.proofs.lemmas.Bool.{cases_lt, cases_eq}
use Rattle.std.proofs.lemmas.List.{ext_get_or}
use Rattle.std.proofs.lemmas.List.Edits.{length-insert, get_or-insert_below, get_or-insert_at, get_or-insert_above}

-- it stands one place further down then
pub swapped_down : {X : Type 0} (xs ys : List X) (i j : ℕ) (x : X) → j ≡ i + 1 → j ≤ length xs → length ys ≡ length xs + 1
    → SwappedAt (insert xs j x) ys i j → ys ≡ insert xs i x
swapped_down {X} xs ys i j x next le long swapped =
    let le_i : i ≤ length xs = omega arith in
    ext_get_or x ys (insert xs i x) (long ∙ sym (length-insert xs i x le_i)) (λ k h.
    elim (cases_eq k i) [
      | inl at ↦
          ap (λ q. get_or ys q x) at
          ∙ swapped.0 x
          ∙ get_or-insert_at xs j x x le
          ∙ sym (get_or-insert_at xs i x x le_i)
          ∙ ap (λ q. get_or (insert xs i x) q x) (sym at)
      | inr ne ↦ elim (cases_eq k j) [
        | inl at ↦
            let past : i + 1 ≡ k = omega arith in
            ap (λ q. get_or ys q x) at
            ∙ swapped.1 x
            ∙ get_or-insert_below xs j x x i (omega arith) le
            ∙ sym (get_or-insert_above xs i x x i (omega arith) le_i)
            ∙ ap (λ q. get_or (insert xs i x) q x) past
        | inr other ↦ swapped.2 k x ne other ∙ elim (cases_lt k i) [
          | inl low ↦ get_or-insert_below xs j x x k (omega arith) le ∙ sym (get_or-insert_below xs i x x k low le_i)
          | inr high ↦
              let one : k - 1 + 1 ≡ k = omega (arith, ne, other) in
              let far : j ≤ k - 1 = omega (arith, ne, other) in
              ap (λ q. get_or (insert xs j x) q x) (sym one)
              ∙ get_or-insert_above xs j x x (k - 1) far le
              ∙ sym (get_or-insert_above xs i x x (k - 1) (omega arith) le_i)
              ∙ ap (λ q. get_or (insert xs i x) q x) one
        ]
      ]
    ])
