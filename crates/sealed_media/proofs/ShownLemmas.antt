-- The bytes that pages of raw flash in memory show.
use Rattle.std.proofs.Common.{◌≡◌, ◌++◌, ℕ, List, length, take, drop, sym, ◌∙◌, ap, arith}
use Rattle.std.proofs.lemmas.List.{append_assoc, length-drop, take-append-drop}
use Rattle.std.proofs.Math.Seq.{take_all, drop-drop}

-- a page is its parts in a row
pub parts_in_row : (p b s l : List ℕ) → length p ≡ 4160 → b ≡ take 4096 p → s ≡ take 32 (drop 4096 p) → l ≡ take 32 (drop 4128 p) → (b ++ s) ++ l ≡ p
parts_in_row p b s l long b_is s_is l_is =
    let rest : l ≡ drop 32 (drop 4096 p) = l_is ∙ take_all 32 (drop 4128 p) (omega (arith, long, length-drop 4128 p)) ∙ sym (drop-drop 32 4096 p) in
    append_assoc b s l ∙ ap (λ x. x ++ (s ++ l)) b_is ∙ ap (λ x. take 4096 p ++ (x ++ l)) s_is ∙ ap (λ x. take 4096 p ++ (take 32 (drop 4096 p) ++ x)) rest
    ∙ ap (λ x. take 4096 p ++ x) (take-append-drop 32 (drop 4096 p)) ∙ take-append-drop 4096 p
