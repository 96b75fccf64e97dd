-- Numbers in lists, and quotients.
use Rattle.std.proofs.Common.{◌≡◌, ℕ, ◌/◌, ◌<◌, ◌≤◌, ◌==◌, ◌||◌, Bool, true, false, List, [], ◌∷◌, ◌++◌, refl, sym, ◌∙◌, ap, arith}
use Rattle.std.proofs.lemmas.Nat.{le-div}
use Rattle.std.proofs.Math.Bool.{or_assoc}
use Rattle.std.proofs.Math.Nat.{div-mul-le_self}
use Rattle.cache_model.proofs.CountLemmas.{member}

pub member_push : (k n : ℕ) (ns : List ℕ) → member k (ns ++ n ∷ []) ≡ (member k ns || (n == k))
member_push k n [] = or_false (n == k)
  where
    or_false : (b : Bool) → (b || false) ≡ (false || b)
    or_false true = refl
    or_false false = refl
member_push k n (m ∷ ns) = ap (λ b. (m == k) || b) (member_push k n ns) ∙ sym (or_assoc (m == k) (member k ns) (n == k))

pub div_mono : (a b c : ℕ) → 0 < c → a ≤ b → a / c ≤ b / c
div_mono a b c some le = le-div (a / c) b c some (omega (arith, div-mul-le_self a c))
