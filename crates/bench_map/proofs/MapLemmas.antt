-- The content of a finite map at a key, after a change at this key or another.
use Rattle.std.proofs.Common.{◌≡◌, ℕ, ◌==◌, Some, None, ◌∙◌, ap, arith, cond}
use Rattle.std.proofs.lemmas.Bool.Decides.{nat_tests}
use Rattle.std.specs.Ordering.{nat_cmp}
use Rattle.std.specs.Cmp.{unsigned_tied, nat_cmp_total}
use Rattle.std.specs.FinMap as map
use Rattle.std.specs.FinMap.{get-insert, get-remove}

same_test : (m n : ℕ) → m == n ≡ (n == m)
same_test m n = grind (arith, nat_tests)

pub get-inserted : {V : Type 0} (m n : map.FinMap nat_cmp V) (k : ℕ) (v : V) (q : ℕ) → n ≡ map.insert m k v → map.get n q ≡ cond (k == q) (Some v) (map.get m q)
get-inserted m n k v q is = ap (λ t. map.get t q) is ∙ get-insert nat_cmp_total m k v q ∙ ap (λ b. cond b (Some v) (map.get m q)) (unsigned_tied q k ∙ same_test q k)

pub get-removed : {V : Type 0} (m n : map.FinMap nat_cmp V) (k q : ℕ) → n ≡ map.remove m k → map.get n q ≡ cond (k == q) None (map.get m q)
get-removed m n k q is = ap (λ t. map.get t q) is ∙ get-remove nat_cmp_total m k q ∙ ap (λ b. cond b None (map.get m q)) (unsigned_tied q k ∙ same_test q k)
