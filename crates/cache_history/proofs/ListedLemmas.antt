-- A dirty address is listed.
use Rattle.std.proofs.Common.{◌≡◌, ℕ, ◌+◌, ◌<◌, ◌≤◌, ◌&&◌, nat_le, nat_lt, Bool, true, false, cond, List, [], ◌∷◌, map, filter, Some, sym, ◌∙◌, ap, subst, arith}
use Rattle.std.specs.List.{AllByRecursion, Contains}
use Rattle.std.specs.FinMap.{get, entries}
use Rattle.std.proofs.lemmas.Bool.Decides.{nat_tests}
use Rattle.std.proofs.lemmas.List.Elements.{Contains-append_left, Contains-append_right, Contains-push}
use Rattle.cache_model.specs.Cache.{dirty_between}
use Rattle.cache_model.specs.CacheList.{Held, CacheList}
use Rattle.cache_model.proofs.MapLemmas.{by_get}

contains_first : (n : ℕ) (ns : List ℕ) → Contains (n ∷ ns) n
contains_first n ns = Contains-append_left (n ∷ []) ns n (Contains-push [] n)

contains_later : (k n : ℕ) (ns : List ℕ) → Contains ns n → Contains (k ∷ ns) n
contains_later k n ns c = Contains-append_right (k ∷ []) ns n c

module _ {X : Type 0} (t : ℕ × X → Bool) where
  next : (x : ℕ × X) (es : List (ℕ × X)) (n : ℕ) → Contains (map (λ x. x.0) (filter t es)) n → Contains (map (λ x. x.0) (filter t (x ∷ es))) n
  next x es n c = by (t x)
    where
      by : (b : Bool) → Contains (map (λ x. x.0) (cond b (x ∷ filter t es) (filter t es))) n
      by true = contains_later x.0 n (map (λ x. x.0) (filter t es)) c
      by false = c

  first : (x : ℕ × X) (es : List (ℕ × X)) → t x ≡ true → Contains (map (λ x. x.0) (filter t (x ∷ es))) x.0
  first x es y = subst (λ b. Contains (map (λ x. x.0) (cond b (x ∷ filter t es) (filter t es))) x.0) (sym y) (contains_first x.0 (map (λ x. x.0) (filter t es)))

  all_more : (P Q : ℕ × X → Type 0) (xs : List (ℕ × X)) → ((x : ℕ × X) → P x → Q x) → AllByRecursion P xs → AllByRecursion Q xs
  all_more P Q [] f all = tt
  all_more P Q (x ∷ xs) f all = (f x all.0, all_more P Q xs f all.1)

  pub all_passed : (es : List (ℕ × X)) → AllByRecursion (λ x. t x ≡ true → Contains (map (λ x. x.0) (filter t es)) x.0) es
  all_passed [] = tt
  all_passed (x ∷ es) = (first x es, all_more (λ y. t y ≡ true → Contains (map (λ x. x.0) (filter t es)) y.0) (λ y. t y ≡ true → Contains (map (λ x. x.0) (filter t (x ∷ es))) y.0) es (λ y h z. next x es y.0 (h z)) (all_passed es))

tests : (from end a : ℕ) → from ≤ a → a < end → (true && nat_le from a && nat_lt a end) ≡ true
tests from end a low high = grind (arith, nat_tests)

pub dirty_listed : (s : CacheList) (a : ℕ) (h : Held) (from count : ℕ) → get s a ≡ Some h → h.dirty ≡ true → from ≤ a → a < from + count → Contains (dirty_between from count s) a
dirty_listed s a h from count is dirty low high =
    by_get s (λ k h. (h.dirty && nat_le from k && nat_lt k (from + count)) ≡ true → Contains (dirty_between from count s) k)
    (all_passed (λ x. x.1.dirty && nat_le from x.0 && nat_lt x.0 (from + count)) (entries s)) a h is (ap (λ d. d && nat_le from a && nat_lt a (from + count)) dirty ∙ tests from (from + count) a low high)
