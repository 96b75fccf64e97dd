-- A torn page of raw flash in memory is never sealed.
use Rattle.std.proofs.Common.{◌≡◌, ℕ, Bool, true, false, length, refl, sym, ap, subst, cond}
use Rattle.std.proofs.lemmas.List.{length-replicate}
use Rattle.std.proofs.lemmas.List.Elements.{All-replicate}
use Rattle.std.proofs.lemmas.Bool.Decides.{not_from_Decides}
use Rattle.ft_base.specs.declared.block.Place.{Place}
use Rattle.sealed_media.specs.Seal.{IsSealed, IsErased, is_sealed, ones_page, erased_page}
use Rattle.sealed_media.specs.Tearing.{drawn_page, torn_page}
use Rattle.sealed_media.proofs.SealLemmas.{erased_unsealed, sealed_test}

ones_are : (n : ℕ) → IsErased (ones_page n)
unfolding IsErased ones_page
ones_are n = All-replicate (λ byte. byte ≡ 255) n 255 refl

ones_long : (n : ℕ) → length (ones_page n).0 ≡ n
unfolding ones_page
ones_long n = length-replicate {A = ℕ} n 255

pub erased_is : IsErased erased_page
erased_is = ones_are 4160

erased_long : length erased_page.0 ≡ 4160
erased_long = ones_long 4160

pub torn_so : (number : ℕ) (at : Place) → is_sealed (drawn_page number at) ≡ true → erased_page ≡ torn_page number at
unfolding torn_page
torn_so number at sealed = ap (λ t. cond t erased_page (drawn_page number at)) (sym sealed)

pub torn_else : (number : ℕ) (at : Place) → is_sealed (drawn_page number at) ≡ false → drawn_page number at ≡ torn_page number at
unfolding torn_page
torn_else number at sealed = ap (λ t. cond t erased_page (drawn_page number at)) (sym sealed)

pub torn_unsealed : (number : ℕ) (at : Place) → IsSealed (torn_page number at) → ⊥
torn_unsealed number at = by_test (is_sealed (drawn_page number at)) refl
  where
    by_test : (t : Bool) → is_sealed (drawn_page number at) ≡ t → IsSealed (torn_page number at) → ⊥
    by_test true is sealed = erased_unsealed erased_page erased_long erased_is (subst IsSealed (sym (torn_so number at is)) sealed)
    by_test false is sealed = not_from_Decides (is_sealed (drawn_page number at)) (sealed_test (drawn_page number at)) is (subst IsSealed (sym (torn_else number at is)) sealed)
