-- The entry that is found in an erase block, page by page.
use Rattle.std.proofs.Common.{◌≡◌, ◌↔◌, ℕ, ◌+◌, ◌*◌, ◌%◌, ◌<◌, ◌==◌, Bool, true, false, not, List, get_or, Option, Some, None, is_some, IfSome, IfNone, IsTrue, refl, sym, ◌∙◌, ap, subst, arith, eq-eqb, ne_eqb}
use Rattle.std.specs.FinMap.{get}
use Rattle.std.proofs.lemmas.Bool.{both_ways, not-true}
use Rattle.ft_base.specs.declared.geometry.Geometry.{Geometry}
use Rattle.ft_base.specs.declared.block.Place.{Place}
use Rattle.cache_model.specs.declared.entry.Entry.{Entry}
use Rattle.cache_model.specs.Records.{Entries}
use Rattle.cache_model.specs.Entries.{IsMap, InPool}
use Rattle.mapping.specs.declared.seeking.Sought.{Sought}
use Rattle.mapping.specs.Counts.{Owns}
use Rattle.mapping.specs.declared.seeking.Sought.TheVariants.{Any}
use Rattle.mapping.specs.Numbers.{number_of, StandsNoneIn}
use Rattle.mapping.specs.Index.{OwnersAre}
use Rattle.mapping.specs.declared.marks.Mark.{Mark}
use Rattle.mapping.specs.Seeking.{seeks, IsFoundIn, IsNotIn, IsFoundAt, IsTaken, HasMarkAt, HasMarkIn}
use Rattle.std.proofs.lemmas.Nat.{mod_below}
use Rattle.std.proofs.lemmas.Option.{same_Some}
use Rattle.mapping.proofs.ChosenLemmas.{own_address}
use Rattle.mapping.proofs.NumbersLemmas.{number_tells}

pub none_some : {A B : Type 0} (x : A) → None ≡ Some x → B
none_some x s = absurd (cc)

module _ (g : Geometry) (m : Entries) (is_map : IsMap g m) (owners : List (Option ℕ)) (all : OwnersAre g m owners) (at : Place) (pool : InPool g at) where
  -- the owner of the page by the list is its owner by the entries
  pub owner_there : (a : ℕ) → Some a ≡ get_or owners (number_of g at) None → Owns m at a
  owner_there a is =
      let x = all.owned (number_of g at) a (sym is) in
      (x.0, x.1, number_tells g x.0.place at (is_map.in_pool a x.0 x.1) pool x.2)

  pub owner_some : (o : Option ℕ) → o ≡ get_or owners (number_of g at) None → IfSome o (Owns m at)
  owner_some None is = tt
  owner_some (Some a) is = owner_there a is

  same_owner : (a b : ℕ) → Owns m at a → Owns m at b → a ≡ b
  same_owner a b x y = is_map.apart a b x.0 y.0 x.1 y.1 (x.2 ∙ sym y.2)

  pub found_there : (sought : Sought) (a : ℕ) (e : Entry) → Some a ≡ get_or owners (number_of g at) None → get m a ≡ Some e → seeks g sought a e ≡ true → IsFoundAt g sought m at a
  found_there sought a e is held t =
      let x = owner_there a is in
      (e, held, ap (λ (f : Entry). f.place) (same_Some e x.0 (sym held ∙ x.1)) ∙ x.2, t)

  pub taken_is : (lba a : ℕ) → Some a ≡ get_or owners (number_of g at) None → IsTrue (not (a == lba)) ↔ IsTaken m lba at
  taken_is lba a is =
      let x = owner_there a is in (
        λ t. (a, x.0, x.1, (λ s. both_ways (a == lba) (not-true (a == lba) t) (eq-eqb a lba s)), x.2),
        λ y. ap not (ne_eqb a lba (λ s. y.3 (same_owner y.0 a (y.1, y.2, y.4) x ∙ s))),
      )

-- ---- page by page

-- no such entry stands at the pages before this one
abbrev pub NotBefore : Geometry → Sought → Entries → ℕ → ℕ → Type 0
NotBefore g sought m block page = (a : ℕ) (e : Entry) → get m a ≡ Some e → e.place.block ≡ block → seeks g sought a e ≡ true → e.place.page < page → ⊥

-- ---- a mark in a group

pub none_marked : (g : Geometry) (m : Entries) (mark : Mark) (group : ℕ) → ((i : ℕ) → i < g.p → HasMarkAt m mark (group * g.p + i) → ⊥) → HasMarkIn g m mark group → ⊥
none_marked g m mark group none x =
    let low : x.0 % g.p < g.p = mod_below x.0 g.p (omega (arith, g.in_range.p_low)) in
    none (x.0 % g.p) low (subst (λ a. HasMarkAt m mark a) (sym (own_address g m group x.0 x.1)) x.2)

-- ---- a result that was found, or not

pub some_found : (P : ℕ → Type 0) (o : Option ℕ) (b : Bool) → b ≡ is_some o → IfSome o P → b ≡ true → (a : ℕ) × P a
some_found P None b is some t = absurd (both_ways b is t)
some_found P (Some a) b is some t = (a, some)

pub none_found : (Q : Type 0) (o : Option ℕ) (b : Bool) → b ≡ is_some o → IfNone o Q → b ≡ false → Q
none_found Q None b is none f = none
none_found Q (Some a) b is none f = absurd (both_ways b f is)

pub none_stands : (g : Geometry) (m : Entries) (block : ℕ) (o : Option ℕ) (b : Bool) → is_some o ≡ not b → IfSome o (IsFoundIn g Any m block) → IfNone o (IsNotIn g Any m block) → IsTrue b ↔ StandsNoneIn m block
none_stands g m block None true is some none = (λ t a e at same. none a e at same refl, λ free. refl)
none_stands g m block None false is some none = absurd (both_ways true (sym is) refl)
none_stands g m block (Some a) true is some none = absurd (both_ways true is refl)
none_stands g m block (Some a) false is some none = (λ t. absurd (both_ways false refl t), λ free. absurd (free a some.0 some.1 some.2))
