-- The page of an address of a group whose data block is known.
use Rattle.std.proofs.Common.{◌≡◌, ℕ, ◌+◌, ◌*◌, ◌==◌, ◌<◌, ◌&&◌, Bool, true, false, cond, Option, Some, None, IfSome, IfNone, lt-ltb, refl, sym, ◌∙◌, ap, subst}
use Rattle.std.specs.Option.{option_map}
use Rattle.std.specs.FinMap.{get}
use Rattle.std.proofs.lemmas.Bool.{both_ways}
use Rattle.std.proofs.lemmas.Nat.{div-mul-add, mod-mul-add}
use Rattle.std.proofs.lemmas.Nat.Bits.{bit_at-zero}
use Rattle.ft_base.specs.declared.geometry.Geometry.{Geometry}
use Rattle.ft_base.specs.declared.block.Place.{Place}
use Rattle.cache_model.specs.declared.entry.Entry.{Entry}
use Rattle.cache_model.specs.Records.{Entries}
use Rattle.cache_model.specs.Entries.{IsMap}
use Rattle.block_map.specs.PageSets.{BlockPages, has_page}
use Rattle.mapping.specs.declared.bits.Choice.TheVariants.{Mapped}
use Rattle.mapping.specs.Bits.{is_chosen, chosen_of, IsDataBlock, IsBlockOf}
use Rattle.mapping.specs.Counts.{Owns, place_if_logged}
use Rattle.mapping.proofs.BitsLemmas.{bit_of_set}

-- an entry that stands in a data block is there
mapped_entry : (o : Option Entry) → is_chosen Mapped o ≡ true → (e : Entry) × (o ≡ Some e) × (e.block_mapped ≡ true)
mapped_entry None t = absurd (let f : is_chosen Mapped None ≡ false = refl in both_ways (is_chosen Mapped None) f t)
mapped_entry (Some e) t = (e, refl, t)

-- the place of an entry that stands in no data block is its place in a log block
logged_page : (o : Option Entry) → is_chosen Mapped o ≡ false → option_map (λ (x : Place × Bool). x.0) (place_if_logged o) ≡ option_map (λ (e : Entry). e.place) o
logged_page None f = refl
logged_page (Some e) f = ap (λ b. option_map (λ (x : Place × Bool). x.0) (cond b None (Some (e.place, e.dirty)))) f

module _ (g : Geometry) (m : Entries) (group page : ℕ) (low : page < g.p) where
  -- the data block has the page exactly when the entry stands there
  page_is : has_page (chosen_of Mapped g m group) page ≡ is_chosen Mapped (get m (group * g.p + page))
  page_is = bit_of_set (λ i. is_chosen Mapped (get m (group * g.p + i))) g.p page ∙ ap (λ b. b && is_chosen Mapped (get m (group * g.p + page))) (lt-ltb page g.p low)

  of_block : (own : Option BlockPages) (b : BlockPages) → IsBlockOf g m group own → own ≡ Some b → IsDataBlock g m group b
  of_block own b known is = subst (λ (o : Option BlockPages). IfSome o (IsDataBlock g m group)) is known.some

  -- no entry of the address stands in a data block that lacks its page
  pub lacked_by_block : (own : Option BlockPages) (b : BlockPages) → IsBlockOf g m group own → own ≡ Some b → has_page b.present page ≡ false → is_chosen Mapped (get m (group * g.p + page)) ≡ false
  lacked_by_block own b known is lacks = sym page_is ∙ ap (λ n. has_page n page) (sym (of_block own b known is).present) ∙ lacks

  pub lacked_by_none : (own : Option BlockPages) → IsBlockOf g m group own → own ≡ None → is_chosen Mapped (get m (group * g.p + page)) ≡ false
  lacked_by_none own known is =
      let empty = subst (λ (o : Option BlockPages). IfNone o (chosen_of Mapped g m group ≡ 0)) is known.none in
      sym page_is ∙ ap (λ n. has_page n page) empty ∙ ap (λ n. n == 1) (bit_at-zero page)

  -- an address that the data block has stands at its own page
  pub place_in_block : (own : Option BlockPages) (b : BlockPages) → IsMap g m → IsBlockOf g m group own → own ≡ Some b → has_page b.present page ≡ true
      → Some (record { block = b.block; page = page }) ≡ option_map (λ (e : Entry). e.place) (get m (group * g.p + page))
  place_in_block own b is_map known is has =
      let a = group * g.p + page in
      let of = of_block own b known is in
      let x = mapped_entry (get m a) (sym page_is ∙ ap (λ n. has_page n page) (sym of.present) ∙ has) in
      let block : x.0.place.block ≡ b.block = of.stands a x.0 x.1 x.2 (div-mul-add group g.p page low) in
      let own_page : x.0.place.page ≡ page = (is_map.own_block a a x.0 x.0 x.1 x.1 x.2 refl).page ∙ mod-mul-add group g.p page low in
      (λ t. Some (record { block = sym block t; page = sym own_page t })) ∙ sym (ap (option_map (λ (e : Entry). e.place)) x.1)

  -- any other address stands in a log block, or isn't held
  pub place_logged : (r : Option (Place × Bool)) → r ≡ place_if_logged (get m (group * g.p + page)) → is_chosen Mapped (get m (group * g.p + page)) ≡ false → option_map (λ (x : Place × Bool). x.0) r ≡ option_map (λ (e : Entry). e.place) (get m (group * g.p + page))
  place_logged r is lacks = ap (option_map (λ (x : Place × Bool). x.0)) is ∙ logged_page (get m (group * g.p + page)) lacks

-- ---- the place that was found

-- an address stands there
pub owned_place : (m : Entries) (a : ℕ) (o : Option Entry) (from : Option Place) → get m a ≡ o → from ≡ option_map (λ (e : Entry). e.place) o → IfSome from (λ at. (b : ℕ) × Owns m at b)
owned_place m a None from there is = subst (λ (x : Option Place). IfSome x (λ at. (b : ℕ) × Owns m at b)) (sym is) tt
owned_place m a (Some e) from there is = subst (λ (x : Option Place). IfSome x (λ at. (b : ℕ) × Owns m at b)) (sym is) (a, (e, there, refl))

pub owned_at : (m : Entries) (from : Option Place) (at : Place) → from ≡ Some at → IfSome from (λ p. (a : ℕ) × Owns m p a) → (a : ℕ) × Owns m at a
owned_at m from at is owned = subst (λ (x : Option Place). IfSome x (λ p. (a : ℕ) × Owns m p a)) is owned

module _ (o : Option Entry) (from : Option Place) (is : from ≡ option_map (λ (e : Entry). e.place) o) where
  pub at_entry : (P : Place → Type 0) → IfSome from P → (e : Entry) → o ≡ Some e → P e.place
  at_entry P found e there = subst (λ (x : Option Place). IfSome x P) (is ∙ ap (option_map (λ (y : Entry). y.place)) there) found

  pub at_none : (P : Type 0) → IfNone from P → o ≡ None → P
  at_none P found none = subst (λ (x : Option Place). IfNone x P) (is ∙ ap (option_map (λ (y : Entry). y.place)) none) found
