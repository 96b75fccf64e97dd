-- The entries after a group has moved into an erase block.
use Rattle.std.proofs.Common.{◌≡◌, ℕ, ◌/◌, ◌%◌, true, Option, Some, None, refl, sym, ◌∙◌, ap, ap₂, subst, inl, inr}
use Rattle.std.specs.Option.{option_and_then}
use Rattle.std.specs.FinMap.{get}
use Rattle.std.proofs.lemmas.Bool.{cases_eq}
use Rattle.ft_base.specs.declared.geometry.Geometry.{Geometry}
use Rattle.ft_base.specs.declared.block.Place.{Place}
use Rattle.ft_base.specs.declared.block.Page.{Page}
use Rattle.ft_base.specs.declared.record.Record.{Record}
use Rattle.ft_base.specs.declared.record.Record.TheVariants.{SetGroup}
use Rattle.cache_model.specs.declared.entry.Entry.{Entry}
use Rattle.cache_model.specs.Records.{Entries, after}
use Rattle.cache_model.specs.Stands.{held_at, held_in}
use Rattle.mapping.specs.declared.bits.Choice.TheVariants.{Held, Dirty}
use Rattle.mapping.specs.Bits.{chosen_of}
use Rattle.block_pool.specs.Pool.{PoolValue, IsInPool, role_of}
use Rattle.silent_evict.specs.Candidates.{IsGroupHeld}
use Rattle.merge_engine.specs.declared.parts.Parts.{Parts}
use Rattle.merge_engine.specs.Agreement.{AreOfOne, IsDataBlockOf}
use Rattle.merge_engine.specs.Merges.{OthersStay, move_record, moved}
use Rattle.merge_engine.proofs.MovedLemmas.{in_block, moved_here, moved_none, moved_from, moved_other}

-- the record with the sets that the map gives is the record of the move
module _ (parts : Parts) (group block present dirty : ℕ) (one : AreOfOne parts)
    (present_is : present ≡ chosen_of Held parts.map.geometry parts.map.entries group) (dirty_is : dirty ≡ chosen_of Dirty parts.map.geometry parts.map.entries group) where
  pub change_is : SetGroup group block present dirty ≡ move_record parts.geometry parts.map.entries group block
  change_is = ap₂ (λ p d. SetGroup group block p d) (present_is ∙ ap (λ (g : Geometry). chosen_of Held g parts.map.entries group) one.map) (dirty_is ∙ ap (λ (g : Geometry). chosen_of Dirty g parts.map.entries group) one.map)

  pub moved_entries : (n : Entries) → n ≡ after parts.geometry (SetGroup group block present dirty) parts.map.entries → n ≡ moved parts.geometry parts.map.entries group block
  moved_entries n is = is ∙ ap (λ (r : Record). after parts.geometry r parts.map.entries) change_is

-- a block of the pool apart from this one keeps its role
pub kept_role : (parts : Parts) (pool pool' : PoolValue) (block : ℕ) → AreOfOne parts → pool.geometry ≡ parts.pool.geometry
    → ((b : ℕ) → IsInPool pool.geometry b → (b ≡ block → ⊥) → role_of pool' b ≡ role_of pool b) → (b : ℕ) → IsInPool parts.geometry b → (b ≡ block → ⊥) → role_of pool' b ≡ role_of pool b
kept_role parts pool pool' block one geometry rest b inside other = rest b (subst (λ (g : Geometry). IsInPool g b) (sym (geometry ∙ one.pool)) inside) other

module _ (g : Geometry) (m n : Entries) (group block : ℕ) (is : n ≡ moved g m group block) where
  pub moved_others : OthersStay g group m n
  moved_others a other = ap (λ k. get k a) is ∙ moved_other g m group block a other

  pub moved_was : (a : ℕ) (f : Entry) → get n a ≡ Some f → a / g.p ≡ group → (e : Entry) × (get m a ≡ Some e) × (f ≡ in_block g m group block (a % g.p) e)
  moved_was a f at same = moved_from g m group block a f (sym (ap (λ k. get k a) is) ∙ at) same

  pub moved_mapped : (a : ℕ) (e : Entry) → get n a ≡ Some e → a / g.p ≡ group → e.block_mapped ≡ true
  moved_mapped a e at same = ap (λ (x : Entry). x.block_mapped) (moved_was a e at same).2

  pub moved_left : (b : ℕ) → (b ≡ block → ⊥) → (a : ℕ) (e : Entry) → get n a ≡ Some e → a / g.p ≡ group → e.place.block ≡ b → ⊥
  moved_left b other a e at same here = other (sym here ∙ ap (λ (x : Entry). x.place.block) (moved_was a e at same).2)

  pub moved_there : IsGroupHeld g m group → IsDataBlockOf n block
  moved_there held = (held.0, in_block g m group block (held.0 % g.p) held.1, ap (λ k. get k held.0) is ∙ moved_here g m group block held.0 held.1 held.2 held.3, refl, refl)

  -- if each page of the group has the same contents in the block, the list is unchanged
  pub moved_held : (page : Place → Page) → ((a : ℕ) (e : Entry) → get m a ≡ Some e → a / g.p ≡ group → held_in e.dirty (page e.place) ≡ held_in e.dirty (page (record { block = block; page = a % g.p })))
      → (a : ℕ) → option_and_then (held_at page) (get m a) ≡ option_and_then (held_at page) (get n a)
  moved_held page copied a = elim (cases_eq (a / g.p) group) [
    | inl same ↦ by_entry same (get m a) refl
    | inr other ↦ ap (option_and_then (held_at page)) (sym (moved_others a other))
  ]
    where
      by_entry : a / g.p ≡ group → (o : Option Entry) → get m a ≡ o → option_and_then (held_at page) (get m a) ≡ option_and_then (held_at page) (get n a)
      by_entry same None at = ap (option_and_then (held_at page)) (at ∙ sym (ap (λ k. get k a) is ∙ moved_none g m group block a at same))
      by_entry same (Some e) at =
          ap (option_and_then (held_at page)) at
          ∙ copied a e at same
          ∙ sym (ap (option_and_then (held_at page)) (ap (λ k. get k a) is ∙ moved_here g m group block a e at same))
