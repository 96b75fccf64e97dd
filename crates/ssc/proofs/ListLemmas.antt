-- The list of a map on the flash, and the list for which flash stands.
use Rattle.std.proofs.Common.{◌≡◌, ℕ, ◌==◌, Bool, true, false, cond, List, [], ◌∷◌, Option, Some, None, Ok, refl, sym, ◌∙◌, ap, nat_cmp}
use Rattle.std.specs.Option.{option_and_then}
use Rattle.std.specs.List.{AllByRecursion}
use Rattle.std.specs.FinMap.{get, empty, insert, find, get-empty, get-entries, entries}
use Rattle.ft_base.specs.declared.geometry.Geometry.{Geometry}
use Rattle.ft_base.specs.declared.block.Place.{Place}
use Rattle.ft_base.specs.declared.block.Page.{Page}
use Rattle.cache_model.specs.declared.entry.Entry.{Entry}
use Rattle.cache_model.specs.Records.{Entries}
use Rattle.cache_model.specs.Loading.{load, is_whole}
use Rattle.cache_model.specs.CacheList.{CacheList, Held}
use Rattle.cache_model.specs.Stands.{FlashStandsFor, held_at}
use Rattle.cache_model.proofs.MapLemmas.{all_entries, eq_key, get_insert}
use Rattle.cache_model.proofs.StandLemmas.{entry_whole, whole_held}
use Rattle.merge_engine.specs.Agreement.{IsListOn}

module _ (page : Place → Page) where
  abbrev with_held : CacheList → ℕ → Option Held → CacheList
  with_held s a None = s
  with_held s a (Some h) = insert s a h

  abbrev list_of : List (ℕ × Entry) → CacheList
  list_of [] = empty
  list_of (e ∷ es) = with_held (list_of es) e.0 (held_at page e.1)

  choice : (b : Bool) (e : Entry) (h : Held) (o : Option Entry) → held_at page e ≡ Some h → cond b (Some h) (option_and_then (held_at page) o) ≡ option_and_then (held_at page) (cond b (Some e) o)
  choice true e h o is = sym is
  choice false e h o is = refl

  get-list_of : (es : List (ℕ × Entry)) → AllByRecursion (λ e. is_whole (page e.1.place) ≡ true) es → (a : ℕ) → get (list_of es) a ≡ option_and_then (held_at page) (find nat_cmp a es)
  get-list_of [] all a = get-empty nat_cmp a
  get-list_of (e ∷ es) all a =
      let h = whole_held page e.1 all.0 in
      ap (λ o. get (with_held (list_of es) e.0 o) a) h.1
      ∙ get_insert (list_of es) e.0 h.0 a
      ∙ ap (λ o. cond (a == e.0) (Some h.0) o) (get-list_of es all.1 a)
      ∙ choice (a == e.0) e.1 h.0 (find nat_cmp a es) h.1
      ∙ ap (λ b. option_and_then (held_at page) (cond b (Some e.1) (find nat_cmp a es))) (sym (eq_key a e.0))

  -- a map whose places are whole is a list on the flash
  pub list_some : (m : Entries) → ((a : ℕ) (e : Entry) → get m a ≡ Some e → is_whole (page e.place) ≡ true) → (s : CacheList) × IsListOn page m s
  list_some m whole = (list_of (entries m), λ a. get-list_of (entries m) (all_entries m (λ a e. is_whole (page e.place) ≡ true) whole) a ∙ ap (option_and_then (held_at page)) (sym (get-entries m a)))

  -- flash that is loaded stands for a list
  pub stands_some : (g : Geometry) (m : Entries) → load g page ≡ Ok m → (s : CacheList) × FlashStandsFor g page s
  stands_some g m loads = let list = list_some m (entry_whole g page m loads) in (list.0, record { loaded = m; loads = loads; held = list.1 })
