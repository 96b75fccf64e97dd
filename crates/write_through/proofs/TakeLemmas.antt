-- An address that is taken out of the cache of a volume that writes through.
use Rattle.std.proofs.Common.{◌≡◌, ℕ, ◌==◌, Bool, true, false, cond, [], Option, Some, None, inl, inr, refl, sym, ◌∙◌, ap, subst, eqb-true, eq-eqb}
use Rattle.std.specs.FinMap.{get}
use Rattle.std.specs.Option.{is_some}
use Rattle.std.proofs.lemmas.Bool.{cases_Bool, false≢true}
use Rattle.ft_base.specs.declared.block.Place.{Place}
use Rattle.ft_base.specs.declared.block.Page.{Page}
use Rattle.ft_base.specs.declared.geometry.Geometry.{Geometry}
use Rattle.ft_base.specs.declared.told.Mode.{Mode}
use Rattle.ft_base.specs.declared.told.Mode.TheVariants.{Through}
use Rattle.ft_base.specs.Contents.{Contents, Values}
use Rattle.ft_volume.specs.Opening.{Suits}
use Rattle.cache_model.specs.Cache.{evicted, undo}
use Rattle.cache_model.specs.CacheList.{Agrees, CacheList, Held, held_or}
use Rattle.cache_model.specs.Stands.{FlashStandsFor}
use Rattle.cache_model.proofs.CountLemmas.{taken}
use Rattle.cache_model.proofs.MapLemmas.{get_remove}
use Rattle.ssc.specs.declared.cache.Ssc.{Ssc}
use Rattle.ssc.specs.CacheState.{Holds, entries_of, geometry_of, pending}
use Rattle.ssc.specs.Commands.{IsHeldIn, FlashStandsForOne, AsUndone, AsBefore, AsAfter}
use Rattle.cached_disk.specs.declared.disk.CachedDisk.{CachedDisk}
use Rattle.cached_disk.specs.Kept.{IsDirtyIn, IsHeld, MayUndo, told_of}
use Rattle.cached_disk.proofs.AddressLemmas.{holds_held}
use Rattle.cached_disk.proofs.HeldLemmas.{held_agrees, suits_less}
use Rattle.cached_disk.proofs.ReadLemmas.{IsShown, ShowsSame, commit_shows, may_none, shown_by}
use Rattle.cached_disk.proofs.StepLemmas.{IsSameOver, not_dirty_beneath, over_same}

module _ (s : CacheList) (lba : ℕ) where
  -- a block that is left was there
  evicted_was : (a : ℕ) (h : Held) → get (evicted lba s) a ≡ Some h → get s a ≡ Some h
  evicted_was a h at = taken (a == lba) (get s a) h (sym (get_remove s lba a) ∙ at)

  -- a clean block gives way to the disk's own
  evicted_same : (disk : ℕ → Values) → Agrees s disk → (IsDirtyIn s lba → ⊥) → IsSameOver disk s (evicted lba s)
  evicted_same disk agrees none a b has = ap (λ (o : Option Held). held_or o b) (get_remove s lba a) ∙ elim (cases_Bool (a == lba)) [
    | inl t ↦ ap (λ c. held_or (cond c None (get s a)) b) t ∙ not_dirty_beneath disk s agrees a (λ dirty. none (subst (IsDirtyIn s) (eqb-true a lba t) dirty)) b has (get s a) refl
    | inr f ↦ ap (λ c. held_or (cond c None (get s a)) b) f
  ]

-- ---- the addresses that are held after that

module _ (old new : Ssc) (before after : Contents) (s : CacheList) (lba : ℕ) (holds_now : Holds new after (evicted lba s)) where
  pub evicted_held : Holds old before s → (a : ℕ) → is_some (get (entries_of new) a) ≡ cond (a == lba) false (is_some (get (entries_of old) a))
  evicted_held holds a =
      holds_held new after (evicted lba s) holds_now a
      ∙ ap is_some (get_remove s lba a)
      ∙ by (a == lba) (get s a)
      ∙ ap (λ o. cond (a == lba) false o) (sym (holds_held old before s holds a))
    where
      by : (t : Bool) (o : Option Held) → is_some (cond t None o) ≡ cond t false (is_some o)
      by true o = refl
      by false o = refl

  pub evicted_absent : is_some (get (entries_of new) lba) ≡ false
  evicted_absent = holds_held new after (evicted lba s) holds_now lba ∙ ap is_some (get_remove s lba lba ∙ ap (λ t. cond t None (get s lba)) (eq-eqb lba lba refl))

-- ---- the plain disk is the same

module _ (v : CachedDisk) (contents : Contents) (s : CacheList) (own : geometry_of v.cache ≡ v.options.geometry) (is : IsHeld v contents s) (through : v.mode ≡ Through) where
  all_clean : Suits Through s
  all_clean = subst (λ (mode : Mode). Suits mode s) through is.suits

  none_dirty : (a : ℕ) → IsDirtyIn s a → ⊥
  none_dirty a dirty = false≢true (sym (all_clean a dirty.0 dirty.1) ∙ dirty.2)

  module _ (lba : ℕ) where
    pub evicted_shows : ShowsSame v contents s (evicted lba s)
    evicted_shows = record {
      agrees = λ a h b at clean has. held_agrees v contents s is a h b (evicted_was s lba a h at) clean has;
      suits = suits_less v.mode s (evicted lba s) is.suits (λ a h at. inr (evicted_was s lba a h at));
      over = λ d over. over_same v.options.geometry contents.disk s (evicted lba s) d (evicted_same s lba contents.disk (held_agrees v contents s is) (none_dirty lba)) over;
    }

    pub evicted_keeps : (a : ℕ) → IsDirtyIn s a → IsDirtyIn (evicted lba s) a
    evicted_keeps a dirty = absurd (none_dirty a dirty)

    -- whenever it was cut
    pub evict_shows : (page : Place → Page) → FlashStandsForOne (geometry_of v.cache) page (undo is.holds.waiting s) s (evicted lba s) → IsShown v contents (undo is.holds.waiting s) s page
    evict_shows page (AsUndone x) = commit_shows v contents s own is page (AsUndone x)
    evict_shows page (AsBefore x) = commit_shows v contents s own is page (AsBefore x)
    evict_shows page (AsAfter x) = shown_by v contents (undo is.holds.waiting s) s page (evicted lba s) (subst (λ (g : Geometry). FlashStandsFor g page (evicted lba s)) own x) evicted_shows

    -- nothing is buffered after that, or the old changes are
    pub evicted_may : (c : Ssc) → (IsHeldIn s lba → pending c ≡ []) → (get s lba ≡ None → c ≡ v.cache) → MayUndo (told_of v) (pending c)
    evicted_may c nothing same = by (get s lba) refl
      where
        by : (o : Option Held) → get s lba ≡ o → MayUndo (told_of v) (pending c)
        by None at = subst (λ (k : Ssc). MayUndo (told_of v) (pending k)) (sym (same at)) is.may_undo
        by (Some h) at = may_none (told_of v) (pending c) (nothing (h, at))
