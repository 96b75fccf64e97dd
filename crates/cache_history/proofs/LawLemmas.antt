-- The block at an address, by the events since the one that decides it.
use Rattle.std.proofs.Common.{◌≡◌, ◌⊎◌, ℕ, ◌==◌, ◌&&◌, Bool, true, false, cond, List, [], ◌∷◌, ◌++◌, Option, Some, None, refl, sym, ◌∙◌, ap, subst, inl, inr, append-nil}
use Rattle.std.proofs.lemmas.Bool.{cases_Bool, and_parts, and_from, or_parts, false≢true}
use Rattle.std.specs.FinMap.{get}
use Rattle.std.specs.List.{list_any}
use Rattle.ft_base.specs.declared.block.Block.{Block}
use Rattle.cache_model.specs.Cache.{written_block}
use Rattle.cache_model.specs.CacheList.{CacheList, Held}
use Rattle.cache_model.proofs.CountLemmas.{same_number}
use Rattle.cache_history.specs.declared.kind.Kind.{Kind}
use Rattle.cache_history.specs.declared.kind.Kind.TheVariants.{WriteDirty, WriteLater, WriteClean, Evict, Clean, Commit, Checkpoint}
use Rattle.cache_history.specs.History.{Given, given, CacheEvent, Answered, Refused, Crashed, NoneIs, IsNewest, names, concerns, is_write, is_write_for_good, is_change, may_undirty}
use Rattle.cache_history.proofs.StepLemmas.{IsDirty, step_at, step_none, step_same, step_dirty, step_newest, step_older}
use Rattle.cache_history.proofs.GoneLemmas.{IsClean}
use Rattle.cache_history.proofs.MightLemmas.{Lags, IsNone, Might, From, Stepped, Kept, GaveWay}

-- a fact that holds of no block that is held clean. If it holds after the first events, and each later event that isn't
-- such a command keeps it, it holds after all of them
module _ (start : Option Held → Type 0) (kinds : Kind → Bool) (a : ℕ) (P : Option Held → Type 0) (first : List CacheEvent)
    (own : (o : Option Held) → Might start a first o → P o)
    (never : (o : Option Held) → IsClean o → P o → ⊥)
    (kept : (here : Bool) (kind : Kind) (lba : ℕ) (block : Block) (o : Option Held) → kinds kind && here ≡ false → P o → P (step_at here kind lba block o)) where
  after : (answered : Bool) (y : Given) (p o : Option Held) → names kinds a y ≡ false → P p → From answered (a == y.address) y.kind y.address y.block p o → P o
  after answered y p o f before (Stepped is) = subst P (sym is) (kept (a == y.address) y.kind y.address y.block p f before)
  after answered y p o f before (Kept is lag) = subst P (sym is) before
  after answered y p o f before (GaveWay away clean is) = absurd (never p clean before)

  pub since : (later : List CacheEvent) (o : Option Held) → Might start a (later ++ first) o → NoneIs kinds a later → P o
  since [] o m none = own o m
  since (Answered y ∷ es) o m none = let f = or_parts (names kinds a y) (list_any (concerns kinds a) es) none in after true y m.0 o f.0 (since es m.0 m.1 f.1) m.2
  since (Refused y ∷ es) o m none = let f = or_parts (names kinds a y) (list_any (concerns kinds a) es) none in after false y m.0 o f.0 (since es m.0 m.1 f.1) m.2
  since (Crashed ∷ es) o m none = since es o m none

clean_some : (o : Option Held) → IsClean o → o ≡ None → ⊥
clean_some o clean is = let both : None ≡ Some clean.0 = sym is ∙ clean.1 in cc

clean_not_dirty : (o : Option Held) → IsClean o → IsDirty o → ⊥
clean_not_dirty o clean dirty =
    let both : Some clean.0 ≡ Some dirty.0 = sym clean.1 ∙ dirty.1 in
    let same : clean.0 ≡ dirty.0 = cc in
    false≢true (sym clean.2 ∙ ap (λ (h : Held). h.dirty) same ∙ dirty.2)

none_kept : (here : Bool) (kind : Kind) (lba : ℕ) (block : Block) (o : Option Held) → is_write kind && here ≡ false → o ≡ None → step_at here kind lba block o ≡ None
none_kept here kind lba block o f is = ap (step_at here kind lba block) is ∙ step_none here kind lba block f

evicted_own : (a : ℕ) (b : Block) (before : List CacheEvent) (o : Option Held) → Might IsNone a (Answered (given Evict a b) ∷ before) o → o ≡ None
evicted_own a b before o m = by m.2
  where
    by : From true (a == a) Evict a b m.0 o → o ≡ None
    by (Stepped is) = is ∙ ap (λ t. cond t None m.0) (same_number a)
    by (Kept is lag) = lag refl (same_number a)
    by (GaveWay away clean is) = is

pub evicted_none : (a : ℕ) (b : Block) (later before : List CacheEvent) (o : Option Held) → Might IsNone a (later ++ Answered (given Evict a b) ∷ before) o → NoneIs is_write a later → o ≡ None
evicted_none a b later before = since IsNone is_write a (λ o. o ≡ None) (Answered (given Evict a b) ∷ before) (evicted_own a b before) clean_some none_kept later

-- beginning when the address was absent
pub still_none : (a : ℕ) (later : List CacheEvent) (o : Option Held) → Might IsNone a later o → NoneIs is_write a later → o ≡ None
still_none a later o m = since IsNone is_write a (λ o. o ≡ None) [] (λ o is. is) clean_some none_kept later o (subst (λ (es : List CacheEvent). Might IsNone a es o) (sym (append-nil later)) m)

written_own : (a : ℕ) (b : Block) (before : List CacheEvent) (o : Option Held) → Might IsNone a (Answered (given WriteDirty a b) ∷ before) o → o ≡ Some (written_block a b true)
written_own a b before o m = by m.2
  where
    by : From true (a == a) WriteDirty a b m.0 o → o ≡ Some (written_block a b true)
    by (Stepped is) = is ∙ ap (λ t. cond t (Some (written_block a b true)) m.0) (same_number a)
    by (Kept is lag) = absurd (lag refl (same_number a))
    by (GaveWay away clean is) = absurd (away refl (same_number a))

pub dirty_some : (a : ℕ) (b : Block) (later before : List CacheEvent) (o : Option Held) → Might IsNone a (later ++ Answered (given WriteDirty a b) ∷ before) o → NoneIs is_change a later → o ≡ Some (written_block a b true)
dirty_some a b later before =
    since IsNone is_change a (λ o. o ≡ Some (written_block a b true)) (Answered (given WriteDirty a b) ∷ before) (written_own a b before) (λ o clean is. clean_not_dirty o clean (written_block a b true, is, refl))
    (λ here kind lba block o f is. step_same here kind lba block o f ∙ is) later

pub dirty_still : (a : ℕ) (b : Block) (later before : List CacheEvent) (o : Option Held) → Might IsNone a (later ++ Answered (given WriteDirty a b) ∷ before) o → NoneIs may_undirty a later → IsDirty o
dirty_still a b later before =
    since IsNone may_undirty a IsDirty (Answered (given WriteDirty a b) ∷ before) (λ o m. (written_block a b true, written_own a b before o m, refl)) clean_not_dirty
    step_dirty later

-- beginning when this was held, dirty
pub held_still : (a : ℕ) (h : Held) → h.dirty ≡ true → (later : List CacheEvent) (o : Option Held) → Might (λ p. p ≡ Some h) a later o → NoneIs is_change a later → o ≡ Some h
held_still a h dirty later o m =
    since (λ p. p ≡ Some h) is_change a (λ p. p ≡ Some h) [] (λ p is. is) (λ p clean is. clean_not_dirty p clean (h, is, dirty))
    (λ here kind lba block p f is. step_same here kind lba block p f ∙ is) later o (subst (λ (es : List CacheEvent). Might (λ p. p ≡ Some h) a es o) (sym (append-nil later)) m)

-- beginning when something was held, dirty
pub dirty_goes_on : (a : ℕ) (later : List CacheEvent) (o : Option Held) → Might IsDirty a later o → NoneIs may_undirty a later → IsDirty o
dirty_goes_on a later o m =
    since IsDirty may_undirty a IsDirty [] (λ p d. d) clean_not_dirty step_dirty later o (subst (λ (es : List CacheEvent). Might IsDirty a es o) (sym (append-nil later)) m)

-- while the flash lags behind a write that can't be taken back, its address isn't held
lag_none : (kind : Kind) (o : Option Held) (h : Held) → is_write_for_good kind ≡ true → Lags kind o → o ≡ Some h → ⊥
lag_none WriteDirty o h t lag is = lag
lag_none WriteLater o h t lag is = cc
lag_none WriteClean o h t lag is = let both : None ≡ Some h = sym lag ∙ is in cc
lag_none Evict o h t lag is = cc
lag_none Clean o h t lag is = cc
lag_none Commit o h t lag is = cc
lag_none Checkpoint o h t lag is = cc

-- a write that can't be taken back is a write
good_write : (kind : Kind) → is_write_for_good kind ≡ true → is_write kind ≡ true
good_write WriteDirty t = refl
good_write WriteLater t = refl
good_write WriteClean t = refl
good_write Evict t = absurd (cc)
good_write Clean t = absurd (cc)
good_write Commit t = absurd (cc)
good_write Checkpoint t = absurd (cc)

-- the block that this list held
module _ (start : CacheList) (a : ℕ) where
  abbrev Was : Option Held → Type 0
  Was o = o ≡ get start a

  older : (es : List CacheEvent) → ((o : Option Held) (h : Held) → Might Was a es o → o ≡ Some h → IsNewest start a h.block es) → (y : Given) (p : Option Held) (h : Held) → Might Was a es p → names is_write a y ≡ false → step_at (a == y.address) y.kind y.address y.block p ≡ Some h → IsNewest start a h.block es
  older es rest y p h m f is =
      let k = step_older (a == y.address) y.kind y.address y.block p h f is in
      subst (λ (b : Block). IsNewest start a b es) k.2 (rest p k.0 m k.1)

  module _ (y : Given) (es : List CacheEvent) (p o : Option Held) (h : Held) (is : o ≡ Some h) (rest : (o : Option Held) (h : Held) → Might Was a es o → o ≡ Some h → IsNewest start a h.block es) (m : Might Was a es p) where
    not_none : o ≡ None → ⊥
    not_none none = let both : None ≡ Some h = sym none ∙ is in cc

    newest_other : (answered : Bool) → names is_write a y ≡ false → From answered (a == y.address) y.kind y.address y.block p o → IsNewest start a h.block es
    newest_other answered f (Stepped s) = older es rest y p h m f (sym s ∙ is)
    newest_other answered f (Kept s lag) = rest p h m (sym s ∙ is)
    newest_other answered f (GaveWay away clean none) = absurd (not_none none)

    newest_good : names is_write_for_good a y ≡ true → From true (a == y.address) y.kind y.address y.block p o → h.block ≡ y.block
    newest_good t (Stepped s) =
        let parts = and_parts (is_write_for_good y.kind) (a == y.address) t in
        step_newest (a == y.address) y.kind y.address y.block p h (and_from _ _ (good_write y.kind parts.0) parts.1) (sym s ∙ is)
    newest_good t (Kept s lag) = let parts = and_parts (is_write_for_good y.kind) (a == y.address) t in absurd (lag_none y.kind o h parts.0 (lag refl parts.1) is)
    newest_good t (GaveWay away clean none) = absurd (not_none none)

    -- it is the write's own block, or the block that was there
    newest_either : (answered : Bool) → names is_write a y ≡ true → From answered (a == y.address) y.kind y.address y.block p o → (h.block ≡ y.block) ⊎ IsNewest start a h.block es
    newest_either answered t (Stepped s) = inl (step_newest (a == y.address) y.kind y.address y.block p h t (sym s ∙ is))
    newest_either answered t (Kept s lag) = inr (rest p h m (sym s ∙ is))
    newest_either answered t (GaveWay away clean none) = absurd (not_none none)

    newest_answered : From true (a == y.address) y.kind y.address y.block p o → IsNewest start a h.block (Answered y ∷ es)
    newest_answered from = elim (cases_Bool (names is_write_for_good a y)) [
      | inl t ↦ let parts = and_parts (is_write_for_good y.kind) (a == y.address) t in inl (and_from _ _ (good_write y.kind parts.0) parts.1, newest_good t from)
      | inr f ↦ elim (cases_Bool (names is_write a y)) [
        | inl t ↦ elim (newest_either true t from) [ inl own ↦ inl (t, own) | inr was ↦ inr (f, was) ]
        | inr n ↦ inr (f, newest_other true n from)
      ]
    ]

    newest_refused : From false (a == y.address) y.kind y.address y.block p o → IsNewest start a h.block (Refused y ∷ es)
    newest_refused from = elim (cases_Bool (names is_write a y)) [
      | inl t ↦ elim (newest_either false t from) [ inl own ↦ inl (t, own) | inr was ↦ inr was ]
      | inr n ↦ inr (newest_other false n from)
    ]

  pub newest : (es : List CacheEvent) (o : Option Held) (h : Held) → Might Was a es o → o ≡ Some h → IsNewest start a h.block es
  newest [] o h m is = (h, sym m ∙ is, refl)
  newest (Answered y ∷ es) o h m is = newest_answered y es m.0 o h is (newest es) m.1 m.2
  newest (Refused y ∷ es) o h m is = newest_refused y es m.0 o h is (newest es) m.1 m.2
  newest (Crashed ∷ es) o h m is = newest es o h m is
