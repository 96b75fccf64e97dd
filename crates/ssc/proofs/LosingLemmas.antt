-- The list that a crash would leave after a command: the one that it would have left before, or the list before the step, or the
-- list after it.
use Rattle.std.proofs.Common.{◌≡◌, ◌⊎◌, ℕ, List, [], ◌∷◌, ◌++◌, map, sym, ◌∙◌, ap, inl, inr}
use Rattle.std.proofs.lemmas.List.{map-append}
use Rattle.ft_base.specs.Contents.{Contents}
use Rattle.cache_model.specs.Cache.{Buffered, Vanish, taken_back, undo}
use Rattle.cache_model.specs.CacheList.{CacheList}
use Rattle.cache_model.proofs.UndoLemmas.{undo_own}
use Rattle.ssc.specs.declared.cache.Ssc.{Ssc}
use Rattle.ssc.specs.CacheState.{Holds, HoldsBeside, geometry_of, pending, shaped}
use Rattle.ssc.specs.Commands.{HoldsBuffered, HoldsPending, HoldsWritten, PendsWith}
use Rattle.ssc.proofs.HoldsLemmas.{nothing_waits}

abbrev pub Loses : CacheList → CacheList → CacheList → CacheList → Type 0
Loses lost undone before after = (lost ≡ undone) ⊎ (lost ≡ before) ⊎ (lost ≡ after)

-- the cache holds the list after a step
pub record StepLosing (c : Ssc) (contents : Contents) (before undone after : CacheList) : Type 0 where
  pub holds : Holds c contents after
  pub loses : Loses (undo holds.waiting after) undone before after

-- the same of a write, for which clean groups may have given way
pub record WrittenLosing (c : Ssc) (contents : Contents) (before undone : CacheList) (a : ℕ) (step : CacheList → CacheList) : Type 0 where
  pub left : CacheList
  pub vanish : Vanish (geometry_of c) before a left
  pub losing : StepLosing c contents left undone (step left)

pub committed_losing : (c : Ssc) (contents : Contents) (before undone after : CacheList) → HoldsBeside c contents after [] → StepLosing c contents before undone after
committed_losing c contents before undone after now = record { holds = now.holds; loses = inr (inr (ap (λ (q : List Buffered). undo q after) now.same)) }

-- the step was committed
pub none_losing : (c : Ssc) (contents : Contents) (before undone after : CacheList) → pending c ≡ [] → Holds c contents after → StepLosing c contents before undone after
none_losing c contents before undone after none now = record { holds = now; loses = inr (inr (ap (λ (q : List Buffered). undo q after) (nothing_waits c contents after now none))) }

-- the step waits, and can be taken back
pub pending_losing : (c : Ssc) (contents : Contents) (before after : CacheList) (beside : List Buffered) (own : Buffered) → taken_back own after ≡ before → HoldsPending c contents after beside own → StepLosing c contents before (undo beside before) after
pending_losing c contents before after beside own back now = record { holds = now.holds; loses = by now.pends }
  where
    by : PendsWith beside now.holds.waiting own → Loses (undo now.holds.waiting after) (undo beside before) before after
    by (inl k) = inl (ap (λ (q : List Buffered). undo q after) k ∙ undo_own beside own before after back)
    by (inr (inl k)) = inr (inl (ap (λ (q : List Buffered). undo q after) k ∙ back))
    by (inr (inr k)) = inr (inr (ap (λ (q : List Buffered). undo q after) k))

pub written_none : (c : Ssc) (contents : Contents) (before undone : CacheList) (a : ℕ) (step : CacheList → CacheList) → pending c ≡ [] → HoldsWritten c contents before a step → WrittenLosing c contents before undone a step
written_none c contents before undone a step none x = record { left = x.left; vanish = x.vanish; losing = none_losing c contents x.left undone (step x.left) none x.holds }

pub written_buffered : (c : Ssc) (contents : Contents) (before : CacheList) (beside : List Buffered) (a : ℕ) (step : CacheList → CacheList) (own : CacheList → Buffered) → (x : HoldsBuffered c contents before beside a step own) → taken_back (own x.left) (step x.left) ≡ x.left
    → WrittenLosing c contents before (undo beside before) a step
written_buffered c contents before beside a step own x back = record { left = x.left; vanish = x.vanish; losing = record { holds = x.holds; loses = by x.pends } }
  where
    by : ((x.left ≡ before) × (x.holds.waiting ≡ beside ++ own x.left ∷ [])) ⊎ (x.holds.waiting ≡ own x.left ∷ []) ⊎ (x.holds.waiting ≡ []) → Loses (undo x.holds.waiting (step x.left)) (undo beside before) x.left (step x.left)
    by (inl k) = inl (ap (λ (q : List Buffered). undo q (step x.left)) k.1 ∙ undo_own beside (own x.left) x.left (step x.left) back ∙ ap (undo beside) k.0)
    by (inr (inl k)) = inr (inl (ap (λ (q : List Buffered). undo q (step x.left)) k ∙ back))
    by (inr (inr k)) = inr (inr (ap (λ (q : List Buffered). undo q (step x.left)) k))

-- the changes that wait after a step that waits, by kind and address
pub pends_shapes : (old new : Ssc) (contents contents' : Contents) (s s' : CacheList) (h : Holds old contents s) (now : Holds new contents' s') (own : Buffered) → PendsWith h.waiting now.waiting own → PendsWith (pending old) (pending new) (shaped own)
pends_shapes old new contents contents' s s' h now own (inl k) =
    inl (sym now.shapes ∙ ap (map shaped) k ∙ map-append shaped h.waiting (own ∷ []) ∙ ap (λ (l : List Buffered). l ++ shaped own ∷ []) h.shapes)
pends_shapes old new contents contents' s s' h now own (inr (inl k)) = inr (inl (sym now.shapes ∙ ap (map shaped) k))
pends_shapes old new contents contents' s s' h now own (inr (inr k)) = inr (inr (sym now.shapes ∙ ap (map shaped) k))

pub pends_buffered : (old new : Ssc) (contents contents' : Contents) (s : CacheList) (h : Holds old contents s) (a : ℕ) (step : CacheList → CacheList) (own : Buffered) → HoldsBuffered new contents' s h.waiting a step (λ v. own) → PendsWith (pending old) (pending new) (shaped own)
pends_buffered old new contents contents' s h a step own w = pends_shapes old new contents contents' s (step w.left) h w.holds own (by w.pends)
  where
    by : ((w.left ≡ s) × (w.holds.waiting ≡ h.waiting ++ own ∷ [])) ⊎ (w.holds.waiting ≡ own ∷ []) ⊎ (w.holds.waiting ≡ []) → PendsWith h.waiting w.holds.waiting own
    by (inl k) = inl k.1
    by (inr k) = inr k
