-- The two lists that a command leaves.
use Rattle.std.proofs.Common.{◌≡◌, ◌⊎◌, ℕ, true, false, List, [], ◌∷◌, ◌++◌, Option, Some, None, Result, Ok, Err, OnOk, IfOk, refl, sym, ◌∙◌, ap, subst, inl, inr}
use Rattle.std.specs.FinMap.{get}
use Rattle.std.proofs.lemmas.Bool.{cases_Bool, false≢true}
use Rattle.ft_base.specs.declared.block.Block.{Block}
use Rattle.ft_base.specs.declared.block.Place.{Place}
use Rattle.ft_base.specs.declared.block.Page.{Page}
use Rattle.ft_base.specs.declared.geometry.Geometry.{Geometry}
use Rattle.ft_base.specs.Contents.{Contents, Image, Now}
use Rattle.cache_model.specs.Cache.{Buffered, Inserted, Cleaned, Written, Vanish, taken_back, undo, written_dirty, written_clean, evicted, made_clean, marked, IsFull}
use Rattle.cache_model.specs.CacheList.{Held, held, CacheList}
use Rattle.cache_model.specs.Stands.{FlashStandsFor}
use Rattle.cache_model.proofs.UndoLemmas.{undo_own, back_inserted, back_cleaned, back_written}
use Rattle.ssc.specs.declared.error.SscError.{SscError}
use Rattle.ssc.specs.declared.error.SscError.TheVariants as error
use Rattle.ssc.specs.Errors.{stops}
use Rattle.ssc.specs.declared.cache.Ssc.{Ssc}
use Rattle.ssc.specs.CacheState.{Holds, HoldsBeside, IsUp, geometry_of, pending}
use Rattle.ssc.specs.Kept.{IsJustOpened}
use Rattle.ssc.specs.Commands.{FlashStandsForOne, ImagesOf, FlashStandsForWrite, ImagesOfWrite, HoldsBuffered, HoldsPending, HoldsWritten, FullExactly, PendsWith, IsDirtyIn, IsHeldIn}
use Rattle.ssc.specs.Commands.FlashStandsForOne.{AsUndone, AsBefore, AsAfter}
use Rattle.ssc.specs.Commands.FlashStandsForWrite.{AsUndone, AsLeft, AsWritten}
use Rattle.ssc.proofs.CommandLemmas.{evicted_absent}
use Rattle.cache_history.specs.declared.kind.Kind.{Kind}
use Rattle.cache_history.specs.declared.kind.Kind.TheVariants as kinds
use Rattle.cache_history.specs.History.{Given, given, TwoLists, both_alike, stepped, LeftBy, IsAtOnce, AfterAnswer, AfterRefusal}
use Rattle.cache_history.specs.Moment.{IsMoment}
use Rattle.ssc.proofs.HoldsLemmas.{nothing_waits}
use Rattle.ssc.proofs.CommandLemmas.{cleaned_clean}
use Rattle.cache_history.proofs.GoneLemmas.{vanished_none, left_whole}

-- ---- an answer

-- the list after a command that answered `Ok`, from the list that was held
pub record MadeOf (c d : Ssc) (contents' : Contents) (x : Given) (s undone : CacheList) : Type 0 where
  pub left : CacheList
  pub left_by : LeftBy (geometry_of c) x s left
  pub holds : Holds d contents' (stepped x left)
  pub durable : ((left ≡ s) × (undo holds.waiting (stepped x left) ≡ undone)) ⊎ (undo holds.waiting (stepped x left) ≡ left) ⊎ (undo holds.waiting (stepped x left) ≡ stepped x left)
  pub at_once : IsAtOnce x.kind x.address s → undo holds.waiting (stepped x left) ≡ stepped x left

abbrev pub Made : Ssc → Ssc → Contents → Contents → Given → Type 0
Made c d contents contents' x = (s : CacheList) (h : Holds c contents s) → MadeOf c d contents' x s (undo h.waiting s)

abbrev pub IsAnswer : Ssc → Ssc → Contents → Contents → Given → Type 0
IsAnswer c d contents contents' x = (l : TwoLists) → IsMoment c contents l → (m : TwoLists) × AfterAnswer (geometry_of c) x l m × IsMoment d contents' m

made_answer : (c d : Ssc) (contents contents' : Contents) (x : Given) → Made c d contents contents' x → IsAnswer c d contents contents' x
made_answer c d contents contents' x made l moment = let own = made l.now moment.holds in (
  record { now = stepped x own.left; durable = undo own.holds.waiting (stepped x own.left) },
  record {
    left = own.left;
    left_by = own.left_by;
    now = refl;
    durable = elim own.durable [
      | inl k ↦ inl (k.0, k.1 ∙ sym moment.durable)
      | inr e ↦ inr e
    ];
    at_once = own.at_once;
  },
  record { holds = own.holds; durable = refl },
)

-- if nothing is buffered, a crash leaves all
none_undone : (d : Ssc) (contents : Contents) (s : CacheList) (h : Holds d contents s) → pending d ≡ [] → undo h.waiting s ≡ s
none_undone d contents s h none = ap (λ (q : List Buffered). undo q s) (nothing_waits d contents s h none)

-- a step that waits, and can be taken back
loses_pending : (waiting beside : List Buffered) (own : Buffered) (before after : CacheList) → taken_back own after ≡ before → PendsWith beside waiting own
    → (undo waiting after ≡ undo beside before) ⊎ (undo waiting after ≡ before) ⊎ (undo waiting after ≡ after)
loses_pending waiting beside own before after back (inl k) = inl (ap (λ (q : List Buffered). undo q after) k ∙ undo_own beside own before after back)
loses_pending waiting beside own before after back (inr (inl k)) = inr (inl (ap (λ (q : List Buffered). undo q after) k ∙ back))
loses_pending waiting beside own before after back (inr (inr k)) = inr (inr (ap (λ (q : List Buffered). undo q after) k))

-- an address that is held dirty is held, and isn't held clean
not_clean : (s : CacheList) (a : ℕ) → IsDirtyIn s a → (k : Held) → get s a ≡ Some k → k.dirty ≡ false → ⊥
not_clean s a dirty k at clean =
    let both : Some k ≡ Some dirty.0 = sym at ∙ dirty.1 in
    let same : k ≡ dirty.0 = cc in
    false≢true (sym clean ∙ ap (λ (x : Held). x.dirty) same ∙ dirty.2)

not_none : (s : CacheList) (a : ℕ) → IsDirtyIn s a → get s a ≡ None → ⊥
not_none s a dirty none = let both : None ≡ Some dirty.0 = sym none ∙ dirty.1 in cc

not_held : (s : CacheList) (a : ℕ) → get s a ≡ None → IsHeldIn s a → ⊥
not_held s a none held = let both : None ≡ Some held.0 = sym none ∙ held.1 in cc

-- a command that did nothing, because its step changes nothing
same_made : (c : Ssc) (contents : Contents) (x : Given) (s : CacheList) (h : Holds c contents s) → stepped x s ≡ s → LeftBy (geometry_of c) x s s → (IsAtOnce x.kind x.address s → ⊥) → MadeOf c c contents x s (undo h.waiting s)
same_made c contents x s h same left never =
    let k : HoldsBeside c contents (stepped x s) h.waiting = subst (λ (t : CacheList). HoldsBeside c contents t h.waiting) (sym same) (record { holds = h; same = refl }) in
    record {
      left = s;
      left_by = left;
      holds = k.holds;
      durable = inl (refl, ap (λ (q : List Buffered). undo q (stepped x s)) k.same ∙ ap (undo h.waiting) same);
      at_once = λ t. absurd (never t);
    }

module _ (c d : Ssc) (contents contents' : Contents) (kind : Kind) (lba : ℕ) (block : Block) where
  -- a command of this kind, if it is the kind that was given
  of_kind : (own : Kind) → kind ≡ own → Made c d contents contents' (given own lba block) → IsAnswer c d contents contents' (given kind lba block)
  of_kind own is made = subst (λ k. IsAnswer c d contents contents' (given k lba block)) (sym is) (made_answer c d contents contents' (given own lba block) made)

  vanished_of : (s v : CacheList) → geometry_of d ≡ geometry_of c → Vanish (geometry_of d) s lba v → Vanish (geometry_of c) s lba v
  vanished_of s v same van = subst (λ (g : Geometry). Vanish g s lba v) same van

  still_made : (own : Kind) (s : CacheList) (h : Holds c contents s) → stepped (given own lba block) s ≡ s → LeftBy (geometry_of c) (given own lba block) s s → (IsAtOnce own lba s → ⊥) → d ≡ c → contents' ≡ contents
      → MadeOf c d contents' (given own lba block) s (undo h.waiting s)
  still_made own s h same left never cache flash =
      subst (λ (k : Ssc). MadeOf c k contents' (given own lba block) s (undo h.waiting s)) (sym cache)
      (subst (λ (t : Contents). MadeOf c c t (given own lba block) s (undo h.waiting s)) (sym flash) (same_made c contents (given own lba block) s h same left never))

  pub write_dirty_answer : {T : Type 0} (r : Result T SscError) → kind ≡ kinds.WriteDirty → geometry_of d ≡ geometry_of c
      → OnOk r ((s : CacheList) → Holds c contents s → HoldsWritten d contents' s lba (written_dirty lba block)) → OnOk r (pending d ≡ [])
      → OnOk r (IsAnswer c d contents contents' (given kind lba block))
  write_dirty_answer (Err e) is same done none = tt
  write_dirty_answer (Ok v) is same done none = of_kind kinds.WriteDirty is (λ s h.
      let w = done s h in
      let all = none_undone d contents' (written_dirty lba block w.left) w.holds none in
      record {
        left = w.left;
        left_by = vanished_of s w.left same w.vanish;
        holds = w.holds;
        durable = inr (inr all);
        at_once = λ t. all;
      })

  -- a write that waits, whose step can be taken back
  loses_buffered : (s : CacheList) (beside : List Buffered) (step : CacheList → CacheList) (own : CacheList → Buffered) (w : HoldsBuffered d contents' s beside lba step own) → taken_back (own w.left) (step w.left) ≡ w.left
      → ((w.left ≡ s) × (undo w.holds.waiting (step w.left) ≡ undo beside s)) ⊎ (undo w.holds.waiting (step w.left) ≡ w.left) ⊎ (undo w.holds.waiting (step w.left) ≡ step w.left)
  loses_buffered s beside step own w back = by w.pends
    where
      by : ((w.left ≡ s) × (w.holds.waiting ≡ beside ++ own w.left ∷ [])) ⊎ (w.holds.waiting ≡ own w.left ∷ []) ⊎ (w.holds.waiting ≡ [])
          → ((w.left ≡ s) × (undo w.holds.waiting (step w.left) ≡ undo beside s)) ⊎ (undo w.holds.waiting (step w.left) ≡ w.left) ⊎ (undo w.holds.waiting (step w.left) ≡ step w.left)
      by (inl k) = inl (k.0, ap (λ (q : List Buffered). undo q (step w.left)) k.1 ∙ undo_own beside (own w.left) w.left (step w.left) back ∙ ap (undo beside) k.0)
      by (inr (inl k)) = inr (inl (ap (λ (q : List Buffered). undo q (step w.left)) k ∙ back))
      by (inr (inr k)) = inr (inr (ap (λ (q : List Buffered). undo q (step w.left)) k))

  pub write_later_answer : {T : Type 0} (r : Result T SscError) → kind ≡ kinds.WriteLater → geometry_of d ≡ geometry_of c
      → OnOk r ((s : CacheList) (h : Holds c contents s) → HoldsBuffered d contents' s h.waiting lba (written_dirty lba block) (λ v. Written lba (get v lba)))
      → OnOk r (IsAnswer c d contents contents' (given kind lba block))
  write_later_answer (Err e) is same done = tt
  write_later_answer (Ok v) is same done = of_kind kinds.WriteLater is (λ s h.
      let w = done s h in
      record {
        left = w.left;
        left_by = vanished_of s w.left same w.vanish;
        holds = w.holds;
        durable = loses_buffered s h.waiting (written_dirty lba block) (λ t. Written lba (get t lba)) w (back_written w.left lba block);
        at_once = λ t. absurd t;
      })

  pub commit_answer : {T : Type 0} (r : Result T SscError) → kind ≡ kinds.Commit → OnOk r ((s : CacheList) → Holds c contents s → Holds d contents' s) → OnOk r (pending d ≡ []) → OnOk r (IsAnswer c d contents contents' (given kind lba block))
  commit_answer (Err e) is done none = tt
  commit_answer (Ok v) is done none = of_kind kinds.Commit is (λ s h. record {
    left = s;
    left_by = refl;
    holds = done s h;
    durable = inr (inr (none_undone d contents' s (done s h) none));
    at_once = λ t. none_undone d contents' s (done s h) none;
  })

  pub checkpoint_answer : {T : Type 0} (r : Result T SscError) → kind ≡ kinds.Checkpoint → OnOk r ((s : CacheList) → Holds c contents s → Holds d contents' s) → OnOk r (pending d ≡ []) → OnOk r (IsAnswer c d contents contents' (given kind lba block))
  checkpoint_answer (Err e) is done none = tt
  checkpoint_answer (Ok v) is done none = of_kind kinds.Checkpoint is (λ s h. record {
    left = s;
    left_by = refl;
    holds = done s h;
    durable = inr (inr (none_undone d contents' s (done s h) none));
    at_once = λ t. none_undone d contents' s (done s h) none;
  })

  -- a clean write at an absent address, buffered or committed
  pub write_clean_answer : {T : Type 0} (r : Result T SscError) → kind ≡ kinds.WriteClean → geometry_of d ≡ geometry_of c → OnOk r ((s : CacheList) → Holds c contents s → HoldsWritten d contents' s lba (written_clean lba block))
      → OnOk r ((s : CacheList) → Holds c contents s → IsHeldIn s lba → pending d ≡ [])
      → OnOk r ((s : CacheList) (h : Holds c contents s) → get s lba ≡ None → HoldsBuffered d contents' s h.waiting lba (written_clean lba block) (λ v. Inserted lba)) → OnOk r (IsAnswer c d contents contents' (given kind lba block))
  write_clean_answer (Err e) is same done over absent = tt
  write_clean_answer (Ok v) is same done over absent = of_kind kinds.WriteClean is (λ s h. by s h (get s lba) refl)
    where
      by : (s : CacheList) (h : Holds c contents s) (o : Option Held) → get s lba ≡ o → MadeOf c d contents' (given kinds.WriteClean lba block) s (undo h.waiting s)
      by s h None at =
          let w = absent s h at in
          record {
            left = w.left;
            left_by = vanished_of s w.left same w.vanish;
            holds = w.holds;
            durable = loses_buffered s h.waiting (written_clean lba block) (λ t. Inserted lba) w (back_inserted w.left lba block (vanished_none (geometry_of d) s lba w.left w.vanish lba at));
            at_once = λ t. absurd (not_held s lba at t);
          }
      by s h (Some k) at =
          let w = done s h in
          let all = none_undone d contents' (written_clean lba block w.left) w.holds (over s h (k, at)) in
          record {
            left = w.left;
            left_by = vanished_of s w.left same w.vanish;
            holds = w.holds;
            durable = inr (inr all);
            at_once = λ t. all;
          }

  pub evict_answer : {T : Type 0} (r : Result T SscError) (same : Type 0) → (same → contents' ≡ contents) → kind ≡ kinds.Evict → OnOk r ((s : CacheList) → Holds c contents s → Holds d contents' (evicted lba s))
      → OnOk r ((s : CacheList) → Holds c contents s → IsHeldIn s lba → pending d ≡ []) → OnOk r ((s : CacheList) → Holds c contents s → get s lba ≡ None → (d ≡ c) × same) → OnOk r (IsAnswer c d contents contents' (given kind lba block))
  evict_answer (Err e) same flash is done held absent = tt
  evict_answer (Ok v) same flash is done held absent = of_kind kinds.Evict is (λ s h. by s h (get s lba) refl)
    where
      by : (s : CacheList) (h : Holds c contents s) (o : Option Held) → get s lba ≡ o → MadeOf c d contents' (given kinds.Evict lba block) s (undo h.waiting s)
      by s h None at = let still = absent s h at in still_made kinds.Evict s h (evicted_absent s lba at) refl (not_held s lba at) still.0 (flash still.1)
      by s h (Some k) at =
          let all = none_undone d contents' (evicted lba s) (done s h) (held s h (k, at)) in
          record { left = s; left_by = refl; holds = done s h; durable = inr (inr all); at_once = λ t. all }

  -- a clean of a dirty address, buffered or committed
  pub clean_answer : {T : Type 0} (r : Result T SscError) (same : Type 0) → (same → contents' ≡ contents) → kind ≡ kinds.Clean
      → OnOk r ((s : CacheList) (h : Holds c contents s) → IsDirtyIn s lba → HoldsPending d contents' (made_clean lba s) h.waiting (Cleaned lba))
      → OnOk r ((s : CacheList) → Holds c contents s → (IsDirtyIn s lba → ⊥) → (d ≡ c) × same) → OnOk r (IsAnswer c d contents contents' (given kind lba block))
  clean_answer (Err e) same flash is dirty other = tt
  clean_answer (Ok v) same flash is dirty other = of_kind kinds.Clean is (λ s h. by s h (get s lba) refl)
    where
      cleaned : (s : CacheList) (h : Holds c contents s) → IsDirtyIn s lba → MadeOf c d contents' (given kinds.Clean lba block) s (undo h.waiting s)
      cleaned s h own =
          let p = dirty s h own in
          let spelled : get s lba ≡ Some (held own.0.block own.0.spare true) = own.1 ∙ ap (λ m. Some (held own.0.block own.0.spare m)) own.2 in
          record {
            left = s;
            left_by = refl;
            holds = p.holds;
            durable = elim (loses_pending p.holds.waiting h.waiting (Cleaned lba) s (made_clean lba s) (back_cleaned s lba own.0.block own.0.spare spelled) p.pends) [
              | inl e ↦ inl (refl, e)
              | inr e ↦ inr e
            ];
            at_once = λ t. absurd t;
          }

      as_before : (s : CacheList) (h : Holds c contents s) → (IsDirtyIn s lba → ⊥) → made_clean lba s ≡ s → MadeOf c d contents' (given kinds.Clean lba block) s (undo h.waiting s)
      as_before s h never is = let still = other s h never in still_made kinds.Clean s h is refl (λ t. t) still.0 (flash still.1)

      by : (s : CacheList) (h : Holds c contents s) (o : Option Held) → get s lba ≡ o → MadeOf c d contents' (given kinds.Clean lba block) s (undo h.waiting s)
      by s h None at = as_before s h (λ own. not_none s lba own at) (ap (marked false lba s) at)
      by s h (Some k) at = elim (cases_Bool k.dirty) [
        | inl t ↦ cleaned s h (k, at, t)
        | inr f ↦ as_before s h (λ own. not_clean s lba own k at f) (cleaned_clean s lba k at f)
      ]

  -- ---- the cache is up again

  pub up_after : {T : Type 0} (r : Result T SscError) (step : CacheList → CacheList) → OnOk r ((s : CacheList) → Holds c contents s → Holds d contents' (step s)) → d.stopped ≡ stops r → IsUp c contents → OnOk r (IsUp d contents')
  up_after (Err e) step done stopped up = tt
  up_after (Ok v) step done stopped up = record { list = step up.list; holds = done up.list up.holds; up = stopped }

  pub up_written : {T : Type 0} (r : Result T SscError) (step : CacheList → CacheList) → OnOk r ((s : CacheList) → Holds c contents s → HoldsWritten d contents' s lba step) → d.stopped ≡ stops r → IsUp c contents → OnOk r (IsUp d contents')
  up_written (Err e) step done stopped up = tt
  up_written (Ok v) step done stopped up = let own = done up.list up.holds in record { list = step own.left; holds = own.holds; up = stopped }

  pub up_later : {T : Type 0} (r : Result T SscError) (step : CacheList → CacheList) (own : CacheList → Buffered) → OnOk r ((s : CacheList) (h : Holds c contents s) → HoldsBuffered d contents' s h.waiting lba step own) → d.stopped ≡ stops r → IsUp c contents → OnOk r (IsUp d contents')
  up_later (Err e) step own done stopped up = tt
  up_later (Ok v) step own done stopped up = let w = done up.list up.holds in record { list = step w.left; holds = w.holds; up = stopped }

-- ---- a refusal

abbrev pub IsRefusedTo : Geometry → (Place → Page) → Given → TwoLists → Type 0
IsRefusedTo g page x l = (m : TwoLists) × AfterRefusal g x l m × FlashStandsFor g page m.now

left_undone : (g : Geometry) (x : Given) (l : TwoLists) (undone : CacheList) → l.durable ≡ undone → AfterRefusal g x l (both_alike undone)
left_undone g x l undone is = record { left = l.now; left_by = left_whole g x.kind x.address l.now; now = inl (sym is); durable = refl }

left_before : (g : Geometry) (x : Given) (l : TwoLists) (v : CacheList) → LeftBy g x l.now v → AfterRefusal g x l (both_alike v)
left_before g x l v left = record { left = v; left_by = left; now = inr (inl refl); durable = refl }

left_after : (g : Geometry) (x : Given) (l : TwoLists) (v : CacheList) → LeftBy g x l.now v → AfterRefusal g x l (both_alike (stepped x v))
left_after g x l v left = record { left = v; left_by = left; now = inr (inr refl); durable = refl }

left_one : (g : Geometry) (page : Place → Page) (x : Given) (l : TwoLists) (undone : CacheList) → l.durable ≡ undone → FlashStandsForOne g page undone l.now (stepped x l.now) → IsRefusedTo g page x l
left_one g page x l undone is (AsUndone stands) = (both_alike undone, left_undone g x l undone is, stands)
left_one g page x l undone is (AsBefore stands) = (both_alike l.now, left_before g x l l.now (left_whole g x.kind x.address l.now), stands)
left_one g page x l undone is (AsAfter stands) = (both_alike (stepped x l.now), left_after g x l l.now (left_whole g x.kind x.address l.now), stands)

left_write : (g : Geometry) (page : Place → Page) (x : Given) (l : TwoLists) (undone : CacheList) → ((v : CacheList) → Vanish g l.now x.address v → LeftBy g x l.now v) → l.durable ≡ undone → FlashStandsForWrite g page undone l.now x.address (stepped x) → IsRefusedTo g page x l
left_write g page x l undone write is (AsUndone stands) = (both_alike undone, left_undone g x l undone is, stands)
left_write g page x l undone write is (AsLeft v van stands) = (both_alike v, left_before g x l v (write v van), stands)
left_write g page x l undone write is (AsWritten v van stands) = (both_alike (stepped x v), left_after g x l v (write v van), stands)

module _ (c : Ssc) (contents contents' : Contents) (own : Kind) (lba : ℕ) (block : Block) where
  pub left_of : ((s : CacheList) (h : Holds c contents s) → ImagesOf c contents' (undo h.waiting s) s (stepped (given own lba block) s)) → (kind : Kind) → kind ≡ own → (l : TwoLists) → IsMoment c contents l → (x : Image) → Now contents' x → IsRefusedTo (geometry_of c) x.page (given kind lba block) l
  left_of images kind is l moment x now =
      subst (λ k. IsRefusedTo (geometry_of c) x.page (given k lba block) l) (sym is)
      (left_one (geometry_of c) x.page (given own lba block) l (undo moment.holds.waiting l.now) moment.durable (images l.now moment.holds x now))

  pub left_of_write : ((s v : CacheList) → Vanish (geometry_of c) s lba v → LeftBy (geometry_of c) (given own lba block) s v)
      → ((s : CacheList) (h : Holds c contents s) → ImagesOfWrite c contents' (undo h.waiting s) s lba (stepped (given own lba block))) → (kind : Kind) → kind ≡ own → (l : TwoLists) → IsMoment c contents l → (x : Image)
      → Now contents' x → IsRefusedTo (geometry_of c) x.page (given kind lba block) l
  left_of_write write images kind is l moment x now =
      subst (λ k. IsRefusedTo (geometry_of c) x.page (given k lba block) l) (sym is)
      (left_write (geometry_of c) x.page (given own lba block) l (undo moment.holds.waiting l.now) (write l.now) moment.durable (images l.now moment.holds x now))

-- the dirty groups would be too many
pub full_of : {T : Type 0} (r : Result T SscError) (g : Geometry) (s : CacheList) (a n k : ℕ) → FullExactly g s a r → r ≡ Err (error.Full n k) → IsFull g s a
full_of {T = T} r g s a n k full is = let at = subst (λ (x : Result T SscError). FullExactly g s a {T = T} x) is full in at.0

-- ---- an opening

pub moment_opened : {E : Type 0} (r : Result Ssc E) (g : Geometry) (page : Place → Page) (contents : Contents) → IfOk r (λ c. (s : CacheList) → FlashStandsFor g page s → Holds c contents s)
    → IfOk r (IsJustOpened g) → IfOk r (λ c. (s : CacheList) → FlashStandsFor g page s → IsMoment c contents (both_alike s))
moment_opened (Err e) g page contents holds opened = tt
moment_opened (Ok c) g page contents holds opened = λ s stands. record { holds = holds s stands; durable = sym (none_undone c contents s (holds s stands) opened.nothing_waits) }
