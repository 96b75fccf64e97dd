-- A command that failed without giving the cache up: the cache was full, or there was no memory.
use Rattle.std.proofs.Common.{◌≡◌, ℕ, false, List, Result, Ok, Err, OnErr, refl, sym, inl, ◌∙◌, ap, subst}
use Rattle.std.specs.Prelude.{IsErrOf}
use Rattle.std.proofs.lemmas.Bool.{false≢true}
use Rattle.ft_base.specs.Contents.{Contents}
use Rattle.ft_media.specs.State.{State}
use Rattle.cache_model.specs.Cache.{Buffered, undo}
use Rattle.cache_model.specs.CacheList.{CacheList}
use Rattle.ssc.specs.declared.cache.Ssc.{Ssc}
use Rattle.ssc.specs.declared.error.SscError.{SscError}
use Rattle.ssc.specs.declared.error.SscError.TheVariants.{Full, FlashFault, PowerLost, OutOfMemory}
use Rattle.ssc.specs.Errors.{stops}
use Rattle.ssc.specs.CacheState.{Holds, HoldsBeside, IsAsBefore}
use Rattle.cache_history.specs.History.{TwoLists}
use Rattle.cache_history.specs.Moment.{IsMoment}

as_itself : (c d : Ssc) → d ≡ c → IsAsBefore c d
as_itself c d same = subst (λ (k : Ssc). IsAsBefore c k) (sym same) (record { parts = refl; map = refl; buckets = inl refl })

module _ (c d : Ssc) (s t : State) where
  abbrev Unchanged : Type 0
  Unchanged = IsAsBefore c d × (t ≡ s)

  pub unchanged_of : (r : Result (Unit {0}) SscError) → ((n l : ℕ) → IsErrOf r (Full n l) → (d ≡ c) × (t ≡ s)) → (IsErrOf r OutOfMemory → Unchanged) → OnErr r (stops r ≡ false → Unchanged)
  unchanged_of (Ok done) full memory = tt
  unchanged_of (Err (Full n l)) full memory = λ goes. let same = full n l refl in (as_itself c d same.0, same.1)
  unchanged_of (Err FlashFault) full memory = λ goes. absurd (false≢true (sym goes))
  unchanged_of (Err PowerLost) full memory = λ goes. absurd (false≢true (sym goes))
  unchanged_of (Err OutOfMemory) full memory = λ goes. memory refl

  abbrev Still : Type 0
  Still = (l : TwoLists) → IsMoment c s.contents l → IsMoment d t.contents l

  full_still : (d ≡ c) × (t ≡ s) → Still
  full_still same l moment = subst (λ (k : Ssc). IsMoment k t.contents l) (sym same.0) (subst (λ (x : State). IsMoment c x.contents l) (sym same.1) moment)

  memory_still : Unchanged → ((contents : Contents) (list : CacheList) (h : Holds c contents list) → HoldsBeside d contents list h.waiting) → Still
  memory_still same holds l moment =
      let k = holds s.contents l.now moment.holds in
      subst (λ (x : State). IsMoment d x.contents l) (sym same.1) (record { holds = k.holds; durable = moment.durable ∙ ap (λ (q : List Buffered). undo q l.now) (sym k.same) })

  pub still_of : (r : Result (Unit {0}) SscError) → ((n l : ℕ) → IsErrOf r (Full n l) → (d ≡ c) × (t ≡ s)) → (IsErrOf r OutOfMemory → Unchanged) → (IsErrOf r OutOfMemory → (contents : Contents) (list : CacheList) (h : Holds c contents list) → HoldsBeside d contents list h.waiting) → OnErr r (stops r ≡ false → Still)
  still_of (Ok done) full memory holds = tt
  still_of (Err (Full n l)) full memory holds = λ goes. full_still (full n l refl)
  still_of (Err FlashFault) full memory holds = λ goes. absurd (false≢true (sym goes))
  still_of (Err PowerLost) full memory holds = λ goes. absurd (false≢true (sym goes))
  still_of (Err OutOfMemory) full memory holds = λ goes. memory_still (memory refl) (holds refl)
