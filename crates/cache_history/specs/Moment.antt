-- A cache between two commands, and the lists that it then has.
use Rattle.std.specs.Prelude.{◌≡◌, ◌⊎◌, ℕ, true, false, Result, OnErr, IsErrOf}
use Rattle.ft_base.specs.Contents.{Contents}
use Rattle.ft_media.specs.State.{State}
use Rattle.cache_model.specs.CacheList.{CacheList}
use Rattle.cache_model.specs.Cache.{IsFull, undo}
use Rattle.ssc.specs.declared.cache.Ssc.{Ssc}
use Rattle.ssc.specs.declared.error.SscError.{SscError}
use Rattle.ssc.specs.declared.error.SscError.TheVariants.{Full, OutOfMemory}
use Rattle.ssc.specs.CacheState.{Holds, IsAsBefore, geometry_of}
use Rattle.ssc.specs.Errors.{stops}
use Rattle.cache_history.specs.declared.kind.Kind.{Kind}
use Rattle.cache_history.specs.declared.kind.Kind.TheVariants.{WriteDirty, WriteLater}
use Rattle.cache_history.specs.History.{TwoLists, is_write}

-- the cache holds the first list; and the second is the first without the changes that wait
pub record IsMoment (c : Ssc) (contents : Contents) (l : TwoLists) : Type 0 where
  pub holds : Holds c contents l.now
  pub durable : l.durable ≡ undo holds.waiting l.now

-- `Full` and `OutOfMemory` are no event: the lists and the media are unchanged. Each comes only for its own cause
pub record IsNoEvent (old new : Ssc) (before after : State) (kind : Kind) (lba : ℕ) (result : Result (Unit {0}) SscError) : Type 0 where
  pub unchanged : OnErr result (stops result ≡ false → IsAsBefore old new × (after ≡ before))
  pub still : OnErr result (stops result ≡ false → (l : TwoLists) → IsMoment old before.contents l → IsMoment new after.contents l)
  pub full_keeps : (n k : ℕ) → IsErrOf result (Full n k) → new ≡ old
  pub full : (n k : ℕ) → IsErrOf result (Full n k) → ((kind ≡ WriteDirty) ⊎ (kind ≡ WriteLater))
      × ((s : CacheList) → Holds old before.contents s → IsFull (geometry_of old) s lba)
  pub memory : IsErrOf result OutOfMemory → (is_write kind ≡ true) × (old.ready ≡ false)
