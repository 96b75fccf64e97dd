-- A volume that writes through, once it is opened: no block in its cache is dirty.
use Rattle.std.proofs.Common.{◌≡◌, Bool, true, false, List, [], Result, Ok, refl, sym, ◌∙◌, subst}
use Rattle.ft_base.specs.Contents.{Contents}
use Rattle.ft_base.specs.PlainDisk.{BlockWrite, PlainDisk}
use Rattle.ft_base.specs.declared.told.Mode.TheVariants.{Through}
use Rattle.ft_media.specs.State.{State}
use Rattle.ft_volume.specs.Opening.{ImageIs, IsOpened}
use Rattle.ft_volume.specs.Volume.{Call, ComesUp, Done, DoneOwing, StandForOneOf, WasDone, owing, told_for, writes_of}
use Rattle.ft_volume.specs.declared.options.Options.{Options}
use Rattle.ft_volume.specs.declared.volume.VolumeError.{VolumeError}
use Rattle.cache_model.specs.CacheList.{CacheList}
use Rattle.cached_disk.specs.declared.disk.CachedDisk.{CachedDisk}
use Rattle.cached_disk.specs.Kept.{IsFresh, IsLeft, Loads, Owes, OwesIn, Reopens, Serves, is_down, state_in, told_of}
use Rattle.ft_volume.proofs.UpLemmas.{done_through}
use Rattle.cache_model.proofs.UndoLemmas.{owed_none}
use Rattle.cached_disk.proofs.CallLemmas.{serves_was}
use Rattle.cached_disk.proofs.HeldLemmas.{none_later, through_none}
use Rattle.cached_disk.proofs.ReadLemmas.{owes_some}
use Rattle.cached_disk.proofs.OpenedLemmas.{comes_up, fresh_opened, no_order, nothing_dirty, order_through}

-- the volume was made, or opened
pub through_opened : (options : Options) (s : CacheList) (v : CachedDisk) (contents : Contents) → IsLeft v contents → IsFresh Through options s v → IsOpened (told_for Through options) s (state_in [] v)
through_opened options s v contents left fresh = fresh_opened Through options s [] v fresh (no_order v (nothing_dirty v contents left.held fresh.written (left.up fresh.up)))

-- the volume was opened again if it was down
pub through_comes : {T : Type 0} (old new : CachedDisk) (before after : State) (r : Result T VolumeError) → old.mode ≡ Through → IsLeft new after.contents → Reopens old new before after r → ComesUp ImageIs Loads (state_in [] old) (state_in [] new) before after r
through_comes old new before after r through left reopens = comes_up old new [] [] before after r reopens (λ up. refl) (λ down. order_through r new after.contents (reopens.made.1 ∙ through) left reopens.up)

-- a cut changes nothing of its state, except that the volume is down
pub cut_one : (old new : CachedDisk) (contents : Contents) (bases : List PlainDisk) → new ≡ record old { down = true } → StandForOneOf (ImageIs (told_of old)) contents bases → StandForOneOf (ImageIs (told_of new)) contents bases
cut_one old new contents bases same one = subst (λ (v : CachedDisk). StandForOneOf (ImageIs (told_of v)) contents bases) (sym same) one

-- ---- nothing is owed

through_owed : (v : CachedDisk) (contents : Contents) (owed : List BlockWrite) → v.mode ≡ Through → Owes v contents owed → owed ≡ []
through_owed v contents owed through owes = by (is_down v) owes
  where
    by : (b : Bool) → OwesIn b v contents owed → owed ≡ []
    by true nothing = nothing
    by false is = is.2 ∙ owed_none is.1.holds.waiting is.0 (none_later v (through_none v through is.1.may_undo) contents is.0 is.1.holds).1

-- a call that writes no block to the disk
pub through_done : {T : Type 0} (call : Call) (old mid new : CachedDisk) (before between after : State) (r : Result T VolumeError) → ComesUp {T = Unit {0}} ImageIs Loads (state_in [] old) (state_in [] mid) before between (Ok tt) → mid.mode ≡ Through → IsLeft mid between.contents → is_down mid ≡ false
    → writes_of call ≡ [] → Serves call mid new between after r → DoneOwing (λ (owed : List BlockWrite). owed ≡ []) (λ (owed : List BlockWrite). owed ≡ []) ImageIs call (state_in [] old) (state_in [] new) before.contents after.contents r
through_done call old mid new before between after r comes through left up nothing serves owed none =
    let some = owes_some mid between.contents left in
    let owes = subst (λ (ws : List BlockWrite). Owes mid between.contents ws) (through_owed mid between.contents some.0 through some.1) some.1 in
    let at = serves.keeps [] owes in
    let left_none : at.0 ≡ [] = through_owed new after.contents at.0 (serves.made.1 ∙ through) at.1 in (
      [],
      refl,
      subst (λ (ws : List BlockWrite). Done ImageIs call (owing (state_in [] old) ws) (owing (state_in [] new) []) before.contents after.contents r) (sym none)
          (done_through ImageIs Loads (state_in [] old) (state_in [] mid) (state_in [] new) before between after tt comes r call [] [] (λ base stand.
          subst (λ (ws : List BlockWrite). WasDone ImageIs call (owing (state_in [] mid) []) (owing (state_in [] new) ws) after.contents r base) left_none (serves_was call mid new [] between after r nothing up serves [] owes base stand))),
    )
