-- What calls leave of a run's block writes, if a volume owes the newest of them.
use Rattle.std.proofs.Common.{◌≡◌, inl, inr, refl, ℕ, zero, suc, ◌+◌, ◌-◌, ◌<◌, ◌≤◌, arith, true, false, List, [], ◌∷◌, ◌++◌, length, take, drop, reverse, Result, Ok, Err, All, ap, sym, ◌∙◌, subst, append_assoc, add-one}
use Rattle.std.specs.Result.{IsErrAnd}
use Rattle.std.proofs.lemmas.Bool.{cases_lt}
use Rattle.std.proofs.lemmas.List.{drop-drop, drop_all, drop_at, length-append, length-drop, length-reverse, length-take, reverse-append, take-append-drop, take_all, take_at}
use Rattle.ft_base.specs.Contents.{Contents, Image}
use Rattle.ft_base.specs.declared.block.Block.{Block}
use Rattle.ft_base.specs.Pattern.{pat}
use Rattle.ft_base.specs.PlainDisk.{BlockWrite, PlainDisk, after_writes}
use Rattle.ft_base.specs.Told.{Told}
use Rattle.ft_base.specs.declared.told.Ack.TheVariants as ack
use Rattle.ft_volume.specs.Volume.{Call, DoneOwing, Finds, Fixes, IsAny, VolumeState, WasDone, owing, stages, writes_of}
use Rattle.ft_volume.specs.Volume.Call.{Reads, Writes, Flushes, Idles, Reports}
use Rattle.ft_volume.specs.Standing.{StandFor}
use Rattle.ft_volume.specs.declared.volume.VolumeError.{VolumeError}
use Rattle.ft_volume.specs.declared.volume.VolumeError.TheVariants as volume
use Rattle.ft_volume.proofs.DoneLemmas.{still_disk, writes_then}
use Rattle.trace_model.specs.Run.{disk_written, with_blocks}
use Rattle.trace_model.proofs.LossLemmas.{drop_own}
use Rattle.trace_replay.specs.declared.ended.Ended.{Ended}
use Rattle.trace_replay.specs.declared.recent.Recent.{Recent}
use Rattle.trace_replay.specs.Owing.{GoesOwing, IsClear, Owing, ShowsDisk, StandForOlder, StandForOneOlder}

-- ---- lists from their end

take_back : (k : ℕ) (l : List BlockWrite) → take k (reverse l) ≡ reverse (drop (length l - k) l)
take_back k l =
    let m : ℕ = length l - k in
    let split : reverse l ≡ reverse (drop m l) ++ reverse (take m l) = ap reverse (sym (take-append-drop m l)) ∙ reverse-append (take m l) (drop m l) in
    elim (cases_lt (length l) k) [
      | inl less ↦
          let none : m ≡ 0 = omega arith in
          let long : length (reverse l) ≡ length l = length-reverse l in
          take_all k (reverse l) (omega arith) ∙ sym (ap (λ n. reverse (drop n l)) none)
      | inr most ↦
          let long : length (reverse (drop m l)) ≡ k = length-reverse (drop m l) ∙ length-drop m l ∙ (let same : length l - m ≡ k = omega arith in same) in
          ap (take k) split ∙ take_at (reverse (drop m l)) (reverse (take m l)) k long
    ]

drop_back : (k : ℕ) (l : List BlockWrite) → drop k (reverse l) ≡ reverse (take (length l - k) l)
drop_back k l =
    let m : ℕ = length l - k in
    let split : reverse l ≡ reverse (drop m l) ++ reverse (take m l) = ap reverse (sym (take-append-drop m l)) ∙ reverse-append (take m l) (drop m l) in
    elim (cases_lt (length l) k) [
      | inl less ↦
          let none : m ≡ 0 = omega arith in
          let long : length (reverse l) ≡ length l = length-reverse l in
          drop_all k (reverse l) (omega arith) ∙ sym (ap (λ n. reverse (take n l)) none)
      | inr most ↦
          let long : length (reverse (drop m l)) ≡ k = length-reverse (drop m l) ∙ length-drop m l ∙ (let same : length l - m ≡ k = omega arith in same) in
          ap (drop k) split ∙ drop_at (reverse (drop m l)) (reverse (take m l)) k long
    ]

-- the newest block writes over the others, the oldest of them first
pub after_reverse : (l older : List BlockWrite) → after_writes (reverse l) (disk_written older) ≡ disk_written (l ++ older)
after_reverse [] older = refl
after_reverse (w ∷ l) older =
    ap (λ (v : List BlockWrite). after_writes v (disk_written older)) (reverse-append (w ∷ []) l)
    ∙ writes_then (reverse l) (w ∷ []) (disk_written older)
    ∙ ap (after_writes (w ∷ [])) (after_reverse l older)

drop_none : (k : ℕ) → drop {A = BlockWrite} k [] ≡ []
drop_none zero = refl
drop_none (suc k) = refl

the_one : {A : Type 0} (p : A → Type 0) (x : A) → IsAny p (x ∷ []) → p x
the_one p x (inl is) = is
the_one p x (inr none) = absurd none

one_of : {A : Type 0} (p : A → Type 0) (x : A) → IsAny p (x ∷ x ∷ x ∷ []) → p x
one_of p x (inl is) = is
one_of p x (inr (inl is)) = is
one_of p x (inr (inr (inl is))) = is
one_of p x (inr (inr (inr none))) = absurd none

-- a call writes one block at most
alone : (call : Call) → reverse (writes_of call) ≡ writes_of call
alone (Reads lba block) = refl
alone (Writes lba block) = refl
alone Flushes = refl
alone Idles = refl
alone Reports = refl

-- ---- what is owed

pub shows_owing : (owes : List BlockWrite → Type 0) (stands : Image → PlainDisk → Type 0) (contents : Contents) (most : ℕ) (writes : List BlockWrite) → Owing owes stands contents most writes → ShowsDisk owes stands contents (disk_written writes)
shows_owing owes stands contents most writes o = record {
  owed = reverse o.recent;
  base = disk_written o.older;
  is_owed = o.is_owed;
  media = o.media;
  over = after_reverse o.recent o.older ∙ ap disk_written (sym o.all);
}

pub shows_clear : (owes : List BlockWrite → Type 0) (stands : Image → PlainDisk → Type 0) (contents : Contents) (d : PlainDisk) → owes [] → StandFor stands contents d → ShowsDisk owes stands contents d
shows_clear owes stands contents d none stood = record { owed = []; base = d; is_owed = none; media = stood; over = refl }

-- of no block write all are owed
pub owing_clear : (owes : List BlockWrite → Type 0) (stands : Image → PlainDisk → Type 0) (contents : Contents) (most : ℕ) (writes : List BlockWrite) → owes [] → StandFor stands contents (disk_written writes) → Owing owes stands contents most writes
owing_clear owes stands contents most writes none stood = record { recent = []; older = writes; all = refl; is_owed = none; few = omega arith; media = stood }

none_of : (l : List BlockWrite) → length l ≤ 0 → l ≡ []
none_of [] few = refl
none_of (w ∷ l) few = absurd (omega arith)

-- if none may be owed, none is
pub clear_owing : (owes : List BlockWrite → Type 0) (stands : Image → PlainDisk → Type 0) (contents : Contents) (writes : List BlockWrite) → Owing owes stands contents 0 writes → owes [] × StandFor stands contents (disk_written writes)
clear_owing owes stands contents writes o =
    let none : o.recent ≡ [] = none_of o.recent o.few in (
      subst (λ (l : List BlockWrite). owes (reverse l)) none o.is_owed,
      subst (λ (l : List BlockWrite). StandFor stands contents (disk_written l)) (sym (o.all ∙ ap (λ (l : List BlockWrite). l ++ o.older) none)) o.media,
    )

-- fewer may be owed than were said
pub owing_less : (owes : List BlockWrite → Type 0) (stands : Image → PlainDisk → Type 0) (contents : Contents) (most few : ℕ) (writes : List BlockWrite) (o : Owing owes stands contents most writes) → length o.recent ≤ few → Owing owes stands contents few writes
owing_less owes stands contents most few writes o less = record { recent = o.recent; older = o.older; all = o.all; is_owed = o.is_owed; few = less; media = o.media }

pub older_owing : (owes : List BlockWrite → Type 0) (stands : Image → PlainDisk → Type 0) (contents : Contents) (most : ℕ) (writes : List BlockWrite) → Owing owes stands contents most writes → StandForOlder stands contents most writes
older_owing owes stands contents most writes o x now = (
  length o.recent,
  o.few,
  subst (λ (l : List BlockWrite). stands x (disk_written l)) (sym (ap (drop (length o.recent)) o.all ∙ drop_at o.recent o.older (length o.recent) refl)) (o.media x now),
)

pub older_one : (stands : Image → PlainDisk → Type 0) (contents : Contents) (most : ℕ) (writes : List BlockWrite) → StandForOneOlder stands contents most writes → StandForOlder stands contents most writes
older_one stands contents most writes one x now = (one.0, one.1, one.2 x now)

-- ---- what a call does to the owed block writes

module _ (call : Call) (was : List BlockWrite → Type 0) (stood : Image → PlainDisk → Type 0) (before : Contents) (most : ℕ) (writes : List BlockWrite) (o : Owing was stood before most writes) where
  abbrev own : List BlockWrite
  own = writes_of call

  abbrev base : PlainDisk
  base = disk_written o.older

  abbrev newest : List BlockWrite
  newest = own ++ o.recent

  in_order : reverse o.recent ++ own ≡ reverse newest
  in_order = ap (λ (l : List BlockWrite). reverse o.recent ++ l) (sym (alone call)) ∙ sym (reverse-append own o.recent)

  all_newest : own ++ writes ≡ newest ++ o.older
  all_newest = ap (λ (l : List BlockWrite). own ++ l) o.all ∙ sym (append_assoc own o.recent o.older)

  long_newest : length newest ≤ most + length own
  long_newest = let long = length-append own o.recent in let few = o.few in omega arith

  -- it came to one of these disks
  stage_older : (p : PlainDisk → Type 0) → IsAny p (stages (reverse o.recent) own base) → (lost : ℕ) × (lost ≤ most + length own) × p (disk_written (drop lost (own ++ writes)))
  stage_older p (inl is_base) = (
    length newest,
    long_newest,
    subst (λ (l : List BlockWrite). p (disk_written l)) (sym (ap (drop (length newest)) all_newest ∙ drop_at newest o.older (length newest) refl)) is_base,
  )
  stage_older p (inr (inl is_all)) = (
    length own,
    omega arith,
    subst p (after_reverse o.recent o.older ∙ ap disk_written (sym o.all ∙ sym (drop_at own writes (length own) refl))) is_all,
  )
  stage_older p (inr (inr (inl is_more))) = (
    0,
    omega arith,
    subst p
        (ap (after_writes own) (after_reverse o.recent o.older ∙ ap disk_written (sym o.all)) ∙ ap (λ (l : List BlockWrite). after_writes l (disk_written writes)) (sym (alone call)) ∙ after_reverse own writes)
        is_more,
  )
  stage_older p (inr (inr (inr none))) = absurd none

-- ---- a call

module _ {T : Type 0} (was is : List BlockWrite → Type 0) (stands : Told → Image → PlainDisk → Type 0) (call : Call) (old new : VolumeState) (before after : Contents) where
  -- a call that writes nothing keeps the disk, if nothing is owed
  pub clear_kept : (result : Result T VolumeError) (d : PlainDisk) → writes_of call ≡ [] → was [] → DoneOwing was is stands call old new before after result → StandFor (stands old.told) before d → StandFor (stands new.told) after d
  clear_kept result d none owes done stood =
      let at = done [] owes in
      elim (at.2 (d ∷ []) (λ x now. inl (stood x now))) [
        | inl any ↦
            let found : WasDone stands call (owing old []) (owing new at.0) after result d = the_one (λ e. WasDone stands call (owing old []) (owing new at.0) after result e) d any in
            λ x now. one_of (stands new.told x) d (subst (λ (ws : List BlockWrite). IsAny (stands new.told x) (stages [] ws d)) none (found.images x now))
        | inr un ↦ λ x now. the_one (stands new.told x) d (un.images x now)
      ]

  -- and owes nothing after `Ok`
  pub clear_left : (v : T) (d : PlainDisk) → writes_of call ≡ [] → was [] → DoneOwing was is stands call old new before after (Ok v) → StandFor (stands old.told) before d → is []
  clear_left v d none owes done stood =
      let at = done [] owes in
      elim (at.2 (d ∷ []) (λ x now. inl (stood x now))) [
        | inl any ↦
            let found : WasDone stands call (owing old []) (owing new at.0) after (Ok v) d = the_one (λ e. WasDone stands call (owing old []) (owing new at.0) after (Ok v) e) d any in
            subst is (found.done.owes ∙ ap (drop found.done.kept) none ∙ drop_none found.done.kept) at.1
        | inr un ↦ let no : true ≡ false = un.fixes in absurd (cc)
      ]

  -- reads show the disk, before and after
  pub shown : (v : T) (d : PlainDisk) → DoneOwing was is stands call old new before after (Ok v) → ShowsDisk was (stands old.told) before d → Finds call d × ShowsDisk is (stands new.told) after (after_writes (writes_of call) d)
  shown v d done s =
      let at = done s.owed s.is_owed in
      let got = still_disk stands call (owing old s.owed) (owing new at.0) before after (Ok v) d (record { base = s.base; media = s.media; over = s.over }) at.2 in
      (got.1, record { owed = at.0; base = got.0.base; is_owed = at.1; media = got.0.media; over = got.0.over })

  -- nothing is owed after power was lost
  pub lost_nothing : (owed : List BlockWrite) × was owed → ((left : List BlockWrite) → is left → left ≡ []) → DoneOwing {T = T} was is stands call old new before after (Err volume.PowerLost) → is []
  lost_nothing some down done = let at = done some.0 some.1 in subst is (down at.0 at.1) at.1

  module _ (most : ℕ) (writes : List BlockWrite) (o : Owing was (stands old.told) before most writes) where
    pub owing_images : (result : Result T VolumeError) → DoneOwing was is stands call old new before after result → StandForOlder (stands new.told) after (most + length (writes_of call)) (writes_of call ++ writes)
    owing_images result done =
        let at = done (reverse o.recent) o.is_owed in
        elim (at.2 ((disk_written o.older) ∷ []) (λ x now. inl (o.media x now))) [
          | inl any ↦
              let found : WasDone stands call (owing old (reverse o.recent)) (owing new at.0) after result (disk_written o.older) = the_one (λ e. WasDone stands call (owing old (reverse o.recent)) (owing new at.0) after result e) (disk_written o.older) any in
              λ x now. stage_older call was (stands old.told) before most writes o (stands new.told x) (found.images x now)
          | inr un ↦ λ x now. stage_older call was (stands old.told) before most writes o (stands new.told x) (inl (the_one (stands new.told x) (disk_written o.older) (un.images x now)))
        ]

    pub owing_lost : DoneOwing {T = T} was is stands call old new before after (Err volume.PowerLost) → StandForOneOlder (stands new.told) after (most + length (writes_of call)) (writes_of call ++ writes)
    owing_lost done =
        let at = done (reverse o.recent) o.is_owed in
        elim (at.2 ((disk_written o.older) ∷ []) (λ x now. inl (o.media x now))) [
          | inl any ↦
              let found : WasDone {T = T} stands call (owing old (reverse o.recent)) (owing new at.0) after (Err volume.PowerLost) (disk_written o.older) =
              the_one (λ e. WasDone {T = T} stands call (owing old (reverse o.recent)) (owing new at.0) after (Err volume.PowerLost) e) (disk_written o.older) any in
              stage_older call was (stands old.told) before most writes o (StandFor (stands new.told) after) (found.lost refl)
          | inr un ↦ let no : true ≡ false = un.fixes in absurd (cc)
        ]

    pub owing_done : (v : T) → DoneOwing was is stands call old new before after (Ok v) → Owing is (stands new.told) after (most + length (writes_of call)) (writes_of call ++ writes)
    owing_done v done =
        let at = done (reverse o.recent) o.is_owed in
        elim (at.2 ((disk_written o.older) ∷ []) (λ x now. inl (o.media x now))) [
          | inl any ↦
              let found : WasDone stands call (owing old (reverse o.recent)) (owing new at.0) after (Ok v) (disk_written o.older) = the_one (λ e. WasDone stands call (owing old (reverse o.recent)) (owing new at.0) after (Ok v) e) (disk_written o.older) any in
              let k = found.done.kept in
              let m : ℕ = length (writes_of call ++ o.recent) - k in
              record {
                recent = take m (writes_of call ++ o.recent);
                older = drop m (writes_of call ++ o.recent) ++ o.older;
                all = (all_newest call was (stands old.told) before most writes o) ∙ ap (λ (l : List BlockWrite). l ++ o.older) (sym (take-append-drop m (writes_of call ++ o.recent))) ∙ append_assoc (take m (writes_of call ++ o.recent)) (drop m (writes_of call ++ o.recent)) o.older;
                is_owed = subst is (found.done.owes ∙ ap (drop k) (in_order call was (stands old.told) before most writes o) ∙ drop_back k (writes_of call ++ o.recent)) at.1;
                few = let long = length-take m (writes_of call ++ o.recent) in let most_newest = (long_newest call was (stands old.told) before most writes o) in omega arith;
                media = subst (λ (d : PlainDisk). StandFor (stands new.told) after d)
                    (ap (λ (l : List BlockWrite). after_writes l (disk_written o.older)) (ap (take k) (in_order call was (stands old.told) before most writes o) ∙ take_back k (writes_of call ++ o.recent)) ∙ after_reverse (drop m (writes_of call ++ o.recent)) o.older) found.done.media;
              }
          | inr un ↦ let no : true ≡ false = un.fixes in absurd (cc)
        ]

    -- a flush leaves none owed
    pub owing_flushed : (v : T) → ((left : List BlockWrite) → is left → left ≡ []) → DoneOwing was is stands call old new before after (Ok v) → Owing is (stands new.told) after 0 (writes_of call ++ writes)
    owing_flushed v none done =
        let o2 = owing_done v done in
        let long : length (reverse o2.recent) ≡ length o2.recent = length-reverse o2.recent in
        let empty : length (reverse o2.recent) ≡ 0 = ap length (none (reverse o2.recent) o2.is_owed) in
        owing_less is (stands new.told) after (most + length (writes_of call)) 0 (writes_of call ++ writes) o2 (omega arith)

-- ---- a call, and what follows it

module _ {U : Type 0} (cuts : U → ℕ) (was : List BlockWrite → Type 0) (owed : Contents → List BlockWrite → Type 0) (stands : Told → Image → PlainDisk → Type 0) (call : Call) (old new : VolumeState) (before after : Contents) where
  abbrev GoesSo : Contents → Result U Ended → Type 0
  GoesSo now result = GoesOwing cuts (length (writes_of call)) (λ ws. writes_of call ++ ws) was (owed now) (stands old.told) (stands new.told) before now result

  pub call_ok : {T : Type 0} (v : T) (u : U) → cuts u ≡ 0 → DoneOwing was (owed after) stands call old new before after (Ok v) → GoesSo after (Ok u)
  call_ok v u none done = record {
    done = λ _ most writes o. owing_done was (owed after) stands call old new before after most writes o v done;
    nothing = λ some. absurd (omega arith);
    cut = λ some. absurd (omega arith);
    images = λ most writes o. owing_images was (owed after) stands call old new before after most writes o (Ok v) done;
  }

  pub call_lost : {T : Type 0} (u : U) (e : VolumeError) (now : Contents) → e ≡ volume.PowerLost → after ≡ now → 1 ≤ cuts u → (ws : List BlockWrite) × was ws → ((left : List BlockWrite) → owed after left → left ≡ []) → DoneOwing {T = T} was (owed after) stands call old new before after (Err e) → GoesSo now (Ok u)
  call_lost {T = T} u e now lost same some owes down done_by =
      let done : DoneOwing {T = T} was (owed after) stands call old new before after (Err volume.PowerLost) = subst (λ (k : VolumeError). DoneOwing {T = T} was (owed after) stands call old new before after (Err k)) lost done_by in
      subst (λ (k : Contents). GoesSo k (Ok u)) same (record {
        done = λ none. absurd (omega arith);
        nothing = λ _. lost_nothing was (owed after) stands call old new before after owes down done;
        cut = λ _ most writes o. owing_lost was (owed after) stands call old new before after most writes o done;
        images = λ most writes o. owing_images was (owed after) stands call old new before after most writes o (Err volume.PowerLost) done;
      })

  -- a call that writes nothing leaves nothing owed, if nothing was owed
  pub clear_ok : {T : Type 0} (v : T) → writes_of call ≡ [] → DoneOwing was (owed after) stands call old new before after (Ok v) → IsClear was (stands old.told) before → IsClear (owed after) (stands new.told) after
  clear_ok v none done clear = record {
    nothing_owed = clear_left was (owed after) stands call old new before after v clear.disk none clear.nothing_owed done clear.media;
    disk = clear.disk;
    media = clear_kept was (owed after) stands call old new before after (Ok v) clear.disk none clear.nothing_owed done clear.media;
  }

  pub clear_lost : {T : Type 0} (e : VolumeError) (now : Contents) → e ≡ volume.PowerLost → after ≡ now → writes_of call ≡ [] → ((left : List BlockWrite) → owed after left → left ≡ []) → DoneOwing {T = T} was (owed after) stands call old new before after (Err e)
      → IsClear was (stands old.told) before → IsClear (owed now) (stands new.told) now
  clear_lost e now lost same none down done clear = subst (λ (k : Contents). IsClear (owed k) (stands new.told) k) same (record {
    nothing_owed = (let at = done [] clear.nothing_owed in subst (owed after) (down at.0 at.1) at.1);
    disk = clear.disk;
    media = clear_kept was (owed after) stands call old new before after (Err e) clear.disk none clear.nothing_owed done clear.media;
  })

  -- the error that `?` gives back
  pub call_ends : {T : Type 0} (r : Result U Ended) (from : Ended) (e : VolumeError) (now : Contents) → IsErrAnd r (λ k. k ≡ from) → after ≡ now → DoneOwing {T = T} was (owed after) stands call old new before after (Err e) → GoesSo now r
  call_ends (Ok u) from e now is same done = absurd is
  call_ends (Err k) from e now is same done = subst (λ (c : Contents). GoesSo c (Err k)) same (record {
    done = tt;
    nothing = tt;
    cut = tt;
    images = λ most writes o. owing_images was (owed after) stands call old new before after most writes o (Err e) done;
  })

-- ---- the blocks of a request

-- the volume has the same settings
pub now_at : {was is : Told} → is ≡ was → was.ack ≡ ack.Write → is.ack ≡ ack.Write
now_at same at_write = ap (λ (t : Told). t.ack) same ∙ at_write

pub owing_begun : (owes : List BlockWrite → Type 0) (stands : Image → PlainDisk → Type 0) (contents : Contents) (most lba tag : ℕ) (writes : List BlockWrite) → Owing owes stands contents most writes → Owing owes stands contents (most + 0) (with_blocks lba tag 0 writes)
owing_begun owes stands contents most lba tag writes o = owing_less owes stands contents most (most + 0) writes o (let few = o.few in omega arith)

one_more : (lba tag i : ℕ) (block : Block) (writes : List BlockWrite) → block ≡ pat (lba + i) tag → (record { lba = lba + i; block = block }) ∷ with_blocks lba tag i writes ≡ with_blocks lba tag (i + 1) writes
one_more lba tag i block writes is = ap (λ (b : Block). (record { lba = lba + i; block = b }) ∷ with_blocks lba tag i writes) is ∙ sym (ap (λ n. with_blocks lba tag n writes) (add-one i))

pub owing_more : (owes : List BlockWrite → Type 0) (stands : Image → PlainDisk → Type 0) (contents : Contents) (most i lba tag : ℕ) (block : Block) (writes : List BlockWrite) → block ≡ pat (lba + i) tag
    → Owing owes stands contents (most + i + 1) ((record { lba = lba + i; block = block }) ∷ with_blocks lba tag i writes) → Owing owes stands contents (most + (i + 1)) (with_blocks lba tag (i + 1) writes)
owing_more owes stands contents most i lba tag block writes is o =
    let sum : most + i + 1 ≡ most + (i + 1) = omega arith in
    subst (λ (n : ℕ). Owing owes stands contents n (with_blocks lba tag (i + 1) writes)) sum
    (subst (λ (l : List BlockWrite). Owing owes stands contents (most + i + 1) l) (one_more lba tag i block writes is) o)

-- without the blocks of a request that were not begun
front_blocks : (lba tag n count : ℕ) (writes : List BlockWrite) → n ≤ count → with_blocks lba tag n writes ≡ drop (count - n) (with_blocks lba tag count writes)
front_blocks lba tag n count writes le =
    let same : count - (count - n) ≡ n = omega arith in
    sym (ap (λ k. with_blocks lba tag k writes) same) ∙ sym (drop_own (count - n) lba tag count writes (omega arith))

module _ (stands : Image → PlainDisk → Type 0) (contents : Contents) (most lba tag i count : ℕ) (block : Block) (writes : List BlockWrite) (within : i < count) (is : block ≡ pat (lba + i) tag) where
  missing : (p : PlainDisk → Type 0) → (lost : ℕ) × (lost ≤ most + i + 1) × p (disk_written (drop lost ((record { lba = lba + i; block = block }) ∷ with_blocks lba tag i writes)))
      → (lost : ℕ) × (lost ≤ most + count) × p (disk_written (drop lost (with_blocks lba tag count writes)))
  missing p some =
      let n : ℕ = count - (i + 1) in (
        n + some.0,
        (let few = some.1 in omega arith),
        subst (λ (l : List BlockWrite). p (disk_written l))
            (ap (drop some.0) (one_more lba tag i block writes is ∙ front_blocks lba tag (i + 1) count writes (omega arith)) ∙ drop-drop some.0 n (with_blocks lba tag count writes)) some.2,
      )

  pub blocks_one : StandForOneOlder stands contents (most + i + 1) ((record { lba = lba + i; block = block }) ∷ with_blocks lba tag i writes) → StandForOneOlder stands contents (most + count) (with_blocks lba tag count writes)
  blocks_one one = missing (StandFor stands contents) one

  pub blocks_older : StandForOlder stands contents (most + i + 1) ((record { lba = lba + i; block = block }) ∷ with_blocks lba tag i writes) → StandForOlder stands contents (most + count) (with_blocks lba tag count writes)
  blocks_older each x now = missing (stands x) (each x now)

-- a result that is an error
pub owing_ends : {U : Type 0} (cuts : U → ℕ) (count : ℕ) (own : List BlockWrite → List BlockWrite) (was is : List BlockWrite → Type 0) (stood stands : Image → PlainDisk → Type 0) (before now : Contents) (r : Result U Ended) (from : Ended) → IsErrAnd r (λ k. k ≡ from)
    → ((most : ℕ) → (writes : List BlockWrite) → Owing was stood before most writes → StandForOlder stands now (most + count) (own writes)) → GoesOwing cuts count own was is stood stands before now r
owing_ends cuts count own was is stood stands before now (Ok u) from err images = absurd err
owing_ends cuts count own was is stood stands before now (Err k) from err images = record { done = tt; nothing = tt; cut = tt; images = images }

-- the addresses lie in a volume with the same settings
pub all_at : {was is : Told} {l m : List Recent} → is ≡ was → m ≡ l → All (λ (r : Recent). r.lba < was.geometry.size) l → All (λ (r : Recent). r.lba < is.geometry.size) m
all_at {was} {is} {l} {m} told same all = subst (λ (t : Told). All (λ (r : Recent). r.lba < t.geometry.size) m) (sym told) (subst (λ (k : List Recent). All (λ (r : Recent). r.lba < was.geometry.size) k) (sym same) all)

-- no block more
pub owing_plus : (owes : List BlockWrite → Type 0) (stands : Image → PlainDisk → Type 0) (contents : Contents) (most : ℕ) (writes : List BlockWrite) → Owing owes stands contents most writes → Owing owes stands contents (most + 0) writes
owing_plus owes stands contents most writes o = owing_less owes stands contents most (most + 0) writes o (let few = o.few in omega arith)

pub owing_same : (owes : List BlockWrite → Type 0) (stands : Image → PlainDisk → Type 0) (contents : Contents) (most : ℕ) (writes : List BlockWrite) → Owing owes stands contents (most + 0) writes → Owing owes stands contents most writes
owing_same owes stands contents most writes o = owing_less owes stands contents (most + 0) most writes o (let few = o.few in omega arith)

-- power was cut between two calls: what was on the media is
pub owing_cut : (owes : List BlockWrite → Type 0) (stands : Told → Image → PlainDisk → Type 0) (old new : VolumeState) (before after : Contents) (most : ℕ) (writes : List BlockWrite) → Fixes stands old new before after → Owing owes (stands old.told) before most writes → StandForOneOlder (stands new.told) after most writes
owing_cut owes stands old new before after most writes fixes o = (
  length o.recent,
  o.few,
  subst (λ (l : List BlockWrite). StandFor (stands new.told) after (disk_written l)) (sym (ap (drop (length o.recent)) o.all ∙ drop_at o.recent o.older (length o.recent) refl))
      (the_one (λ d. StandFor (stands new.told) after d) (disk_written o.older) (fixes (disk_written o.older ∷ []) (λ x now. inl (o.media x now)))),
)

-- more may be missing
pub older_since : (stands : Image → PlainDisk → Type 0) (contents : Contents) (most more : ℕ) (writes : List BlockWrite) → most ≤ more → StandForOlder stands contents (most + 0) writes → StandForOlder stands contents more writes
older_since stands contents most more writes le each x now = let one = each x now in let few = one.1 in (one.0, omega arith, one.2)
