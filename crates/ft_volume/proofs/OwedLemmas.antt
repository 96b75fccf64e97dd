-- What calls leave of a history of block writes, of which the newest may be owed.
use Rattle.std.proofs.Common.{◌≡◌, ◌⊎◌, refl, ℕ, zero, suc, ◌+◌, ◌≤◌, List, [], ◌∷◌, ◌++◌, length, take, drop, Result, Ok, Err, inl, inr, sym, ◌∙◌, ap, subst, arith}
use Rattle.std.specs.Prelude.{true, false}
use Rattle.std.proofs.lemmas.List.{append-nil, take-append-drop}
use Rattle.std.proofs.lemmas.Result.{on_err_weaker, on_ok_weaker}
use Rattle.ft_base.specs.Contents.{Contents, Image}
use Rattle.ft_base.specs.PlainDisk.{PlainDisk, BlockWrite, after_writes}
use Rattle.ft_base.specs.Told.{Told}
use Rattle.ft_volume.specs.declared.volume.VolumeError.{VolumeError}
use Rattle.ft_volume.specs.declared.volume.VolumeError.TheVariants.{PowerLost}
use Rattle.ft_volume.specs.Volume.{Call, DoneOwing, IsAny, Fixes, LeavesOwed, VolumeState, WasDone, owing, stages, writes_of}
use Rattle.ft_volume.specs.Standing.{StandFor}
use Rattle.ft_volume.proofs.DoneLemmas.{writes_then}

-- the first so many of a history, and then of what is behind them
take_on : (k n : ℕ) (hs ws : List BlockWrite) → k ≤ length hs → take k hs ++ take n (drop k hs ++ ws) ≡ take (k + n) (hs ++ ws)
take_on zero n hs ws within = let same : n ≡ 0 + n = omega arith in ap (λ m. take m (hs ++ ws)) same
take_on (suc k) n [] ws within = absurd (omega arith)
take_on (suc k) n (h ∷ hs) ws within = let same : suc (k + n) ≡ suc k + n = omega arith in ap (λ (l : List BlockWrite). h ∷ l) (take_on k n hs ws (omega arith)) ∙ ap (λ m. take m (h ∷ (hs ++ ws))) same

drop_on : (k n : ℕ) (hs ws : List BlockWrite) → k ≤ length hs → drop n (drop k hs ++ ws) ≡ drop (k + n) (hs ++ ws)
drop_on zero n hs ws within = let same : n ≡ 0 + n = omega arith in ap (λ m. drop m (hs ++ ws)) same
drop_on (suc k) n [] ws within = absurd (omega arith)
drop_on (suc k) n (h ∷ hs) ws within = let same : suc (k + n) ≡ suc k + n = omega arith in drop_on k n hs ws (omega arith) ∙ ap (λ m. drop m (h ∷ (hs ++ ws))) same

-- of a history on this disk some are owed, and no more than there are
pub record OwesOf (stands : Image → PlainDisk → Type 0) (contents : Contents) (owed history : List BlockWrite) (start : PlainDisk) : Type 0 where
  pub leaves : LeavesOwed stands contents owed history start
  pub within : leaves.kept ≤ length history

all_of : (k : ℕ) (ws : List BlockWrite) (d : PlainDisk) → (length ws ≤ k) → (take k ws ≡ take (length ws) ws) × (drop k ws ≡ drop (length ws) ws)
all_of zero [] d le = (refl, refl)
all_of (suc k) [] d le = (refl, refl)
all_of zero (w ∷ ws) d le = absurd (omega arith)
all_of (suc k) (w ∷ ws) d le = let rest = all_of k ws d (omega arith) in (ap (λ (l : List BlockWrite). w ∷ l) rest.0, rest.1)

order : (x y : ℕ) → (x ≤ y) ⊎ (y ≤ x)
order zero y = inl (omega arith)
order (suc x) zero = inr (omega arith)
order (suc x) (suc y) = elim (order x y) [ inl l ↦ inl (omega arith) | inr l ↦ inr (omega arith) ]

pub owes_within : (stands : Image → PlainDisk → Type 0) (contents : Contents) (owed history : List BlockWrite) (start : PlainDisk) → LeavesOwed stands contents owed history start → OwesOf stands contents owed history start
owes_within stands contents owed history start leaves = elim (order leaves.kept (length history)) [
  | inl le ↦ record { leaves = leaves; within = le }
  | inr ge ↦
      let all = all_of leaves.kept history start ge in
      record {
        leaves = record {
          kept = length history;
          owes = leaves.owes ∙ all.1;
          media = subst (λ (ws : List BlockWrite). StandFor stands contents (after_writes ws start)) all.0 leaves.media;
        };
        within = omega arith;
      }
]

-- one more call
then_leaves : (stands : Image → PlainDisk → Type 0) (contents : Contents) (k : ℕ) (history ws left : List BlockWrite) (start : PlainDisk) → k ≤ length history
    → LeavesOwed stands contents left (drop k history ++ ws) (after_writes (take k history) start) → LeavesOwed stands contents left (history ++ ws) start
then_leaves stands contents k history ws left start within leaves = record {
  kept = k + leaves.kept;
  owes = leaves.owes ∙ drop_on k leaves.kept history ws within;
  media = subst (λ (d : PlainDisk). StandFor stands contents d)
      (sym (writes_then (take k history) (take leaves.kept (drop k history ++ ws)) start) ∙ ap (λ (l : List BlockWrite). after_writes l start) (take_on k leaves.kept history ws within)) leaves.media;
}

the_one : {A : Type 0} (p : A → Type 0) (x : A) → IsAny p (x ∷ []) → p x
the_one p x (inl is) = is
the_one p x (inr none) = absurd none

-- a call that answered: of the history with what it wrote some are owed
pub owes_then : {T : Type 0} (was is : List BlockWrite → Type 0) (stands : Told → Image → PlainDisk → Type 0) (call : Call) (old new : VolumeState) (before after : Contents) (v : T) (owed history : List BlockWrite) (start : PlainDisk)
    → DoneOwing was is stands call old new before after (Ok v) → was owed → LeavesOwed (stands old.told) before owed history start
    → (left : List BlockWrite) × is left × LeavesOwed (stands new.told) after left (history ++ writes_of call) start
owes_then {T = T} was is stands call old new before after v owed history start done owing_was leaves =
    let within = owes_within (stands old.told) before owed history start leaves in
    let k = within.leaves.kept in
    let base = after_writes (take k history) start in
    let at = done owed owing_was in (
      at.0,
      at.1,
      elim (at.2 (base ∷ []) (λ x now. inl (within.leaves.media x now))) [
        | inl any ↦
            let one : WasDone stands call (owing old owed) (owing new at.0) after (Ok v) base = the_one (λ d. WasDone stands call (owing old owed) (owing new at.0) after (Ok v) d) base any in
            then_leaves (stands new.told) after k history (writes_of call) at.0 start within.within
            (subst (λ (ws : List BlockWrite). LeavesOwed (stands new.told) after at.0 (ws ++ writes_of call) base) within.leaves.owes one.done)
        | inr un ↦ let no : true ≡ false = un.fixes in absurd (cc)
      ],
    )

-- ---- a step after the owed writes were put on the media

-- the whole list, and what is behind it
drop_past : (hs ws : List BlockWrite) → drop (length hs) (hs ++ ws) ≡ ws
drop_past [] ws = refl
drop_past (h ∷ hs) ws = drop_past hs ws

take_past : (hs ws : List BlockWrite) → take (length hs) (hs ++ ws) ≡ hs
take_past [] ws = refl
take_past (h ∷ hs) ws = ap (λ (l : List BlockWrite). h ∷ l) (take_past hs ws)

drop_whole : (hs : List BlockWrite) → drop (length hs) hs ≡ []
drop_whole [] = refl
drop_whole (h ∷ hs) = drop_whole hs

take_none : (k : ℕ) → take {A = BlockWrite} k [] ≡ []
take_none zero = refl
take_none (suc k) = refl

drop_none : (k : ℕ) → drop {A = BlockWrite} k [] ≡ []
drop_none zero = refl
drop_none (suc k) = refl

take_whole : (ws : List BlockWrite) → take (length ws) ws ≡ ws
take_whole [] = refl
take_whole (w ∷ ws) = ap (λ (l : List BlockWrite). w ∷ l) (take_whole ws)

-- these are on the media, and those behind them are owed
pub leaves_front : (stands : Image → PlainDisk → Type 0) (contents : Contents) (left front ws : List BlockWrite) (d : PlainDisk) → left ≡ ws → StandFor stands contents (after_writes front d) → LeavesOwed stands contents left (front ++ ws) d
leaves_front stands contents left front ws d is stand = record {
  kept = length front;
  owes = is ∙ sym (drop_past front ws);
  media = subst (λ (l : List BlockWrite). StandFor stands contents (after_writes l d)) (sym (take_past front ws)) stand;
}

-- all of them are on the media
pub leaves_all : (stands : Image → PlainDisk → Type 0) (contents : Contents) (left all : List BlockWrite) (d : PlainDisk) → left ≡ [] → StandFor stands contents (after_writes all d) → LeavesOwed stands contents left all d
leaves_all stands contents left all d none stand = subst (λ (l : List BlockWrite). LeavesOwed stands contents left l d) (append-nil all) (leaves_front stands contents left all [] d none stand)

leaves_behind : (stands : Image → PlainDisk → Type 0) (contents : Contents) (left owed ws : List BlockWrite) (d : PlainDisk) → LeavesOwed stands contents left ws (after_writes owed d) → LeavesOwed stands contents left (owed ++ ws) d
leaves_behind stands contents left owed ws d leaves =
    then_leaves stands contents (length owed) owed ws left d (omega arith)
    (subst (λ (l : List BlockWrite). LeavesOwed stands contents left (drop (length owed) owed ++ ws) (after_writes l d)) (sym (take_whole owed))
    (subst (λ (l : List BlockWrite). LeavesOwed stands contents left (l ++ ws) (after_writes owed d)) (sym (drop_whole owed)) leaves))

leaves_nothing : (stands : Image → PlainDisk → Type 0) (contents : Contents) (left owed : List BlockWrite) (d : PlainDisk) → LeavesOwed stands contents left [] (after_writes owed d) → LeavesOwed stands contents left owed d
leaves_nothing stands contents left owed d leaves = leaves_all stands contents left owed d (leaves.owes ∙ drop_none leaves.kept) (subst (λ (l : List BlockWrite). StandFor stands contents (after_writes l (after_writes owed d))) (take_none leaves.kept) leaves.media)

-- the step found nothing owed, over the plain disk after the writes
pub was_behind : {T : Type 0} (stands : Told → Image → PlainDisk → Type 0) (call : Call) (old mid new : VolumeState) (after : Contents) (result : Result T VolumeError) (owed : List BlockWrite) (base : PlainDisk)
    → WasDone stands call (owing mid []) new after result (after_writes owed base) → WasDone stands call (owing old owed) new after result base
was_behind stands call old mid new after result owed base was = record {
  images = λ x now. by (stands new.told x) (was.images x now);
  lost = λ is. by (StandFor (stands new.told) after) (was.lost is);
  done = on_ok_weaker result (leaves_behind (stands new.told) after new.owed owed (writes_of call) base) was.done;
  found = was.found;
  up = on_err_weaker result (λ up now. leaves_nothing (stands new.told) after new.owed owed base (up now)) was.up;
  memory = λ is. leaves_nothing (stands new.told) after new.owed owed base (was.memory is);
}
  where
    by : (p : PlainDisk → Type 0) → IsAny p (after_writes owed base ∷ after_writes owed base ∷ after_writes (writes_of call) (after_writes owed base) ∷ []) → IsAny p (stages owed (writes_of call) base)
    by p (inl is) = inr (inl is)
    by p (inr (inl is)) = inr (inl is)
    by p (inr (inr is)) = inr (inr is)

-- ---- a cut

-- the first of them are on the media, and of those behind them it is not said that they are
pub record Stays (stands : Image → PlainDisk → Type 0) (contents : Contents) (history : List BlockWrite) (start : PlainDisk) : Type 0 where
  pub count : ℕ
  pub media : StandFor stands contents (after_writes (take count history) start)

take_front : (n : ℕ) (hs ws : List BlockWrite) → n ≤ length hs → take n (hs ++ ws) ≡ take n hs
take_front zero hs ws le = refl
take_front (suc n) [] ws le = absurd (omega arith)
take_front (suc n) (h ∷ hs) ws le = ap (λ (l : List BlockWrite). h ∷ l) (take_front n hs ws (omega arith))

stay_at : (stands : Image → PlainDisk → Type 0) (contents : Contents) (history all : List BlockWrite) (start d : PlainDisk) (n : ℕ) → take n all ≡ history → d ≡ after_writes history start → StandFor stands contents d → Stays stands contents all start
stay_at stands contents history all start d n is same stand = record {
  count = n;
  media = subst (λ (e : PlainDisk). StandFor stands contents e) (same ∙ ap (λ (l : List BlockWrite). after_writes l start) (sym is)) stand;
}

-- between two calls: what was on the media is
pub stays_cut : (stands : Told → Image → PlainDisk → Type 0) (old new : VolumeState) (before after : Contents) (owed history : List BlockWrite) (start : PlainDisk)
    → Fixes stands old new before after → LeavesOwed (stands old.told) before owed history start → Stays (stands new.told) after history start
stays_cut stands old new before after owed history start fixed leaves = record {
  count = leaves.kept;
  media = the_one (λ d. StandFor (stands new.told) after d) (after_writes (take leaves.kept history) start) (fixed (after_writes (take leaves.kept history) start ∷ []) (λ x now. inl (leaves.media x now)));
}

-- in a call: the first of the history and of what it writes
pub stays_lost : {T : Type 0} (was is : List BlockWrite → Type 0) (stands : Told → Image → PlainDisk → Type 0) (call : Call) (old new : VolumeState) (before after : Contents) (owed history : List BlockWrite) (start : PlainDisk)
    → DoneOwing {T = T} was is stands call old new before after (Err PowerLost) → was owed → LeavesOwed (stands old.told) before owed history start → Stays (stands new.told) after (history ++ writes_of call) start
stays_lost {T = T} was is stands call old new before after owed history start done owing_was leaves =
    let within = owes_within (stands old.told) before owed history start leaves in
    let k = within.leaves.kept in
    let base = after_writes (take k history) start in
    let at = done owed owing_was in
    let ws = writes_of call in
    let all : after_writes owed base ≡ after_writes history start =
    ap (λ (l : List BlockWrite). after_writes l base) within.leaves.owes ∙ sym (writes_then (take k history) (drop k history) start) ∙ ap (λ (l : List BlockWrite). after_writes l start) (take-append-drop k history) in
    elim (at.2 (base ∷ []) (λ x now. inl (within.leaves.media x now))) [
      | inl any ↦
          let one : WasDone {T = T} stands call (owing old owed) (owing new at.0) after (Err PowerLost) base = the_one (λ d. WasDone {T = T} stands call (owing old owed) (owing new at.0) after (Err PowerLost) d) base any in
          by (stands new.told) k base ws within.within all (one.lost refl)
      | inr un ↦ let no : true ≡ false = un.fixes in absurd (cc)
    ]
  where
    by : (stand : Image → PlainDisk → Type 0) (k : ℕ) (base : PlainDisk) (ws : List BlockWrite) → k ≤ length history → after_writes owed base ≡ after_writes history start
        → IsAny (λ d. StandFor stand after d) (after_writes (take k history) start ∷ after_writes owed base ∷ after_writes ws (after_writes owed base) ∷ []) → Stays stand after (history ++ ws) start
    by stand k base ws le all (inl is) = stay_at stand after (take k history) (history ++ ws) start (after_writes (take k history) start) k (take_front k history ws le) refl is
    by stand k base ws le all (inr (inl is)) = stay_at stand after history (history ++ ws) start (after_writes owed base) (length history) (take_front (length history) history ws (omega arith) ∙ take_whole history) all is
    by stand k base ws le all (inr (inr (inl is))) = stay_at stand after (history ++ ws) (history ++ ws) start (after_writes ws (after_writes owed base)) (length (history ++ ws)) (take_whole (history ++ ws)) (ap (after_writes ws) all ∙ sym (writes_then history ws start)) is
    by stand k base ws le all (inr (inr (inr none))) = absurd none
