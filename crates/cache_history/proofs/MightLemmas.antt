-- The block that an address may hold after some events, in the list that is held and in the list that a crash would
-- leave.
use Rattle.std.proofs.Common.{◌≡◌, ◌⊎◌, ℕ, ◌==◌, Bool, true, false, List, [], ◌∷◌, Option, Some, None, refl, sym, ◌∙◌, ap, subst, inl, inr, eqb-true, nat_cmp}
use Rattle.std.specs.Option.{option_map}
use Rattle.std.specs.FinMap.{get, empty, get-empty}
use Rattle.ft_base.specs.declared.block.Block.{Block}
use Rattle.ft_base.specs.declared.geometry.Geometry.{Geometry}
use Rattle.cache_model.specs.Cache.{marked_as}
use Rattle.cache_model.specs.CacheList.{Held, CacheList}
use Rattle.cache_history.specs.declared.kind.Kind.{Kind}
use Rattle.cache_history.specs.declared.kind.Kind.TheVariants.{WriteDirty, WriteLater, WriteClean, Evict, Clean, Commit, Checkpoint}
use Rattle.cache_history.specs.History.{Given, CacheEvent, Answered, Refused, Crashed, TwoLists, both_alike, IsAtOnce, AfterAnswer, AfterRefusal, AfterCrash, LivedFrom, Lived, is_write}
use Rattle.cache_history.proofs.StepLemmas.{IsDirty, step_of, step_at, get_stepped}
use Rattle.cache_history.proofs.GoneLemmas.{IsClean, left_at}

-- the block that the address of a command may have if a crash would undo the command
abbrev pub Lags : Kind → Option Held → Type 0
Lags WriteDirty o = ⊥
Lags WriteLater o = Unit {0}
Lags WriteClean o = o ≡ None
Lags Evict o = o ≡ None
Lags Clean o = Unit {0}
Lags Commit o = Unit {0}
Lags Checkpoint o = Unit {0}

-- how a command changes the block that is held at an address, whether it answered `Ok` or not. The block after it is
-- its step; or the old block, if a crash would undo the command; or none, if a clean block gave way
pub data From (answered here : Bool) (kind : Kind) (lba : ℕ) (block : Block) (p o : Option Held) : Type 0 where
  Stepped : o ≡ step_at here kind lba block p → From answered here kind lba block p o
  Kept : o ≡ p → (answered ≡ true → here ≡ true → Lags kind o) → From answered here kind lba block p o
  GaveWay : (answered ≡ true → here ≡ true → Lags kind None) → IsClean p → o ≡ None → From answered here kind lba block p o

-- beginning with a list of which this holds at the address
abbrev pub Might : (Option Held → Type 0) → ℕ → List CacheEvent → Option Held → Type 0
Might P a [] o = P o
Might P a (Answered x ∷ es) o = (p : Option Held) × Might P a es p × From true (a == x.address) x.kind x.address x.block p o
Might P a (Refused x ∷ es) o = (p : Option Held) × Might P a es p × From false (a == x.address) x.kind x.address x.block p o
Might P a (Crashed ∷ es) o = Might P a es o

-- nothing is held
abbrev pub IsNone : Option Held → Type 0
IsNone o = o ≡ None

-- both may be true, and a crash doesn't bring back a block that isn't held
pub record Both (P : Option Held → Type 0) (n e : Option Held) : Type 0 where
  pub now : P n
  pub durable : P e
  pub absent : n ≡ None → e ≡ None

abbrev pub Mights : (Option Held → Type 0) → ℕ → List CacheEvent → TwoLists → Type 0
Mights P a es l = Both (Might P a es) (get l.now a) (get l.durable a)

alike : (P : Option Held → Type 0) (n e : Option Held) → e ≡ n → P n → Both P n e
alike P n e is now = record { now = now; durable = subst P (sym is) now; absent = λ none. is ∙ none }

cleaned_none : (o : Option Held) → option_map (marked_as false) o ≡ None → o ≡ None
cleaned_none None is = refl
cleaned_none (Some h) is = absurd (cc)

-- ---- an answer, at one address

abbrev pub IsSome : Option Held → Type 0
IsSome o = (h : Held) × (o ≡ Some h)

-- the command is on the flash when it answers Ok
abbrev pub AtOnce : Kind → Option Held → Type 0
AtOnce WriteDirty o = Unit {0}
AtOnce WriteLater o = ⊥
AtOnce WriteClean o = IsSome o
AtOnce Evict o = IsSome o
AtOnce Clean o = ⊥
AtOnce Commit o = Unit {0}
AtOnce Checkpoint o = Unit {0}

at_once : (kind : Kind) (a : ℕ) (s : CacheList) → AtOnce kind (get s a) → IsAtOnce kind a s
at_once WriteDirty a s t = t
at_once WriteLater a s t = t
at_once WriteClean a s t = t
at_once Evict a s t = t
at_once Clean a s t = t
at_once Commit a s t = t
at_once Checkpoint a s t = t

-- a write ignores the block that was held
write_alike : (kind : Kind) (lba : ℕ) (block : Block) (p o : Option Held) → is_write kind ≡ true → step_of kind lba block p ≡ step_of kind lba block o
write_alike WriteDirty lba block p o w = refl
write_alike WriteLater lba block p o w = refl
write_alike WriteClean lba block p o w = refl
write_alike Evict lba block p o w = absurd (cc)
write_alike Clean lba block p o w = absurd (cc)
write_alike Commit lba block p o w = absurd (cc)
write_alike Checkpoint lba block p o w = absurd (cc)

lags : (kind : Kind) (s n e : Option Held) → (AtOnce kind s → e ≡ n) → (s ≡ None → e ≡ None) → (e ≡ n) ⊎ Lags kind e
lags WriteDirty s n e once absent = inl (once tt)
lags WriteLater s n e once absent = inr tt
lags WriteClean None n e once absent = inr (absent refl)
lags WriteClean (Some h) n e once absent = inl (once (h, refl))
lags Evict None n e once absent = inr (absent refl)
lags Evict (Some h) n e once absent = inl (once (h, refl))
lags Clean s n e once absent = inr tt
lags Commit s n e once absent = inl (once tt)
lags Checkpoint s n e once absent = inl (once tt)

-- if the step leaves no block, a crash brings none back
gone : (kind : Kind) (lba : ℕ) (block : Block) (s n e : Option Held) → (AtOnce kind s → e ≡ n) → (s ≡ None → e ≡ None) → n ≡ None → step_of kind lba block s ≡ None → e ≡ None
gone WriteDirty lba block s n e once absent none is = absurd (cc)
gone WriteLater lba block s n e once absent none is = absurd (cc)
gone WriteClean lba block s n e once absent none is = absurd (cc)
gone Evict lba block None n e once absent none is = absent refl
gone Evict lba block (Some h) n e once absent none is = once (h, refl) ∙ none
gone Clean lba block s n e once absent none is = absent (cleaned_none s is)
gone Commit lba block s n e once absent none is = absent is
gone Checkpoint lba block s n e once absent none is = absent is

abbrev pub FromOne : Bool → Bool → Kind → ℕ → Block → (Option Held → Type 0) → Option Held → Type 0
FromOne answered here kind lba block P o = (p : Option Held) × P p × From answered here kind lba block p o

elsewhere : {P : Type 0} → false ≡ true → P
elsewhere e = absurd (cc)

module _ (kind : Kind) (lba : ℕ) (block : Block) (P : Option Held → Type 0) (s n e : Option Held) (may : P s) where
  -- a crash would leave a block that may have been there before
  behind : (here : Bool) → n ≡ step_at here kind lba block s → (here ≡ true → AtOnce kind s → e ≡ n) → P e → (s ≡ None → e ≡ None) → Both (FromOne true here kind lba block P) n e
  behind true is once before absent = elim (lags kind s n e (once refl) absent) [
    | inl same ↦ alike (FromOne true true kind lba block P) n e same (s, may, Stepped is)
    | inr lag ↦ record { now = (s, may, Stepped is); durable = (e, before, Kept refl (λ x y. lag)); absent = λ none. gone kind lba block s n e (once refl) absent none (sym is ∙ none) }
  ]
  behind false is once before absent = record { now = (s, may, Stepped is); durable = (e, before, Kept refl (λ x y. elsewhere y)); absent = λ none. absent (sym is ∙ none) }

  -- the old block gave way
  lost : (here : Bool) → IsClean s → is_write kind ≡ true → n ≡ step_at here kind lba block None → (here ≡ true → AtOnce kind s → e ≡ n) → (e ≡ None) ⊎ (e ≡ n) → Both (FromOne true here kind lba block P) n e
  lost true clean w is once (inr at) = alike (FromOne true true kind lba block P) n e at (s, may, Stepped (is ∙ write_alike kind lba block None s w))
  lost true clean w is once (inl at) = elim (lags kind s n e (once refl) (λ none. at)) [
    | inl same ↦ alike (FromOne true true kind lba block P) n e same (s, may, Stepped (is ∙ write_alike kind lba block None s w))
    | inr lag ↦ record { now = (s, may, Stepped (is ∙ write_alike kind lba block None s w)); durable = (s, may, GaveWay (λ x y. subst (Lags kind) at lag) clean at); absent = λ none. at }
  ]
  lost false clean w is once (inl at) = let own : FromOne true false kind lba block P n = (s, may, GaveWay (λ x y. elsewhere y) clean is) in alike (FromOne true false kind lba block P) n e (at ∙ sym is) own
  lost false clean w is once (inr at) = alike (FromOne true false kind lba block P) n e at (s, may, GaveWay (λ x y. elsewhere y) clean is)

-- ---- the lists after an event

at : (a : ℕ) (s t : CacheList) → s ≡ t → get s a ≡ get t a
at a s t e = ap (λ (l : CacheList). get l a) e

module _ (P : Option Held → Type 0) (g : Geometry) (a : ℕ) (es : List CacheEvent) (x : Given) (old new : TwoLists) (after : AfterAnswer g x old new) (m : Mights P a es old) where
  now_is : get new.now a ≡ step_at (a == x.address) x.kind x.address x.block (get after.left a)
  now_is = at a new.now _ after.now ∙ get_stepped x.kind x.address x.block after.left a

  once : (a == x.address) ≡ true → AtOnce x.kind (get old.now a) → get new.durable a ≡ get new.now a
  once here t = at a new.durable new.now (after.at_once (at_once x.kind x.address old.now (subst (λ n. AtOnce x.kind (get old.now n)) (eqb-true a x.address here) t)))

  answered_kept : get after.left a ≡ get old.now a → Mights P a (Answered x ∷ es) new
  answered_kept same = elim after.durable [
    | inl k ↦ let e = at a new.durable old.durable k.1 in from (subst (Might P a es) (sym e) m.durable) (λ none. e ∙ m.absent none)
    | inr d ↦ elim d [
      | inl is ↦ let e = at a new.durable after.left is ∙ same in from (subst (Might P a es) (sym e) m.now) (λ none. e ∙ none)
      | inr is ↦ alike (Might P a (Answered x ∷ es)) (get new.now a) (get new.durable a) (at a new.durable new.now is) (get old.now a, m.now, Stepped stepped_here)
    ]
  ]
    where
      stepped_here : get new.now a ≡ step_at (a == x.address) x.kind x.address x.block (get old.now a)
      stepped_here = now_is ∙ ap (step_at (a == x.address) x.kind x.address x.block) same

      from : Might P a es (get new.durable a) → (get old.now a ≡ None → get new.durable a ≡ None) → Mights P a (Answered x ∷ es) new
      from = behind x.kind x.address x.block (Might P a es) (get old.now a) (get new.now a) (get new.durable a) m.now (a == x.address) stepped_here once

  answered_lost : IsClean (get old.now a) → get after.left a ≡ None → is_write x.kind ≡ true → Mights P a (Answered x ∷ es) new
  answered_lost clean none w = lost x.kind x.address x.block (Might P a es) (get old.now a) (get new.now a) (get new.durable a) m.now (a == x.address) clean w (now_is ∙ ap (step_at (a == x.address) x.kind x.address x.block) none) once (by after.durable)
    where
      by : ((after.left ≡ old.now) × (new.durable ≡ old.durable)) ⊎ (new.durable ≡ after.left) ⊎ (new.durable ≡ new.now) → (get new.durable a ≡ None) ⊎ (get new.durable a ≡ get new.now a)
      by (inl k) = absurd (let both : None ≡ Some clean.0 = sym none ∙ at a after.left old.now k.0 ∙ clean.1 in cc)
      by (inr (inl is)) = inl (at a new.durable after.left is ∙ none)
      by (inr (inr is)) = inr (at a new.durable new.now is)

  pub mights_answered : Mights P a (Answered x ∷ es) new
  mights_answered = elim (left_at g x.kind x.address old.now after.left after.left_by a) [
    | inl same ↦ answered_kept same
    | inr gave ↦ answered_lost gave.0 gave.1 gave.2
  ]

module _ (P : Option Held → Type 0) (g : Geometry) (a : ℕ) (es : List CacheEvent) (x : Given) (old new : TwoLists) (after : AfterRefusal g x old new) (m : Mights P a es old) where
  refused_kept : get after.left a ≡ get old.now a → Might P a (Refused x ∷ es) (get new.now a)
  refused_kept same = elim after.now [
    | inl is ↦ (get old.durable a, m.durable, Kept (at a new.now old.durable is) (λ answered. absurd (cc)))
    | inr d ↦ elim d [
      | inl is ↦ (get old.now a, m.now, Kept (at a new.now after.left is ∙ same) (λ answered. absurd (cc)))
      | inr is ↦ (get old.now a, m.now, Stepped (at a new.now _ is ∙ get_stepped x.kind x.address x.block after.left a ∙ ap (step_at (a == x.address) x.kind x.address x.block) same))
    ]
  ]

  -- a block that gave way is gone, or was written
  lost_step : IsClean (get old.now a) → is_write x.kind ≡ true → (here : Bool) → get new.now a ≡ step_at here x.kind x.address x.block None → From false here x.kind x.address x.block (get old.now a) (get new.now a)
  lost_step clean w true is = Stepped (is ∙ write_alike x.kind x.address x.block None (get old.now a) w)
  lost_step clean w false is = GaveWay (λ answered y. elsewhere y) clean is

  refused_lost : IsClean (get old.now a) → get after.left a ≡ None → is_write x.kind ≡ true → Might P a (Refused x ∷ es) (get new.now a)
  refused_lost clean none w = elim after.now [
    | inl is ↦ (get old.durable a, m.durable, Kept (at a new.now old.durable is) (λ answered. absurd (cc)))
    | inr d ↦ elim d [
      | inl is ↦ (get old.now a, m.now, GaveWay (λ answered. absurd (cc)) clean (at a new.now after.left is ∙ none))
      | inr is ↦ (get old.now a, m.now, lost_step clean w (a == x.address) (at a new.now _ is ∙ get_stepped x.kind x.address x.block after.left a ∙ ap (step_at (a == x.address) x.kind x.address x.block) none))
    ]
  ]

  refused_now : Might P a (Refused x ∷ es) (get new.now a)
  refused_now = elim (left_at g x.kind x.address old.now after.left after.left_by a) [
    | inl same ↦ refused_kept same
    | inr gave ↦ refused_lost gave.0 gave.1 gave.2
  ]

  pub mights_refused : Mights P a (Refused x ∷ es) new
  mights_refused = alike (Might P a (Refused x ∷ es)) (get new.now a) (get new.durable a) (at a new.durable new.now after.durable) refused_now

pub mights_crashed : (P : Option Held → Type 0) (a : ℕ) (es : List CacheEvent) (old new : TwoLists) → AfterCrash old new → Mights P a es old → Mights P a (Crashed ∷ es) new
mights_crashed P a es old new after m = record {
  now = subst (Might P a es) (sym (at a new.now old.durable after.now)) m.durable;
  durable = subst (Might P a es) (sym (at a new.durable old.durable after.durable)) m.durable;
  absent = λ n. at a new.durable old.durable after.durable ∙ sym (at a new.now old.durable after.now) ∙ n;
}

-- beginning with lists of which this holds at the address
pub mights_from : (P : Option Held → Type 0) (g : Geometry) (start : TwoLists) (es : List CacheEvent) (l : TwoLists) → LivedFrom g start es l → (a : ℕ) → Mights P a [] start → Mights P a es l
mights_from P g start [] l is a m = subst (λ (k : TwoLists). Mights P a [] k) (sym is) m
mights_from P g start (Answered x ∷ es) l lived a m = mights_answered P g a es x lived.0 l lived.2 (mights_from P g start es lived.0 lived.1 a m)
mights_from P g start (Refused x ∷ es) l lived a m = mights_refused P g a es x lived.0 l lived.2 (mights_from P g start es lived.0 lived.1 a m)
mights_from P g start (Crashed ∷ es) l lived a m = mights_crashed P a es lived.0 l lived.2 (mights_from P g start es lived.0 lived.1 a m)

none_held : (a : ℕ) → get {X = Held} {R = nat_cmp} empty a ≡ None
none_held a = get-empty nat_cmp a

pub mights : (g : Geometry) (es : List CacheEvent) (l : TwoLists) → Lived g es l → (a : ℕ) → Mights IsNone a es l
mights g es l lived a = mights_from IsNone g (both_alike empty) es l lived a (record { now = none_held a; durable = none_held a; absent = λ n. n })

-- an absent address is absent in both
pub mights_none : (g : Geometry) (es : List CacheEvent) (l : TwoLists) → Lived g es l → (a : ℕ) → get l.now a ≡ None → Mights IsNone a [] l
mights_none g es l lived a none = record { now = none; durable = (mights g es l lived a).absent none; absent = (mights g es l lived a).absent }

-- beginning with lists that hold this at the address
pub held_both : (start : TwoLists) (a : ℕ) (h : Held) → get start.now a ≡ Some h → get start.durable a ≡ Some h → Mights (λ o. o ≡ Some h) a [] start
held_both start a h now durable = record { now = now; durable = durable; absent = λ none. absurd (let both : None ≡ Some h = sym none ∙ now in cc) }

-- or a dirty block
pub dirty_both : (start : TwoLists) (a : ℕ) → IsDirty (get start.now a) → IsDirty (get start.durable a) → Mights IsDirty a [] start
dirty_both start a now durable = record { now = now; durable = durable; absent = λ none. absurd (let both : None ≡ Some now.0 = sym none ∙ now.1 in cc) }

-- or that are one list
pub alike_both : (s : CacheList) (a : ℕ) → Mights (λ o. o ≡ get s a) a [] (both_alike s)
alike_both s a = record { now = refl; durable = refl; absent = λ none. none }
