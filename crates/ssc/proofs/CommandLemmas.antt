-- The answers of a command, and the lists that it leaves, between two states of a cache that holds a list.
use Rattle.std.proofs.Common.{◌≡◌, ◌↔◌, ℕ, ◌<◌, ◌==◌, Bool, true, false, cond, Option, Some, None, Result, Ok, Err, OnOk, OnErr, IsErrOf, IsTrue, refl, sym, ◌∙◌, ap, subst, arith, inl, inr, eqb-true}
use Rattle.std.specs.Result.{is_err}
use Rattle.std.specs.Option.{option_map, is_some}
use Rattle.std.specs.Cmp.{nat_cmp_total}
use Rattle.std.specs.FinMap.{get, same_map, nat_cmp-IsAntisymmetric}
use Rattle.std.proofs.lemmas.Bool.{cases_Bool, both_ways}
use Rattle.ft_base.specs.declared.block.Block.{Block}
use Rattle.ft_base.specs.declared.geometry.Geometry.{Geometry}
use Rattle.ft_base.specs.declared.block.Place.{Place}
use Rattle.ft_base.specs.declared.block.Page.{Page}
use Rattle.ft_base.specs.Contents.{Contents, Image, Now}
use Rattle.ft_base.specs.declared.block.Page.TheVariants.{Blank, Whole, Torn}
use Rattle.ft_base.specs.declared.block.Spare.{Spare}
use Rattle.ft_media.specs.State.{State, failed, lost}
use Rattle.ft_media.specs.Drives.{DrivesFlash}
use Rattle.ft_media.specs.Media.{Found}
use Rattle.ft_media.specs.declared.media.PageRead.{PageRead}
use Rattle.ft_media.specs.declared.media.PageRead.TheVariants as read
use Rattle.ft_media.specs.declared.media.MediaError.{MediaError}
use Rattle.ft_media.specs.declared.media.MediaError.TheVariants as media
use Rattle.cache_model.specs.declared.entry.Entry.{Entry}
use Rattle.cache_model.specs.Cache.{evicted, made_clean, marked, marked_as}
use Rattle.cache_model.specs.CacheList.{Held, held, CacheList}
use Rattle.cache_model.specs.Loading.{is_whole}
use Rattle.cache_model.proofs.MapLemmas.{get_insert, get_remove}
use Rattle.mapping.specs.Counts.{place_and_mark}
use Rattle.merge_engine.proofs.TakeLemmas.{agree_map}
use Rattle.ssc.specs.declared.cache.Ssc.{Ssc}
use Rattle.ssc.specs.declared.error.SscError.{SscError}
use Rattle.ssc.specs.Errors.{of_media, ssc_failed, ssc_lost}
use Rattle.ssc.specs.Kept.{RefusesWrite}
use Rattle.ssc.specs.CacheState.{Holds, entries_of}
use Rattle.ssc.specs.Commands.{FlashStandsForOne, AsUndone, AsBefore, AsAfter}
use Rattle.ssc.specs.Steps.{FlashStandsForEither}
use Rattle.ssc.proofs.HoldsLemmas.{held_none, held_some}
use Rattle.merge_engine.proofs.CopyLemmas.{IsReadable, placed_entry}

-- ---- images

-- a fact that holds of the pages now holds of each image
image_of : (g : Geometry) (contents : Contents) (undone before after : CacheList) → FlashStandsForOne g contents.flash.page undone before after → (x : Image) → Now contents x → FlashStandsForOne g x.page undone before after
image_of g contents undone before after stands x now = subst (λ (p : Place → Page). FlashStandsForOne g p undone before after) (sym now.pages) stands

-- the images of a step that is committed with all buffered changes
pub images_after : (g : Geometry) (contents : Contents) (undone before after : CacheList) → FlashStandsForEither g contents.flash.page undone after → (x : Image) → Now contents x → FlashStandsForOne g x.page undone before after
images_after g contents undone before after (inl s) = image_of g contents undone before after (AsUndone s)
images_after g contents undone before after (inr s) = image_of g contents undone before after (AsAfter s)

-- the images of a commit
pub images_before : (g : Geometry) (contents : Contents) (undone before after : CacheList) → FlashStandsForEither g contents.flash.page undone before → (x : Image) → Now contents x → FlashStandsForOne g x.page undone before after
images_before g contents undone before after (inl s) = image_of g contents undone before after (AsUndone s)
images_before g contents undone before after (inr s) = image_of g contents undone before after (AsBefore s)

-- ---- an answer that is `Ok`, and one that is `Err`

pub not_refused : {T E P : Type 0} (r : Result T E) (b : Bool) → b ≡ is_err r → b ≡ false → OnOk r P → P
not_refused (Ok v) b is f h = h
not_refused (Err e) b is f h = absurd (both_ways b f is)

pub was_refused : {T E P : Type 0} (r : Result T E) (b : Bool) → b ≡ is_err r → b ≡ true → OnErr r P → P
was_refused (Ok v) b is t h = absurd (both_ways b is t)
was_refused (Err e) b is t h = h

-- ---- given up

given_up : (T : Type 0) (a b : State) (e : MediaError) → DrivesFlash a b (failed {T = T} (Err e)) (lost {T = T} (Err e)) → DrivesFlash a b (ssc_failed {T = T} (Err (of_media e))) (ssc_lost {T = T} (Err (of_media e)))
given_up T a b media.Failed drives = drives
given_up T a b media.PowerLost drives = drives
given_up T a b media.OutOfMemory drives = drives

-- a command that failed drove the media as its step did
pub drives_given_up : (T : Type 0) (a b : State) (r : SscError) (e : MediaError) → r ≡ of_media e → DrivesFlash a b (failed {T = T} (Err e)) (lost {T = T} (Err e)) → DrivesFlash a b (ssc_failed {T = T} (Err r)) (ssc_lost {T = T} (Err r))
drives_given_up T a b r e is drives = subst (λ (x : SscError). DrivesFlash a b (ssc_failed {T = T} (Err x)) (ssc_lost {T = T} (Err x))) (sym is) (given_up T a b e drives)

-- neither is it one that answered `Full` or had no memory
no_refusal : (T U : Type 0) (old new : Ssc) (a b : State) (e : MediaError) → (IsErrOf {T = U} (Err e) media.OutOfMemory → ⊥) → RefusesWrite {T = T} old new a b (Err (of_media e))
no_refusal T U old new a b media.Failed never = record { full_keeps = λ n l is. absurd (cc); memory = λ is. absurd (cc); memory_holds = λ is. absurd (cc) }
no_refusal T U old new a b media.PowerLost never = record { full_keeps = λ n l is. absurd (cc); memory = λ is. absurd (cc); memory_holds = λ is. absurd (cc) }
no_refusal T U old new a b media.OutOfMemory never = absurd (never refl)

pub failed_refuses : (T U : Type 0) (old new : Ssc) (a b : State) (r : SscError) (e : MediaError) → r ≡ of_media e → (IsErrOf {T = U} (Err e) media.OutOfMemory → ⊥) → RefusesWrite {T = T} old new a b (Err r)
failed_refuses T U old new a b r e is never = subst (λ (x : SscError). RefusesWrite {T = T} old new a b (Err x)) (sym is) (no_refusal T U old new a b e never)

-- ---- nothing to do

pub evicted_absent : (s : CacheList) (a : ℕ) → get s a ≡ None → evicted a s ≡ s
evicted_absent s a absent = same_map nat_cmp_total nat_cmp-IsAntisymmetric _ _ (λ x. get_remove s a x ∙ at x)
  where
    at : (x : ℕ) → cond (x == a) None (get s x) ≡ get s x
    at x = elim (cases_Bool (x == a)) [
      | inl t ↦ ap (λ b. cond b None (get s x)) t ∙ sym (ap (λ n. get s n) (eqb-true x a t) ∙ absent)
      | inr f ↦ ap (λ b. cond b None (get s x)) f
    ]

pub cleaned_clean : (s : CacheList) (a : ℕ) (h : Held) → get s a ≡ Some h → h.dirty ≡ false → made_clean a s ≡ s
cleaned_clean s a h is clean = ap (marked false a s) is ∙ same_map nat_cmp_total nat_cmp-IsAntisymmetric _ _ (λ x. get_insert s a (marked_as false h) x ∙ at x)
  where
    at : (x : ℕ) → cond (x == a) (Some (marked_as false h)) (get s x) ≡ get s x
    at x = elim (cases_Bool (x == a)) [
      | inl t ↦ ap (λ b. cond b (Some (marked_as false h)) (get s x)) t ∙ ap (λ m. Some (held h.block h.spare m)) (sym clean) ∙ sym (ap (λ n. get s n) (eqb-true x a t) ∙ is)
      | inr f ↦ ap (λ b. cond b (Some (marked_as false h)) (get s x)) f
    ]

module _ (c : Ssc) (contents : Contents) (s : CacheList) (lba : ℕ) (holds : Holds c contents s) where
  -- an address without an entry
  pub no_entry : ((e : Entry) × (get (entries_of c) lba ≡ Some e) → ⊥) → get s lba ≡ None
  no_entry never = by (get (entries_of c) lba) refl
    where
      by : (o : Option Entry) → get (entries_of c) lba ≡ o → get s lba ≡ None
      by None is = held_none c contents s lba holds is
      by (Some e) is = absurd (never (e, is))

  pub an_entry : (e : Entry) → get (entries_of c) lba ≡ Some e → get s lba ≡ None → ⊥
  an_entry e is none = let h = held_some c contents s lba e holds is in let both : None ≡ Some h.0 = sym none ∙ h.1 in cc

  pub dirty_entry : ((e : Entry) × (get (entries_of c) lba ≡ Some e) × (e.dirty ≡ true)) → (h : Held) × (get s lba ≡ Some h) × (h.dirty ≡ true)
  dirty_entry x = let h = held_some c contents s lba x.0 holds x.1 in (h.0, h.1, h.2 ∙ x.2)

  pub no_dirty_entry : ((e : Entry) × (get (entries_of c) lba ≡ Some e) × (e.dirty ≡ true) → ⊥) → made_clean lba s ≡ s
  no_dirty_entry never = by (get (entries_of c) lba) refl
    where
      by : (o : Option Entry) → get (entries_of c) lba ≡ o → made_clean lba s ≡ s
      by None is = ap (marked false lba s) (held_none c contents s lba holds is)
      by (Some e) is = elim (cases_Bool e.dirty) [
        | inl t ↦ absurd (never (e, is, t))
        | inr f ↦ let h = held_some c contents s lba e holds is in cleaned_clean s lba h.0 h.1 (h.2 ∙ f)
      ]

-- ---- an entry is there

pub entry_there : (o : Option Entry) (r : Option (Place × Bool)) (b : Bool) → r ≡ option_map place_and_mark o → b ≡ is_some r → IsTrue b ↔ ((e : Entry) × (o ≡ Some e))
entry_there None r b is there =
    let none : b ≡ false = there ∙ ap is_some is in
    (λ t. absurd (both_ways b none t), λ e. absurd (let both : None ≡ Some e.0 = e.1 in cc))
entry_there (Some e) r b is there = (λ t. (e, refl), λ x. there ∙ ap is_some is)

-- ---- a block that is read

-- the page of an address is there, and whole
pub readable : (c : Ssc) (contents : Contents) (s : CacheList) (lba : ℕ) (at : Place) (dirty : Bool) → Holds c contents s → Some (at, dirty) ≡ option_map place_and_mark (get (entries_of c) lba) → IsReadable contents at
readable c contents s lba at dirty holds is =
    let k = holds.agree.sound in
    let x = placed_entry (get (entries_of c) lba) at dirty is in
    let pool = (agree_map c.parts contents holds.agree).in_pool lba x.0 x.1 in
    subst (λ (p : Place). IsReadable contents p) x.2 (record {
      block = let below = pool.below in let most = k.shape.blocks in omega arith;
      page = subst (λ n. x.0.place.page < n) (sym k.shape.pages) pool.page;
      whole = k.whole.whole lba x.0 x.1;
    })

pub found_whole : (q : Page) (got : PageRead) (block : Block) (spare : Spare) → is_whole q ≡ true → Found q got block spare → got ≡ read.Whole
found_whole Blank got block spare whole found = absurd (cc)
found_whole (Whole b s) got block spare whole found = found.0
found_whole Torn got block spare whole found = absurd (cc)
