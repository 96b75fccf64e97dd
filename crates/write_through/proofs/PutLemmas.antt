-- A block is put on the disk, at an address that the cache doesn't hold.
use Rattle.std.proofs.Common.{◌≡◌, ◌⊎◌, ℕ, ◌<◌, true, false, List, [], Option, Some, None, Err, inl, inr, refl, sym, ◌∙◌, ap, subst}
use Rattle.std.specs.FinMap.{get}
use Rattle.std.specs.List.{list_any}
use Rattle.std.specs.Option.{is_some}
use Rattle.std.proofs.lemmas.Bool.{cases_eq, false≢true}
use Rattle.ft_base.specs.declared.block.Block.{Block}
use Rattle.ft_base.specs.declared.block.Place.{Place}
use Rattle.ft_base.specs.declared.block.Page.{Page}
use Rattle.ft_base.specs.Contents.{Contents, HasValue, Image, Now, Shape, Values, flushed, set, written}
use Rattle.ft_base.specs.PlainDisk.{PlainDisk}
use Rattle.ft_base.specs.Told.{Told}
use Rattle.ft_base.specs.declared.told.Mode.TheVariants.{Through}
use Rattle.ft_base.proofs.Images.{set_here, set_other}
use Rattle.ft_media.specs.Media.{Crashed, after_write}
use Rattle.ft_volume.specs.Opening.{ImageIs}
use Rattle.ft_volume.specs.Volume.{StandForEither, StandForOne, VolumeState, WasDone, WasOne, Writes}
use Rattle.ft_volume.specs.Standing.{StandFor}
use Rattle.ft_volume.specs.declared.volume.VolumeError.TheVariants.{DiskFault, PowerLost}
use Rattle.ft_volume.proofs.DoneLemmas.{done_of_one}
use Rattle.cache_model.specs.Cache.{Buffered, is_write, undo}
use Rattle.cache_model.specs.CacheList.{Agrees, CacheList, Held, held_or}
use Rattle.cache_model.specs.Stands.{FlashStandsFor}
use Rattle.cache_model.proofs.UndoLemmas.{get_undo, undone_at}
use Rattle.op_log.specs.Log.{FitsOn}
use Rattle.ssc.specs.declared.cache.Ssc.{Ssc}
use Rattle.ssc.specs.CacheState.{Holds, entries_of, pending}
use Rattle.ssc.proofs.HoldsLemmas.{undone_none}
use Rattle.cached_disk.specs.declared.disk.CachedDisk.{CachedDisk}
use Rattle.cached_disk.specs.Kept.{IsBeneath, IsHeld, IsLeft, is_down, told_of}
use Rattle.cached_disk.proofs.AddressLemmas.{holds_held}
use Rattle.cached_disk.proofs.DiskLemmas.{IsOver, one_value}
use Rattle.cached_disk.proofs.ReadLemmas.{not_some}
use Rattle.cached_disk.proofs.HeldLemmas.{base_over, down_left, held_agrees, held_beneath, held_left, held_no_write, holds_over, none_later, through_none, undone}

-- each value is one that the disk had, or the block
abbrev pub IsOldOr : Contents → Contents → ℕ → Block → Type 0
IsOldOr old new lba block = (at : ℕ) (b : Block) → HasValue (new.disk at) b → HasValue (old.disk at) b ⊎ ((at ≡ lba) × (b ≡ block))

-- the block was written and flushed
abbrev pub IsPut : Contents → Contents → ℕ → Block → Type 0
IsPut old new lba block = (at : ℕ) → new.disk at ≡ flushed (after_write old.disk lba block at)

-- the disk then has the block
pub put_newest : (lba : ℕ) (block : Block) (old new : Contents) → IsPut old new lba block → block ≡ (new.disk lba).newest
put_newest lba block old new put = sym (ap (λ (v : Values). v.newest) (put lba) ∙ ap (λ (v : Values). v.newest) (set_here old.disk lba (written (old.disk lba) block)))

-- ---- an address that isn't held

pub absent_of : (c : Ssc) (contents : Contents) (s : CacheList) → Holds c contents s → (a : ℕ) → is_some (get (entries_of c) a) ≡ false → get s a ≡ None
absent_of c contents s holds a is = not_some (get s a) (sym (holds_held c contents s holds a) ∙ is)

-- the address isn't held without the buffered changes either
undone_absent : (q : List Buffered) (s : CacheList) (a : ℕ) → list_any is_write q ≡ false → get s a ≡ None → get (undo q s) a ≡ None
undone_absent q s a no_write none = get_undo q s a ∙ ap (undone_at q a) none ∙ undone_none q a no_write

-- ---- over a list that lacks the address

module _ (lba : ℕ) (block : Block) (old new : Contents) (values : IsOldOr old new lba block) (s : CacheList) (absent : get s lba ≡ None) where
  agrees_now : Agrees s old.disk → Agrees s new.disk
  agrees_now agrees a h b at clean has = elim (values a b has) [
    | inl was ↦ agrees a h b at clean was
    | inr is ↦ absurd (let no : None ≡ Some h = sym absent ∙ ap (λ (n : ℕ). get s n) (sym is.0) ∙ at in cc)
  ]

  module _ (told : Told) (beneath : IsBeneath told old s) (page : new.flash.page ≡ old.flash.page) where
    beneath_now : IsBeneath told new s
    beneath_now = record {
      flash = subst (λ (f : Place → Page). FlashStandsFor told.geometry f s) (sym page) beneath.flash;
      agrees = agrees_now beneath.agrees;
      suits = beneath.suits;
    }

    image_is : (x : Image) (d : PlainDisk) → Now new x → ((a : ℕ) → a < told.geometry.size → held_or (get s a) (x.block a) ≡ d a) → ImageIs told x d
    image_is x d now volume = record {
      list = s;
      flash = subst (λ (f : Place → Page). FlashStandsFor told.geometry f s) (sym now.pages) beneath_now.flash;
      agrees = λ a h b at clean value. elim value [ inl same ↦ same ∙ beneath_now.agrees a h (x.block a) at clean (now.blocks a) | inr none ↦ absurd none ];
      suits = beneath.suits;
      volume = volume;
    }

    module _ (d : PlainDisk) (over : IsOver told.geometry s old.disk d) (inside : lba < told.geometry.size) where
      each : (x : Image) → Now new x → (a : ℕ) → a < told.geometry.size → (held_or (get s a) (x.block a) ≡ d a) ⊎ ((a ≡ lba) × (x.block a ≡ block))
      each x now a within = elim (values a (x.block a) (now.blocks a)) [ inl was ↦ inl (over a within (x.block a) was) | inr is ↦ inr is ]

      as_old : (x : Image) → Now new x → held_or (get s lba) (x.block lba) ≡ d lba → ImageIs told x d
      as_old x now here = image_is x d now (λ a within. elim (each x now a within) [
        | inl same ↦ same
        | inr is ↦ subst (λ (n : ℕ). held_or (get s n) (x.block n) ≡ d n) (sym is.0) here
      ])

      as_new : (x : Image) → Now new x → x.block lba ≡ block → ImageIs told x (set d lba block)
      as_new x now here = image_is x (set d lba block) now (λ a within. elim (cases_eq lba a) [
        | inl same ↦ subst (λ (n : ℕ). held_or (get s n) (x.block n) ≡ set d lba block n) same (ap (λ (o : Option Held). held_or o (x.block lba)) absent ∙ here ∙ sym (set_here d lba block))
        | inr other ↦ elim (each x now a within) [
          | inl is ↦ is ∙ sym (set_other d lba a block other)
          | inr is ↦ absurd (other (sym is.0))
        ]
      ])

      -- a crash leaves the old plain disk, or the plain disk with the block
      images_now : StandForEither (ImageIs told) new d (set d lba block)
      images_now x now = elim (each x now lba inside) [
        | inl same ↦ inl (as_old x now same)
        | inr is ↦ inr (as_new x now is.1)
      ]

      -- with one value for each block of the disk, it leaves one of the two
      one_now : Crashed new → StandForOne (ImageIs told) new d (set d lba block)
      one_now crashed =
          let only : (x : Image) → Now new x → x.block lba ≡ (new.disk lba).newest = λ x now. one_value (new.disk lba) (x.block lba) (crashed.alone lba) (now.blocks lba) in
          elim (values lba (new.disk lba).newest (inl refl)) [
            | inl was ↦ inl (λ x now. as_old x now (ap (λ (b : Block). held_or (get s lba) b) (only x now) ∙ over lba inside (new.disk lba).newest was))
            | inr is ↦ inr (λ x now. as_new x now (only x now ∙ is.1))
          ]

      stands_now : IsPut old new lba block → StandFor (ImageIs told) new (set d lba block)
      stands_now put x now = as_new x now (one_value (new.disk lba) (x.block lba) (ap (λ (v : Values). v.earlier) (put lba)) (now.blocks lba) ∙ sym (put_newest lba block old new put))

      -- the disk failed
      one_failed : WasOne {T = Unit {0}} (ImageIs told) (Writes lba block) new (Err DiskFault) d
      one_failed = record {
        kept = λ nothing. absurd (cc);
        found = tt;
        done = tt;
        images = images_now;
        one = λ is. absurd (cc);
        memory = λ is. absurd (cc);
      }

      one_lost : Crashed new → WasOne {T = Unit {0}} (ImageIs told) (Writes lba block) new (Err PowerLost) d
      one_lost crashed = record {
        kept = λ nothing. absurd (cc);
        found = tt;
        done = tt;
        images = images_now;
        one = λ is. one_now crashed;
        memory = λ is. absurd (cc);
      }

-- ---- over a volume that is up

module _ (v : CachedDisk) (old new : Contents) (left : IsLeft v old) (up : is_down v ≡ false) (lba : ℕ) (block : Block) (values : IsOldOr old new lba block) (none : is_some (get (entries_of v.cache) lba) ≡ false) (shape : new.shape ≡ old.shape) (through : v.mode ≡ Through) where
  is : IsHeld v old left.held
  is = left.up up

  no_write : list_any is_write (pending v.cache) ≡ false
  no_write = through_none v through is.may_undo

  absent : get left.held lba ≡ None
  absent = absent_of v.cache old left.held is.holds lba none

  fits : FitsOn v.options.geometry new.shape
  fits = subst (λ (x : Shape). FitsOn v.options.geometry x) (sym shape) left.shape

  pub put_left : new.flash ≡ old.flash → IsPut old new lba block → IsLeft v new
  put_left flash put = held_left v new left.held left.own
      (held_no_write v new left.held no_write (holds_over v.cache old new left.held flash shape is.holds)
      (agrees_now lba block old new values left.held absent (held_agrees v old left.held is))
      (λ a. inl (ap (λ (x : Values). x.earlier) (put a))) is.suits is.may_undo) fits

  module _ (page : new.flash.page ≡ old.flash.page) where
    abbrev beneath_list : CacheList
    beneath_list = undone v old left.held left.own is

    beneath_absent : get beneath_list lba ≡ None
    beneath_absent = undone_absent is.holds.waiting left.held lba (none_later v no_write old left.held is.holds).1 absent

    beneath_old : IsBeneath (told_of v) old beneath_list
    beneath_old = held_beneath v old left.held left.own is

    pub put_down : IsLeft (record v { down = true }) new
    put_down = down_left (record v { down = true }) new beneath_list left.own fits refl (beneath_now lba block old new values beneath_list beneath_absent (told_of v) beneath_old page)

    module _ (inside : lba < v.options.geometry.size) (d : PlainDisk) (stand : StandFor (ImageIs (told_of v)) old d) where
      over : IsOver v.options.geometry beneath_list old.disk d
      over = base_over v old left.held left.own is d stand

      pub put_stands : IsPut old new lba block → StandFor (ImageIs (told_of v)) new (set d lba block)
      put_stands = stands_now lba block old new values beneath_list beneath_absent (told_of v) beneath_old page d over inside

      module _ (was now : VolumeState) (nothing : was.owed ≡ []) (nothing_now : now.owed ≡ []) (same : now.told ≡ told_of v) (down : now.down ≡ true) where
        not_up : now.down ≡ false → StandFor (ImageIs now.told) new d
        not_up up = absurd (false≢true (sym up ∙ down))

        pub put_failed : WasDone {T = Unit {0}} ImageIs (Writes lba block) was now new (Err DiskFault) d
        put_failed = done_of_one ImageIs (Writes lba block) was now new (Err DiskFault) d nothing nothing_now
            (subst (λ (t : Told). WasOne {T = Unit {0}} (ImageIs t) (Writes lba block) new (Err DiskFault) d) (sym same) (one_failed lba block old new values beneath_list beneath_absent (told_of v) beneath_old page d over inside)) not_up

        pub put_lost : Crashed new → WasDone {T = Unit {0}} ImageIs (Writes lba block) was now new (Err PowerLost) d
        put_lost crashed = done_of_one ImageIs (Writes lba block) was now new (Err PowerLost) d nothing nothing_now
            (subst (λ (t : Told). WasOne {T = Unit {0}} (ImageIs t) (Writes lba block) new (Err PowerLost) d) (sym same) (one_lost lba block old new values beneath_list beneath_absent (told_of v) beneath_old page d over inside crashed)) not_up
