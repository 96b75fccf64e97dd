-- A list of held blocks over a disk, as a plain disk.
use Rattle.std.proofs.Common.{◌≡◌, ◌⊎◌, ℕ, ◌<◌, List, [], Option, Some, Ok, inl, inr, refl, sym, ◌∙◌, ap, subst}
use Rattle.std.specs.Option.{option_and_then}
use Rattle.std.specs.Cmp.{nat_cmp_total}
use Rattle.std.specs.FinMap.{get, same_map, nat_cmp-IsAntisymmetric}
use Rattle.ft_base.specs.declared.block.Block.{Block}
use Rattle.ft_base.specs.declared.block.Place.{Place}
use Rattle.ft_base.specs.declared.block.Page.{Page}
use Rattle.ft_base.specs.declared.geometry.Geometry.{Geometry}
use Rattle.ft_base.specs.Contents.{Contents, Image, Now, Values, HasValue, IsOneOf}
use Rattle.ft_base.specs.PlainDisk.{PlainDisk}
use Rattle.ft_base.specs.Told.{Told}
use Rattle.ft_base.proofs.Images.{newest_image, set_here, value_image, with_newest, with_value}
use Rattle.ft_volume.specs.Opening.{ImageIs}
use Rattle.ft_volume.specs.Volume.{StandForAny, StandForOneOf}
use Rattle.ft_volume.specs.Standing.{StandFor}
use Rattle.ft_volume.proofs.UpLemmas.{any_map}
use Rattle.cache_model.specs.Records.{Entries}
use Rattle.cache_model.specs.CacheList.{Agrees, CacheList, Held, held_or}
use Rattle.cache_model.specs.Stands.{FlashStandsFor, held_at}
use Rattle.cached_disk.specs.Kept.{IsBeneath}

-- flash stands for one list
pub same_list : (g : Geometry) (page : Place → Page) (s t : CacheList) → FlashStandsFor g page s → FlashStandsFor g page t → s ≡ t
same_list g page s t x y = same_map nat_cmp_total nat_cmp-IsAntisymmetric s t (λ a.
    let both : Ok x.loaded ≡ Ok y.loaded = sym x.loads ∙ y.loads in
    let loaded : x.loaded ≡ y.loaded = cc in
    x.held a ∙ ap (λ (m : Entries). option_and_then (held_at page) (get m a)) loaded ∙ sym (y.held a))

-- a block of the disk that waits for nothing has one value
pub one_value : (values : Values) (b : Block) → values.earlier ≡ [] → HasValue values b → b ≡ values.newest
one_value values b none (inl same) = same
one_value values b none (inr earlier) = absurd (subst (λ (bs : List Block). IsOneOf bs b) none earlier)

-- the list over whatever the disk may show is the plain disk, below the size
abbrev pub IsOver : Geometry → CacheList → (ℕ → Values) → PlainDisk → Type 0
IsOver g s disk d = (a : ℕ) → a < g.size → (b : Block) → HasValue (disk a) b → held_or (get s a) b ≡ d a

-- each value was there before
abbrev pub Had : (ℕ → Values) → (ℕ → Values) → Type 0
Had old new = (a : ℕ) (b : Block) → HasValue (new a) b → HasValue (old a) b

pub over_fewer : (g : Geometry) (s : CacheList) (old new : ℕ → Values) (d : PlainDisk) → Had old new → IsOver g s old d → IsOver g s new d
over_fewer g s old new d had over a within b has = over a within b (had a b has)

pub agrees_fewer : (s : CacheList) (old new : ℕ → Values) → Had old new → Agrees s old → Agrees s new
agrees_fewer s old new had agrees a h b at clean has = agrees a h b at clean (had a b has)

-- ---- the plain disk for which the media stand

module _ (told : Told) (c : Contents) (s : CacheList) where
  pub over_stands : IsBeneath told c s → (d : PlainDisk) → IsOver told.geometry s c.disk d → StandFor (ImageIs told) c d
  over_stands beneath d over x now = record {
    list = s;
    flash = subst (λ (f : Place → Page). FlashStandsFor told.geometry f s) (sym now.pages) beneath.flash;
    agrees = λ a h b at clean value. elim value [ inl same ↦ same ∙ beneath.agrees a h (x.block a) at clean (now.blocks a) | inr none ↦ absurd none ];
    suits = beneath.suits;
    volume = λ a within. over a within (x.block a) (now.blocks a);
  }

  pub stands_over : FlashStandsFor told.geometry c.flash.page s → (d : PlainDisk) → StandFor (ImageIs told) c d → IsOver told.geometry s c.disk d
  stands_over flash d stand a within b has =
      let i = stand (with_value c a b) (value_image c a b has) in
      ap (λ (t : CacheList). held_or (get t a) b) (same_list told.geometry c.flash.page s i.list flash i.flash)
      ∙ ap (λ (x : Block). held_or (get i.list a) x) (sym (set_here (λ k. (c.disk k).newest) a b))
      ∙ i.volume a within

  module _ (beneath : IsBeneath told c s) (waits : (a : ℕ) → ((c.disk a).earlier ≡ []) ⊎ ((h : Held) × (get s a ≡ Some h))) where
    shown : (a : ℕ) (b : Block) → HasValue (c.disk a) b → held_or (get s a) b ≡ held_or (get s a) (c.disk a).newest
    shown a b has = elim (waits a) [
      | inl none ↦ ap (λ (x : Block). held_or (get s a) x) (one_value (c.disk a) b none has)
      | inr h ↦ ap (λ (x : Option Held). held_or x b) h.1 ∙ sym (ap (λ (x : Option Held). held_or x (c.disk a).newest) h.1)
    ]

    -- all values show the plain disk that the newest values show
    newest_over : (d : PlainDisk) → ImageIs told (with_newest c) d → IsOver told.geometry s c.disk d
    newest_over d i a within b has =
        shown a b has
        ∙ ap (λ (t : CacheList). held_or (get t a) (c.disk a).newest) (same_list told.geometry c.flash.page s i.list beneath.flash i.flash)
        ∙ i.volume a within

    -- it is one of the plain disks that were possible
    pub one_of_any : (bases : List PlainDisk) → StandForAny (ImageIs told) c bases → StandForOneOf (ImageIs told) c bases
    one_of_any bases any = any_map (ImageIs told (with_newest c)) (StandFor (ImageIs told) c) (λ d i. over_stands beneath d (newest_over d i)) bases (any (with_newest c) (newest_image c))

-- ---- if the flash stands for the same list, and the disk shows nothing new

module _ (told : Told) (old new : Contents) (lists : (s : CacheList) → FlashStandsFor told.geometry old.flash.page s → FlashStandsFor told.geometry new.flash.page s) (had : Had old.disk new.disk) where
  abbrev before : (ℕ → Block) → Image
  before block = record { page = old.flash.page; block = block }

  shown_before : (block : ℕ → Block) → ((a : ℕ) → HasValue (new.disk a) (block a)) → Now old (before block)
  shown_before block has = record { pages = refl; blocks = λ a. had a (block a) (has a) }

  moved : (block : ℕ → Block) (x : Image) (d : PlainDisk) → Now new x → ((a : ℕ) → x.block a ≡ block a) → ImageIs told (before block) d → ImageIs told x d
  moved block x d now same i = record {
    list = i.list;
    flash = subst (λ (f : Place → Page). FlashStandsFor told.geometry f i.list) (sym now.pages) (lists i.list i.flash);
    agrees = λ a h b at clean value. elim value [ inl is ↦ is ∙ same a ∙ i.agrees a h (block a) at clean (inl refl) | inr none ↦ absurd none ];
    suits = i.suits;
    volume = λ a within. ap (λ (b : Block). held_or (get i.list a) b) (same a) ∙ i.volume a within;
  }

  pub any_left : (bases : List PlainDisk) → StandForAny (ImageIs told) old bases → StandForAny (ImageIs told) new bases
  any_left bases any x now = any_map (ImageIs told (before x.block)) (ImageIs told x) (λ d i. moved x.block x d now (λ a. refl) i) bases (any (before x.block) (shown_before x.block now.blocks))

  -- with one value for each block, one of them is left
  pub one_left : ((a : ℕ) → (new.disk a).earlier ≡ []) → (bases : List PlainDisk) → StandForAny (ImageIs told) old bases → StandForOneOf (ImageIs told) new bases
  one_left alone bases any =
      let newest : ℕ → Block = λ a. (new.disk a).newest in
      any_map (ImageIs told (before newest)) (StandFor (ImageIs told) new) (λ d i x now. moved newest x d now (λ a. one_value (new.disk a) (x.block a) (alone a) (now.blocks a)) i) bases (any (before newest) (shown_before newest (λ a. inl refl)))
