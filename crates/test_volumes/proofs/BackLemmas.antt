-- The media over which the tests open a volume: flash that holds one clean block, or flash that another volume left.
use Rattle.std.proofs.Common.{◌≡◌, ℕ, ◌/◌, ◌==◌, Bool, true, false, cond, List, [], Some, None, refl, sym, ◌∙◌, ap, subst, eqb-true, nat_cmp}
use Rattle.std.specs.FinMap.{get, empty, get-empty}
use Rattle.ft_base.specs.declared.block.Block.{Block}
use Rattle.ft_base.specs.declared.geometry.Geometry.{Geometry}
use Rattle.ft_base.specs.declared.told.Mode.TheVariants.{Back}
use Rattle.ft_base.specs.Contents.{Contents, Values, HasValue}
use Rattle.ft_volume.specs.declared.options.Options.{Options}
use Rattle.ft_volume.specs.Opening.{MayOpen, nothing_held}
use Rattle.ft_volume.specs.Volume.{told_for}
use Rattle.cache_model.specs.Cache.{Buffered, undo, written_block, written_clean}
use Rattle.cache_model.specs.CacheList.{Agrees, CacheList, Held}
use Rattle.cache_model.specs.Stands.{FlashStandsFor}
use Rattle.cache_model.proofs.MapLemmas.{get_insert}
use Rattle.ssc.specs.declared.cache.Ssc.{Ssc}
use Rattle.ssc.specs.CacheState.{Holds, geometry_of, pending}
use Rattle.ssc.specs.Commands.{HoldsWritten}
use Rattle.ssc.proofs.HoldsLemmas.{nothing_waits}
use Rattle.cached_disk.specs.declared.disk.CachedDisk.{CachedDisk}
use Rattle.cached_disk.specs.Kept as kept
use Rattle.cached_disk.proofs.DiskLemmas.{one_value, same_list}

-- the flash holds only this block, clean
abbrev pub HoldsAlone : Geometry → Contents → ℕ → Block → Type 0
HoldsAlone g contents lba block = (s : CacheList) → FlashStandsFor g contents.flash.page s → (a : ℕ) (h : Held) → get s a ≡ Some h → (a ≡ lba) × (h ≡ written_block lba block false)

pub written_alone : (g : Geometry) (k c : Ssc) (mid contents : Contents) (lba : ℕ) (block : Block) (written : HoldsWritten k mid empty lba (written_clean lba block)) → geometry_of c ≡ g → Holds c contents (written_clean lba block written.left) → pending c ≡ [] → HoldsAlone g contents lba block
written_alone g k c mid contents lba block written own holds nothing s stands a h at =
    by_choice (a == lba) refl (sym (get_insert written.left lba (written_block lba block false) a) ∙ ap (λ (t : CacheList). get t a) (sym same) ∙ at)
  where
    now : FlashStandsFor g contents.flash.page (written_clean lba block written.left)
    now = subst (λ (x : Geometry). FlashStandsFor x contents.flash.page (written_clean lba block written.left)) own (subst (λ (q : List Buffered). FlashStandsFor (geometry_of c) contents.flash.page (undo q (written_clean lba block written.left))) (nothing_waits c contents (written_clean lba block written.left) holds nothing) holds.lists.stands)

    same : s ≡ written_clean lba block written.left
    same = same_list g contents.flash.page s (written_clean lba block written.left) stands now

    nothing_left : (b : Bool) → get written.left a ≡ cond b None (get nothing_held a) → get written.left a ≡ None
    nothing_left true is = is
    nothing_left false is = is ∙ get-empty nat_cmp a

    by_choice : (b : Bool) → (a == lba) ≡ b → cond b (Some (written_block lba block false)) (get written.left a) ≡ Some h → (a ≡ lba) × (h ≡ written_block lba block false)
    by_choice true here is = (eqb-true a lba here, let k : written_block lba block false ≡ h = cc in sym k)
    by_choice false other is = absurd (let no : None ≡ Some h = sym (nothing_left (written.vanish.gone (a / (geometry_of k).p)) (written.vanish.stays a)) ∙ is in cc)

pub alone_may_open : (o : Options) (contents : Contents) (lba : ℕ) (block : Block) → HoldsAlone o.geometry contents lba block → contents.disk lba ≡ record { newest = block; earlier = [] } → MayOpen (told_for Back o) contents
alone_may_open o contents lba block alone disk s stands = (
  λ a h b at clean has.
      let is = alone s stands a h at in
      let value : HasValue (contents.disk lba) b = subst (λ (n : ℕ). HasValue (contents.disk n) b) is.0 has in
      one_value (contents.disk lba) b (ap (λ (v : Values). v.earlier) disk) value ∙ ap (λ (v : Values). v.newest) disk ∙ sym (ap (λ (x : Held). x.block) is.1),
  tt,
)

-- a volume may be opened over the media that another left
pub left_may_open : (v : CachedDisk) (contents : Contents) (o : Options) → kept.IsLeft v contents → v.options.geometry ≡ o.geometry → MayOpen (told_for Back o) contents
left_may_open v contents o left own s stands =
    let same = same_list v.options.geometry contents.flash.page left.list s left.beneath.flash (subst (λ (g : Geometry). FlashStandsFor g contents.flash.page s) (sym own) stands) in
    (subst (λ (t : CacheList). Agrees t contents.disk) same left.beneath.agrees, tt)
