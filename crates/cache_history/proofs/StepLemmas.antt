-- How a command changes one address.
use Rattle.std.proofs.Common.{◌≡◌, ℕ, ◌==◌, ◌&&◌, Bool, true, false, cond, Option, Some, None, refl, sym, ap}
use Rattle.std.specs.Option.{option_map}
use Rattle.std.specs.FinMap.{get}
use Rattle.ft_base.specs.declared.block.Block.{Block}
use Rattle.cache_model.specs.Cache.{written_block, marked_as}
use Rattle.cache_model.specs.CacheList.{Held, CacheList}
use Rattle.cache_model.proofs.MapLemmas.{get_insert, get_remove}
use Rattle.cache_model.proofs.UndoLemmas.{get_marked}
use Rattle.cache_history.specs.declared.kind.Kind.{Kind}
use Rattle.cache_history.specs.declared.kind.Kind.TheVariants.{WriteDirty, WriteLater, WriteClean, Evict, Clean, Commit, Checkpoint}
use Rattle.cache_history.specs.History.{stepped_by, is_write, is_change, may_undirty}

-- the change at the command's own address
abbrev pub step_of : Kind → ℕ → Block → Option Held → Option Held
step_of WriteDirty lba block o = Some (written_block lba block true)
step_of WriteLater lba block o = Some (written_block lba block true)
step_of WriteClean lba block o = Some (written_block lba block false)
step_of Evict lba block o = None
step_of Clean lba block o = option_map (marked_as false) o
step_of Commit lba block o = o
step_of Checkpoint lba block o = o

-- no change at another address
abbrev pub step_at : Bool → Kind → ℕ → Block → Option Held → Option Held
step_at here kind lba block o = cond here (step_of kind lba block o) o

either_way : (b : Bool) (o : Option Held) → o ≡ cond b o o
either_way true o = refl
either_way false o = refl

pub get_stepped : (kind : Kind) (a : ℕ) (block : Block) (s : CacheList) (q : ℕ) → get (stepped_by kind a block s) q ≡ step_at (q == a) kind a block (get s q)
get_stepped WriteDirty a block s q = get_insert s a (written_block a block true) q
get_stepped WriteLater a block s q = get_insert s a (written_block a block true) q
get_stepped WriteClean a block s q = get_insert s a (written_block a block false) q
get_stepped Evict a block s q = get_remove s a q
get_stepped Clean a block s q = get_marked false a s (get s a) q refl
get_stepped Commit a block s q = either_way (q == a) (get s q)
get_stepped Checkpoint a block s q = either_way (q == a) (get s q)

-- an absent address stays absent without a write
pub step_none : (here : Bool) (kind : Kind) (lba : ℕ) (block : Block) → is_write kind && here ≡ false → step_at here kind lba block None ≡ None
step_none false kind lba block f = refl
step_none true WriteDirty lba block f = absurd (cc)
step_none true WriteLater lba block f = absurd (cc)
step_none true WriteClean lba block f = absurd (cc)
step_none true Evict lba block f = refl
step_none true Clean lba block f = refl
step_none true Commit lba block f = refl
step_none true Checkpoint lba block f = refl

pub step_same : (here : Bool) (kind : Kind) (lba : ℕ) (block : Block) (o : Option Held) → is_change kind && here ≡ false → step_at here kind lba block o ≡ o
step_same false kind lba block o f = refl
step_same true WriteDirty lba block o f = absurd (cc)
step_same true WriteLater lba block o f = absurd (cc)
step_same true WriteClean lba block o f = absurd (cc)
step_same true Evict lba block o f = absurd (cc)
step_same true Clean lba block o f = absurd (cc)
step_same true Commit lba block o f = refl
step_same true Checkpoint lba block o f = refl

-- a block is held, dirty
abbrev pub IsDirty : Option Held → Type 0
IsDirty o = (h : Held) × (o ≡ Some h) × (h.dirty ≡ true)

pub step_dirty : (here : Bool) (kind : Kind) (lba : ℕ) (block : Block) (o : Option Held) → may_undirty kind && here ≡ false → IsDirty o → IsDirty (step_at here kind lba block o)
step_dirty false kind lba block o f d = d
step_dirty true WriteDirty lba block o f d = (written_block lba block true, refl, refl)
step_dirty true WriteLater lba block o f d = (written_block lba block true, refl, refl)
step_dirty true WriteClean lba block o f d = absurd (cc)
step_dirty true Evict lba block o f d = absurd (cc)
step_dirty true Clean lba block o f d = absurd (cc)
step_dirty true Commit lba block o f d = d
step_dirty true Checkpoint lba block o f d = d

-- a write holds its own block
pub step_newest : (here : Bool) (kind : Kind) (lba : ℕ) (block : Block) (o : Option Held) (h : Held) → is_write kind && here ≡ true → step_at here kind lba block o ≡ Some h → h.block ≡ block
step_newest true WriteDirty lba block o h t is = let same : written_block lba block true ≡ h = cc in sym (ap (λ (x : Held). x.block) same)
step_newest true WriteLater lba block o h t is = let same : written_block lba block true ≡ h = cc in sym (ap (λ (x : Held). x.block) same)
step_newest true WriteClean lba block o h t is = let same : written_block lba block false ≡ h = cc in sym (ap (λ (x : Held). x.block) same)
step_newest true Evict lba block o h t is = absurd (cc)
step_newest true Clean lba block o h t is = absurd (cc)
step_newest true Commit lba block o h t is = absurd (cc)
step_newest true Checkpoint lba block o h t is = absurd (cc)
step_newest false WriteDirty lba block o h t is = absurd (cc)
step_newest false WriteLater lba block o h t is = absurd (cc)
step_newest false WriteClean lba block o h t is = absurd (cc)
step_newest false Evict lba block o h t is = absurd (cc)
step_newest false Clean lba block o h t is = absurd (cc)
step_newest false Commit lba block o h t is = absurd (cc)
step_newest false Checkpoint lba block o h t is = absurd (cc)

-- this block is held, dirty or clean
abbrev pub HasBlock : Option Held → Block → Type 0
HasBlock o block = (h : Held) × (o ≡ Some h) × (h.block ≡ block)

cleaned_block : (o : Option Held) (h : Held) → option_map (marked_as false) o ≡ Some h → HasBlock o h.block
cleaned_block None h is = absurd (cc)
cleaned_block (Some k) h is = let same : marked_as false k ≡ h = cc in (k, refl, ap (λ (x : Held). x.block) same)

-- any other command keeps the block that was held
pub step_older : (here : Bool) (kind : Kind) (lba : ℕ) (block : Block) (o : Option Held) (h : Held) → is_write kind && here ≡ false → step_at here kind lba block o ≡ Some h → HasBlock o h.block
step_older false kind lba block o h f is = (h, is, refl)
step_older true WriteDirty lba block o h f is = absurd (cc)
step_older true WriteLater lba block o h f is = absurd (cc)
step_older true WriteClean lba block o h f is = absurd (cc)
step_older true Evict lba block o h f is = absurd (cc)
step_older true Clean lba block o h f is = cleaned_block o h is
step_older true Commit lba block o h f is = (h, is, refl)
step_older true Checkpoint lba block o h f is = (h, is, refl)
