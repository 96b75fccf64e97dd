-- No command holds a block under another address than its own.
use Rattle.std.proofs.Common.{◌≡◌, ℕ, ◌==◌, ◌/◌, Bool, true, false, cond, List, Option, Some, None, nat_cmp, refl, sym, ◌∙◌, ap, subst, inl, inr, eqb-true}
use Rattle.std.proofs.lemmas.Bool.{false≢true}
use Rattle.std.specs.Option.{option_map}
use Rattle.std.specs.FinMap.{empty, get, get-empty, insert, remove}
use Rattle.ft_base.specs.declared.block.Block.{Block}
use Rattle.ft_base.specs.declared.block.Place.{Place}
use Rattle.ft_base.specs.declared.block.Page.{Page}
use Rattle.ft_base.specs.declared.geometry.Geometry.{Geometry}
use Rattle.ft_base.specs.Contents.{Contents}
use Rattle.cache_model.specs.Spelling.{data_spare}
use Rattle.cache_model.specs.Cache.{AreOwn, Buffered, Vanish, evicted, made_clean, marked, marked_as, undo, written_block}
use Rattle.cache_model.specs.CacheList.{CacheList, Held}
use Rattle.cache_model.specs.Stands.{FlashStandsFor}
use Rattle.cache_model.proofs.MapLemmas.{get_insert, get_remove}
use Rattle.ssc.specs.declared.cache.Ssc.{Ssc}
use Rattle.ssc.specs.CacheState.{Holds, HoldsBeside, geometry_of}
use Rattle.ssc.specs.Commands.{FlashStandsForOne, AsUndone, AsBefore, AsAfter, FlashStandsForWrite, AsLeft, AsWritten, ImagesOf, ImagesOfWrite}
use Rattle.ssc.specs.Own.{HoldsOwn, KeepsOwn, LoadsOwn}
use Rattle.ssc.proofs.LosingLemmas.{Loses, StepLosing, WrittenLosing}

-- ---- at one address

-- the block that is held at an address has the spare bytes of a data page of the address
abbrev pub IsOwnAt : ℕ → Option Held → Type 0
IsOwnAt a o = (h : Held) → o ≡ Some h → h.spare ≡ data_spare a

pub own_none : (a : ℕ) → IsOwnAt a None
own_none a h is = absurd (cc)

pub own_as : (a : ℕ) (o p : Option Held) → o ≡ p → IsOwnAt a p → IsOwnAt a o
own_as a o p same own h is = own h (sym same ∙ is)

pub own_marked : (dirty : Bool) (a : ℕ) (o : Option Held) → IsOwnAt a o → IsOwnAt a (option_map (marked_as dirty) o)
own_marked dirty a None own = own_none a
own_marked dirty a (Some k) own = λ h is. let same : marked_as dirty k ≡ h = cc in sym (ap (λ (x : Held). x.spare) same) ∙ own k refl

own_unless : (a : ℕ) (gone : Bool) (o : Option Held) → IsOwnAt a o → IsOwnAt a (cond gone None o)
own_unless a true o own = own_none a
own_unless a false o own = own

-- ---- in a list

vanish_own : (g : Geometry) (s : CacheList) (lba : ℕ) (v : CacheList) → Vanish g s lba v → AreOwn s → AreOwn v
vanish_own g s lba v gave own a = own_as a (get v a) (cond (gave.gone (a / g.p)) None (get s a)) (gave.stays a) (own_unless a (gave.gone (a / g.p)) (get s a) (own a))

put_own : (s : CacheList) (a : ℕ) (h : Held) → AreOwn s → h.spare ≡ data_spare a → AreOwn (insert s a h)
put_own s a h own is x = own_as x (get (insert s a h) x) (cond (x == a) (Some h) (get s x)) (get_insert s a h x) (by_choice (x == a) refl)
  where
    by_choice : (t : Bool) → (x == a) ≡ t → IsOwnAt x (cond t (Some h) (get s x))
    by_choice true here = λ k same. let e : h ≡ k = cc in sym (ap (λ (y : Held). y.spare) e) ∙ is ∙ ap data_spare (sym (eqb-true x a here))
    by_choice false away = own x

pub written_own : (a : ℕ) (block : Block) (dirty : Bool) (s : CacheList) → AreOwn s → AreOwn (insert s a (written_block a block dirty))
written_own a block dirty s own = put_own s a (written_block a block dirty) own refl

pub evicted_own : (a : ℕ) (s : CacheList) → AreOwn s → AreOwn (evicted a s)
evicted_own a s own x = own_as x (get (remove s a) x) (cond (x == a) None (get s x)) (get_remove s a x) (own_unless x (x == a) (get s x) (own x))

pub cleaned_own : (a : ℕ) (s : CacheList) → AreOwn s → AreOwn (made_clean a s)
cleaned_own a s own = by_held (get s a) refl
  where
    by_held : (o : Option Held) → get s a ≡ o → AreOwn (marked false a s o)
    by_held None is = own
    by_held (Some h) is = put_own s a (marked_as false h) own (own a h is)

pub empty_own : AreOwn empty
empty_own a = own_as a (get empty a) None (get-empty nat_cmp a) (own_none a)

-- ---- the lists after commands

-- the list that a crash would leave
loses_own : (lost undone before after : CacheList) → AreOwn undone → AreOwn before → AreOwn after → Loses lost undone before after → AreOwn lost
loses_own lost undone before after own own' own'' (inl is) = subst AreOwn (sym is) own
loses_own lost undone before after own own' own'' (inr (inl is)) = subst AreOwn (sym is) own'
loses_own lost undone before after own own' own'' (inr (inr is)) = subst AreOwn (sym is) own''

pub step_own : (c : Ssc) (contents : Contents) (before undone after : CacheList) → AreOwn undone → AreOwn before → AreOwn after → StepLosing c contents before undone after → HoldsOwn c contents
step_own c contents before undone after own own' own'' x = record {
  list = after;
  holds = x.holds;
  own = own'';
  durable = loses_own (undo x.holds.waiting after) undone before after own own' own'' x.loses;
}

one_loads : (c : Ssc) (page : Place → Page) (undone before after : CacheList) → AreOwn undone → AreOwn before → AreOwn after → FlashStandsForOne (geometry_of c) page undone before after → LoadsOwn (geometry_of c) page
one_loads c page undone before after own own' own'' (AsUndone stands) = record { list = undone; stands = stands; own = own }
one_loads c page undone before after own own' own'' (AsBefore stands) = record { list = before; stands = stands; own = own' }
one_loads c page undone before after own own' own'' (AsAfter stands) = record { list = after; stands = stands; own = own'' }

-- a command that has its step on the list, or was given up
pub kept_step : (old new : Ssc) (contents contents' : Contents) (step : CacheList → CacheList) → ((s : CacheList) → AreOwn s → AreOwn (step s))
    → (new.stopped ≡ false → (s : CacheList) (h : Holds old contents s) → StepLosing new contents' s (undo h.waiting s) (step s))
    → ((s : CacheList) (h : Holds old contents s) → ImagesOf old contents' (undo h.waiting s) s (step s)) → KeepsOwn old contents new contents'
kept_step old new contents contents' step keeps done images was = (
  λ x now. one_loads old x.page (undo was.holds.waiting was.list) was.list (step was.list) was.durable was.own (keeps was.list was.own) (images was.list was.holds x now),
  λ up. step_own new contents' was.list (undo was.holds.waiting was.list) (step was.list) was.durable was.own (keeps was.list was.own) (done up was.list was.holds),
)

-- a write, for which clean groups may have given way
module _ (old new : Ssc) (contents contents' : Contents) (lba : ℕ) (block : Block) (dirty : Bool) where
  abbrev put : CacheList → CacheList
  put s = insert s lba (written_block lba block dirty)

  write_loads : (page : Place → Page) (undone s : CacheList) → AreOwn undone → AreOwn s → FlashStandsForWrite (geometry_of old) page undone s lba put → LoadsOwn (geometry_of old) page
  write_loads page undone s own own' (AsUndone stands) = record { list = undone; stands = stands; own = own }
  write_loads page undone s own own' (AsLeft v gave stands) = record { list = v; stands = stands; own = vanish_own (geometry_of old) s lba v gave own' }
  write_loads page undone s own own' (AsWritten v gave stands) = record { list = put v; stands = stands; own = written_own lba block dirty v (vanish_own (geometry_of old) s lba v gave own') }

  own_written : (s undone : CacheList) → AreOwn undone → AreOwn s → WrittenLosing new contents' s undone lba put → HoldsOwn new contents'
  own_written s undone own own' x =
      let left = vanish_own (geometry_of new) s lba x.left x.vanish own' in
      step_own new contents' x.left undone (put x.left) own left (written_own lba block dirty x.left left) x.losing

  pub kept_write : (new.stopped ≡ false → (s : CacheList) (h : Holds old contents s) → WrittenLosing new contents' s (undo h.waiting s) lba put)
      → ((s : CacheList) (h : Holds old contents s) → ImagesOfWrite old contents' (undo h.waiting s) s lba put) → KeepsOwn old contents new contents'
  kept_write done images was = (
    λ x now. write_loads x.page (undo was.holds.waiting was.list) was.list was.durable was.own (images was.list was.holds x now),
    λ up. own_written was.list (undo was.holds.waiting was.list) was.durable was.own (done up was.list was.holds),
  )

-- if nothing was done on the flash
pub kept_held : (old new : Ssc) (contents : Contents) → ((s : CacheList) (h : Holds old contents s) → HoldsBeside new contents s h.waiting) → KeepsOwn old contents new contents
kept_held old new contents holds was = (
  λ x now. record {
    list = undo was.holds.waiting was.list;
    stands = subst (λ (page : Place → Page). FlashStandsFor (geometry_of old) page (undo was.holds.waiting was.list)) (sym now.pages) was.holds.lists.stands;
    own = was.durable;
  },
  λ up. let k = holds was.list was.holds in record {
    list = was.list;
    holds = k.holds;
    own = was.own;
    durable = subst AreOwn (sym (ap (λ (q : List Buffered). undo q was.list) k.same)) was.durable;
  },
)

-- and nothing in the cache
pub held_still : (c : Ssc) (contents : Contents) (s : CacheList) (h : Holds c contents s) → HoldsBeside c contents s h.waiting
held_still c contents s h = record { holds = h; same = refl }

-- a cache that was given up holds nothing
pub given_up_not : {P : Type 0} (c : Ssc) → c.stopped ≡ true → c.stopped ≡ false → P
given_up_not c stopped up = absurd (false≢true (sym up ∙ stopped))
