-- How many writes are owed.
use Rattle.std.proofs.Common.{◌≡◌, ℕ, suc, ◌+◌, ◌≤◌, Bool, true, false, cond, List, [], ◌∷◌, ◌++◌, length, map, count_by, Option, refl, sym, ◌∙◌, ap, ap₂, subst, arith}
use Rattle.std.specs.FinMap.{get}
use Rattle.std.proofs.lemmas.List.Sums.{count_by-le-length, sum_by-cons}
use Rattle.ft_base.specs.Contents.{Contents}
use Rattle.ft_base.specs.PlainDisk.{BlockWrite}
use Rattle.ft_base.specs.declared.told.Ack.TheVariants.{Write as AtWrite}
use Rattle.ft_base.proofs.LayoutLemmas.{q_most}
use Rattle.cache_model.specs.Cache.{Buffered, Inserted, Cleaned, Written, IsLeftBy, WereLeft, address_of, is_write, owed_by, owed_of, undo}
use Rattle.cache_model.specs.CacheList.{CacheList, Held}
use Rattle.ssc.specs.CacheState.{Holds, geometry_of, pending, shaped}
use Rattle.cached_disk.specs.declared.disk.CachedDisk.{CachedDisk}
use Rattle.cached_disk.specs.Kept.{Owes, OwesIn, is_down, told_of}
use Rattle.cached_disk.proofs.ReadLemmas.{down_owes, owes_held}
use Rattle.cached_disk.proofs.HeldLemmas.{none_later}
use Rattle.cache_model.proofs.UndoLemmas.{owed_none}

-- each write that waits owes its block
one_count : (b : Buffered) (s : CacheList) → IsLeftBy b s → (n : ℕ) (rest : List BlockWrite) → length rest ≡ n → length (owed_by b (get s (address_of b)) ++ rest) ≡ cond (is_write b) 1 0 + n
one_count (Inserted a) s left n rest is = omega (arith, is)
one_count (Cleaned a) s left n rest is = omega (arith, is)
one_count (Written a old) s left n rest is =
    let more : suc (length rest) ≡ 1 + n = omega (arith, is) in
    ap (λ (o : Option Held). length (owed_by (Written a old) o ++ rest)) left.1 ∙ more

count_more : (b : Buffered) (q : List Buffered) → count_by is_write (b ∷ q) ≡ cond (is_write b) 1 0 + count_by is_write q
count_more b q = sum_by-cons (λ (y : Buffered). cond (is_write y) 1 0) b q

owed_count : (q : List Buffered) (s : CacheList) → WereLeft q s → length (owed_of q s) ≡ count_by is_write q
owed_count [] s left = refl
owed_count (b ∷ q) s left = one_count b (undo q s) left.0 (count_by is_write q) (owed_of q s) (owed_count q s left.1) ∙ sym (count_more b q)

same_kind : (b : Buffered) → is_write (shaped b) ≡ is_write b
same_kind (Inserted a) = refl
same_kind (Cleaned a) = refl
same_kind (Written a old) = refl

shaped_count : (q : List Buffered) → count_by is_write (map shaped q) ≡ count_by is_write q
shaped_count [] = refl
shaped_count (b ∷ q) = count_more (shaped b) (map shaped q) ∙ ap₂ (λ (k : Bool) (n : ℕ). cond k 1 0 + n) (same_kind b) (shaped_count q) ∙ sym (count_more b q)

-- the cache counts the writes that it only buffers
pub later_owed : (v : CachedDisk) (contents : Contents) (owed : List BlockWrite) → Owes v contents owed → is_down v ≡ false → (n : ℕ) → ((c : Contents) (s : CacheList) → Holds v.cache c s → n ≡ count_by is_write (pending v.cache)) → n ≡ length owed
later_owed v contents owed owes up n later =
    let was = owes_held v contents owed up owes in
    let h = was.1.holds in
    later contents was.0 h ∙ ap (count_by is_write) (sym h.shapes) ∙ shaped_count h.waiting ∙ sym (owed_count h.waiting was.0 h.waits.left) ∙ ap length (sym was.2)

pub down_owed : (v : CachedDisk) (contents : Contents) (owed : List BlockWrite) → Owes v contents owed → is_down v ≡ true → 0 ≡ length owed
down_owed v contents owed owes down = sym (ap length (down_owes v contents owed down owes))

-- at most 126 writes are owed: one less than a log page takes
pub few_owed : (v : CachedDisk) (contents : Contents) (owed : List BlockWrite) → Owes v contents owed → length owed ≤ 126
few_owed v contents owed owes = by (is_down v) owes
  where
    by : (b : Bool) → OwesIn b v contents owed → length owed ≤ 126
    by true nothing = let none = ap length nothing in omega (arith, none)
    by false was =
        let h = was.1.holds in
        let count : length owed ≡ count_by is_write h.waiting = ap length was.2 ∙ owed_count h.waiting was.0 h.waits.left in
        let writes = count_by-le-length is_write h.waiting in
        let few = h.waits.few in
        let most = q_most (geometry_of v.cache) in
        omega (arith, count, writes, few, most)

-- a volume that owes nothing owes few
pub few_none : (owed : List BlockWrite) → owed ≡ [] → length owed ≤ 126
few_none owed none = subst (λ (ws : List BlockWrite). length ws ≤ 126) (sym none) (omega arith)

-- nothing is owed if each write is on the media when it answers
pub write_owed : (v : CachedDisk) (contents : Contents) (owed : List BlockWrite) → (told_of v).ack ≡ AtWrite → Owes v contents owed → owed ≡ []
write_owed v contents owed at_write owes = by (is_down v) owes
  where
    by : (b : Bool) → OwesIn b v contents owed → owed ≡ []
    by true nothing = nothing
    by false was = was.2 ∙ owed_none was.1.holds.waiting was.0 (none_later v (was.1.may_undo.at_write at_write) contents was.0 was.1.holds).1
