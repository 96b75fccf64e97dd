-- Writes to the cache of a volume that writes back, and its table of dirty groups after them.
use Rattle.std.proofs.Common.{◌≡◌, ◌⊎◌, ℕ, zero, suc, ◌+◌, ◌-◌, ◌*◌, ◌/◌, ◌≤◌, ◌<◌, ◌==◌, ◌||◌, nat_le, Bool, true, false, cond, List, [], ◌∷◌, ◌++◌, length, map, filter, Some, Ok, Err, Result, inl, inr, refl, sym, ◌∙◌, ap, ap₂, subst, arith}
use Rattle.std.proofs.Math.Nat.{div-mul-le_self}
use Rattle.std.proofs.Math.Path.{fun_ext}
use Rattle.std.specs.Prelude.{OnOk, OnErr, is_err}
use Rattle.std.specs.FinMap.{entries, get}
use Rattle.std.specs.List.{list_any, slice_get}
use Rattle.std.specs.Option.{is_some}
use Rattle.std.proofs.lemmas.Bool.{both_ways, false≢true, or_left, or_right}
use Rattle.std.proofs.lemmas.Result.{on_ok_weaker}
use Rattle.ft_base.specs.declared.block.Block.{Block}
use Rattle.ft_base.specs.declared.block.Place.{Place}
use Rattle.ft_base.specs.declared.block.Page.{Page}
use Rattle.ft_base.specs.declared.geometry.Geometry.{Geometry}
use Rattle.ft_base.specs.declared.told.Mode.{Mode}
use Rattle.ft_base.specs.declared.told.Mode.TheVariants.{Back, Through}
use Rattle.ft_base.specs.Contents.{Contents, Shape, set}
use Rattle.ft_base.specs.Count.{RoseBy}
use Rattle.ft_base.specs.PlainDisk.{BlockWrite, PlainDisk, after_writes}
use Rattle.ft_base.specs.declared.told.Ack.{Ack}
use Rattle.ft_base.specs.declared.told.Ack.TheVariants.{Write as AtWrite, Flush as AtFlush}
use Rattle.ft_base.specs.Table.{Table, Waiting, backs_written, is_full, last_size, put_first, table_written, with_lba, without_last}
use Rattle.ft_base.specs.Told.{Told}
use Rattle.ft_base.proofs.Images.{newest_image, with_newest}
use Rattle.ft_media.specs.Drives.{DrivesFlash}
use Rattle.ft_media.specs.Passes.{ProgramsPages}
use Rattle.ft_media.specs.State.{State}
use Rattle.ft_volume.specs.declared.volume.VolumeError.{VolumeError}
use Rattle.ft_volume.specs.declared.volume.VolumeError.TheVariants as error
use Rattle.ft_volume.specs.Opening.{ImageIs, Suits}
use Rattle.ft_volume.specs.Volume.{Call, Costs, Idles, IsAny, StaysUp, VolumeState, WasDone, Writes, dirty_lbas, flushes_of, flushes_written, may_log, owing, stages}
use Rattle.ft_volume.proofs.DoneLemmas.{writes_then}
use Rattle.ft_volume.proofs.OwedLemmas.{leaves_all, leaves_front, was_behind}
use Rattle.ft_volume.proofs.UpLemmas.{any_map, was_from}
use Rattle.ft_volume.specs.Standing.{StandFor}
use Rattle.ft_volume.specs.Volume as volume
use Rattle.cache_model.specs.Records.{Entries}
use Rattle.cache_model.specs.Entries.{IsMap, each_once}
use Rattle.cache_model.specs.Cache.{Buffered, IsFull, Vanish, Written, is_write, owed_by, owed_of, taken_back, undo, written_block, written_dirty}
use Rattle.cache_model.proofs.UndoLemmas.{back_written}
use Rattle.cache_model.specs.CacheList.{Agrees, CacheList, Held}
use Rattle.cache_model.specs.Stands.{FlashStandsFor}
use Rattle.cache_model.proofs.CountLemmas.{same_number}
use Rattle.merge_engine.proofs.TakeLemmas.{agree_map}
use Rattle.op_log.specs.Log.{FitsOn}
use Rattle.dirty_table.specs.Groups.{Groups, groups_in_order, has, oldest_of, touched, without_first}
use Rattle.ssc.specs.declared.cache.Ssc.{Ssc}
use Rattle.ssc.specs.CacheState.{Holds, HoldsBeside, entries_of, geometry_of, pending}
use Rattle.ssc.specs.declared.error.SscError.{SscError}
use Rattle.ssc.specs.declared.error.SscError.TheVariants.{Full, OutOfMemory}
use Rattle.ssc.specs.Commands.{FullExactly, HoldsBuffered, HoldsWritten, ImagesOfWrite, FlashStandsForWrite, AsUndone, AsLeft, AsWritten}
use Rattle.ssc.specs.Errors.{stops}
use Rattle.cached_disk.specs.declared.disk.CachedDisk.{CachedDisk}
use Rattle.cached_disk.specs.Kept.{IsBeneath, IsDirtyIn, IsHeld, MayUndo, dirty_of, is_down, told_of, waiting_in, AsksNoDisk, WritesDisk}
use Rattle.cached_disk.specs.Kept as kept
use Rattle.cached_disk.proofs.AddressLemmas.{holds_held, holds_lbas, holds_within, lbas_ascending, lbas_dirty, lbas_in, lbas_with, written_held}
use Rattle.cached_disk.proofs.CallLemmas.{gives_up}
use Rattle.cached_disk.proofs.DiskLemmas.{IsOver, over_stands}
use Rattle.cached_disk.proofs.HeldLemmas.{Stays, down_left, drove, held_agrees, held_beneath, held_left, held_over, own_flash, step_beneath, step_over, stopped_down, undone}
use Rattle.cached_disk.proofs.StepLemmas.{over_same, vanish_agrees, vanish_dirty, vanish_same, vanish_was, written_agrees, written_dirty-keeps, written_here, written_over, written_was}
use Rattle.write_back.specs.declared.volume.WriteBack.{WriteBack}
use Rattle.write_back.specs.Left.{DoesOwing, IsExact, IsLeft, IsDirtyTable, StaysAs, out_of_group, state_of}
use Rattle.write_back.specs.Writing.{HasTableRoom, backs_made, flushes_made, room_made}
use Rattle.write_back.proofs.TableLemmas.{map_twice, exact_touched, exact_without, few_exact, few_lbas, full_waiting, length_waiting, not_full_exact, put_waiting, touched_apart, without_apart}
use Rattle.cached_disk.proofs.ReadLemmas.{Alone, Behind, BufferedOwing, Committed, Drove, IsShown, buffered_held, buffered_stands, on_ok_of, owes_down, owes_held, owes_up}
use Rattle.ssc.proofs.HoldsLemmas.{nothing_waits}
use Rattle.cached_disk.proofs.ReadLemmas as reads

-- ---- lists of groups

get_has : (xs : List ℕ) (i n : ℕ) → slice_get xs i ≡ Some n → has n xs ≡ true
get_has [] i n is = absurd (cc)
get_has (x ∷ xs) zero n is =
    let same : x ≡ n = cc in
    or_left (n == x) (has n xs) (ap (λ k. n == k) same ∙ same_number n)
get_has (x ∷ xs) (suc i) n is = or_right (n == x) (has n xs) (get_has xs i n is)

-- the oldest one is there
pub oldest_has : (order : List ℕ) (n : ℕ) → oldest_of order ≡ Some n → has n order ≡ true
oldest_has order n is = get_has order (length order - 1) n is

one_less : (w : Waiting) (t : Table) → suc (length (without_last (w ∷ t))) ≡ suc (length t)
one_less w [] = refl
one_less w (v ∷ t) = ap suc (one_less v t)

-- without its last group a table has one group less
pub fewer_last : (t : Table) (c : ℕ) → 0 < c → length t ≤ c → length (without_last t) < c
fewer_last [] c some few = some
fewer_last (w ∷ t) c some few = let one = one_less w t in omega (arith, one, few)

-- a group that is there, or has room, finds the table not full
pub full_not : (p c n : ℕ) (order lbas : List ℕ) → (has n order ≡ true) ⊎ (nat_le c (length order) ≡ false) → is_full c n (waiting_in p order lbas) ≡ false
full_not p c n order lbas room = full_waiting p c n order lbas ∙ by_room (has n order) (nat_le c (length order)) room
  where
    by_room : (a b : Bool) → (a ≡ true) ⊎ (b ≡ false) → cond a false b ≡ false
    by_room true b room = refl
    by_room false b (inl is) = absurd (let no : false ≡ true = is in cc)
    by_room false b (inr is) = is

-- else the table is full
pub full_is : (p c n : ℕ) (order lbas : List ℕ) → has n order ≡ false → nat_le c (length order) ≡ true → is_full c n (waiting_in p order lbas) ≡ true
full_is p c n order lbas none full = full_waiting p c n order lbas ∙ ap (λ b. cond b false (nat_le c (length order))) none ∙ full

-- no group then leaves the table
pub room_there : (p c n : ℕ) (order lbas : List ℕ) → (has n order ≡ true) ⊎ (nat_le c (length order) ≡ false) → waiting_in p order lbas ≡ room_made c n (waiting_in p order lbas)
room_there p c n order lbas room = sym (ap (λ b. cond b (without_last (waiting_in p order lbas)) (waiting_in p order lbas)) (full_not p c n order lbas room))

-- no block then goes to the disk
pub none_back : (p c n : ℕ) (order lbas : List ℕ) (s : State) → (has n order ≡ true) ⊎ (nat_le c (length order) ≡ false) → WritesDisk (backs_made c n (waiting_in p order lbas)) s s (Ok tt)
none_back p c n order lbas s room = subst (λ (b : Bool). WritesDisk (cond b (last_size (waiting_in p order lbas)) 0) s s (Ok tt)) (sym (full_not p c n order lbas room)) (record { exact = λ below. omega arith; most = omega arith; reads = refl })

-- ---- a volume that is up

module _ (v : WriteBack) (contents : Contents) (left : IsLeft v contents) (up : is_down v.disk ≡ false) where
  abbrev pub held_list : CacheList
  held_list = left.disk.held

  pub is_held : IsHeld v.disk contents held_list
  is_held = left.disk.up up

  pub listed : dirty_of v.disk ≡ lbas_in held_list
  listed = holds_lbas v.disk.cache contents held_list is_held.holds

  pub exact_listed : IsExact v.disk.options.geometry.p v.dirty.order (lbas_in held_list)
  exact_listed = subst (λ (l : List ℕ). IsExact v.disk.options.geometry.p v.dirty.order l) listed (left.exact up)

  -- a group of its table begins within the volume
  pub group_within : (n : ℕ) → has n v.dirty.order ≡ true → n * v.disk.options.geometry.p < v.disk.options.geometry.size
  group_within n there =
      let x = exact_listed.only n there in
      let dirty : IsDirtyIn held_list x.0 = lbas_dirty held_list x.0 x.1 in
      let within : x.0 < v.disk.options.geometry.size = subst (λ (g : Geometry). x.0 < g.size) left.disk.own (holds_within v.disk.cache contents held_list is_held.holds x.0 dirty.0 dirty.1) in
      let begins : n * v.disk.options.geometry.p ≤ x.0 = subst (λ (k : ℕ). k * v.disk.options.geometry.p ≤ x.0) x.2 (div-mul-le_self x.0 v.disk.options.geometry.p) in
      omega (arith, begins, within)

  -- there are at most as many groups as there may be
  pub few_order : length v.dirty.order ≤ v.disk.options.geometry.c
  few_order =
      let g : Geometry = v.disk.options.geometry in
      let is_map : IsMap g (entries_of v.disk.cache) = subst (λ (k : Geometry). IsMap k (entries_of v.disk.cache)) left.disk.own (agree_map v.disk.cache.parts contents is_held.holds.agree) in
      let as_many = ap (λ (l : List ℕ). length (each_once l)) (sym (map_twice (λ (x : ℕ × Held). x.0) (λ a. a / g.p) (filter (λ x. x.1.dirty) (entries held_list))) ∙ ap (λ (l : List ℕ). map (λ a. a / g.p) l) (sym listed)) in
      let all = few_exact g held_list v.dirty.order left.table.apart exact_listed in
      let few = few_lbas g (entries_of v.disk.cache) is_map in
      omega (arith, all, as_many, few)

  -- the cache isn't full for a group that has room in the table
  pub has_room : (lba : ℕ) → HasTableRoom v.dirty (lba / v.disk.options.geometry.p) → (e : SscError) → FullExactly (geometry_of v.disk.cache) held_list lba {T = Unit {0}} (Err e) → (n limit : ℕ) → e ≡ Full n limit → ⊥
  has_room lba room e exactly n limit is =
      not_full_exact v.disk.options.geometry held_list v.dirty.order lba left.table.apart exact_listed
      (elim room [ inl there ↦ inl there | inr less ↦ inr (subst (λ (k : ℕ). length v.dirty.order < k) left.table.limit less) ])
      few_order
      (subst (λ (g : Geometry). IsFull g held_list lba) left.disk.own ((subst (λ (x : SscError). FullExactly (geometry_of v.disk.cache) held_list lba {T = Unit {0}} (Err x)) is exactly).0))

  -- an error of the cache takes the volume down, if the memory was there
  pub refused_down : (lba : ℕ) → HasTableRoom v.dirty (lba / v.disk.options.geometry.p) → v.disk.cache.ready ≡ true → (c : Ssc) (e : SscError) → FullExactly (geometry_of v.disk.cache) held_list lba {T = Unit {0}} (Err e)
      → (e ≡ OutOfMemory → v.disk.cache.ready ≡ false) → c.stopped ≡ stops {T = Unit {0}} (Err e) → is_down (record v.disk { cache = c }) ≡ true
  refused_down lba room ready c e exactly memory stopped = stopped_down v.disk c (stopped ∙ gives_up e (has_room lba room e exactly) (λ is. both_ways v.disk.cache.ready (memory is) ready))

-- ---- the oldest group was written back

-- there then is room in the table
pub room_left : (v w : WriteBack) (before after : Contents) (n : ℕ) → IsLeft v before → is_down v.disk ≡ false → IsLeft w after → (state_of w).told ≡ (state_of v).told → (state_of w).table ≡ without_last (state_of v).table → HasTableRoom w.dirty n
room_left v w before after n left up now told table =
    let g : Geometry = v.disk.options.geometry in
    let few : length (state_of v).table ≤ g.c = subst (λ (k : ℕ). k ≤ g.c) (sym (length_waiting g.p v.dirty.order (dirty_of v.disk))) (few_order v before left up) in
    let less : length (without_last (state_of v).table) < g.c = fewer_last (state_of v).table g.c (let low = g.in_range.c_low in omega (arith, low)) few in
    let shorter : length w.dirty.order ≡ length (without_last (state_of v).table) = sym (length_waiting w.disk.options.geometry.p w.dirty.order (dirty_of w.disk)) ∙ ap (λ (t : Table). length t) table in
    let limit : w.dirty.limit ≡ g.c = now.table.limit ∙ ap (λ (t : Told). t.geometry.c) told in
    inr (subst (λ (k : ℕ). length w.dirty.order < k) (sym limit) (subst (λ (k : ℕ). k < g.c) (sym shorter) less))

-- the table has exactly the groups that are left
pub cleaned_left : (v : WriteBack) (disk : CachedDisk) (table : Groups) (before after : Contents) (n : ℕ) → IsLeft v before → is_down v.disk ≡ false → kept.IsLeft disk after → (disk.options ≡ v.disk.options) × (disk.mode ≡ v.disk.mode)
    → dirty_of disk ≡ out_of_group v.disk.options.geometry.p n (dirty_of v.disk) → table ≡ groups_in_order (without_first n v.dirty.order) v.dirty.limit → IsLeft (record { disk = disk; dirty = table }) after
cleaned_left v disk table before after n left up now made cleaned less = record {
  disk = now;
  mode = made.1 ∙ left.mode;
  table = subst (λ (g : Geometry). IsDirtyTable g table) (sym (ap (λ o. o.geometry) made.0)) (subst (λ (t : Groups). IsDirtyTable v.disk.options.geometry t) (sym less) (record { limit = left.table.limit; apart = without_apart n v.dirty.order left.table.apart }));
  exact = λ is.
      subst (λ (g : Geometry). IsExact g.p table.order (dirty_of disk)) (sym (ap (λ o. o.geometry) made.0))
      (subst (λ (t : Groups). IsExact v.disk.options.geometry.p t.order (dirty_of disk)) (sym less)
      (subst (λ (l : List ℕ). IsExact v.disk.options.geometry.p (without_first n v.dirty.order) l) (sym cleaned)
      (exact_without v.disk.options.geometry.p v.dirty.order (dirty_of v.disk) n left.table.apart (left.exact up))));
}

-- ---- a block comes into the cache

suits_back : (mode : Mode) → mode ≡ Back → (s : CacheList) → Suits mode s
suits_back mode back s = subst (λ (m : Mode). Suits m s) (sym back) tt

module _ (v : CachedDisk) (old : Contents) (s : CacheList) (own : geometry_of v.cache ≡ v.options.geometry) (is : IsHeld v old s) where
  module _ (lba : ℕ) (block : Block) where
    -- a list with the block, made from the held list after clean groups gave way
    pub record HasBlock (list : CacheList) : Type 0 where
      pub agrees : Agrees list old.disk
      pub here : IsDirtyIn list lba
      pub keeps : (a : ℕ) → IsDirtyIn s a → IsDirtyIn list a
      pub only : (a : ℕ) → IsDirtyIn list a → (a ≡ lba) ⊎ IsDirtyIn s a
      pub over : (d : PlainDisk) → IsOver v.options.geometry s old.disk d → IsOver v.options.geometry list old.disk (set d lba block)

    module _ (w : CacheList) (vanish : Vanish (geometry_of v.cache) s lba w) where
      pub own_vanish : Vanish v.options.geometry s lba w
      own_vanish = subst (λ (g : Geometry). Vanish g s lba w) own vanish

      pub gave_over : (d : PlainDisk) → IsOver v.options.geometry s old.disk d → IsOver v.options.geometry w old.disk d
      gave_over d over = over_same v.options.geometry old.disk s w d (vanish_same v.options.geometry s w lba own_vanish old.disk (held_agrees v old s is)) over

      pub gave_agrees : Agrees w old.disk
      gave_agrees = vanish_agrees v.options.geometry s w lba own_vanish old.disk (held_agrees v old s is)

      shows_left : v.mode ≡ Back → (page : Place → Page) → FlashStandsFor (geometry_of v.cache) page w → IsShown v old (undo is.holds.waiting s) s page
      shows_left back page stands = record { list = w; stands = own_flash v own page w stands; agrees = gave_agrees; suits = suits_back v.mode back w; over = inr gave_over }

      abbrev after : CacheList
      after = written_dirty lba block w

      pub has_block : HasBlock after
      has_block = record {
        agrees = written_agrees w lba block old.disk gave_agrees;
        here = (written_block lba block true, written_here w lba block, refl);
        keeps = λ a dirty. written_dirty-keeps w lba block a (vanish_dirty v.options.geometry s w lba own_vanish a dirty);
        only = λ a dirty. elim (written_was w lba block a dirty.0 dirty.1) [
          | inl new ↦ inl new.0
          | inr was ↦ inr (vanish_was v.options.geometry s w lba own_vanish a (dirty.0, was, dirty.2))
        ];
        over = λ d over. written_over w lba block v.options.geometry old.disk d (gave_over d over);
      }

    -- whenever it was cut
    write_shows : v.mode ≡ Back → (page : Place → Page) → FlashStandsForWrite (geometry_of v.cache) page (undo is.holds.waiting s) s lba (written_dirty lba block) → IsShown v old (undo is.holds.waiting s) s page ⊎ ((t : CacheList) × FlashStandsFor v.options.geometry page t × HasBlock t)
    write_shows back page (AsUndone x) = inl (record { list = undone v old s own is; stands = own_flash v own page (undo is.holds.waiting s) x; agrees = (held_beneath v old s own is).agrees; suits = suits_back v.mode back (undone v old s own is); over = inl (λ d over. over) })
    write_shows back page (AsLeft w vanish x) = inl (shows_left w vanish back page x)
    write_shows back page (AsWritten w vanish x) = inr (after w vanish, own_flash v own page (after w vanish) x, has_block w vanish)

module _ (v : CachedDisk) (old new : Contents) (s : CacheList) (own : geometry_of v.cache ≡ v.options.geometry) (is : IsHeld v old s) (back : v.mode ≡ Back) (lba : ℕ) (block : Block)
    (c : Ssc) (geometry : geometry_of c ≡ geometry_of v.cache) (shape : FitsOn v.options.geometry new.shape) (stays : Stays old new) where
  abbrev with_cache : CachedDisk
  with_cache = record v { cache = c }

  abbrev pub drove_by : Drove v c old new s
  drove_by = record { own = own; own_after = geometry ∙ own; shape = shape; is = is; stays = stays }

  abbrev pub the_write : List BlockWrite
  the_write = record { lba = lba; block = block } ∷ []

  -- the write was done
  module _ (h : HoldsBuffered c new s is.holds.waiting lba (written_dirty lba block) (λ w. Written lba (get w lba))) (none : (told_of v).ack ≡ AtWrite → pending c ≡ []) where
    vanish_now : Vanish (geometry_of v.cache) s lba h.left
    vanish_now = subst (λ (g : Geometry). Vanish g s lba h.left) geometry h.vanish

    own_list : HasBlock v old s own is lba block (written_dirty lba block h.left)
    own_list = has_block v old s own is lba block h.left vanish_now

    abbrev step_back : taken_back (Written lba (get h.left lba)) (written_dirty lba block h.left) ≡ h.left
    step_back = back_written h.left lba block

    may_now : MayUndo (told_of v) (pending c)
    may_now = record { through = λ through. absurd (let both : Back ≡ Through = sym back ∙ through in cc); at_write = λ at_write. ap (list_any is_write) (none at_write) }

    left_dirty : (a : ℕ) → IsDirtyIn s a → IsDirtyIn h.left a
    left_dirty a dirty = vanish_dirty v.options.geometry s h.left lba (own_vanish v old s own is lba block h.left vanish_now) a dirty

    pub held_now : IsHeld with_cache new (written_dirty lba block h.left)
    held_now = buffered_held v c old new s drove_by lba (written_dirty lba block) (λ w. Written lba (get w lba)) h step_back (gave_agrees v old s own is lba block h.left vanish_now) own_list.agrees left_dirty own_list.keeps
        (suits_back v.mode back (written_dirty lba block h.left)) may_now

    pub write_left : kept.IsLeft with_cache new
    write_left = held_left with_cache new (written_dirty lba block h.left) (geometry ∙ own) held_now shape

    the_owed : owed_by (Written lba (get h.left lba)) (get (written_dirty lba block h.left) lba) ≡ the_write
    the_owed = ap (owed_by (Written lba (get h.left lba))) (written_here h.left lba block)

    pub write_owing : (d : PlainDisk) → StandFor (ImageIs (told_of v)) old d → BufferedOwing v new (owed_of is.holds.waiting s) the_write (owed_of held_now.holds.waiting (written_dirty lba block h.left)) d
    unfolding held_now
    write_owing = buffered_stands v c old new s drove_by lba (written_dirty lba block) (λ w. Written lba (get w lba)) h step_back (gave_agrees v old s own is lba block h.left vanish_now) own_list.agrees left_dirty own_list.keeps
        (suits_back v.mode back (written_dirty lba block h.left)) may_now the_write the_owed (gave_over v old s own is lba block h.left vanish_now) own_list.over

    write_lbas : dirty_lbas (entries_of c) ≡ with_lba lba (dirty_of v)
    write_lbas =
        holds_lbas c new (written_dirty lba block h.left) h.holds
        ∙ lbas_with s (written_dirty lba block h.left) lba own_list.here own_list.keeps own_list.only
        ∙ ap (λ (l : List ℕ). with_lba lba l) (sym (holds_lbas v.cache old s is.holds))

    write_holds : volume.HoldsAfter (told_of v) (Writes lba block) (λ a. is_some (get (entries_of v.cache) a)) (λ a. is_some (get (entries_of c) a))
    write_holds =
        let was : (λ (a : ℕ). is_some (get s a)) ≡ (λ (a : ℕ). is_some (get (entries_of v.cache) a)) = fun_ext (λ a. sym (holds_held v.cache old s is.holds a)) in
        let now : (λ (a : ℕ). is_some (get (written_dirty lba block h.left) a)) ≡ (λ (a : ℕ). is_some (get (entries_of c) a)) = fun_ext (λ a. sym (holds_held c new (written_dirty lba block h.left) h.holds a)) in
        subst (λ (f : ℕ → Bool). volume.HoldsAfter (told_of v) (Writes lba block) f (λ a. is_some (get (entries_of c) a))) was
        (subst (λ (f : ℕ → Bool). volume.HoldsAfter (told_of v) (Writes lba block) (λ a. is_some (get s a)) f) now
        (written_held (told_of v) (Writes lba block) s h.left lba (written_block lba block true) (own_vanish v old s own is lba block h.left vanish_now) refl (λ a is. is)))

  -- the write failed or was cut
  module _ (stands : FlashStandsForWrite (geometry_of v.cache) new.flash.page (undo is.holds.waiting s) s lba (written_dirty lba block)) where
    shows : IsShown v old (undo is.holds.waiting s) s new.flash.page ⊎ ((t : CacheList) × FlashStandsFor v.options.geometry new.flash.page t × HasBlock v old s own is lba block t)
    shows = write_shows v old s own is lba block back new.flash.page stands

    beneath_now : (t : CacheList) → Agrees t old.disk → FlashStandsFor v.options.geometry new.flash.page t → IsBeneath (told_of v) new t
    beneath_now t agrees stands = step_beneath v c old new stays s t agrees (suits_back v.mode back t) stands

    pub cut_left : is_down with_cache ≡ true → kept.IsLeft with_cache new
    cut_left down = elim shows [
      | inl x ↦ reads.refused_left v c old new s drove_by x down
      | inr x ↦ down_left with_cache new x.0 (geometry ∙ own) shape down (beneath_now x.0 x.2.agrees x.1)
    ]

    -- the media stand for the plain disk as before, after the owed writes, or with the block as well
    pub cut_stands : (d : PlainDisk) → StandFor (ImageIs (told_of v)) old d → IsAny (StandFor (ImageIs (told_of v)) new) (stages (owed_of is.holds.waiting s) the_write d)
    cut_stands d stand = elim shows [
      | inl x ↦ elim (reads.refused_stands v c old new s drove_by x d stand) [ inl base ↦ inl base | inr all ↦ inr (inl all) ]
      | inr x ↦
          let all = after_writes (owed_of is.holds.waiting s) d in
          inr (inr (inl (over_stands (told_of v) new x.0 (beneath_now x.0 x.2.agrees x.1) (set all lba block) (step_over v c old new stays x.0 (set all lba block) (x.2.over all (held_over v old s own is d stand))))))
    ]

-- ---- the plain disk after a write, by the writes that were owed

module _ (lba : ℕ) (block : Block) (v : CachedDisk) (old new : VolumeState) (same : new.told ≡ told_of v) (after : Contents) (owed left : List BlockWrite) (base : PlainDisk) where
  abbrev own_write : List BlockWrite
  own_write = record { lba = lba; block = block } ∷ []

  abbrev Stand : PlainDisk → Type 0
  Stand d = StandFor (ImageIs (told_of v)) after d

  moved : (d : PlainDisk) → Stand d → StandFor (ImageIs new.told) after d
  moved d stand = subst (λ (t : Told). StandFor (ImageIs t) after d) (sym same) stand

  pub answered_owing : BufferedOwing v after owed own_write left base → WasDone {T = Unit {0}} ImageIs (Writes lba block) (owing old owed) (owing new left) after (Ok tt) base
  answered_owing (Behind is stand) = record {
    images = λ x now. inl (moved base stand x now);
    lost = λ is. absurd (cc);
    done = record { kept = 0; owes = is; media = moved base stand };
    found = tt;
    up = tt;
    memory = λ is. absurd (cc);
  }
  answered_owing (Alone is stand) = record {
    images = λ x now. inr (inl (moved (after_writes owed base) stand x now));
    lost = λ is. absurd (cc);
    done = leaves_front (ImageIs new.told) after left owed own_write base is (moved (after_writes owed base) stand);
    found = tt;
    up = tt;
    memory = λ is. absurd (cc);
  }
  answered_owing (Committed is stand) = record {
    images = λ x now. inr (inr (inl (moved (after_writes own_write (after_writes owed base)) stand x now)));
    lost = λ is. absurd (cc);
    done = leaves_all (ImageIs new.told) after left (owed ++ own_write) base is (subst (λ (d : PlainDisk). StandFor (ImageIs new.told) after d) (sym (writes_then owed own_write base)) (moved (after_writes own_write (after_writes owed base)) stand));
    found = tt;
    up = tt;
    memory = λ is. absurd (cc);
  }

  pub refused_owing : (e : VolumeError) → (e ≡ error.OutOfMemory → ⊥) → new.down ≡ true → IsAny (StandFor (ImageIs (told_of v)) after) (stages owed own_write base) → WasDone {T = Unit {0}} ImageIs (Writes lba block) (owing old owed) (owing new left) after (Err e) base
  refused_owing e other down any = record {
    images = λ x now. any_map (StandFor (ImageIs (told_of v)) after) (ImageIs new.told x) (λ d stand. moved d stand x now) (stages owed own_write base) any;
    lost = λ is. any_map (StandFor (ImageIs (told_of v)) after) (StandFor (ImageIs new.told) after) moved (stages owed own_write base) any;
    done = tt;
    found = tt;
    up = λ up. absurd (both_ways new.down up down);
    memory = λ is. absurd (other (let same_error : e ≡ error.OutOfMemory = cc in same_error));
  }

-- ---- the group is noted

-- the table, touched if memory didn't fail
pub noted_as : {T E : Type 0} (order : List ℕ) (limit lba own p : ℕ) (table : Groups) (r : Result T E) → false ≡ is_err r → own ≡ p → OnOk r (table ≡ groups_in_order (touched (lba / own) order) limit) → table ≡ groups_in_order (touched (lba / p) order) limit
noted_as order limit lba own p table r none same is = on_ok_of r (sym none) is ∙ ap (λ k. groups_in_order (touched (lba / k) order) limit) same

module _ (v : WriteBack) (lba : ℕ) (c : Ssc) (table : Groups) (noted : table ≡ groups_in_order (touched (lba / v.disk.options.geometry.p) v.dirty.order) v.dirty.limit) where
  abbrev pub written : WriteBack
  written = record { disk = record v.disk { cache = c }; dirty = table }

  noted_table : IsDirtyTable v.disk.options.geometry v.dirty → IsDirtyTable v.disk.options.geometry table
  noted_table is = subst (λ (t : Groups). IsDirtyTable v.disk.options.geometry t) (sym noted) (record { limit = is.limit; apart = touched_apart (lba / v.disk.options.geometry.p) v.dirty.order is.apart })

  noted_exact : IsExact v.disk.options.geometry.p v.dirty.order (dirty_of v.disk) → dirty_lbas (entries_of c) ≡ with_lba lba (dirty_of v.disk) → IsExact v.disk.options.geometry.p table.order (dirty_lbas (entries_of c))
  noted_exact is lbas =
      subst (λ (t : Groups). IsExact v.disk.options.geometry.p t.order (dirty_lbas (entries_of c))) (sym noted)
      (subst (λ (l : List ℕ). IsExact v.disk.options.geometry.p (touched (lba / v.disk.options.geometry.p) v.dirty.order) l) (sym lbas)
      (exact_touched v.disk.options.geometry.p v.dirty.order (dirty_of v.disk) lba is))

  module _ (before after : State) (left : IsLeft v before.contents) (up : is_down v.disk ≡ false) (block : Block) (geometry : geometry_of c ≡ geometry_of v.disk.cache) {was_failed was_lost : Bool} (drives : DrivesFlash before after was_failed was_lost) where
    shape : FitsOn v.disk.options.geometry after.contents.shape
    shape = subst (λ (x : Shape). FitsOn v.disk.options.geometry x) (sym drives.passes.shape) left.disk.shape

    stays : Stays before.contents after.contents
    stays = drove before.contents after.contents was_lost drives.disk drives.crash

    abbrev is : IsHeld v.disk before.contents left.disk.held
    is = is_held v before.contents left up

    -- the write was done
    module _ (at_write : (told_of v.disk).ack ≡ AtWrite → pending c ≡ [])
        (done : (s : CacheList) (h : Holds v.disk.cache before.contents s) → HoldsBuffered c after.contents s h.waiting lba (written_dirty lba block) (λ w. Written lba (get w lba))) where
      abbrev h : HoldsBuffered c after.contents left.disk.held is.holds.waiting lba (written_dirty lba block) (λ w. Written lba (get w lba))
      h = done left.disk.held is.holds

      lbas : dirty_lbas (entries_of c) ≡ with_lba lba (dirty_of v.disk)
      lbas = write_lbas v.disk before.contents after.contents left.disk.held left.disk.own is left.mode lba block c geometry shape stays h at_write

      pub put_left : IsLeft written after.contents
      put_left = record {
        disk = write_left v.disk before.contents after.contents left.disk.held left.disk.own is left.mode lba block c geometry shape stays h at_write;
        mode = left.mode;
        table = noted_table left.table;
        exact = λ still. noted_exact (left.exact up) lbas;
      }

      pub put_does : is_down written.disk ≡ false → DoesOwing (Writes lba block) v written before.contents after.contents (Ok tt)
      put_does up_after owed owes =
          let was = owes_held v.disk before.contents owed up owes in
          let s = was.0 in
          let h = done s was.1.holds in
          let now = held_now v.disk before.contents after.contents s left.disk.own was.1 left.mode lba block c geometry shape stays h at_write in
          let owed_now = owed_of now.holds.waiting (written_dirty lba block h.left) in (
            owed_now,
            owes_up written.disk after.contents (written_dirty lba block h.left) up_after now,
            λ base stand.
                answered_owing lba block v.disk (state_of v) (state_of written) refl after.contents owed owed_now base
                (subst (λ (ws : List BlockWrite). BufferedOwing v.disk after.contents ws (record { lba = lba; block = block } ∷ []) owed_now base) (sym was.2)
                (write_owing v.disk before.contents after.contents s left.disk.own was.1 left.mode lba block c geometry shape stays h at_write base stand)),
          )

      pub put_table : (state_of written).table ≡ put_first (lba / v.disk.options.geometry.p) lba (state_of v).table
      put_table =
          ap (λ (t : Groups). waiting_in v.disk.options.geometry.p t.order (dirty_lbas (entries_of c))) noted
          ∙ ap (λ (l : List ℕ). waiting_in v.disk.options.geometry.p (touched (lba / v.disk.options.geometry.p) v.dirty.order) l) (lbas ∙ ap (λ (l : List ℕ). with_lba lba l) (listed v before.contents left up))
          ∙ sym (put_waiting v.disk.options.geometry.p v.dirty.order (lbas_in left.disk.held) lba left.table.apart (exact_listed v before.contents left up) (lbas_ascending left.disk.held))
          ∙ ap (λ (l : List ℕ). put_first (lba / v.disk.options.geometry.p) lba (waiting_in v.disk.options.geometry.p v.dirty.order l)) (sym (listed v before.contents left up))

      pub put_holds : volume.HoldsAfter (told_of v.disk) (Writes lba block) (state_of v).held (state_of written).held
      put_holds = write_holds v.disk before.contents after.contents left.disk.held left.disk.own is left.mode lba block c geometry shape stays h at_write

    -- the write failed or was cut, so the volume is down
    module _ (images : (s : CacheList) (h : Holds v.disk.cache before.contents s) → ImagesOfWrite v.disk.cache after.contents (undo h.waiting s) s lba (written_dirty lba block)) (down : is_down written.disk ≡ true) where
      stands : (s : CacheList) (h : Holds v.disk.cache before.contents s) → FlashStandsForWrite (geometry_of v.disk.cache) after.contents.flash.page (undo h.waiting s) s lba (written_dirty lba block)
      stands s h = images s h (with_newest after.contents) (newest_image after.contents)

      pub refused_left : IsLeft written after.contents
      refused_left = record {
        disk = cut_left v.disk before.contents after.contents left.disk.held left.disk.own is left.mode lba block c geometry shape stays (stands left.disk.held is.holds) down;
        mode = left.mode;
        table = noted_table left.table;
        exact = λ still. absurd (both_ways (is_down written.disk) still down);
      }

      pub refused_does : (e : VolumeError) → (e ≡ error.OutOfMemory → ⊥) → DoesOwing (Writes lba block) v written before.contents after.contents (Err e)
      refused_does e other owed owes =
          let was = owes_held v.disk before.contents owed up owes in
          let s = was.0 in (
            [],
            owes_down written.disk after.contents down,
            λ base stand.
                refused_owing lba block v.disk (state_of v) (state_of written) refl after.contents owed [] base e other down
                (subst (λ (ws : List BlockWrite). IsAny (StandFor (ImageIs (told_of v.disk)) after.contents) (stages ws (record { lba = lba; block = block } ∷ []) base)) (sym was.2)
                (cut_stands v.disk before.contents after.contents s left.disk.own was.1 left.mode lba block c geometry shape stays (stands s was.1.holds) base stand)),
          )

-- ---- the memory of a write was taken

module _ (v : WriteBack) (k : Ssc) (entries : entries_of k ≡ entries_of v.disk.cache) (stopped : k.stopped ≡ v.disk.cache.stopped) where
  abbrev pub reserved : WriteBack
  reserved = record v { disk = record v.disk { cache = k } }

  pub reserved_up : is_down reserved.disk ≡ is_down v.disk
  reserved_up = ap (λ b. v.disk.down || b) stopped

  pub reserved_left : (contents : Contents) → IsLeft v contents → ((c : Contents) (s : CacheList) (h : Holds v.disk.cache c s) → HoldsBeside k c s h.waiting) → geometry_of k ≡ geometry_of v.disk.cache → pending k ≡ pending v.disk.cache → IsLeft reserved contents
  reserved_left contents left holds geometry waits = record {
    disk = reads.reserved_left v.disk k (record { geometry = geometry; holds = holds; pending = waits; stopped = stopped }) contents contents refl left.disk;
    mode = left.mode;
    table = left.table;
    exact = λ up. subst (λ (m : Entries). IsExact v.disk.options.geometry.p v.dirty.order (dirty_lbas m)) (sym entries) (left.exact (sym reserved_up ∙ up));
  }

-- the write was committed, so it waits nowhere
pub committed_buffered : {E : Type 0} (old new : Ssc) (before now : Contents) (lba : ℕ) (step : CacheList → CacheList) (own : CacheList → Buffered) (r : Result (Unit {0}) E) → OnOk r ((s : CacheList) → Holds old before s → HoldsWritten new now s lba step) → OnOk r (pending new ≡ [])
    → OnOk r ((s : CacheList) (h : Holds old before s) → HoldsBuffered new now s h.waiting lba step own)
committed_buffered old new before now lba step own (Ok done) commits none = λ s h.
    let w = commits s h in
    record { left = w.left; vanish = w.vanish; holds = w.holds; pends = inr (inr (nothing_waits new now (step w.left) w.holds none)) }
committed_buffered old new before now lba step own (Err e) commits none = tt

-- two pages were programmed, so one was
pub programs_one : {T E : Type 0} (before after : State) (result : Result T E) → OnOk result (ProgramsPages 2 before after) → OnOk result (ProgramsPages 1 before after)
programs_one before after result = on_ok_weaker result (λ two. record { count = two.count; spends = λ on some. let spent = two.spends on some in omega (arith, spent) })

-- room was made, and then the write was done
pub does_then : (lba : ℕ) (block : Block) (old mid new : VolumeState) (between after : Contents) (result : Result (Unit {0}) VolumeError) (owed left last : List BlockWrite) (base : PlainDisk) → mid.told ≡ old.told → mid.down ≡ false → kept.KeepsOwed old.told between mid.down owed left base
    → ((d : PlainDisk) → StandFor (ImageIs mid.told) between d → WasDone ImageIs (Writes lba block) (owing mid left) (owing new last) after result d) → WasDone ImageIs (Writes lba block) (owing old owed) (owing new last) after result base
does_then lba block old mid new between after result owed left last base told up keeps does = elim keeps [
  | inl same ↦ was_from ImageIs (Writes lba block) (owing old owed) (owing mid left) (owing new last) after result base same.0 (does base (moved_to base same.1))
  | inr (inl all) ↦ was_behind ImageIs (Writes lba block) old mid (owing new last) after result owed base
      (subst (λ (ws : List BlockWrite). WasDone ImageIs (Writes lba block) (owing mid ws) (owing new last) after result (after_writes owed base)) all.0 (does (after_writes owed base) (moved_to (after_writes owed base) all.1)))
  | inr (inr down) ↦ absurd (both_ways mid.down up down.0)
]
  where
    moved_to : (d : PlainDisk) → StandFor (ImageIs old.told) between d → StandFor (ImageIs mid.told) between d
    moved_to d stand = subst (λ (t : Told). StandFor (ImageIs t) between d) (sym told) stand

-- a fact of an answer that has a premise of its own
pub on_ok_if : {T E R P Q : Type 0} (r : Result T E) → (R → OnOk r P) → (R → P → Q) → OnOk r (R → Q)
on_ok_if (Ok value) fact step = λ room. step room (fact room)
on_ok_if (Err e) fact step = tt

-- an idle step can't have used the log if each write is on the media when it answers
pub idle_logs : (ack : Ack) → may_log ack Idles ≡ false → ack ≡ AtWrite
idle_logs AtWrite logs = refl
idle_logs AtFlush logs = absurd (false≢true (sym logs))

-- the step failed, and the volume is up: its table and its addresses are unchanged
pub stays_as : (call : Call) (old new : WriteBack) → (state_of new).told ≡ (state_of old).told → StaysAs old new → ((a : ℕ) → (state_of new).held a ≡ (state_of old).held a) → (may_log (told_of old.disk).ack call ≡ false → (told_of old.disk).ack ≡ AtWrite) → StaysUp call (state_of old) (state_of new)
stays_as call old new told stays held at_write = record {
  same = λ no. ap₂ (λ (t : Groups) (d : CachedDisk). state_of (record { disk = d; dirty = t })) stays.table (stays.disk.same (at_write no));
  table = inl (ap (λ (t : Told). waiting_in t.geometry.p new.dirty.order (dirty_of new.disk)) told ∙ ap₂ (λ (t : Groups) (l : List ℕ). waiting_in old.disk.options.geometry.p t.order l) stays.table stays.disk.dirty);
  held = λ a. inl (held a);
}

-- room was made for the group of an address, and then its block was written
module _ (lba : ℕ) (block : Block) (old mid new : VolumeState) (before between after : State) (back : old.told.mode ≡ Back) (told : mid.told ≡ old.told) where
  own_group : lba / mid.told.geometry.p ≡ lba / old.told.geometry.p
  own_group = ap (λ (t : Told). lba / t.geometry.p) told

  table_back : put_first (lba / old.told.geometry.p) lba (room_made old.told.geometry.c (lba / old.told.geometry.p) old.table) ≡ table_written old.told.mode old.told lba old.table
  table_back = ap (λ (m : Mode). table_written m old.told lba old.table) (sym back)

  backs_back : backs_made old.told.geometry.c (lba / old.told.geometry.p) old.table ≡ backs_written old.told.mode old.told lba old.table
  backs_back = ap (λ (m : Mode). backs_written m old.told lba old.table) (sym back)

  pub costs_then : (result : Result (Unit {0}) VolumeError) → mid.table ≡ room_made old.told.geometry.c (lba / old.told.geometry.p) old.table → ((a : ℕ) → mid.held a ≡ old.held a) → WritesDisk (backs_made old.told.geometry.c (lba / old.told.geometry.p) old.table) before between (Ok tt)
      → OnOk result (new.table ≡ put_first (lba / mid.told.geometry.p) lba mid.table) → OnOk result (volume.HoldsAfter mid.told (Writes lba block) mid.held new.held) → AsksNoDisk between after
      → OnErr result (new.down ≡ false → StaysUp (Writes lba block) old new) → Costs (Writes lba block) old new before after result
  costs_then result room held backs put holds none up = let reads = none.disk_reads in let writes = none.disk_writes in record {
    table = on_ok_weaker result (λ is. is ∙ ap (λ n. put_first n lba mid.table) own_group ∙ ap (λ (t : Table). put_first (lba / old.told.geometry.p) lba t) room ∙ table_back) put;
    held = on_ok_weaker result (λ is. subst (λ (t : Told). volume.HoldsAfter t (Writes lba block) old.held new.held) told (subst (λ (f : ℕ → Bool). volume.HoldsAfter mid.told (Writes lba block) f new.held) (fun_ext held) is)) holds;
    disk_writes = every_ok result (subst (λ (n : ℕ). RoseBy n before.counts.disk_writes after.counts.disk_writes) backs_back (subst (λ (n : ℕ). RoseBy (backs_made old.told.geometry.c (lba / old.told.geometry.p) old.table) before.counts.disk_writes n) (sym writes) backs.exact));
    most_writes = subst (λ (n : ℕ). after.counts.disk_writes ≤ before.counts.disk_writes + n) backs_back (subst (λ (n : ℕ). n ≤ before.counts.disk_writes + backs_made old.told.geometry.c (lba / old.told.geometry.p) old.table) (sym writes) backs.most);
    most_reads = let x = backs.reads in omega (arith, reads, x);
    refused = up;
  }
    where
      every_ok : {P : Type 0} (r : Result (Unit {0}) VolumeError) → P → OnOk r P
      every_ok (Ok t) p = p
      every_ok (Err e) p = tt

  -- room was made, and nothing else changed
  pub room_up : mid.table ≡ room_made old.told.geometry.c (lba / old.told.geometry.p) old.table → ((a : ℕ) → mid.held a ≡ old.held a) → StaysUp (Writes lba block) old mid
  room_up room held = record { same = λ no. absurd (false≢true (sym no)); table = by_full (is_full old.told.geometry.c (lba / old.told.geometry.p) old.table) room; held = λ a. inl (held a) }
    where
      by_full : (full : Bool) → mid.table ≡ cond full (without_last old.table) old.table → (mid.table ≡ old.table) ⊎ (mid.table ≡ without_last old.table)
      by_full true is = inr is
      by_full false is = inl is

  -- no room was made
  pub costs_refused : (e : VolumeError) → WritesDisk (backs_made old.told.geometry.c (lba / old.told.geometry.p) old.table) before after (Err e) → (new.down ≡ false → StaysUp (Writes lba block) old new) → Costs {T = Unit {0}} (Writes lba block) old new before after (Err e)
  costs_refused e backs up = record {
    table = tt;
    held = tt;
    disk_writes = tt;
    most_writes = subst (λ (n : ℕ). after.counts.disk_writes ≤ before.counts.disk_writes + n) backs_back backs.most;
    most_reads = let x = backs.reads in omega (arith, x);
    refused = up;
  }

  pub flushes_back : flushes_made old.told.geometry.c (lba / old.told.geometry.p) old.table ≡ flushes_of (Writes lba block) old.told old.table
  flushes_back = ap (λ (m : Mode). flushes_written m old.told lba old.table) (sym back)
