-- A change is buffered, and made in the map.
use Rattle.std.proofs.Common.{◌≡◌, ℕ, ◌/◌, ◌<◌, ◌≤◌, ◌==◌, Bool, true, false, cond, List, [], ◌∷◌, ◌++◌, Option, Some, None, refl, sym, ◌∙◌, ap, subst, arith, inl, inr, eqb-true}
use Rattle.std.specs.Option.{option_and_then, option_map}
use Rattle.std.specs.FinMap.{get, insert}
use Rattle.std.proofs.lemmas.Bool.{cases_Bool}
use Rattle.ft_base.specs.declared.block.Block.{Block}
use Rattle.ft_base.specs.declared.geometry.Geometry.{Geometry}
use Rattle.ft_base.specs.declared.block.Place.{Place}
use Rattle.ft_base.specs.declared.block.Page.{Page}
use Rattle.ft_base.specs.declared.block.Page.TheVariants.{Blank, Whole, Torn}
use Rattle.ft_base.specs.declared.record.Record.{Record}
use Rattle.ft_base.specs.declared.record.Record.TheVariants.{SetPage, Remove, Clean}
use Rattle.ft_base.specs.Contents.{Contents, Flash}
use Rattle.cache_model.specs.declared.entry.Entry.{Entry}
use Rattle.cache_model.specs.Records.{Entries, after, cleaned, in_log_block}
use Rattle.cache_model.specs.Entries.{IsMap, Fits, fits}
use Rattle.cache_model.specs.Loading.{after_all, is_whole}
use Rattle.cache_model.proofs.Alike.{IsLess}
use Rattle.cache_model.specs.Cache.{written_block, marked_as, evicted, made_clean}
use Rattle.cache_model.specs.CacheList.{CacheList}
use Rattle.cache_model.specs.Spelling.{data_spare, is_wide, page_limit}
use Rattle.cache_model.specs.Stands.{held_at, held_in}
use Rattle.cache_model.proofs.MapLemmas.{get_insert, get_remove}
use Rattle.cache_model.proofs.StepLemmas.{get-after}
use Rattle.cache_model.proofs.FitsLemmas.{fits-from}
use Rattle.cache_model.proofs.CountLemmas.{same_number, taken, cleaned_is_less}
use Rattle.cache_model.proofs.UndoLemmas.{get_marked}
use Rattle.mapping.specs.MapValue.{MapValue}
use Rattle.mapping.proofs.ChosenLemmas.{pages_spelled}
use Rattle.op_log.specs.Log.{LogValue, pushed}
use Rattle.checkpoint.specs.Current.{IsCurrent, AreWhole, IsOpenLog}
use Rattle.block_pool.specs.Pool.{PoolValue}
use Rattle.log_blocks.specs.Logs.{IsInUse}
use Rattle.merge_engine.specs.declared.parts.Parts.{Parts}
use Rattle.merge_engine.specs.Agreement.{AreOfOne, RolesAgree, PartsAgree, IsGroupBlock, Lists, IsListOn}
use Rattle.merge_engine.specs.Steps.{FollowsGroup, IsNewPage}
use Rattle.merge_engine.proofs.ChangeLemmas.{ChangesOne, roles_followed}
use Rattle.merge_engine.proofs.TakeLemmas.{agree_map}

-- one more record, which fits
after_push : (g : Geometry) (rs : List Record) (r : Record) (m n : Entries) → after_all g rs m ≡ Some n → Fits g r n → after_all g (rs ++ r ∷ []) m ≡ Some (after g r n)
after_push g [] r m n is fit =
    let same : m ≡ n = cc in
    ap (λ (x : Entries). cond (fits g r x) (Some (after g r x)) None) same ∙ ap (λ b. cond b (Some (after g r n)) None) (fits-from g r n fit)
after_push g (q ∷ qs) r m n is fit = elim (cases_Bool (fits g q m)) [
  | inl t ↦
      let rest : after_all g qs (after g q m) ≡ Some n = sym (ap (λ b. cond b (after_all g qs (after g q m)) None) t) ∙ is in
      ap (λ b. cond b (after_all g (qs ++ r ∷ []) (after g q m)) None) t ∙ after_push g qs r (after g q m) n rest fit
  | inr f ↦ absurd (let no : None ≡ Some n = sym (ap (λ b. cond b (after_all g qs (after g q m)) None) f) ∙ is in cc)
]

pub current_pushed : (page : Place → Page) (log : LogValue) (m : Entries) (change : Record) → Fits log.geometry change m → IsCurrent page log m → IsCurrent page (pushed change log) (after log.geometry change m)
current_pushed page log m change fit k = record {
  durable = k.durable;
  loads = k.loads;
  buffered = after_push log.geometry log.buffered change k.durable m k.buffered fit;
  newest = k.newest;
  chosen = k.chosen;
  era = k.era;
}

current_of : (page : Place → Page) (log log' : LogValue) (m m' : Entries) (g : Geometry) (change : Record) → log.geometry ≡ g → log' ≡ pushed change log → m' ≡ after g change m → Fits g change m → IsCurrent page log m → IsCurrent page log' m'
current_of page log log' m m' g change same log_is map_is fit k =
    let fit' : Fits log.geometry change m = subst (λ (h : Geometry). Fits h change m) (sym same) fit in
    let done = current_pushed page log m change fit' k in
    subst (λ (l : LogValue). IsCurrent page l m') (sym log_is) (subst (λ (n : Entries). IsCurrent page (pushed change log) n) (ap (λ (h : Geometry). after h change m) same ∙ sym map_is) done)

open_of : (flash : Flash) (log log' : LogValue) (change : Record) → log' ≡ pushed change log → IsOpenLog flash log → IsOpenLog flash log'
open_of flash log log' change is k = subst (λ (l : LogValue). IsOpenLog flash l) (sym is) (record { before = k.before; ready = k.ready; format = k.format })

-- a change that fits, however the roles follow it
module _ (old : Parts) (map : MapValue) (log : LogValue) (pool : PoolValue) (change : Record) (contents : Contents) (map_is : map.entries ≡ after old.geometry change old.map.entries) (log_is : log ≡ pushed change old.log) where
  abbrev pub noted : Parts
  noted = record old { map = map; log = log; pool = pool }

  pub agree_noted : AreOfOne noted → Fits old.geometry change old.map.entries → AreWhole contents.flash.page map.entries → RolesAgree noted → PartsAgree old contents → PartsAgree noted contents
  agree_noted of_one fit whole roles agree = record {
    sound = record {
      of_one = of_one;
      shape = agree.sound.shape;
      current = current_of contents.flash.page old.log log old.map.entries map.entries old.geometry change agree.sound.of_one.log log_is map_is fit agree.sound.current;
      whole = whole;
      roles = roles;
      log_blocks = agree.sound.log_blocks;
      open_block = agree.sound.open_block;
    };
    open_log = open_of contents.flash old.log log change log_is agree.open_log;
  }

  pub lists_noted : (list list' durable : CacheList) → IsListOn contents.flash.page (after old.geometry change old.map.entries) list' → Lists old contents.flash.page list durable → Lists noted contents.flash.page list' durable
  lists_noted list list' durable on lists = record {
    held = subst (λ (m : Entries). IsListOn contents.flash.page m list') (sym map_is) on;
    stands = lists.stands;
  }

-- ---- an address at a page

module _ (g : Geometry) (m : Entries) (lba : ℕ) (at : Place) (dirty : Bool) where
  abbrev there : Entry
  there = in_log_block at dirty

  at_address : (a : ℕ) → get (after g (SetPage lba at dirty) m) a ≡ cond (a == lba) (Some there) (get m a)
  at_address a = get-after g (SetPage lba at dirty) m a

  -- a fact that holds of the new entry and of the old ones holds of all
  each_placed : (P : Entry → Type 0) → P there → ((a : ℕ) (e : Entry) → get m a ≡ Some e → P e) → (a : ℕ) (e : Entry) → get (after g (SetPage lba at dirty) m) a ≡ Some e → P e
  each_placed P here rest a e is = by (a == lba) (get m a) (rest a) (sym (at_address a) ∙ is)
    where
      by : (b : Bool) (o : Option Entry) → ((e : Entry) → o ≡ Some e → P e) → cond b (Some there) o ≡ Some e → P e
      by true o rest is = let same : there ≡ e = cc in subst P same here
      by false o rest is = rest e is

  pub sound_page : Fits g (SetPage lba at dirty) m → at.page < page_limit (is_wide 2 g.p)
  sound_page fit = below (page_limit (is_wide 2 g.p)) (pages_spelled g) (fit.leaves.in_pool lba there (at_address lba ∙ ap (λ b. cond b (Some there) (get m lba)) (same_number lba))).page
    where
      below : (limit : ℕ) → g.p ≤ limit → at.page < g.p → at.page < limit
      below limit within low = omega arith

  pub placed_held : (page : Place → Page) (s : CacheList) (block : Block) → page at ≡ Whole block (data_spare lba) → IsListOn page m s → IsListOn page (after g (SetPage lba at dirty) m) (insert s lba (written_block lba block dirty))
  placed_held page s block has same a =
      get_insert s lba (written_block lba block dirty) a
      ∙ ap (λ o. cond (a == lba) (Some (written_block lba block dirty)) o) (same a)
      ∙ by (a == lba) (get m a)
      ∙ ap (option_and_then (held_at page)) (sym (at_address a))
    where
      by : (b : Bool) (o : Option Entry) → cond b (Some (written_block lba block dirty)) (option_and_then (held_at page) o) ≡ option_and_then (held_at page) (cond b (Some there) o)
      by true o = ap (held_in dirty) (sym has)
      by false o = refl

  pub placed_changes : ChangesOne g (lba / g.p) m (after g (SetPage lba at dirty) m)
  placed_changes = record {
    others = λ a apart. at_address a ∙ other (a == lba) (get m a) (λ t. apart (ap (λ n. n / g.p) (eqb-true a lba t)));
    mapped = λ a e is is_mapped. mapped_by (a == lba) (get m a) e (sym (at_address a) ∙ is) is_mapped;
  }
    where
      other : (b : Bool) (o : Option Entry) → (b ≡ true → ⊥) → cond b (Some there) o ≡ o
      other true o not = absurd (not refl)
      other false o not = refl

      mapped_by : (b : Bool) (o : Option Entry) (e : Entry) → cond b (Some there) o ≡ Some e → e.block_mapped ≡ true → (f : Entry) × (o ≡ Some f) × (f.block_mapped ≡ true) × (f.place.block ≡ e.place.block)
      mapped_by true o e is is_mapped = absurd (let same : there ≡ e = cc in let no : e.block_mapped ≡ false = ap (λ (x : Entry). x.block_mapped) (sym same) in let both : true ≡ false = sym is_mapped ∙ no in cc)
      mapped_by false o e is is_mapped = (e, is, is_mapped, refl)

-- ---- an address that is removed, or made clean

pub less_removed : (g : Geometry) (lba : ℕ) (m : Entries) → IsLess (after g (Remove lba) m) m
less_removed g lba m = record { entry = λ a e at. (e, taken (a == lba) (get m a) e (sym (get-after g (Remove lba) m a) ∙ at), (refl, refl, λ t. t)) }

pub less_cleaned : (g : Geometry) (lba : ℕ) (m : Entries) → IsLess (after g (Clean lba) m) m
less_cleaned g lba m = record { entry = λ a e at. cleaned_is_less (a == lba) (get m a) e (sym (get-after g (Clean lba) m a) ∙ at) }

pub less_whole : (page : Place → Page) (new old : Entries) → IsLess new old → AreWhole page old → AreWhole page new
less_whole page new old less are = record { whole = λ a e at. let f = less.entry a e at in ap (λ (p : Place). is_whole (page p)) f.2.0 ∙ are.whole a f.0 f.1 }

pub less_mapped : (new old : Entries) → IsLess new old → (a : ℕ) (e : Entry) → get new a ≡ Some e → e.block_mapped ≡ true → (f : Entry) × (get old a ≡ Some f) × (f.block_mapped ≡ true) × (f.place.block ≡ e.place.block)
less_mapped new old less a e is is_mapped = let f = less.entry a e is in (f.0, f.1, sym f.2.1 ∙ is_mapped, ap (λ (p : Place). p.block) (sym f.2.0))

pub less_in_use : (new old : Entries) (parts : Parts) → IsLess new old → ((a : ℕ) (e : Entry) → get old a ≡ Some e → e.block_mapped ≡ false → IsInUse parts.log_blocks e.place.block) → (a : ℕ) (e : Entry) → get new a ≡ Some e → e.block_mapped ≡ false → IsInUse parts.log_blocks e.place.block
less_in_use new old parts less used a e is unmapped = let f = less.entry a e is in subst (λ (p : Place). IsInUse parts.log_blocks p.block) (sym f.2.0) (used a f.0 f.1 (sym f.2.1 ∙ unmapped))

other_address : {A : Type 0} (g : Geometry) (lba a : ℕ) (x y : A) → (a / g.p ≡ lba / g.p → ⊥) → cond (a == lba) x y ≡ y
other_address g lba a x y apart = by (a == lba) (λ t. apart (ap (λ n. n / g.p) (eqb-true a lba t)))
  where
    by : (b : Bool) → (b ≡ true → ⊥) → cond b x y ≡ y
    by true not = absurd (not refl)
    by false not = refl

pub removed_changes : (g : Geometry) (m : Entries) (lba : ℕ) → ChangesOne g (lba / g.p) m (after g (Remove lba) m)
removed_changes g m lba = record {
  others = λ a apart. get-after g (Remove lba) m a ∙ other_address g lba a None (get m a) apart;
  mapped = less_mapped (after g (Remove lba) m) m (less_removed g lba m);
}

pub cleaned_changes : (g : Geometry) (m : Entries) (lba : ℕ) → ChangesOne g (lba / g.p) m (after g (Clean lba) m)
cleaned_changes g m lba = record {
  others = λ a apart. get-after g (Clean lba) m a ∙ other_address g lba a (option_map cleaned (get m a)) (get m a) apart;
  mapped = less_mapped (after g (Clean lba) m) m (less_cleaned g lba m);
}

pub removed_held : (g : Geometry) (m : Entries) (lba : ℕ) (page : Place → Page) (list : CacheList) → IsListOn page m list → IsListOn page (after g (Remove lba) m) (evicted lba list)
removed_held g m lba page list on a = get_remove list lba a ∙ ap (λ o. cond (a == lba) None o) (on a) ∙ by (a == lba) (get m a) ∙ ap (option_and_then (held_at page)) (sym (get-after g (Remove lba) m a))
  where
    by : (b : Bool) (o : Option Entry) → cond b None (option_and_then (held_at page) o) ≡ option_and_then (held_at page) (cond b None o)
    by true o = refl
    by false o = refl

pub cleaned_held : (g : Geometry) (m : Entries) (lba : ℕ) (page : Place → Page) (list : CacheList) → IsListOn page m list → IsListOn page (after g (Clean lba) m) (made_clean lba list)
cleaned_held g m lba page list on a = get_marked false lba list (get list lba) a refl ∙ ap (λ o. cond (a == lba) (option_map (marked_as false) o) o) (on a) ∙ by (a == lba) (get m a) ∙ ap (option_and_then (held_at page)) (sym (get-after g (Clean lba) m a))
  where
    by : (b : Bool) (o : Option Entry) → cond b (option_map (marked_as false) (option_and_then (held_at page) o)) (option_and_then (held_at page) o) ≡ option_and_then (held_at page) (cond b (option_map cleaned o) o)
    by true None = refl
    by true (Some e) = by_page (page e.place)
      where
        by_page : (q : Page) → option_map (marked_as false) (held_in e.dirty q) ≡ held_in false q
        by_page Blank = refl
        by_page (Whole block spare) = refl
        by_page Torn = refl
    by false o = refl

-- a data block stays one if an address of it is made clean
pub cleaned_follows : (g : Geometry) (m : Entries) (lba group : ℕ) (pool : PoolValue) → FollowsGroup g group m (after g (Clean lba) m) pool pool
cleaned_follows g m lba group pool = record {
  geometry = refl;
  freed = λ b in_pool was gone. absurd (gone (stays was));
  kept = λ b in_pool same. refl;
}
  where
    still : (b : Bool) (e : Entry) (o : Option Entry) → o ≡ Some e → e.block_mapped ≡ true → (f : Entry) × (cond b (option_map cleaned o) o ≡ Some f) × (f.block_mapped ≡ true) × (f.place ≡ e.place)
    still true e o is is_mapped = (cleaned e, ap (option_map cleaned) is, is_mapped, refl)
    still false e o is is_mapped = (e, is, is_mapped, refl)

    stays : {b : ℕ} → IsGroupBlock g m group b → IsGroupBlock g (after g (Clean lba) m) group b
    stays was = let f = still (was.0 == lba) was.1 (get m was.0) was.2 was.4 in (was.0, f.0, get-after g (Clean lba) m was.0 ∙ f.1, was.3, f.2, ap (λ (p : Place). p.block) f.3 ∙ was.5)

-- ---- the three changes

module _ (old : Parts) (map : MapValue) (log : LogValue) (pool : PoolValue) (contents : Contents) where
  pub agree_placed : (lba : ℕ) (at : Place) (dirty : Bool) (block : Block) → AreOfOne (record old { map = map; log = log; pool = pool }) → Fits old.geometry (SetPage lba at dirty) old.map.entries
      → map.entries ≡ after old.geometry (SetPage lba at dirty) old.map.entries → log ≡ pushed (SetPage lba at dirty) old.log
      → FollowsGroup old.geometry (lba / old.geometry.p) old.map.entries map.entries old.pool pool → IsNewPage old contents.flash.page at lba block → PartsAgree old contents → PartsAgree (record old { map = map; log = log; pool = pool }) contents
  agree_placed lba at dirty block of_one fit map_is log_is follows new agree =
      let g = old.geometry in
      let m = old.map.entries in
      let change = SetPage lba at dirty in
      let each = λ (P : Entry → Type 0) (here : P (in_log_block at dirty)) (rest : (a : ℕ) (e : Entry) → get m a ≡ Some e → P e) (a : ℕ) (e : Entry) (is : get map.entries a ≡ Some e). each_placed g m lba at dirty P here rest a e (ap (λ (n : Entries). get n a) (sym map_is) ∙ is) in
      agree_noted old map log pool change contents map_is log_is of_one fit
      (record { whole = each (λ (e : Entry). is_whole (contents.flash.page e.place) ≡ true) (ap is_whole new.whole) agree.sound.whole.whole })
      (roles_followed old map log pool (lba / g.p) (agree_map old contents agree) (subst (IsMap g) (sym map_is) fit.leaves) follows (subst (ChangesOne g (lba / g.p) m) (sym map_is) (placed_changes g m lba at dirty))
      (each (λ (e : Entry). e.block_mapped ≡ false → IsInUse old.log_blocks e.place.block) (λ _. new.in_use) agree.sound.roles.page_mapped) agree.sound.roles)
      agree

  pub agree_less : (change : Record) (group : ℕ) → AreOfOne (record old { map = map; log = log; pool = pool }) → Fits old.geometry change old.map.entries
      → map.entries ≡ after old.geometry change old.map.entries → log ≡ pushed change old.log
      → FollowsGroup old.geometry group old.map.entries map.entries old.pool pool → IsLess (after old.geometry change old.map.entries) old.map.entries → ChangesOne old.geometry group old.map.entries (after old.geometry change old.map.entries)
      → PartsAgree old contents → PartsAgree (record old { map = map; log = log; pool = pool }) contents
  agree_less change group of_one fit map_is log_is follows less changes agree =
      let g = old.geometry in
      let m = old.map.entries in
      let less' : IsLess map.entries m = subst (λ (n : Entries). IsLess n m) (sym map_is) less in
      agree_noted old map log pool change contents map_is log_is of_one fit
      (less_whole contents.flash.page map.entries m less' agree.sound.whole)
      (roles_followed old map log pool group (agree_map old contents agree) (subst (IsMap g) (sym map_is) fit.leaves) follows (subst (ChangesOne g group m) (sym map_is) changes)
      (less_in_use map.entries m old less' agree.sound.roles.page_mapped) agree.sound.roles)
      agree
