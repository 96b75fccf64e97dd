-- Pages of the pool in which no entry stands may change, because nothing reads them.
use Rattle.std.proofs.Common.{◌≡◌, ℕ, ◌<◌, ◌≤◌, ◌⊎◌, inl, inr, Option, Some, None, ok_or, Ok, refl, sym, ◌∙◌, ap, ap₂, subst, arith, take, List, [], ◌∷◌, true}
use Rattle.std.specs.Option.{option_and_then}
use Rattle.std.specs.FinMap.{get}
use Rattle.ft_base.specs.declared.geometry.Geometry.{Geometry}
use Rattle.ft_base.specs.declared.block.Block.{Block}
use Rattle.ft_base.specs.declared.block.Spare.{Spare}
use Rattle.ft_base.specs.declared.block.Place.{Place}
use Rattle.ft_base.specs.declared.block.Page.{Page}
use Rattle.ft_base.specs.declared.block.Page.TheVariants.{Blank, Whole, Torn}
use Rattle.ft_base.specs.declared.record.Record.{Record}
use Rattle.ft_base.specs.Contents.{Contents, Flash, Shape, set_page}
use Rattle.ft_base.specs.Layout.{checkpoint_at, checkpoint_pages, first_pool, log_at, log_pages}
use Rattle.ft_media.specs.Media.{LeavesPage, PagesErased}
use Rattle.cache_model.specs.declared.entry.Entry.{Entry}
use Rattle.cache_model.specs.declared.format.PageKind.TheVariants.{Log}
use Rattle.cache_model.specs.Records.{Entries}
use Rattle.cache_model.specs.Loading.{◌>>=◌, after_all, checkpoint_in, checkpoint_of, checkpoint_region, chosen, load, log_region, is_whole, newest, wanted}
use Rattle.cache_model.specs.Loading.Refusal.{NotFormatted}
use Rattle.cache_model.specs.Laws.{ArePages}
use Rattle.cache_model.proofs.Alike.{LoadsAlike, SameBut}
use Rattle.cache_model.specs.CacheList.{CacheList}
use Rattle.cache_model.specs.Stands.{FlashStandsFor, held_at, held_in}
use Rattle.cache_model.proofs.LoadLemmas.{checkpoint_below, log_below, loaded_is, newest_below, same_for, load_same, stands_but, set_page-other, pages_from-same}
use Rattle.mapping.specs.MapValue.{MapValue}
use Rattle.op_log.specs.Stamps.{own_stamp}
use Rattle.op_log.specs.Log.{LogValue, FitsOn}
use Rattle.checkpoint.specs.Current.{IsCurrent, IsOpenLog}
use Rattle.checkpoint.proofs.SealedLemmas.{current_low}
use Rattle.merge_engine.specs.declared.parts.Parts.{Parts}
use Rattle.block_pool.specs.Pool.{PoolValue}
use Rattle.log_blocks.specs.Logs.{LogBlocksValue}
use Rattle.log_blocks.specs.Logs as list
use Rattle.merge_engine.specs.Agreement.{PartsAgree, AreOfOne, IsOpenBlock, Lists, RolesAgree}

-- no page changed except pages of the pool in which no entry of the map stands, and no loaded entry
pub record ChangedBeside (g : Geometry) (m durable : Entries) (page page' : Place → Page) : Type 0 where
  pub regions : (at : Place) → at.block < first_pool g → page at ≡ page' at
  pub places : (a : ℕ) (e : Entry) → get m a ≡ Some e → page e.place ≡ page' e.place
  pub loaded : (a : ℕ) (e : Entry) → get durable a ≡ Some e → page e.place ≡ page' e.place

pub same_beside : (g : Geometry) (m durable : Entries) (page page' : Place → Page) → page' ≡ page → ChangedBeside g m durable page page'
same_beside g m durable page page' same =
    let at_place : (at : Place) → page at ≡ page' at = λ at. sym (ap (λ (f : Place → Page). f at) same) in
    record { regions = λ at low. at_place at; places = λ a e is. at_place e.place; loaded = λ a e is. at_place e.place }

-- ---- the entries that are loaded

-- the loaded entries depend only on these pages
pub alike_but : (g : Geometry) (page page' : Place → Page) (m : Entries) → load g page ≡ Ok m → SameBut g m page page' → LoadsAlike g page page'
alike_but g page page' m loads but =
    let there = (loaded_is g page m loads).0 in
    same_for g page page' (record {
      checkpoints = λ region i low within. but.regions _ (checkpoint_below g region i low within);
      log = λ c is i within. but.regions _ (log_below g c.0 i (newest_below g page c is) within);
      places = λ n is a e at. let same : n ≡ m = cc in but.places a e (ap (λ n. get n a) (sym same) ∙ at);
    })

pub checkpoint_alike : (g : Geometry) (page page' : Place → Page) → LoadsAlike g page page' → checkpoint_of g page' ≡ checkpoint_of g page
checkpoint_alike g page page' alike = ap (λ n. ok_or n NotFormatted >>= wanted g) alike.chosen

-- the log region of a region is the same
pub log_same : (g : Geometry) (page page' : Place → Page) (region : ℕ) → region < 2 → ((at : Place) → at.block < first_pool g → page at ≡ page' at) → log_region g page region ≡ log_region g page' region
log_same g page page' region low same = pages_from-same page page' (log_at g region) 0 (log_pages g) (λ i within. same _ (log_below g region i low (omega arith)))

-- the checkpoint that counts is the same
newest_same : (g : Geometry) (page page' : Place → Page) → ((at : Place) → at.block < first_pool g → page at ≡ page' at) → newest g page ≡ newest g page'
newest_same g page page' same = ap₂ (λ xs ys. chosen (checkpoint_in xs) (checkpoint_in ys)) (region_same 0 (omega arith)) (region_same 1 (omega arith))
  where
    region_same : (region : ℕ) → region < 2 → checkpoint_region g page region ≡ checkpoint_region g page' region
    region_same region low = pages_from-same page page' (checkpoint_at g region) 0 (checkpoint_pages g) (λ i within. same _ (checkpoint_below g region i low (omega arith)))

pub held_same : (page page' : Place → Page) (o : Option Entry) → ((e : Entry) → o ≡ Some e → page e.place ≡ page' e.place) → option_and_then (held_at page) o ≡ option_and_then (held_at page') o
held_same page page' None at = refl
held_same page page' (Some e) at = ap (held_in e.dirty) (at e refl)

-- a flash that differs in the pool alone has the same open log
pub open_log_same : (log : LogValue) (old new : Flash) → log.region < 2 → ((at : Place) → at.block < first_pool log.geometry → old.page at ≡ new.page at) → ((b : ℕ) → b < first_pool log.geometry → new.next b ≡ old.next b) → IsOpenLog old log → IsOpenLog new log
open_log_same log old new low pages ready k = record {
  before = subst (λ (xs : List Page). ArePages Log (own_stamp log.era) 0 (take log.next xs)) (log_same log.geometry old.page new.page log.region low pages) k.before;
  ready = λ i le lt first. ready _ (log_below log.geometry log.region i low lt) ∙ k.ready i le lt first;
  format = λ c is. k.format c (newest_same log.geometry old.page new.page pages ∙ is);
}

abbrev pub current_alike : (page page' : Place → Page) (log : LogValue) (m : Entries) (k : IsCurrent page log m) → LoadsAlike log.geometry page page' → IsCurrent page' log m
current_alike page page' log m k alike = record {
  durable = k.durable;
  loads = sym (load_same log.geometry page page' alike) ∙ k.loads;
  buffered = k.buffered;
  newest = k.newest;
  chosen = checkpoint_alike log.geometry page page' alike ∙ k.chosen;
  era = k.era;
}

-- the flash loads only one map
pub loaded_durable : (g : Geometry) (page : Place → Page) (list : CacheList) (stands : FlashStandsFor g page list) (m : Entries) → load g page ≡ Ok m → stands.loaded ≡ m
loaded_durable g page list stands m loads = cc

-- the lists are the lists of the map
pub lists_as : (p q : Parts) (page : Place → Page) (list durable : CacheList) → q.map ≡ p.map → q.geometry ≡ p.geometry → Lists p page list durable → Lists q page list durable
lists_as p q page list durable map_is geometry_is lists = record {
  held = λ a. lists.held a ∙ ap (λ (m : MapValue). option_and_then (held_at page) (get m.entries a)) (sym map_is);
  stands = subst (λ (g : Geometry). FlashStandsFor g page durable) (sym geometry_is) lists.stands;
}

-- ---- the parts over a flash that changed there

module _ (parts : Parts) (old new : Contents) (agree : PartsAgree parts old) (beside : ChangedBeside parts.geometry parts.map.entries agree.sound.current.durable old.flash.page new.flash.page) where
  log_is : parts.log.geometry ≡ parts.geometry
  log_is = agree.sound.of_one.log

  loads : load parts.geometry old.flash.page ≡ Ok agree.sound.current.durable
  loads = subst (λ (g : Geometry). load g old.flash.page ≡ Ok agree.sound.current.durable) log_is agree.sound.current.loads

  but : SameBut parts.geometry agree.sound.current.durable old.flash.page new.flash.page
  but = record { regions = beside.regions; places = beside.loaded }

  alike : LoadsAlike parts.geometry old.flash.page new.flash.page
  alike = alike_but parts.geometry old.flash.page new.flash.page agree.sound.current.durable loads but

  -- the flash still stands for the same list
  pub stands_beside : (durable : CacheList) → FlashStandsFor parts.geometry old.flash.page durable → FlashStandsFor parts.geometry new.flash.page durable
  stands_beside durable stands =
      stands_but parts.geometry old.flash.page new.flash.page durable stands
      (subst (λ (n : Entries). SameBut parts.geometry n old.flash.page new.flash.page) (sym (loaded_durable parts.geometry old.flash.page durable stands agree.sound.current.durable loads)) but)

  pub lists_beside : (list durable : CacheList) → Lists parts old.flash.page list durable → Lists parts new.flash.page list durable
  lists_beside list durable lists = record {
    held = λ a. lists.held a ∙ held_same old.flash.page new.flash.page (get parts.map.entries a) (λ e is. beside.places a e is);
    stands = stands_beside durable lists.stands;
  }

  -- the parts agree, whatever the roles are, if the readiness of the regions' blocks is unchanged
  pub agree_beside : (pool : PoolValue) (logs : LogBlocksValue) → new.shape ≡ old.shape → ((b : ℕ) → b < first_pool parts.geometry → new.flash.next b ≡ old.flash.next b)
      → AreOfOne (record parts { pool = pool; log_blocks = logs }) → RolesAgree (record parts { pool = pool; log_blocks = logs }) → list.AreSoundLogs logs → IsOpenBlock logs new.flash
      → PartsAgree (record parts { pool = pool; log_blocks = logs }) new
  agree_beside pool logs shape ready of_one roles sound opened =
      let s = agree.sound in
      let low : (at : Place) → at.block < first_pool parts.log.geometry → old.flash.page at ≡ new.flash.page at = subst (λ (g : Geometry). (at : Place) → at.block < first_pool g → old.flash.page at ≡ new.flash.page at) (sym log_is) beside.regions in
      record {
        sound = record {
          of_one = of_one;
          shape = subst (λ (h : Shape). FitsOn parts.geometry h) (sym shape) s.shape;
          current = current_alike old.flash.page new.flash.page parts.log parts.map.entries s.current (subst (λ (g : Geometry). LoadsAlike g old.flash.page new.flash.page) (sym log_is) alike);
          whole = record { whole = λ a e is. ap is_whole (sym (beside.places a e is)) ∙ s.whole.whole a e is };
          roles = roles;
          log_blocks = sound;
          open_block = opened;
        };
        open_log = open_log_same parts.log old.flash new.flash (current_low parts.log old.flash.page parts.map.entries s.current) low (subst (λ (g : Geometry). (b : ℕ) → b < first_pool g → new.flash.next b ≡ old.flash.next b) (sym log_is) ready) agree.open_log;
      }

-- ---- the pages that changed

-- a page that was blank, in the pool
pub set_beside : (g : Geometry) (m durable : Entries) (page : Place → Page) (at : Place) (v : Page) → first_pool g ≤ at.block → page at ≡ Blank
    → ((a : ℕ) (e : Entry) → get m a ≡ Some e → is_whole (page e.place) ≡ true)
    → ((a : ℕ) (e : Entry) → get durable a ≡ Some e → is_whole (page e.place) ≡ true)
    → ChangedBeside g m durable page (set_page page at v)
set_beside g m durable page at v high blank whole whole' =
    let other : (q : Place) → (q ≡ at → ⊥) → page q ≡ set_page page at v q = λ q differs. sym (set_page-other page at q v differs) in
    let away : (q : Place) → is_whole (page q) ≡ true → q ≡ at → ⊥ = λ q is same. not_blank (page q) is (ap page same ∙ blank) in
    record {
      regions = λ q low. other q (λ same. let e : q.block ≡ at.block = ap (λ (x : Place). x.block) same in absurd (omega arith));
      places = λ a e is. other e.place (away e.place (whole a e is));
      loaded = λ a e is. other e.place (away e.place (whole' a e is));
    }
  where
    not_blank : (p : Page) → is_whole p ≡ true → p ≡ Blank → ⊥
    not_blank p whole blank = let e : is_whole Blank ≡ true = ap is_whole (sym blank) ∙ whole in absurd (cc)

-- whatever the call answers, only that page may have changed
pub leaves_beside : (g : Geometry) (m durable : Entries) (old new : Flash) (at : Place) (block : Block) (spare : Spare) → first_pool g ≤ at.block → old.page at ≡ Blank
    → ((a : ℕ) (e : Entry) → get m a ≡ Some e → is_whole (old.page e.place) ≡ true)
    → ((a : ℕ) (e : Entry) → get durable a ≡ Some e → is_whole (old.page e.place) ≡ true)
    → LeavesPage old new at block spare → ChangedBeside g m durable old.page new.page
leaves_beside g m durable old new at block spare high blank whole whole' (inl same) = same_beside g m durable old.page new.page same
leaves_beside g m durable old new at block spare high blank whole whole' (inr (inl is)) = subst (λ (p : Place → Page). ChangedBeside g m durable old.page p) (sym is) (set_beside g m durable old.page at (Whole block spare) high blank whole whole')
leaves_beside g m durable old new at block spare high blank whole whole' (inr (inr is)) = subst (λ (p : Place → Page). ChangedBeside g m durable old.page p) (sym is) (set_beside g m durable old.page at Torn high blank whole whole')

-- pages of one erase block of the pool in which no entry stands
pub block_beside : (g : Geometry) (m durable : Entries) (page page' : Place → Page) (block : ℕ) → first_pool g ≤ block
    → ((a : ℕ) (e : Entry) → get m a ≡ Some e → e.place.block ≡ block → ⊥)
    → ((a : ℕ) (e : Entry) → get durable a ≡ Some e → e.place.block ≡ block → ⊥)
    → ((at : Place) → (page' at ≡ page at) ⊎ (at.block ≡ block))
    → ChangedBeside g m durable page page'
block_beside g m durable page page' block high none none' changed = record {
  regions = λ at low. by_case at (λ same. absurd (omega arith)) (changed at);
  places = λ a e is. by_case e.place (none a e is) (changed e.place);
  loaded = λ a e is. by_case e.place (none' a e is) (changed e.place);
}
  where
    by_case : (at : Place) → (at.block ≡ block → ⊥) → (page' at ≡ page at) ⊎ (at.block ≡ block) → page at ≡ page' at
    by_case at differs (inl same) = sym same
    by_case at differs (inr here) = absurd (differs here)

-- an erase, whatever it answers
pub erased_beside : (g : Geometry) (m durable : Entries) (old new : Flash) (block : ℕ) → first_pool g ≤ block
    → ((a : ℕ) (e : Entry) → get m a ≡ Some e → e.place.block ≡ block → ⊥)
    → ((a : ℕ) (e : Entry) → get durable a ≡ Some e → e.place.block ≡ block → ⊥)
    → PagesErased old new block
    → ChangedBeside g m durable old.page new.page
erased_beside g m durable old new block high none none' erased = block_beside g m durable old.page new.page block high none none' (λ at. by_case at (erased at))
  where
    by_case : (at : Place) → (new.page at ≡ old.page at) ⊎ ((at.block ≡ block) × ((new.page at ≡ Blank) ⊎ (new.page at ≡ Torn))) → (new.page at ≡ old.page at) ⊎ (at.block ≡ block)
    by_case at (inl same) = inl same
    by_case at (inr here) = inr here.0

-- if nothing is buffered, the loaded entries are the map
pub nothing_buffered : (page : Place → Page) (log : LogValue) (m : Entries) (k : IsCurrent page log m) → log.buffered ≡ [] → k.durable ≡ m
nothing_buffered page log m k none = by_case log.buffered none k.buffered
  where
    by_case : (rs : List Record) → rs ≡ [] → after_all log.geometry rs k.durable ≡ Some m → k.durable ≡ m
    by_case [] none is = cc
    by_case (r ∷ rs) none is = absurd (cc)
