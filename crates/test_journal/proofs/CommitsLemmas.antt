-- An empty cache on a flash that was formatted, and a page put into a cache.
use Rattle.std.proofs.Common.{◌≡◌, ℕ, ◌==◌, Bool, true, false, cond, Option, List, [], ◌∷◌, ◌++◌, Some, None, sym, ◌∙◌, ap, subst}
use Rattle.std.specs.FinMap.{get}
use Rattle.ft_base.specs.declared.geometry.Geometry.{Geometry}
use Rattle.ft_base.specs.declared.block.Place.{Place}
use Rattle.ft_base.specs.declared.block.Page.{Page}
use Rattle.ft_base.specs.declared.record.Record.{Record}
use Rattle.ft_base.specs.declared.record.Record.TheVariants.{SetPage}
use Rattle.ft_base.specs.Contents.{Contents, Flash}
use Rattle.cache_model.specs.declared.entry.Entry.{Entry}
use Rattle.cache_model.specs.Records.{Entries, after, no_entries, in_log_block}
use Rattle.cache_model.specs.Entries.{IsMap, Fits, fits}
use Rattle.cache_model.specs.Loading.{after_all, is_whole}
use Rattle.cache_model.proofs.StepLemmas.{get-after}
use Rattle.cache_model.proofs.FitsLemmas.{fits-from}
use Rattle.op_log.specs.Log.{LogValue, pushed}
use Rattle.checkpoint.specs.Current.{IsCurrent, AreWhole, IsOpenLog, IsCommitted, PoolStays, log_formatted}

-- a formatted flash stands for an empty cache
pub begun : (g : Geometry) (m : Entries) (log : LogValue) (flash : Flash) → m ≡ no_entries → log ≡ log_formatted g → IsCommitted flash (log_formatted g) no_entries → IsCommitted flash log m
begun g m log flash none is begins =
    subst (λ (l : LogValue). IsCommitted flash l m) (sym is) (subst (λ (n : Entries). IsCommitted flash (log_formatted g) n) (sym none) begins)

-- ---- one more page

module _ (g : Geometry) (m m' : Entries) (log log' : LogValue) (change : Record) (same : g ≡ log.geometry) (fit : Fits g change m) (applied : m' ≡ after g change m) (buffered : log' ≡ pushed change log) (old now : Contents) (stays : now ≡ old) (committed : IsCommitted old.flash log m) where
  pub pushed_current : IsCurrent now.flash.page log' m'
  pushed_current = subst (λ (x : Contents). IsCurrent x.flash.page log' m') (sym stays) (subst (λ (l : LogValue). IsCurrent old.flash.page l m') (sym buffered) (record {
    durable = m;
    loads = committed.loads;
    buffered =
        ap (λ (rs : List Record). after_all log.geometry (rs ++ change ∷ []) m) committed.nothing
        ∙ ap (λ b. cond b (Some (after log.geometry change m)) None) (subst (λ (x : Geometry). fits x change m ≡ true) same (fits-from g change m fit))
        ∙ ap (λ (n : Entries). Some n) (sym (applied ∙ ap (λ (x : Geometry). after x change m) same));
    newest = committed.current.newest;
    chosen = committed.current.chosen;
    era = committed.current.era;
  }))

  pub pushed_open : IsOpenLog now.flash log'
  pushed_open = subst (λ (x : Contents). IsOpenLog x.flash log') (sym stays) (subst (λ (l : LogValue). IsOpenLog old.flash l) (sym buffered) (record {
    before = committed.opened.before;
    ready = committed.opened.ready;
    format = committed.opened.format;
  }))

pub put_whole : (g : Geometry) (m m' : Entries) (lba : ℕ) (at : Place) (dirty : Bool) (old now : Contents) → now ≡ old → AreWhole old.flash.page m → is_whole (old.flash.page at) ≡ true → m' ≡ after g (SetPage lba at dirty) m → AreWhole now.flash.page m'
put_whole g m m' lba at dirty old now stays whole here applied = subst (λ (x : Contents). AreWhole x.flash.page m') (sym stays) (record {
  whole = λ a e is. by_address (a == lba) (get m a) e (whole.whole a) (sym (get-after g (SetPage lba at dirty) m a) ∙ ap (λ (n : Entries). get n a) (sym applied) ∙ is);
})
  where
    by_address : (b : Bool) (o : Option Entry) (e : Entry) → ((f : Entry) → o ≡ Some f → is_whole (old.flash.page f.place) ≡ true) → cond b (Some (in_log_block at dirty)) o ≡ Some e → is_whole (old.flash.page e.place) ≡ true
    by_address true o e was is = let same : in_log_block at dirty ≡ e = cc in subst (λ (x : Entry). is_whole (old.flash.page x.place) ≡ true) same here
    by_address false o e was is = was e is

-- pages of the pool stay whole
pub whole_still : (g : Geometry) (m : Entries) (old new : Place → Page) → IsMap g m → AreWhole old m → PoolStays g old new → AreWhole new m
whole_still g m old new is_map whole stays = record { whole = λ a e at. ap is_whole (stays e.place (is_map.in_pool a e at).above) ∙ whole.whole a e at }
