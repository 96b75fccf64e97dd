use Rattle.std.proofs.Common.{◌∙◌, length, Ok, refl, sym, ap, subst}
use Rattle.mapping.specs.MapValue.{MapValue}
use Rattle.op_log.specs.Log.{LogValue}
use Rattle.merge_engine.specs.declared.parts.Parts.{Parts}
use Rattle.merge_engine.specs.Loaded.{AreFoundLogs}
use Rattle.cache_model.specs.CacheList.{CacheList}
use Rattle.cache_model.specs.Stands.{FlashStandsFor}
use Rattle.ssc.specs.declared.cache.Ssc.{Ssc}
use Rattle.ssc.specs.CacheState.{Holds, waiting}
use Rattle.ssc.proofs.OpenLemmas.{full_room, sound_loaded, lists_loaded, images_loaded, load-loaded, made_checkpoint}
use Rattle.ssc.proofs.HoldsLemmas.{settled_opened, holds_committed}
use Rattle.ssc.proofs.ListLemmas.{stands_some}
use Rattle.ssc.proofs.LosingLemmas.{none_losing}
use Rattle.ssc.proofs.OwnLemmas.{step_own}
use Rattle.ssc.proofs.opening.LoadedCache.seal.Goals as goal

pub make_checkpoint-requires : goal.make_checkpoint-requires
make_checkpoint-requires g c =
    let n = c.args.self.cache.parts.geometry in
    let before = (g.M.Media.state c.args.media.now).contents in
    let is = c.requires.loaded in
    record { sound = sound_loaded n before before is.loaded c.args.self.cache.parts is.is_loaded refl is.parts c.requires.shape }

pub returns-in-Ok-clause-opened : goal.returns-in-Ok-clause-opened
returns-in-Ok-clause-opened g c =
    let n = c.args.self.cache.parts.geometry in
    let parts = c.args.self.cache.parts in
    let before = (g.M.Media.state c.args.media.now).contents in
    let after = (g.M.Media.state c.make_checkpoint.new.media).contents in
    let is = c.requires.loaded in
    let done = c.make_checkpoint.ensures in
    let sealed : Ssc = record c.args.self.cache { parts = c.make_checkpoint.new.cache } in
    let settled = settled_opened sealed after is.unready c.in-Ok.ensures.kept.agree parts is.loaded.map done.cache is.parts.map is.is_loaded.few in
    let holds : (s : CacheList) → FlashStandsFor n before.flash.page s → Holds sealed after s = λ s stands.
    holds_committed sealed after s settled (ap (λ (l : LogValue). l.buffered) c.in-Ok.ensures.log) (ap length is.places) (c.in-Ok.ensures.kept.lists s s (lists_loaded n before before is.loaded parts is.is_loaded refl is.parts s stands)) in
    let loads = is.is_loaded.loads ∙ ap (λ (k : MapValue). Ok k.entries) (sym is.parts.map) in
    let some = stands_some before.flash.page n is.loaded.map.entries is.is_loaded.loads in
    record {
      geometry = ap (λ (p : Parts). p.geometry) done.cache;
      holds = holds;
      loads = loads ∙ ap (λ (p : Parts). Ok p.map.entries) (sym done.cache);
      opened = record {
        nothing_waits = ap (λ (l : LogValue). waiting l.buffered) c.in-Ok.ensures.log;
        log = ap (λ (l : LogValue). l.next) c.in-Ok.ensures.log;
        empty_log = full_room c.make_checkpoint.new.cache n (ap (λ (p : Parts). p.geometry) done.cache) (ap (λ (l : LogValue). l.next) c.in-Ok.ensures.log);
        closed = ap (λ (p : Parts). p.log_blocks.room) done.cache ∙ is.parts.log_blocks.closed;
        log_blocks = subst AreFoundLogs (sym (ap (λ (p : Parts). p.log_blocks) done.cache)) is.parts.log_blocks;
        up = is.up;
      };
      is_up = record { list = some.0; holds = holds some.0 some.1; up = is.up };
      own = λ own. step_own sealed after own.list own.list own.list own.own own.own own.own (none_losing sealed after own.list own.list own.list (ap (λ (l : LogValue). waiting l.buffered) c.in-Ok.ensures.log) (holds own.list own.stands));
    }

pub returns-in-Ok-clause-stands : goal.returns-in-Ok-clause-stands
returns-in-Ok-clause-stands g c =
    let n = c.args.self.cache.parts.geometry in
    let before = (g.M.Media.state c.args.media.now).contents in
    let after = (g.M.Media.state c.make_checkpoint.new.media).contents in
    let is = c.requires.loaded in
    record {
      images = images_loaded n before before is.loaded c.args.self.cache.parts is.is_loaded refl is.parts after c.make_checkpoint.ensures.kept.stands;
      same = load-loaded n before before is.loaded c.args.self.cache.parts is.is_loaded refl is.parts after c.make_checkpoint.ensures.loads;
    }

pub returns-in-Err-Failed-clause-stands : goal.returns-in-Err-Failed-clause-stands
returns-in-Err-Failed-clause-stands g c =
    let n = c.args.self.cache.parts.geometry in
    let before = (g.M.Media.state c.args.media.now).contents in
    let after = (g.M.Media.state c.make_checkpoint.new.media).contents in
    let is = c.requires.loaded in
    record {
      images = images_loaded n before before is.loaded c.args.self.cache.parts is.is_loaded refl is.parts after c.make_checkpoint.ensures.kept.stands;
      same = load-loaded n before before is.loaded c.args.self.cache.parts is.is_loaded refl is.parts after c.make_checkpoint.ensures.loads;
    }

pub returns-in-Err-PowerLost-clause-stands : goal.returns-in-Err-PowerLost-clause-stands
returns-in-Err-PowerLost-clause-stands g c =
    let n = c.args.self.cache.parts.geometry in
    let before = (g.M.Media.state c.args.media.now).contents in
    let after = (g.M.Media.state c.make_checkpoint.new.media).contents in
    let is = c.requires.loaded in
    record {
      images = images_loaded n before before is.loaded c.args.self.cache.parts is.is_loaded refl is.parts after c.make_checkpoint.ensures.kept.stands;
      same = load-loaded n before before is.loaded c.args.self.cache.parts is.is_loaded refl is.parts after c.make_checkpoint.ensures.loads;
    }

pub returns-in-Ok-clause-costs : goal.returns-in-Ok-clause-costs
returns-in-Ok-clause-costs g c =
    let is = c.requires.loaded in
    record {
      made = made_checkpoint c.args.self.cache.parts.geometry (g.M.Media.state c.args.media.now) (g.M.Media.state c.make_checkpoint.new.media) is.loaded c.args.self.cache.parts c.make_checkpoint.new.cache _
          is.is_loaded is.parts c.make_checkpoint.ensures.cache c.in-Ok.ensures.log c.in-Ok.ensures.whole_checkpoint c.make_checkpoint.ensures.pool refl;
      programs = c.in-Ok.ensures.programs;
      refused = tt;
    }
