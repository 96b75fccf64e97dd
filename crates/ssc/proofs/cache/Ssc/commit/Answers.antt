use Rattle.std.proofs.Common.{◌∙◌, List, Option, length, sym, ap, arith}
use Rattle.std.proofs.lemmas.Bool.{false≢true}
use Rattle.cache_model.specs.Cache.{undo}
use Rattle.merge_engine.specs.declared.parts.Parts.{Parts}
use Rattle.ssc.specs.CacheState.{geometry_of, waiting}
use Rattle.ssc.proofs.HoldsLemmas.{few_logged, holds_committed, memory_logged, no_places, waiting-none}
use Rattle.ssc.proofs.LosingLemmas.{none_losing}
use Rattle.ssc.proofs.CommandLemmas.{images_before}
use Rattle.ssc.proofs.OwnLemmas.{given_up_not, kept_step}
use Rattle.ssc.specs.declared.cache.Ssc.{Ssc}
use Rattle.ssc.specs.declared.earlier.Before.{Before}
use Rattle.ssc.proofs.cache.Ssc.commit.Goals as goal

pub returns-in-Ok-clause-nothing : goal.returns-in-Ok-clause-nothing
returns-in-Ok-clause-nothing g c = λ none.
    let n = c.in-Ok.ensures.nothing (waiting-none c.args.self.now.parts.log.buffered none) in
    let places = no_places c.args.self.now (g.M.Media.state c.args.media.now).contents c.requires.up.list c.requires.up.holds none in (
      n.0,
      ap (λ (p : Parts). record c.args.self.now { parts = p; before = c.clear.new.self }) n.1 ∙ ap (λ (l : List (Option Before)). record c.args.self.now { before = l }) (c.clear.ensures ∙ sym places),
      n.2,
    )

pub returns-in-Ok-clause-done : goal.returns-in-Ok-clause-done
returns-in-Ok-clause-done g c = λ s holds.
    holds_committed _ (g.M.Media.state c.commit.new.media).contents s (record {
      agree = c.in-Ok.ensures.kept.agree;
      memory = λ ready. memory_logged c.args.self.now.parts c.commit.new.cache c.commit.ensures.cache (holds.memory ready);
      few = few_logged c.args.self.now.parts c.commit.new.cache c.commit.ensures.cache holds.few;
    }) c.in-Ok.ensures.kept.nothing_waits (ap length c.clear.ensures)
    (c.in-Ok.ensures.kept.lists s (undo holds.waiting s) holds.lists)

pub returns-in-Ok-clause-images : goal.returns-in-Ok-clause-images
returns-in-Ok-clause-images g c = λ s holds. images_before (geometry_of c.args.self.now) (g.M.Media.state c.commit.new.media).contents (undo holds.waiting s) s s (c.commit.ensures.kept.stands s (undo holds.waiting s) holds.lists)

pub returns-in-Err-clause-images : goal.returns-in-Err-clause-images
returns-in-Err-clause-images g c = λ s holds. images_before (geometry_of c.args.self.now) (g.M.Media.state c.commit.new.media).contents (undo holds.waiting s) s s (c.commit.ensures.kept.stands s (undo holds.waiting s) holds.lists)

pub returns-in-Err-clause-nothing : goal.returns-in-Err-clause-nothing
returns-in-Err-clause-nothing g c = λ none. absurd (false≢true (c.in-Err.ensures.nothing (waiting-none c.args.self.now.parts.log.buffered none)).0)

pub returns-in-Ok-clause-costs : goal.returns-in-Ok-clause-costs
returns-in-Ok-clause-costs g c = record {
  log = c.in-Ok.ensures.log;
  one_program = λ some room. c.in-Ok.ensures.one_page (λ none. some (ap waiting none)) (omega arith);
  checkpoint = λ some none_left. c.in-Ok.ensures.whole_checkpoint (λ none. some (ap waiting none)) (omega arith);
  programs = λ some. c.in-Ok.ensures.programs (λ none. some (ap waiting none));
}

pub returns-in-Ok-clause-own : goal.returns-in-Ok-clause-own
returns-in-Ok-clause-own g c = kept_step c.args.self.now _ (g.M.Media.state c.args.media.now).contents (g.M.Media.state c.commit.new.media).contents (λ s. s) (λ s own. own) (λ up s holds. none_losing _ (g.M.Media.state c.commit.new.media).contents s (undo holds.waiting s) s (ap waiting c.in-Ok.ensures.kept.nothing_waits) (returns-in-Ok-clause-done g c s holds)) (returns-in-Ok-clause-images g c)

pub returns-in-Err-clause-own : goal.returns-in-Err-clause-own
returns-in-Err-clause-own g c = kept_step c.args.self.now c.give_up.new.self (g.M.Media.state c.args.media.now).contents (g.M.Media.state c.commit.new.media).contents (λ s. s) (λ s own. own)
    (λ up. given_up_not c.give_up.new.self (ap (λ (k : Ssc). k.stopped) c.give_up.ensures.cache) up) (returns-in-Err-clause-images g c)
