use Rattle.std.proofs.Common.{length, ap}
use Rattle.cache_model.specs.Cache.{undo}
use Rattle.op_log.specs.Log.{LogValue}
use Rattle.ssc.specs.CacheState.{geometry_of, waiting}
use Rattle.ssc.proofs.HoldsLemmas.{few_logged, holds_committed, memory_logged}
use Rattle.ssc.proofs.CommandLemmas.{images_before}
use Rattle.ssc.proofs.LosingLemmas.{none_losing}
use Rattle.ssc.proofs.OwnLemmas.{given_up_not, kept_step}
use Rattle.ssc.specs.declared.cache.Ssc.{Ssc}
use Rattle.ssc.proofs.cache.Ssc.checkpoint.Goals as goal

pub returns-in-Ok-clause-done : goal.returns-in-Ok-clause-done
returns-in-Ok-clause-done g c = λ s holds.
    holds_committed _ (g.M.Media.state c.make_checkpoint.new.media).contents s
    (record { agree = c.in-Ok.ensures.kept.agree; memory = λ ready. memory_logged c.args.self.now.parts c.make_checkpoint.new.cache c.make_checkpoint.ensures.cache (holds.memory ready); few = few_logged c.args.self.now.parts c.make_checkpoint.new.cache c.make_checkpoint.ensures.cache holds.few })
    (ap (λ (l : LogValue). l.buffered) c.in-Ok.ensures.log) (ap length c.clear.ensures) (c.in-Ok.ensures.kept.lists s (undo holds.waiting s) holds.lists)

pub returns-in-Ok-clause-images : goal.returns-in-Ok-clause-images
returns-in-Ok-clause-images g c = λ s holds. images_before (geometry_of c.args.self.now) (g.M.Media.state c.make_checkpoint.new.media).contents (undo holds.waiting s) s s (c.make_checkpoint.ensures.kept.stands s (undo holds.waiting s) holds.lists)

pub returns-in-Err-clause-images : goal.returns-in-Err-clause-images
returns-in-Err-clause-images g c = λ s holds. images_before (geometry_of c.args.self.now) (g.M.Media.state c.make_checkpoint.new.media).contents (undo holds.waiting s) s s (c.make_checkpoint.ensures.kept.stands s (undo holds.waiting s) holds.lists)

pub returns-in-Ok-clause-own : goal.returns-in-Ok-clause-own
returns-in-Ok-clause-own g c = kept_step c.args.self.now _ (g.M.Media.state c.args.media.now).contents (g.M.Media.state c.make_checkpoint.new.media).contents (λ s. s) (λ s own. own) (λ up s holds. none_losing _ (g.M.Media.state c.make_checkpoint.new.media).contents s (undo holds.waiting s) s (ap (λ (l : LogValue). waiting l.buffered) c.in-Ok.ensures.log) (returns-in-Ok-clause-done g c s holds)) (returns-in-Ok-clause-images g c)

pub returns-in-Err-clause-own : goal.returns-in-Err-clause-own
returns-in-Err-clause-own g c = kept_step c.args.self.now c.give_up.new.self (g.M.Media.state c.args.media.now).contents (g.M.Media.state c.make_checkpoint.new.media).contents (λ s. s) (λ s own. own)
    (λ up. given_up_not c.give_up.new.self (ap (λ (k : Ssc). k.stopped) c.give_up.ensures.cache) up) (returns-in-Err-clause-images g c)
