use Rattle.std.proofs.Common.{◌∙◌}
use Rattle.cache_model.specs.CacheList.{CacheList}
use Rattle.mem_rig.specs.Rig.{state_of}
use Rattle.test_cache.proofs.UpLemmas.{fit_after}
use Rattle.test_cache.proofs.bench.Bench.checkpoint.Goals as goal

pub checkpoint-answer-requires : goal.checkpoint-answer-requires
checkpoint-answer-requires c = record {
  up = c.self.invariant.up (c.self.view_is ∙ c.requires.going);
}

pub invariant_of-self : goal.invariant_of-self
invariant_of-self c =
    let e = c.checkpoint-answer.ensures in
    fit_after c.checkpoint-answer.result c.self.inside.going c.is_stopped.result c.self.inside.cache c.checkpoint-answer.new.self (state_of c.self.inside.rig) (state_of c.checkpoint-answer.new.media) (λ (s : CacheList). s) c.self.invariant (c.self.view_is ∙ c.requires.going) c.is_stopped.ensures
    e.runs.geometry e.runs.stopped e.done e.runs.full e.runs.memory
