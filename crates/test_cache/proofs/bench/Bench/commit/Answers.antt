use Rattle.std.proofs.Common.{◌∙◌}
use Rattle.cache_model.specs.CacheList.{CacheList}
use Rattle.mem_rig.specs.Rig.{state_of}
use Rattle.test_cache.proofs.UpLemmas.{fit_after}
use Rattle.test_cache.proofs.bench.Bench.commit.Goals as goal

pub commit-answer-requires : goal.commit-answer-requires
commit-answer-requires c = record {
  up = c.self.invariant.up (c.self.view_is ∙ c.requires.going);
}

pub invariant_of-self : goal.invariant_of-self
invariant_of-self c =
    let e = c.commit-answer.ensures in
    fit_after c.commit-answer.result c.self.inside.going c.is_stopped.result c.self.inside.cache c.commit-answer.new.self (state_of c.self.inside.rig) (state_of c.commit-answer.new.media) (λ (s : CacheList). s) c.self.invariant (c.self.view_is ∙ c.requires.going) c.is_stopped.ensures
    e.runs.geometry e.runs.stopped e.done e.runs.full e.runs.memory
