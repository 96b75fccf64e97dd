use Rattle.std.proofs.Common.{◌∙◌}
use Rattle.cache_model.specs.Cache.{made_clean}
use Rattle.mem_rig.specs.Rig.{state_of}
use Rattle.test_cache.proofs.UpLemmas.{fit_after, in_size}
use Rattle.test_cache.proofs.bench.Bench.clean.Goals as goal

pub clean-answer-requires : goal.clean-answer-requires
clean-answer-requires c = record {
  up = c.self.invariant.up (c.self.view_is ∙ c.requires.going);
  lba = in_size c.self.inside.going c.self.inside.cache (state_of c.self.inside.rig).contents c.args.lba c.self.invariant c.requires.lba;
}

pub invariant_of-self : goal.invariant_of-self
invariant_of-self c =
    let e = c.clean-answer.ensures in
    fit_after c.clean-answer.result c.self.inside.going c.is_stopped.result c.self.inside.cache c.clean-answer.new.self (state_of c.self.inside.rig) (state_of c.clean-answer.new.media) (made_clean c.args.lba) c.self.invariant (c.self.view_is ∙ c.requires.going) c.is_stopped.ensures
    e.runs.geometry e.runs.stopped e.done e.runs.full e.runs.memory
