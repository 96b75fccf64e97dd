use Rattle.std.proofs.Common.{◌∙◌}
use Rattle.cache_model.specs.Cache.{written_dirty}
use Rattle.mem_rig.specs.Rig.{state_of}
use Rattle.test_cache.proofs.UpLemmas.{fit_written, in_size}
use Rattle.test_cache.proofs.bench.Bench.write_dirty.Goals as goal

pub write_dirty-answer-requires : goal.write_dirty-answer-requires
write_dirty-answer-requires c = record {
  up = c.self.invariant.up (c.self.view_is ∙ c.requires.going);
  lba = in_size c.self.inside.going c.self.inside.cache (state_of c.self.inside.rig).contents c.args.lba c.self.invariant c.requires.lba;
}

pub invariant_of-self : goal.invariant_of-self
invariant_of-self c =
    let e = c.write_dirty-answer.ensures in
    fit_written c.write_dirty-answer.result c.self.inside.going c.is_stopped.result c.self.inside.cache c.write_dirty-answer.new.self (state_of c.self.inside.rig) (state_of c.write_dirty-answer.new.media)
    c.args.lba (written_dirty c.args.lba c.block_of-block.result) c.self.invariant (c.self.view_is ∙ c.requires.going) c.is_stopped.ensures
    e.runs.geometry e.runs.stopped e.done e.refused.full_keeps (λ is. ((e.refused.memory is).2, λ contents s h. (e.refused.memory_holds is contents s h).holds))
