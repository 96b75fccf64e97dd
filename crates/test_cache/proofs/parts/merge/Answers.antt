use Rattle.test_cache.proofs.PartsLemmas.{some_held}
use Rattle.test_cache.proofs.parts.merge.Goals as goal

pub merge_group-requires-clause-held : goal.merge_group-requires-clause-held
merge_group-requires-clause-held c = some_held c.reserve.new.parts c.args.group c.held_bits.result c.reserve.ensures.agree.sound.of_one c.held_bits.ensures c.if-held_bits-eq0.false
