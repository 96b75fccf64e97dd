use Rattle.mapping.proofs.RebuildLemmas.{rebuilt}
use Rattle.mapping.proofs.laws.a_checkpoint_gives_the_map.Goals as goal

pub returns : goal.returns
returns c = λ g m records is_map listed. rebuilt g m is_map records listed
