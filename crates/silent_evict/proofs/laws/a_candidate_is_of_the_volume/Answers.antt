use Rattle.silent_evict.proofs.GroupLemmas.{candidate_in_reach}
use Rattle.silent_evict.proofs.laws.a_candidate_is_of_the_volume.Goals as goal

pub returns : goal.returns
returns c = λ g m group is_map candidate. candidate_in_reach g m group is_map candidate
