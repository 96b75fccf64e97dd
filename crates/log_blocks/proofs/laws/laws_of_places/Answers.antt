use Rattle.log_blocks.proofs.LogsLemmas.{is_in-at, open_is_last}
use Rattle.log_blocks.proofs.laws.laws_of_places.Goals as goal

pub returns : goal.returns
returns c = record { is_in = is_in-at; open_block = open_is_last }
