use Rattle.log_blocks.proofs.LogsLemmas.{is_in-push, last_of-push}
use Rattle.log_blocks.proofs.laws.laws_of_a_block_put_at_the_end.Goals as goal

pub returns : goal.returns
returns c = record { is_in = is_in-push; last = last_of-push }
