use Rattle.std.proofs.lemmas.Bool.{ne_eqb}
use Rattle.log_blocks.proofs.LogsLemmas.{is_in-without, last_of-without, length-without, without-oldest}
use Rattle.log_blocks.proofs.laws.laws_of_a_block_taken_out.Goals as goal

pub returns : goal.returns
returns c = record {
  is_in = is_in-without;
  last = λ block last list apart at. last_of-without block last list (ne_eqb block last apart) at;
  length = length-without;
  oldest = without-oldest;
}
