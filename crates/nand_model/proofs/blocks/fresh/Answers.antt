use Rattle.std.proofs.Common.{arith}
use Rattle.nand_model.proofs.BlocksLemmas.{get_push}
use Rattle.nand_model.proofs.blocks.fresh.Goals as goal

pub loop-preserved : goal.loop-preserved
loop-preserved c = record {
  length = grind arith;
  pages = grind (arith, get_push);
  block_room = grind (arith, get_push);
  spare_room = grind (arith, get_push);
  page = grind (arith, get_push);
  next = grind (arith, get_push);
}
