use Rattle.std.proofs.Common.{arith}
use Rattle.std.proofs.lemmas.Grind.{common_steps}
use Rattle.nand_model.proofs.erase_block.EraseBlock.store.Goals as goal

pub returns-clause-ahead : goal.returns-clause-ahead
returns-clause-ahead c = λ p above.
    let blank = c.args.self.now.ahead c.args.page p c.requires.ready (omega arith) in
    grind (arith, common_steps, blank)
