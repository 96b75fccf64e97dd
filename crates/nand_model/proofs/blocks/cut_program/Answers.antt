use Rattle.std.proofs.Common.{◌∙◌}
use Rattle.nand_model.specs.Steps.{cut_program}
use Rattle.nand_model.proofs.BlocksLemmas.{changed_page, paged_there}
use Rattle.nand_model.proofs.blocks.cut_program.Goals as goal

pub returns-clause-page : goal.returns-clause-page
returns-clause-page c = λ q.
    let old = c.args.blocks.now.items in
    c.stop_all.ensures.page q
    ∙ changed_page old c.args.at c.index_mut.result.now c.cut_program.new.self (cut_program c.args.outcome c.args.block.now c.args.spare.now) (paged_there old c.args.at.block c.args.at.page c.requires.page) c.index_mut.ensures.value c.cut_program.ensures.page q
