use Rattle.ft_base.specs.declared.block.Page.TheVariants as content
use Rattle.nand_model.proofs.BlocksLemmas.{changed_page, paged_there}
use Rattle.nand_model.proofs.blocks.program.Goals as goal

pub returns-clause-page : goal.returns-clause-page
returns-clause-page c =
    let old = c.args.blocks.now.items in
    changed_page old c.args.at c.index_mut.result.now c.program.new.self (content.Whole c.args.block.now c.args.spare.now) (paged_there old c.args.at.block c.args.at.page c.requires.page) c.index_mut.ensures.value c.program.ensures.page
