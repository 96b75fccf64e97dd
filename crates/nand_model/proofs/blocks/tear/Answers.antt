use Rattle.ft_base.specs.declared.block.Page.TheVariants as content
use Rattle.nand_model.proofs.BlocksLemmas.{changed_page, paged_there}
use Rattle.nand_model.proofs.blocks.tear.Goals as goal

pub returns-clause-page : goal.returns-clause-page
returns-clause-page c =
    let old = c.args.blocks.now.items in
    changed_page old c.args.at c.index_mut.result.now c.tear.new.self content.Torn (paged_there old c.args.at.block c.args.at.page c.requires) c.index_mut.ensures.value c.tear.ensures.page
