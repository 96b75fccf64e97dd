use Rattle.std.proofs.Common.{◌∙◌}
use Rattle.nand_model.specs.Steps.{cut_erase}
use Rattle.nand_model.proofs.BlocksLemmas.{changed_block}
use Rattle.nand_model.proofs.blocks.cut_erase.Goals as goal

pub returns-clause-page : goal.returns-clause-page
returns-clause-page c = λ q.
    c.stop_all.ensures.page q
    ∙ changed_block c.args.blocks.now.items c.args.at c.index_mut.result.now c.cut_erase.new.self c.requires c.index_mut.ensures.value (cut_erase c.args.outcome) c.cut_erase.ensures.page q
