use Rattle.std.proofs.Common.{◌+◌, ◌*◌, [], ◌∙◌}
use Rattle.std.proofs.lemmas.List.{get_or_default}
use Rattle.sealed_media.specs.Seals.{seal_at}
use Rattle.sealed_media.proofs.SealsLemmas.{number_within}
use Rattle.sealed_media.proofs.seals.Seals.get.Goals as goal

pub returns : goal.returns
unfolding seal_at
returns c =
    let seals = c.args.self.now in
    c.index.ensures ∙ get_or_default seals.all.items (c.args.at.block * seals.pages + c.args.at.page) _ [] (number_within seals.blocks seals.pages c.args.at.block c.args.at.page _ c.requires.block c.requires.page seals.each)
