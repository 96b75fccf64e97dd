use Rattle.sealed_media.specs.Seals.{seal_at}
use Rattle.sealed_media.proofs.SealsLemmas.{number_within, put_at}
use Rattle.sealed_media.proofs.seals.Seals.put.Goals as goal

pub returns-clause-seals : goal.returns-clause-seals
unfolding seal_at
returns-clause-seals c = λ q small. put_at c.args.self.now.all.items c.args.self.now.pages c.args.at q c.args.last.now c.requires.page small (number_within c.args.self.now.blocks c.args.self.now.pages c.args.at.block c.args.at.page _ c.requires.block c.requires.page c.args.self.now.each)
