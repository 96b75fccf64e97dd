use Rattle.std.proofs.Common.{subst}
use Rattle.ft_media.specs.declared.media.PageRead.{PageRead}
use Rattle.ft_media.specs.Media.{Found}
use Rattle.checkpoint.proofs.WalkLemmas.{whole_found}
use Rattle.checkpoint.proofs.reading.find.Goals as goal

pub returns-in-Whole-clause-finds : goal.returns-in-Whole-clause-finds
returns-in-Whole-clause-finds g c =
    whole_found ((g.M.Media.state c.args.media.now).contents.flash.page c.args.at) c.read_page.new.block c.read_page.new.spare c.kind_of.result
    (subst (λ (r : PageRead). Found ((g.M.Media.state c.args.media.now).contents.flash.page c.args.at) r c.read_page.new.block c.read_page.new.spare) c.in-Whole.is c.in_ok-read_page.ensures.found) c.kind_of.ensures.finds
