use Rattle.std.proofs.Common.{◌≡◌, sym, ◌∙◌}
use Rattle.ft_media.specs.declared.media.PageRead.TheVariants.{Blank, Whole, Torn}
use Rattle.ssc.proofs.CommandLemmas.{readable, found_whole}
use Rattle.ssc.proofs.cache.Ssc.read.Goals as goal

pub read_page-requires-clause-block : goal.read_page-requires-clause-block
read_page-requires-clause-block g c =
    let at = readable c.args.self.now (g.M.Media.state c.args.media.now).contents c.requires.up.list c.args.lba c.in-Some.place c.in-Some.field-0-1 c.requires.up.holds c.in-Some.ensures.place in
    at.block

pub read_page-requires-clause-page : goal.read_page-requires-clause-page
read_page-requires-clause-page g c =
    let at = readable c.args.self.now (g.M.Media.state c.args.media.now).contents c.requires.up.list c.args.lba c.in-Some.place c.in-Some.field-0-1 c.requires.up.holds c.in-Some.ensures.place in
    at.page

pub unreachable-requires : goal.unreachable-requires
unreachable-requires g c =
    let at = readable c.args.self.now (g.M.Media.state c.args.media.now).contents c.requires.up.list c.args.lba c.in-Some.place c.in-Some.field-0-1 c.requires.up.holds c.in-Some.ensures.place in
    let step = c.in-Ok-Blank in
    let both : Blank ≡ Whole = sym step.field-0-is ∙ found_whole _ step.field-0 _ _ at.whole step.ensures.found in
    cc

pub unreachable-requires-in-Ok-Torn : goal.unreachable-requires-in-Ok-Torn
unreachable-requires-in-Ok-Torn g c =
    let at = readable c.args.self.now (g.M.Media.state c.args.media.now).contents c.requires.up.list c.args.lba c.in-Some.place c.in-Some.field-0-1 c.requires.up.holds c.in-Some.ensures.place in
    let step = c.in-Ok-Torn in
    let both : Torn ≡ Whole = sym step.field-0-is ∙ found_whole _ step.field-0 _ _ at.whole step.ensures.found in
    cc
