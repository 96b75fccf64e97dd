use Rattle.std.proofs.Common.{inr}
use Rattle.checkpoint.proofs.CountsLemmas.{regions_erased}
use Rattle.checkpoint.proofs.ErasingLemmas.{log_lost}
use Rattle.checkpoint.proofs.erasing.erase_regions.Goals as goal

pub returns-in_err-erase_blocks-2-clause-pages : goal.returns-in_err-erase_blocks-2-clause-pages
returns-in_err-erase_blocks-2-clause-pages g c =
    inr (log_lost c.args.geometry.now c.args.region (g.M.Media.state c.args.media.now).contents.flash (g.M.Media.state c.erase_blocks.new.media).contents.flash
    (g.M.Media.state c.erase_blocks-2.new.media).contents.flash c.k-k.result c.requires.region c.k-k.ensures.number c.erase_blocks.ensures.pages c.in_ok-erase_blocks.ensures.blank
    c.erase_blocks-2.ensures.pages)

pub returns-clause-pages : goal.returns-clause-pages
returns-clause-pages g c =
    inr (log_lost c.args.geometry.now c.args.region (g.M.Media.state c.args.media.now).contents.flash (g.M.Media.state c.erase_blocks.new.media).contents.flash
    (g.M.Media.state c.erase_blocks-2.new.media).contents.flash c.k-k.result c.requires.region c.k-k.ensures.number c.erase_blocks.ensures.pages c.in_ok-erase_blocks.ensures.blank
    c.erase_blocks-2.ensures.pages)

pub returns-clause-counts : goal.returns-clause-counts
returns-clause-counts g c =
    regions_erased c.args.geometry.now c.k-k.result (g.M.Media.state c.args.media.now).counts (g.M.Media.state c.erase_blocks.new.media).counts (g.M.Media.state c.erase_blocks-2.new.media).counts c.k-k.ensures.number c.in_ok-erase_blocks.ensures.counts c.in_ok-erase_blocks-2.ensures.counts
