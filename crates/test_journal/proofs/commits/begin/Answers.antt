use Rattle.checkpoint.proofs.FormatLemmas.{empty_whole}
use Rattle.test_journal.proofs.CommitsLemmas.{begun}
use Rattle.test_journal.proofs.commits.begin.Goals as goal

pub returns-clause-committed : goal.returns-clause-committed
returns-clause-committed g c =
    begun c.args.geometry.now c.in_ok-map.map.entries c.in_ok-log.log (g.M.Media.state c.format.new.media).contents.flash c.in_ok-map.ensures.entries c.in_ok-log.ensures c.in_ok-format.ensures.begins

pub returns-clause-whole : goal.returns-clause-whole
returns-clause-whole g c = empty_whole (g.M.Media.state c.format.new.media).contents.flash.page c.in_ok-map.map.entries c.in_ok-map.ensures.entries
