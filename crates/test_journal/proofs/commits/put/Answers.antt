use Rattle.test_journal.proofs.CommitsLemmas.{whole_still}
use Rattle.checkpoint.proofs.SealedLemmas.{current_map}
use Rattle.test_journal.proofs.commits.put.Goals as goal

pub returns-clause-whole : goal.returns-clause-whole
returns-clause-whole g c =
    whole_still c.hold.new.cache.log.geometry c.hold.new.cache.map.entries (g.M.Media.state c.hold.new.media).contents.flash.page (g.M.Media.state c.commit.new.media).contents.flash.page
    (current_map c.hold.new.cache.log (g.M.Media.state c.hold.new.media).contents.flash.page c.hold.new.cache.map.entries c.in_ok-hold.ensures.current.0) c.in_ok-hold.ensures.whole c.commit.ensures.flash.pool
