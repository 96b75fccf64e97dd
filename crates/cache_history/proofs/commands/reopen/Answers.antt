use Rattle.cache_history.proofs.CommandLemmas.{moment_opened}
use Rattle.ssc.specs.Own.{HoldsOwn}
use Rattle.cache_history.proofs.OwnLemmas.{ok_given}
use Rattle.cache_history.proofs.commands.reopen.Goals as goal

pub returns-clause-moment : goal.returns-clause-moment
returns-clause-moment g c = moment_opened c.open.result c.args.geometry.now (g.M.Media.state c.args.media.now).contents.flash.page (g.M.Media.state c.open.new.media).contents c.open.ensures.holds c.open.ensures.opened

pub returns-clause-own : goal.returns-clause-own
returns-clause-own g c = λ own. (
  (λ x now. record { list = own.list; stands = c.open.ensures.images own.list own.stands x now; own = own.own }),
  ok_given (λ made. HoldsOwn made (g.M.Media.state c.open.new.media).contents) c.open.result c.open.ensures.own own,
)
