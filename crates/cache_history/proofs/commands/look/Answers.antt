use Rattle.cache_history.proofs.OwnLemmas.{looked}
use Rattle.cache_history.proofs.commands.look.Goals as goal

pub returns-clause-own : goal.returns-clause-own
returns-clause-own g c = looked c.args.cache.now c.scrub.new.self (g.M.Media.state c.args.media.now).contents (g.M.Media.state c.scrub.new.media).contents c.scrub.result c.scrub.ensures.same c.scrub.ensures.reads.contents c.scrub.ensures.own
