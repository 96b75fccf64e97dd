use Rattle.ssc.proofs.OpenLemmas.{stands_empty}
use Rattle.std.specs.FinMap.{empty}
use Rattle.ssc.proofs.OwnLemmas.{empty_own}
use Rattle.ssc.proofs.cache.Ssc.format.Goals as goal

pub returns-in-Ok-clause-done : goal.returns-in-Ok-clause-done
returns-in-Ok-clause-done g c = stands_empty c.args.geometry.now (g.M.Media.state c.format.new.media).contents.flash.page c.in-Ok.ensures.done

pub returns-in-Ok-clause-own : goal.returns-in-Ok-clause-own
returns-in-Ok-clause-own g c = record {
  list = empty;
  stands = stands_empty c.args.geometry.now (g.M.Media.state c.format.new.media).contents.flash.page c.in-Ok.ensures.done;
  own = empty_own;
}
