use Rattle.std.proofs.Common.{◌≡◌}
use Rattle.op_log.specs.Log.{FitsOn}
use Rattle.checkpoint.specs.Current.{AreWhole, IsCommitted}
use Rattle.test_journal.proofs.commits.put_often.Given as goal

-- the preconditions of a put still hold after it
abbrev pub invariant-puts : goal.invariant-puts
invariant-puts g l = record {
  shape : FitsOn l.cache.log.geometry (g.R.Media.state l.rig).contents.shape;
  geometry : l.cache.geometry ≡ l.cache.log.geometry;
  map : l.cache.map.geometry ≡ l.cache.log.geometry;
  checkpoints : l.cache.checkpoints ≡ l.cache.log.geometry;
  committed : IsCommitted (g.R.Media.state l.rig).contents.flash l.cache.log l.cache.map.entries;
  whole : AreWhole (g.R.Media.state l.rig).contents.flash.page l.cache.map.entries;
}
