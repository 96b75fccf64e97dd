use Rattle.std.proofs.Common.{◌≡◌}
use Rattle.merge_engine.specs.Agreement.{AreOfOne}
use Rattle.merge_engine.specs.Loaded.{RolesSoFar}
use Rattle.merge_engine.proofs.loading.set_roles.Given as goal

-- only the pool changed, and it gives the blocks of the entries so far the roles that these say
abbrev pub invariant-loop-i : goal.invariant-loop-i
invariant-loop-i l = record {
  parts : l.parts ≡ record l.initial.parts { pool = l.parts.pool };
  of_one : AreOfOne l.parts;
  roles : RolesSoFar l.initial.parts.geometry l.initial.parts.map.entries l.parts.pool l.i;
}
