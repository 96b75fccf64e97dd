use Rattle.std.proofs.Common.{arith}
use Rattle.sparse_map.proofs.HomeLemmas.{some_buckets, no_buckets}
use Rattle.sparse_map.proofs.ViewLemmas.{seen_buckets, seen_halves, seen_sound}
use Rattle.sparse_map.proofs.map.SparseMap.groups.Goals as goal

pub returns-then-self-eq0-clause-groups : goal.returns-then-self-eq0-clause-groups
returns-then-self-eq0-clause-groups g c =
    let m = c.self.inside in
    omega (arith, no_buckets m.bits c.if-self-eq0.true, seen_buckets m c.args.self.now c.self.invariant.table c.self.view_is)

pub returns-then-self-eq0-clause-sound : goal.returns-then-self-eq0-clause-sound
returns-then-self-eq0-clause-sound g c = seen_sound c.self.inside c.args.self.now c.self.invariant.table c.self.view_is

pub returns-clause-groups : goal.returns-clause-groups
returns-clause-groups g c =
    let m = c.self.inside in
    let t = c.args.self.now in
    let ne = c.if-self-eq0.false in
    omega (arith, c.bucket_count.ensures.count, some_buckets m.bits (omega (arith, ne)), seen_buckets m t c.self.invariant.table c.self.view_is, seen_halves m t c.self.invariant.table c.self.view_is)

pub returns-clause-sound : goal.returns-clause-sound
returns-clause-sound g c = seen_sound c.self.inside c.args.self.now c.self.invariant.table c.self.view_is
