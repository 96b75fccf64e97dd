use Rattle.std.proofs.Common.{◌^◌, sym, arith}
use Rattle.sparse_map.specs.Plan.{planned}
use Rattle.sparse_map.proofs.HomeLemmas.{sized, sized_long}
use Rattle.sparse_map.proofs.PlanLemmas.{with_key-at}
use Rattle.sparse_map.proofs.plan.mark_key.Goals as goal

pub bounds-counts-bucket : goal.bounds-counts-bucket
bounds-counts-bucket c =
    omega (arith, c.first_unmarked-bucket.ensures.within, c.requires.groups, sized_long (2 ^ c.args.bits) (sized c.args.bits c.requires.size))

pub bounds-counts-bucket-2 : goal.bounds-counts-bucket-2
bounds-counts-bucket-2 c =
    omega (arith, c.first_unmarked-bucket.ensures.within, c.requires.groups, sized_long (2 ^ c.args.bits) (sized c.args.bits c.requires.size))

pub returns : goal.returns
returns c = sym (with_key-at (2 ^ c.args.bits) (planned c.args.marks.now c.args.counts.now) c.args.key c.first_unmarked-bucket.result (sym c.first_unmarked-bucket.ensures.first))
