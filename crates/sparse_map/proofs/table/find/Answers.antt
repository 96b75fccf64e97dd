use Rattle.std.proofs.Common.{◌≡◌, ◌^◌, sym, ap, ◌∙◌, arith}
use Rattle.sparse_map.specs.Home.{buckets_for}
use Rattle.sparse_map.specs.Slots.{key_at}
use Rattle.sparse_map.specs.Groups.{slots_of}
use Rattle.sparse_map.proofs.HomeLemmas.{some_buckets, no_buckets}
use Rattle.sparse_map.proofs.BucketLemmas.{key_below}
use Rattle.sparse_map.proofs.RankedLemmas.{key_found, rank_found, free_found}
use Rattle.sparse_map.proofs.table.find.Goals as goal

pub returns-then-bits-eq0-clause-found : goal.returns-then-bits-eq0-clause-found
returns-then-bits-eq0-clause-found g c =
    let none = no_buckets c.args.bits c.if-bits-eq0.true in
    λ b has. let lt = key_below (buckets_for c.args.bits) c.args.groups.now b c.args.key has in absurd (omega (arith, lt, none))

pub returns-in-Found-clause-found : goal.returns-in-Found-clause-found
returns-in-Found-clause-found g c =
    let ne = c.if-bits-eq0.false in
    let size : buckets_for c.args.bits ≡ 2 ^ c.args.bits = some_buckets c.args.bits (omega (arith, ne)) in
    ap (λ n. key_at (slots_of n c.args.groups.now) c.in-Found.bucket) size
    ∙ key_found (slots_of (2 ^ c.args.bits) c.args.groups.now) c.args.key c.in-Found.bucket c.probe-spot.result.at c.probe-spot.ensures.place c.in-Found.is

pub returns-in-Found-clause-rank : goal.returns-in-Found-clause-rank
returns-in-Found-clause-rank g c = rank_found c.args.groups.now c.in-Found.bucket c.probe-spot.result.rank c.probe-spot.result.at c.probe-spot.ensures.rank c.in-Found.is

pub returns-in-Free-clause-found : goal.returns-in-Free-clause-found
returns-in-Free-clause-found g c =
    let ne = c.if-bits-eq0.false in
    let size : buckets_for c.args.bits ≡ 2 ^ c.args.bits = some_buckets c.args.bits (omega (arith, ne)) in
    let place = free_found (slots_of (2 ^ c.args.bits) c.args.groups.now) c.args.key c.in-Free.field-0 c.probe-spot.result.at c.probe-spot.ensures.place c.in-Free.is in
    λ b has. place.absent b (ap (λ n. key_at (slots_of n c.args.groups.now) b) (sym size) ∙ has)
