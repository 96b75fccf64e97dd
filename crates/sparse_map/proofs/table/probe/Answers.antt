use Rattle.std.proofs.Common.{◌≡◌, ◌+◌, ◌-◌, ◌*◌, ◌%◌, ◌^◌, ◌<◌, ◌≤◌, min, length, sym, ap, ◌∙◌, subst, Some, arith}
use Rattle.sparse_map.specs.Home.{home}
use Rattle.sparse_map.specs.Slots.{key_at}
use Rattle.sparse_map.specs.Groups.{slots_of}
use Rattle.sparse_map.specs.Ranks.{IsRankOf}
use Rattle.sparse_map.specs.Probe.{IsFreeFor}
use Rattle.sparse_map.proofs.HomeLemmas.{sized, width_within, below_width}
use Rattle.sparse_map.proofs.GroupLemmas.{rank_on_run, rank_on_run_few}
use Rattle.sparse_map.proofs.BucketLemmas.{table_long, length-table}
use Rattle.sparse_map.proofs.PackedLemmas.{Passing, PackedAt-from, HasOther, passing_start, passing_more, passing_full, probing_free}
use Rattle.sparse_map.proofs.RankedLemmas.{rank_read, run_taken, run_other, run_free, run_key, run_rank}
use Rattle.sparse_map.proofs.table.probe.Goals as goal

pub loop-passed-init : goal.loop-passed-init
loop-passed-init g c =
    let n = c.bucket_count-buckets.result in
    let e = c.bucket_count-buckets.ensures.count in
    let P = HasOther (slots_of (2 ^ c.args.bits) c.args.groups.now) c.args.key in
    let home_is : c.home_of-bucket.result ≡ home n c.args.key = c.home_of-bucket.ensures.home ∙ ap (λ m. home m c.args.key) (sym e) in
    let home_in : home n c.args.key < n = omega (arith, home_is, c.home_of-bucket.ensures.within, e) in
    subst (λ x. Passing n P (home n c.args.key) x 0) (sym home_is) (passing_start n P (home n c.args.key) home_in)

pub bounds-groups-bucket : goal.bounds-groups-bucket
bounds-groups-bucket g c =
    let size = sized c.args.bits c.requires.table.size in
    omega (arith, c.loop-passed.invariant.inside, table_long (2 ^ c.args.bits) c.args.groups.now size c.requires.table.table, c.bucket_count-buckets.ensures.count)

pub overflow_add-result-in-Some : goal.overflow_add-result-in-Some
overflow_add-result-in-Some g c =
    let within = c.in-Some.ensures.within in
    let end = c.run_end-end.ensures in
    omega (arith, rank_on_run_few c.index-groups-bucket.result (c.loop-passed.bucket % 64) c.run_end-end.result c.rank_at-place.result c.in-Some.k end.within end.occupied c.rank_at-place.ensures within.0 (omega (arith, within.1)) (omega (arith, within.1, end.within)))

pub returns-in-Some-clause-place : goal.returns-in-Some-clause-place
returns-in-Some-clause-place g c =
    let n = 2 ^ c.args.bits in
    let us = c.args.groups.now in
    let b = c.loop-passed.bucket in
    let read = c.index-groups-bucket.result in
    let table = c.requires.table.table in
    let inside : b < 64 * length us = omega (arith, c.loop-passed.invariant.inside, table_long n us (sized c.args.bits c.requires.table.size) table, c.bucket_count-buckets.ensures.count) in
    let low : c.in-Some.k < 64 = omega (arith, c.in-Some.ensures.within.1, c.run_end-end.ensures.within) in
    subst (λ x. key_at (slots_of n us) (b - b % 64 + x) ≡ Some c.args.key) (sym c.from.ensures)
    (run_key n us b c.in-Some.k read read table inside c.index-groups-bucket.is c.args.key low c.in-Some.ensures.found)

pub returns-in-Some-clause-rank : goal.returns-in-Some-clause-rank
returns-in-Some-clause-rank g c =
    let n = 2 ^ c.args.bits in
    let us = c.args.groups.now in
    let b = c.loop-passed.bucket in
    let k = c.in-Some.k in
    let read = c.index-groups-bucket.result in
    let table = c.requires.table.table in
    let inside : b < 64 * length us = omega (arith, c.loop-passed.invariant.inside, table_long n us (sized c.args.bits c.requires.table.size) table, c.bucket_count-buckets.ensures.count) in
    let within = c.in-Some.ensures.within in
    let end = c.run_end-end.ensures in
    let at = rank_on_run read (b % 64) c.run_end-end.result c.rank_at-place.result k end.within end.occupied c.rank_at-place.ensures within.0 (omega (arith, within.1)) in
    subst (λ x. IsRankOf us (b - b % 64 + x) (c.rank_at-place.result + (k - b % 64))) (sym c.from.ensures)
    (run_rank n us b k read read table inside c.index-groups-bucket.is (c.rank_at-place.result + (k - b % 64)) (omega (arith, within.1, end.within)) at)

pub overflow_add-result-then-from-width-2 : goal.overflow_add-result-then-from-width-2
overflow_add-result-then-from-width-2 g c =
    let end = c.run_end-end.ensures in
    let low : c.run_end-end.result < 64 = omega (arith, c.if-from-width.true, c.from-in-loop-passed.ensures, c.min-width.ensures) in
    omega (arith, rank_on_run_few c.index-groups-bucket.result (c.loop-passed.bucket % 64) c.run_end-end.result c.rank_at-place.result c.run_end-end.result end.within end.occupied c.rank_at-place.ensures end.from (omega arith) low)

pub returns-then-from-width-clause-place : goal.returns-then-from-width-clause-place
returns-then-from-width-clause-place g c =
    let m = 2 ^ c.args.bits in
    let us = c.args.groups.now in
    let s = slots_of m us in
    let key = c.args.key in
    let n = c.bucket_count-buckets.result in
    let e = c.bucket_count-buckets.ensures.count in
    let b = c.loop-passed.bucket in
    let k = c.run_end-end.result in
    let end = c.run_end-end.ensures in
    let width : k < min m 64 = omega (arith, c.if-from-width.true, c.from-in-loop-passed.ensures, c.min-width.ensures, e) in
    let lt : k < 64 = omega (arith, width) in
    let read = c.index-groups-bucket.result in
    let is = c.index-groups-bucket.is in
    let walk = c.loop-passed.invariant in
    let table = c.requires.table.table in
    let size = sized c.args.bits c.requires.table.size in
    let long : length s ≡ n = length-table m us size table ∙ sym e in
    let inside : b < 64 * length us = omega (arith, walk.inside, table_long m us size table, e) in
    let fits = width_within m size b (omega (arith, walk.inside, e)) in
    let home_is : c.home_of-bucket.result ≡ home n key = c.home_of-bucket.ensures.home ∙ ap (λ m. home m key) (sym e) in
    let home_in : home n key < n = omega (arith, home_is, c.home_of-bucket.ensures.within, e) in
    let free = run_free m us b k read read table inside is lt (end.free lt) in
    let place : IsFreeFor s key (b - b % 64 + k) =
    probing_free n s key b c.loop-passed.passed home_in walk c.loop-passed-test.true (b - b % 64 + k) long (PackedAt-from n s long c.requires.table.packed)
    (omega (arith, end.from)) (omega (arith, fits, width, e)) free
    (λ q le to. (run_taken m us b k read read table inside is end.within end.occupied q le to, run_other m us b k read read table inside is key end.within c.in_default.ensures.none q le to)) in
    subst (λ x. IsFreeFor s key (b - b % 64 + x)) (sym c.from-then-from-width.ensures) place

pub returns-then-from-width-clause-rank : goal.returns-then-from-width-clause-rank
returns-then-from-width-clause-rank g c =
    let n = 2 ^ c.args.bits in
    let us = c.args.groups.now in
    let b = c.loop-passed.bucket in
    let k = c.run_end-end.result in
    let read = c.index-groups-bucket.result in
    let table = c.requires.table.table in
    let inside : b < 64 * length us = omega (arith, c.loop-passed.invariant.inside, table_long n us (sized c.args.bits c.requires.table.size) table, c.bucket_count-buckets.ensures.count) in
    let low : k < 64 = omega (arith, c.if-from-width.true, c.from-in-loop-passed.ensures, c.min-width.ensures) in
    let end = c.run_end-end.ensures in
    let at = rank_on_run read (b % 64) k c.rank_at-place.result k end.within end.occupied c.rank_at-place.ensures end.from (omega arith) in
    subst (λ x. IsRankOf us (b - b % 64 + x) (c.rank_at-place.result + (k - b % 64))) (sym c.from-then-from-width.ensures)
    (run_rank n us b k read read table inside c.index-groups-bucket.is (c.rank_at-place.result + (k - b % 64)) low at)

pub next_bucket-bucket-requires-clause-within : goal.next_bucket-bucket-requires-clause-within
next_bucket-bucket-requires-clause-within g c =
    let n = 2 ^ c.args.bits in
    let e = c.bucket_count-buckets.ensures.count in
    let size = sized c.args.bits c.requires.table.size in
    omega (arith, width_within n size c.loop-passed.bucket (omega (arith, c.loop-passed.invariant.inside, e)), size.least, c.min-width.ensures, e)

pub loop-passed-preserved : goal.loop-passed-preserved
loop-passed-preserved g c =
    let m = 2 ^ c.args.bits in
    let us = c.args.groups.now in
    let s = slots_of m us in
    let key = c.args.key in
    let n = c.bucket_count-buckets.result in
    let e = c.bucket_count-buckets.ensures.count in
    let P = HasOther s key in
    let b = c.loop-passed.bucket in
    let p = c.loop-passed.passed in
    let k = c.run_end-end.result in
    let w = c.min-width.result in
    let l = b - b % 64 + w - 1 in
    let end = c.run_end-end.ensures in
    let read = c.index-groups-bucket.result in
    let is = c.index-groups-bucket.is in
    let walk = c.loop-passed.invariant in
    let table = c.requires.table.table in
    let size = sized c.args.bits c.requires.table.size in
    let inside : b < 64 * length us = omega (arith, walk.inside, table_long m us size table, e) in
    let in_table : b < m = omega (arith, walk.inside, e) in
    let fits = width_within m size b in_table in
    let first = below_width m size b in_table in
    let wide : w ≡ min m 64 = omega (arith, c.min-width.ensures, e) in
    let whole : w ≤ k = omega (arith, c.if-from-width.false, c.from-in-loop-passed.ensures) in
    let home_is : c.home_of-bucket.result ≡ home n key = c.home_of-bucket.ensures.home ∙ ap (λ m. home m key) (sym e) in
    let home_in : home n key < n = omega (arith, home_is, c.home_of-bucket.ensures.within, e) in
    let more = passing_more n P (home n key) b p home_in walk c.loop-passed-test.true l (omega (arith, first, wide)) (omega (arith, fits, wide, e, first))
    (λ q le lt.
    let to : q < b - b % 64 + k = omega (arith, lt, whole, first, wide) in
    (run_taken m us b k read read table inside is end.within end.occupied q le to, run_other m us b k read read table inside is key end.within c.in_default.ensures.none q le to)) in
    let far : p + (l + 1 - b) ≡ p + (w - b % 64) = omega (arith, first, wide) in
    subst (λ x. Passing n P (home n key) c.next_bucket-bucket.result x) far
    (subst (λ x. Passing n P (home n key) x (p + (l + 1 - b))) (sym c.next_bucket-bucket.ensures) more)

pub unreachable-requires : goal.unreachable-requires
unreachable-requires g c =
    let m = 2 ^ c.args.bits in
    let us = c.args.groups.now in
    let s = slots_of m us in
    let key = c.args.key in
    let n = c.bucket_count-buckets.result in
    let e = c.bucket_count-buckets.ensures.count in
    let long : length s ≡ n = length-table m us (sized c.args.bits c.requires.table.size) c.requires.table.table ∙ sym e in
    let home_is : c.home_of-bucket.result ≡ home n key = c.home_of-bucket.ensures.home ∙ ap (λ m. home m key) (sym e) in
    let home_in : home n key < n = omega (arith, home_is, c.home_of-bucket.ensures.within, e) in
    passing_full n (HasOther s key) s (home n key) c.loop-passed.bucket c.loop-passed.passed (λ q other. other.0) long home_in
    c.loop-passed-test.false (omega (arith, c.requires.table.room, e)) c.loop-passed.invariant

pub returns-then-has_key-clause-place : goal.returns-then-has_key-clause-place
returns-then-has_key-clause-place g c =
    let n = 2 ^ c.args.bits in
    let us = c.args.groups.now in
    let b = c.loop-passed.bucket in
    let read = c.index-groups-bucket.result in
    let table = c.requires.table.table in
    let inside : b < 64 * length us = omega (arith, c.loop-passed.invariant.inside, table_long n us (sized c.args.bits c.requires.table.size) table, c.bucket_count-buckets.ensures.count) in
    let low : b % 64 < 64 = omega arith in
    let same : b - b % 64 + b % 64 ≡ b = omega arith in
    subst (λ x. key_at (slots_of n us) x ≡ Some c.args.key) same
    (run_key n us b (b % 64) read read table inside c.index-groups-bucket.is c.args.key low (c.has_key.ensures.0 c.if-has_key.true))

pub returns-then-has_key-clause-rank : goal.returns-then-has_key-clause-rank
returns-then-has_key-clause-rank g c =
    let us = c.args.groups.now in
    let b = c.loop-passed.bucket in
    let read = c.index-groups-bucket.result in
    let inside : b < 64 * length us = omega (arith, c.loop-passed.invariant.inside, table_long (2 ^ c.args.bits) us (sized c.args.bits c.requires.table.size) c.requires.table.table, c.bucket_count-buckets.ensures.count) in
    rank_read us b c.rank_at-place.result read read inside c.index-groups-bucket.is c.rank_at-place.ensures
