use Rattle.std.proofs.Common.{◌≡◌, ◌+◌, ◌-◌, ◌*◌, ◌%◌, ◌^◌, ◌<◌, ◌≤◌, ℕ, min, Option, Some, None, false, length, refl, sym, ◌∙◌, subst, arith}
use Rattle.std.specs.Prelude.{IsSome, is_some}
use Rattle.std.proofs.lemmas.Bool.{false≢true}
use Rattle.sparse_map.proofs.RoundLemmas.{steps_self}
use Rattle.sparse_map.specs.Slots.{key_at}
use Rattle.sparse_map.specs.Groups.{slots_of}
use Rattle.sparse_map.specs.Ranks.{IsRankOf}
use Rattle.sparse_map.specs.Probe.{IsFirstFree}
use Rattle.sparse_map.proofs.HomeLemmas.{sized, width_within, below_width}
use Rattle.sparse_map.proofs.TableLemmas.{slot_of_bucket}
use Rattle.sparse_map.proofs.BucketLemmas.{slot_below, table_long, length-table}
use Rattle.sparse_map.proofs.PackedLemmas.{Passing, passing_start, passing_more, passing_free, passing_full}
use Rattle.sparse_map.proofs.RankedLemmas.{rank_read, run_taken, run_free, run_rank}
use Rattle.sparse_map.proofs.table.first_free.Goals as goal

none_of : {X : Type 0} (o : Option X) → is_some o ≡ false → o ≡ None
none_of None off = refl
none_of (Some x) off = absurd (false≢true (sym off))

pub bounds-groups-from : goal.bounds-groups-from
bounds-groups-from g c =
    omega (arith, c.requires.within, table_long (2 ^ c.args.bits) c.args.groups.now (sized c.args.bits c.requires.table.size) c.requires.table.table)

pub returns-then-not-is_occupied-clause-first : goal.returns-then-not-is_occupied-clause-first
returns-then-not-is_occupied-clause-first g c =
    let n = 2 ^ c.args.bits in
    let us = c.args.groups.now in
    let b = c.args.from in
    let read = c.index-groups-from in
    let size = sized c.args.bits c.requires.table.size in
    let inside : b < 64 * length us = omega (arith, c.requires.within, table_long n us size c.requires.table.table) in
    let long = length-table n us size c.requires.table.table in
    record {
      inside = omega (arith, c.requires.within, long);
      free = slot_below n us b c.requires.within ∙ slot_of_bucket us b read.result read.result inside read.is ∙ none_of _ (sym c.is_occupied.ensures ∙ c.if-not-is_occupied.true);
      passed = λ q lt less. absurd (omega (arith, steps_self (length (slots_of n us)) b, less));
    }

pub loop-passed-init : goal.loop-passed-init
loop-passed-init g c =
    let n = c.bucket_count-buckets.result in
    passing_start n (λ q. IsSome (key_at (slots_of (2 ^ c.args.bits) c.args.groups.now) q)) c.args.from (omega (arith, c.requires.within, c.bucket_count-buckets.ensures.count))

pub bounds-groups-bucket : goal.bounds-groups-bucket
bounds-groups-bucket g c =
    let size = sized c.args.bits c.requires.table.size in
    omega (arith, c.loop-passed.invariant.inside, table_long (2 ^ c.args.bits) c.args.groups.now size c.requires.table.table, c.bucket_count-buckets.ensures.count)

pub returns-then-from-width-clause-first : goal.returns-then-from-width-clause-first
returns-then-from-width-clause-first g c =
    let m = 2 ^ c.args.bits in
    let us = c.args.groups.now in
    let s = slots_of m us in
    let n = c.bucket_count-buckets.result in
    let e = c.bucket_count-buckets.ensures.count in
    let b = c.loop-passed.bucket in
    let k = c.run_end-end.result in
    let end = c.run_end-end.ensures in
    let width : k < min m 64 = omega (arith, c.if-from-width.true, c.from.ensures, c.min-width.ensures, e) in
    let lt : k < 64 = omega (arith, width) in
    let read = c.index-groups-bucket.result in
    let is = c.index-groups-bucket.is in
    let walk = c.loop-passed.invariant in
    let table = c.requires.table.table in
    let size = sized c.args.bits c.requires.table.size in
    let long : length s ≡ n = length-table m us size table ∙ sym e in
    let inside : b < 64 * length us = omega (arith, walk.inside, table_long m us size table, e) in
    let fits = width_within m size b (omega (arith, walk.inside, e)) in
    let free = run_free m us b k read read table inside is lt (end.free lt) in
    let first : IsFirstFree s c.args.from (b - b % 64 + k) =
    passing_free n s c.args.from b c.loop-passed.passed (omega (arith, c.requires.within, e)) walk c.loop-passed-test.true (b - b % 64 + k)
    long (omega (arith, end.from)) (omega (arith, fits, width, e)) free
    (run_taken m us b k read read table inside is end.within end.occupied) in
    subst (λ x. IsFirstFree s c.args.from (b - b % 64 + x)) (sym c.from-then-from-width.ensures) first

pub next_bucket-bucket-requires-clause-within : goal.next_bucket-bucket-requires-clause-within
next_bucket-bucket-requires-clause-within g c =
    let n = 2 ^ c.args.bits in
    let e = c.bucket_count-buckets.ensures.count in
    let size = sized c.args.bits c.requires.table.size in
    omega (arith, width_within n size c.loop-passed.bucket (omega (arith, c.loop-passed.invariant.inside, e)), size.least, c.min-width.ensures, e)

pub loop-passed-preserved : goal.loop-passed-preserved
loop-passed-preserved g c =
    let m = 2 ^ c.args.bits in
    let us = c.args.groups.now in
    let n = c.bucket_count-buckets.result in
    let e = c.bucket_count-buckets.ensures.count in
    let P : ℕ → Type 0 = λ q. IsSome (key_at (slots_of m us) q) in
    let b = c.loop-passed.bucket in
    let p = c.loop-passed.passed in
    let k = c.run_end-end.result in
    let w = c.min-width.result in
    let l = b - b % 64 + w - 1 in
    let end = c.run_end-end.ensures in
    let read = c.index-groups-bucket.result in
    let walk = c.loop-passed.invariant in
    let table = c.requires.table.table in
    let size = sized c.args.bits c.requires.table.size in
    let inside : b < 64 * length us = omega (arith, walk.inside, table_long m us size table, e) in
    let in_table : b < m = omega (arith, walk.inside, e) in
    let fits = width_within m size b in_table in
    let first = below_width m size b in_table in
    let wide : w ≡ min m 64 = omega (arith, c.min-width.ensures, e) in
    let whole : w ≤ k = omega (arith, c.if-from-width.false, c.from.ensures) in
    let more = passing_more n P c.args.from b p (omega (arith, c.requires.within, e)) walk c.loop-passed-test.true l (omega (arith, first, wide)) (omega (arith, fits, wide, e, first))
    (λ q le lt. run_taken m us b k read read table inside c.index-groups-bucket.is end.within end.occupied q le (omega (arith, lt, whole, first, wide))) in
    let far : p + (l + 1 - b) ≡ p + (w - b % 64) = omega (arith, first, wide) in
    subst (λ x. Passing n P c.args.from c.next_bucket-bucket.result x) far
    (subst (λ x. Passing n P c.args.from x (p + (l + 1 - b))) (sym c.next_bucket-bucket.ensures) more)

pub unreachable-requires : goal.unreachable-requires
unreachable-requires g c =
    let m = 2 ^ c.args.bits in
    let us = c.args.groups.now in
    let s = slots_of m us in
    let n = c.bucket_count-buckets.result in
    let e = c.bucket_count-buckets.ensures.count in
    let long : length s ≡ n = length-table m us (sized c.args.bits c.requires.table.size) c.requires.table.table ∙ sym e in
    passing_full n (λ q. IsSome (key_at s q)) s c.args.from c.loop-passed.bucket c.loop-passed.passed (λ q some. some)
    long (omega (arith, c.requires.within, e)) c.loop-passed-test.false (omega (arith, c.requires.table.room, e)) c.loop-passed.invariant

pub returns-then-not-is_occupied-clause-rank : goal.returns-then-not-is_occupied-clause-rank
returns-then-not-is_occupied-clause-rank g c =
    let us = c.args.groups.now in
    let read = c.index-groups-from in
    let inside : c.args.from < 64 * length us = omega (arith, c.requires.within, table_long (2 ^ c.args.bits) us (sized c.args.bits c.requires.table.size) c.requires.table.table) in
    rank_read us c.args.from c.rank_at.result read.result read.result inside read.is c.rank_at.ensures

pub returns-then-from-width-clause-rank : goal.returns-then-from-width-clause-rank
returns-then-from-width-clause-rank g c =
    let n = 2 ^ c.args.bits in
    let us = c.args.groups.now in
    let b = c.loop-passed.bucket in
    let read = c.index-groups-bucket.result in
    let table = c.requires.table.table in
    let inside : b < 64 * length us = omega (arith, c.loop-passed.invariant.inside, table_long n us (sized c.args.bits c.requires.table.size) table, c.bucket_count-buckets.ensures.count) in
    let low : c.run_end-end.result < 64 = omega (arith, c.if-from-width.true, c.from.ensures, c.min-width.ensures) in
    subst (λ x. IsRankOf us (b - b % 64 + x) c.rank_at-then-from-width.result) (sym c.from-then-from-width.ensures)
    (run_rank n us b c.run_end-end.result read read table inside c.index-groups-bucket.is c.rank_at-then-from-width.result low c.rank_at-then-from-width.ensures)
