-- The places of records in a page, in either width.
use Rattle.std.proofs.Common.{◌≡◌, ℕ, suc, ◌+◌, ◌*◌, ◌^◌, ◌≤◌, Bool, true, false, refl, arith}
use Rattle.cache_model.specs.Spelling.{most_records_of, page_limit, record_bytes, set_limit}

pub most_few : (wide : Bool) → most_records_of wide ≤ 127
most_few true = omega arith
most_few false = omega arith

pub within_page : (wide : Bool) (i : ℕ) → i ≤ most_records_of wide → 32 + record_bytes wide * i ≤ 4096
within_page true i low = omega arith
within_page false i low = omega arith

pub limit_few : (wide : Bool) → page_limit wide ≤ 128
limit_few true = omega arith
limit_few false = omega arith

-- a set of pages takes a bit for each page
pub limits_same : (wide : Bool) → 2 ^ page_limit wide ≡ set_limit wide
limits_same true = refl
limits_same false = refl

pub bytes-zero : (wide : Bool) → record_bytes wide * 0 ≡ 0
bytes-zero true = refl
bytes-zero false = refl

pub bytes-suc : (wide : Bool) (n : ℕ) → record_bytes wide + record_bytes wide * n ≡ record_bytes wide * suc n
bytes-suc true n = omega arith
bytes-suc false n = omega arith

pub bytes-next : (wide : Bool) (n : ℕ) → record_bytes wide * (n + 1) ≡ record_bytes wide * n + record_bytes wide
bytes-next true n = omega arith
bytes-next false n = omega arith
