-- The bucket in which a key is looked for first, and the order of buckets round the table.
use Rattle.std.specs.Prelude.{◌≡◌, ℕ, ◌+◌, ◌-◌, ◌*◌, ◌/◌, ◌%◌, ◌^◌, ◌<◌, ◌≤◌, ◌==◌, nat_le, if◌then◌else◌}

-- bucket numbers of this many bits: 32 to 2^31 buckets
pub record IsTableSize (bits : ℕ) : Type 0 where
  pub many : 5 ≤ bits
  pub few : bits ≤ 31

-- how many buckets a table has: 2^bits, or none
abbrev pub buckets_for : ℕ → ℕ
buckets_for bits = if bits == 0 then 0 else 2 ^ bits

-- the home of a key among 2^b buckets: the top b bits of its product with 2^64 over the golden ratio, taken modulo 2^64
unfoldable pub home : ℕ → ℕ → ℕ
home buckets key = key * 0x9E37_79B9_7F4A_7C15 % 2 ^ 64 * buckets / 2 ^ 64

-- how many steps lead from bucket a to bucket b, going round past the last bucket
unfoldable pub steps : ℕ → ℕ → ℕ → ℕ
steps buckets a b = if nat_le a b then b - a else b + buckets - a

-- `wide` is `narrow`, or 32 instead of no buckets, doubled as often as `need` items would take more than three
-- quarters, and no oftener
pub record IsDoubledFor (need narrow wide : ℕ) : Type 0 where
  pub doublings : ℕ
  pub is : wide ≡ (if nat_le 32 narrow then narrow else 32) * 2 ^ doublings
  pub enough : 4 * need ≤ 3 * wide
  pub needed : (k : ℕ) → k < doublings → 3 * ((if nat_le 32 narrow then narrow else 32) * 2 ^ k) < 4 * need
