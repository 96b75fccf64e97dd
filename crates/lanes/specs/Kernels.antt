-- What the kernels compute, number by number.
use Rattle.std.specs.Prelude.{ℕ, ◌≡◌, ◌<◌, ◌≤◌, min, List, length, slice_index, All, bit_xor}
use Rattle.std.specs.List.{fold}
use Rattle.std.specs.Simd.Lanes.{zip2}

-- each byte of the list is this one
abbrev pub IsEach : ℕ → List ℕ → Type 0
IsEach byte bytes = All (λ x. x ≡ byte) bytes

-- the exclusive or of two lists, place by place
abbrev pub xor_of : List ℕ → List ℕ → List ℕ
xor_of xs ys = zip2 bit_xor xs ys

-- the place holds a least count of the list, and every count before it is greater
pub record IsFirstLeast (counts : List ℕ) (place : ℕ) : Type 0 where
  pub within : place < length counts
  pub least : All (λ count. slice_index counts place ≤ count) counts
  pub first : (k : ℕ) → k < place → slice_index counts place < slice_index counts k

-- the least count of the list, and 65,535 if the list is empty
abbrev pub least_of : List ℕ → ℕ
least_of counts = fold min 65535 counts
