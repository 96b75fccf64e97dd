-- How a removal shifts items back.
use Rattle.std.specs.Prelude.{◌≡◌, ℕ, zero, suc, ◌+◌, ◌-◌, ◌==◌, nat_le, Bool, false, List, length, Option, Some, None, is_some, slice_set, if◌then◌else◌}
use Rattle.sparse_map.specs.Home.{home, steps}
use Rattle.sparse_map.specs.Slots.{slot_at, key_at}

module _ {V : Type 0} where
  -- whether the way of an item in bucket b from its home leads over the hole
  abbrev pub leads_over : ℕ → ℕ → ℕ → Option (ℕ × V) → Bool
  leads_over n hole b None = false
  leads_over n hole b (Some e) = nat_le (steps n (home n e.0) hole) (steps n (home n e.0) b)

  -- the buckets after `at` are looked at in turn, among n buckets with a hole: at most `more`, until one isn't
  -- occupied. An item whose way from home leads over the hole moves there, and its bucket becomes the hole
  unfoldable pub shifted_back : ℕ → ℕ → ℕ → ℕ → List (Option (ℕ × V)) → List (Option (ℕ × V))
  shifted_back n zero hole at slots = slots
  shifted_back n (suc more) hole at slots =
      let b = if at + 1 == n then 0 else at + 1 in
      if is_some (slot_at slots b)
      then (if leads_over n hole b (slot_at slots b) then shifted_back n more b b
      (slice_set (slice_set slots hole (slot_at slots b)) b None) else shifted_back n more hole b slots)
      else slots

-- the item of a key left its bucket, and the items after it shifted back
pub record IsItemTaken {V : Type 0} (old new : List (Option (ℕ × V))) (key : ℕ) : Type 0 where
  pub bucket : ℕ
  pub has : key_at old bucket ≡ Some key
  pub slots : new ≡ shifted_back (length old) (length old - 1) bucket bucket (slice_set old bucket None)
