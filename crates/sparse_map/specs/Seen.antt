-- The parts of a map that a contract sees, by its fields.
use Rattle.std.specs.Prelude.{ℕ, ◌-◌, ◌*◌, ◌/◌, List}
use Rattle.sparse_map.specs.declared.group.Group.{Group}
use Rattle.sparse_map.specs.declared.table.Touched.{Touched}
use Rattle.sparse_map.specs.Home.{buckets_for}
use Rattle.sparse_map.specs.Groups.{slots_of, lists_for}
use Rattle.sparse_map.specs.Places.{sizes_of, places_of, loose_of}
use Rattle.sparse_map.specs.Packed.{PackedTable}

-- how many free places beyond four each the lists of n buckets may have, all together: again as many as four each. But
-- 32 buckets, which use half of their group, may have none
unfoldable pub more_free : ℕ → ℕ
more_free n = n / 8 - 4 * lists_for n

-- what a contract sees: the groups of 2^bits buckets, how many new keys there is room for, and how many blank lists
-- there are. Also which groups may have been touched, and the places of old and new lists at the last doubling
abbrev pub seen_of : {V : Type 0} → ℕ → List (Group V) → ℕ → ℕ → Touched → ℕ → PackedTable V
seen_of bits groups spare blanks touched peak =
    record {
      slots = slots_of (buckets_for bits) groups;
      spare = spare;
      places = places_of (sizes_of groups);
      blanks = blanks;
      loose = loose_of touched (sizes_of groups) - more_free (buckets_for bits);
      peak = peak;
    }
