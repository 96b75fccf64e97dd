-- Words of lemmas that no contract cites.
use Rattle.std.specs.Prelude.{Option, None, Some, List, ℕ, zero, suc, ◌+◌, Bool, if◌then◌else◌, ◌≡◌, true}
use Rattle.cache_model.specs.declared.entry.Entry.{Entry}
use Rattle.cache_model.specs.Records.{in_log_block}
use Rattle.mapping.specs.MappedPages.{MappedPage}
use Rattle.std.specs.FinMap.{is_sorted}
use Rattle.std.specs.Ordering.{nat_cmp}

-- the entry of a mapped page, or else of the data block
abbrev pub entry_in : Option MappedPage → Option Entry → Option Entry
entry_in None o = o
entry_in (Some x) o = Some (in_log_block x.place x.dirty)

-- how many of n numbers, from this one on, pass a test
abbrev pub count_range : (ℕ → Bool) → ℕ → ℕ → ℕ
count_range test from zero = 0
count_range test from (suc n) = (if test from then 1 else 0) + count_range test (from + 1) n

-- each address is below those after it
pub record Ascends (items : List (ℕ × Entry)) : Type 0 where
  pub sorted : is_sorted nat_cmp items ≡ true
