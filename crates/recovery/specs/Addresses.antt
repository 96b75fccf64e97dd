-- The addresses of the entries of a map.
use Rattle.std.specs.Prelude.{◌≡◌, ℕ, Some, List}
use Rattle.std.specs.List.{Contains}
use Rattle.std.specs.FinMap.{get}
use Rattle.cache_model.specs.declared.entry.Entry.{Entry}
use Rattle.cache_model.specs.Records.{Entries}

-- each held address is in the list
abbrev pub HasAddresses : Entries → List ℕ → Type 0
HasAddresses m addresses = (a : ℕ) (e : Entry) → get m a ≡ Some e → Contains addresses a
