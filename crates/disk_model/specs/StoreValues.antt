-- The values of each address in a store.
use Rattle.std.specs.Prelude.{ℕ}
use Rattle.ft_base.specs.Contents.{Values}
use Rattle.disk_model.specs.declared.store.Store.{Store}
use Rattle.disk_model.specs.Store.{values_in}

-- the values of an address
abbrev pub store_values : Store → ℕ → Values
store_values store = values_in store.newest store.replaced.items
