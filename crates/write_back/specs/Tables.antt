-- The table that an opening makes of the dirty addresses.
use Rattle.std.specs.Prelude.{◌≡◌, ℕ, List, []}
use Rattle.ft_base.specs.declared.geometry.Geometry.{Geometry}
use Rattle.ft_base.specs.Table.{table_of}
use Rattle.dirty_table.specs.Groups.{Groups}
use Rattle.cached_disk.specs.Kept.{waiting_in}
use Rattle.write_back.specs.Left.{IsDirtyTable, IsExact}

-- the table has the groups of these addresses. With its order they stand as if each address had been written, ascending
pub record IsTableOf (g : Geometry) (lbas : List ℕ) (table : Groups) : Type 0 where
  pub groups : IsDirtyTable g table
  pub exact : IsExact g.p table.order lbas
  pub order : waiting_in g.p table.order lbas ≡ table_of g.p [] lbas
