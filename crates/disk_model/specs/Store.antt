-- What a disk in memory contains.
use Rattle.std.specs.Prelude.{ℕ, List, [], ◌∷◌, ◌++◌, ◌==◌, if◌then◌else◌, Box}
use Rattle.std.specs.Ordering.{nat_cmp}
use Rattle.std.specs.BTreeMap.{BTreeMap, get}
use Rattle.std.specs.declared.alloc.Global.{Global}
use Rattle.ft_base.specs.declared.block.Block.{Block}
use Rattle.ft_base.specs.Contents.{Values}
use Rattle.ft_base.specs.Plain.{block_in}
use Rattle.disk_model.specs.declared.replaced.Replaced.{Replaced}

-- the blocks that the writes since the last flush replaced at an address, newest first
abbrev pub replaced_at : List Replaced → ℕ → List Block
replaced_at [] lba = []
replaced_at (first ∷ later) lba = replaced_at later lba ++ (if first.lba == lba then block_in first.block ∷ [] else [])

-- the values of an address
abbrev pub values_in : BTreeMap ℕ (Box Block Global) → List Replaced → ℕ → Values
values_in newest replaced lba = record { newest = block_in (get nat_cmp newest lba); earlier = replaced_at replaced lba }
