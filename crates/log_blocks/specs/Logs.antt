-- The log blocks in use: their list, and the open one.
use Rattle.std.specs.Prelude.{◌≡◌, ◌≤◌, ◌-◌, ◌==◌, ℕ, nat_eq, Bool, not, List, [], ◌∷◌, ◌++◌, length, slice_get, filter, Option, Some, None, IfSome, IsTrue, if◌then◌else◌}
use Rattle.std.specs.Option.{unwrap_or, option_eq}
use Rattle.std.specs.List.{list_any, IsDistinct}
use Rattle.ft_base.specs.declared.geometry.Geometry.{Geometry}
use Rattle.ft_base.specs.declared.block.Place.{Place}

-- the log blocks in the order in which they were put into the list, the open one, and how many of its pages are left
pub record LogBlocksValue : Type 0 where
  pub geometry : Geometry
  pub used : List ℕ
  pub open_block : Option ℕ
  pub room : ℕ

-- the block is in the list
abbrev pub is_in : ℕ → List ℕ → Bool
is_in block list = list_any (λ one. block == one) list

-- the list without the block, all others in their order
abbrev pub without_block : ℕ → List ℕ → List ℕ
without_block block list = filter (λ one. not (block == one)) list

-- the last of the list
abbrev pub last_of : List ℕ → Option ℕ
last_of list = slice_get list (length list - 1)

-- the block is one of the log blocks
abbrev pub IsInUse : LogBlocksValue → ℕ → Type 0
IsInUse logs block = IsTrue (is_in block logs.used)

-- the block is the open one
abbrev pub is_open : LogBlocksValue → ℕ → Bool
is_open logs block = option_eq nat_eq logs.open_block (Some block)

-- no block is there twice, there are at most L, the open one is the last, and only it has pages left
pub record AreSoundLogs (logs : LogBlocksValue) : Type 0 where
  pub distinct : IsDistinct nat_eq logs.used
  pub few : length logs.used ≤ logs.geometry.l
  pub last : IfSome logs.open_block (λ block. last_of logs.used ≡ Some block)
  pub closed : logs.open_block ≡ None → logs.room ≡ 0
  pub within : logs.room ≤ logs.geometry.p

-- the block is the last and the open one, with all its pages left
abbrev pub block_begun : ℕ → LogBlocksValue → LogBlocksValue
block_begun block logs = record logs { used = logs.used ++ block ∷ []; open_block = Some block; room = logs.geometry.p }

-- the block is the last, and none is open
abbrev pub adopted : ℕ → LogBlocksValue → LogBlocksValue
adopted block logs = record logs { used = logs.used ++ block ∷ []; open_block = None; room = 0 }

-- the block is out of the list; if it was the open one, none is open
abbrev pub released : ℕ → LogBlocksValue → LogBlocksValue
released block logs = record logs {
  used = without_block block logs.used;
  open_block = if is_open logs block then None else logs.open_block;
  room = if is_open logs block then 0 else logs.room;
}

-- the number of the page of the open block to program next
abbrev pub next_page : LogBlocksValue → ℕ
next_page logs = logs.geometry.p - logs.room

-- the place of that page
abbrev pub append_place : LogBlocksValue → Place
append_place logs = record { block = unwrap_or logs.open_block 0; page = next_page logs }

-- the answer is the page that was next, and the open block has one page less left
pub record TakesNext (old new : LogBlocksValue) (at : Place) : Type 0 where
  pub place : at ≡ append_place old
  pub logs : new ≡ record old { room = old.room - 1 }
