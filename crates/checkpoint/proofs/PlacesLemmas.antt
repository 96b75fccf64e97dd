-- The places of the regions' pages.
use Rattle.std.proofs.Common.{◌≡◌, ℕ, zero, suc, ◌+◌, ◌-◌, ◌*◌, ◌/◌, ◌%◌, ◌<◌, ◌≤◌, sym, ◌∙◌, ap, ap₂, arith}
use Rattle.std.proofs.lemmas.Nat.{div-add-mod', div_below}
use Rattle.std.proofs.Math.Nat.{add_left_cancel}
use Rattle.ft_base.specs.declared.geometry.Geometry.{Geometry}
use Rattle.ft_base.specs.declared.block.Place.{Place}
use Rattle.ft_base.specs.Layout.{k, first_log, first_pool, checkpoint_at, log_at, checkpoint_pages, log_pages}
use Rattle.checkpoint.specs.Regions.{IsBlockWithin, InCheckpoint, InLog}

pub product : (a b p : ℕ) → a ≤ b → a * p ≤ b * p
product a b p le = grind arith

within_from : (first count q : ℕ) → q < count → IsBlockWithin first count (first + q)
within_from first count q low = (omega arith, omega arith)

-- the blocks of one of two regions that lie behind each other
two_below : (base region n b : ℕ) → region < 2 → IsBlockWithin (base + region * n) n b → (base ≤ b) × (b < base + 2 * n)
two_below base zero n b low within = (omega (arith, within.0), omega (arith, within.1))
two_below base (suc zero) n b low within = (omega (arith, within.0), omega (arith, within.1))
two_below base (suc (suc region)) n b low within = absurd (omega arith)

two_apart : (base region n b : ℕ) → region < 2 → IsBlockWithin (base + region * n) n b → IsBlockWithin (base + (1 - region) * n) n b → ⊥
two_apart base zero n b low within other = omega (arith, within.1, other.0)
two_apart base (suc zero) n b low within other = omega (arith, within.0, other.1)
two_apart base (suc (suc region)) n b low within other = omega arith

-- a checkpoint region has no base
with_base : (region n b : ℕ) → IsBlockWithin (region * n) n b → IsBlockWithin (0 + region * n) n b
with_base region n b within = (omega (arith, within.0), omega (arith, within.1))

pub checkpoint_within : (g : Geometry) (region i : ℕ) → i < checkpoint_pages g → InCheckpoint g region (checkpoint_at g region i).block
checkpoint_within g region i within = within_from (region * k g) (k g) (i / g.p) (div_below i g.p (k g) (omega (arith, g.in_range.p_low)) within)

pub log_within : (g : Geometry) (region i : ℕ) → i < log_pages g → InLog g region (log_at g region i).block
log_within g region i within = within_from (first_log g + region * g.j) g.j (i / g.p) (div_below i g.p g.j (omega (arith, g.in_range.p_low)) within)

pub checkpoint_low : (g : Geometry) (region b : ℕ) → region < 2 → InCheckpoint g region b → b < 2 * k g
checkpoint_low g region b low within = by_number (k g) within
  where
    by_number : (n : ℕ) → IsBlockWithin (region * n) n b → b < 2 * n
    by_number n within = let w = two_below 0 region n b low (with_base region n b within) in omega (arith, w.1)

pub log_between : (g : Geometry) (region b : ℕ) → region < 2 → InLog g region b → (2 * k g ≤ b) × (b < 2 * k g + 2 * g.j)
log_between g region b low within = two_below (2 * k g) region g.j b low within

-- a block of a checkpoint region lies neither in the other one, nor in a log
pub checkpoint_alone : (g : Geometry) (region b : ℕ) → region < 2 → InCheckpoint g region b → InCheckpoint g (1 - region) b → ⊥
checkpoint_alone g region b low within other = two_apart 0 region (k g) b low (with_base region (k g) b within) (with_base (1 - region) (k g) b other)

pub log_alone : (g : Geometry) (region b : ℕ) → region < 2 → InLog g region b → InLog g (1 - region) b → ⊥
log_alone g region b low within other = two_apart (2 * k g) region g.j b low within other

pub checkpoint_no_log : (g : Geometry) (region other b : ℕ) → region < 2 → other < 2 → InCheckpoint g region b → InLog g other b → ⊥
checkpoint_no_log g region other b low low' within log = by_number (k g) (checkpoint_low g region b low within) (log_between g other b low' log).0
  where
    by_number : (n : ℕ) → b < 2 * n → 2 * n ≤ b → ⊥
    by_number n below above = omega arith

pub pool_no_checkpoint : (g : Geometry) (region b : ℕ) → region < 2 → first_pool g ≤ b → InCheckpoint g region b → ⊥
pool_no_checkpoint g region b low pool within = by_number (k g) pool (checkpoint_low g region b low within)
  where
    by_number : (n : ℕ) → 2 * n + 2 * g.j ≤ b → b < 2 * n → ⊥
    by_number n above below = omega arith

pub pool_no_log : (g : Geometry) (region b : ℕ) → region < 2 → first_pool g ≤ b → InLog g region b → ⊥
pool_no_log g region b low pool within = by_number (k g) pool (log_between g region b low within).1
  where
    by_number : (n : ℕ) → 2 * n + 2 * g.j ≤ b → b < 2 * n + 2 * g.j → ⊥
    by_number n above below = omega arith

pub other_low : (region : ℕ) → 1 - region < 2
other_low region = omega arith

-- two pages of a region have different places
pub checkpoint_apart : (g : Geometry) (region i j : ℕ) → checkpoint_at g region i ≡ checkpoint_at g region j → i ≡ j
checkpoint_apart g region i j e =
    let row : i / g.p ≡ j / g.p = add_left_cancel (region * k g) (ap (λ (x : Place). x.block) e) in
    let column : i % g.p ≡ j % g.p = ap (λ (x : Place). x.page) e in
    sym (div-add-mod' i g.p) ∙ ap₂ (λ a b. a * g.p + b) row column ∙ div-add-mod' j g.p
