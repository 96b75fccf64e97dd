use Rattle.std.proofs.Common.{◌≡◌, ℕ, ◌+◌, ◌*◌, ◌<◌, true}
use Rattle.cache_model.specs.Records.{has_bit}
use Rattle.mapping.proofs.grouping.ends_below_size.Given as goal

-- the pages so far are below the size
abbrev pub invariant-loop-page : goal.invariant-loop-page
invariant-loop-page l = (i : ℕ) → i < l.page → has_bit l.present i ≡ true → l.group * l.geometry.p + i < l.geometry.size
