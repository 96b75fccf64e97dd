use Rattle.std.proofs.Common.{◌≡◌, ℕ, ◌<◌, false}
use Rattle.cache_model.specs.Records.{has_bit}
use Rattle.mapping.proofs.grouping.has_page.Given as goal

-- none of the pages so far is in the set
abbrev pub invariant-loop-page : goal.invariant-loop-page
invariant-loop-page l = (i : ℕ) → i < l.page → has_bit l.set i ≡ false
