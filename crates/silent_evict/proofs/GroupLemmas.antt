-- Groups that may give way.
use Rattle.std.proofs.Common.{ℕ, ◌-◌, ◌/◌, ◌≤◌, subst, arith}
use Rattle.ft_base.specs.declared.geometry.Geometry.{Geometry}
use Rattle.cache_model.specs.Records.{Entries}
use Rattle.cache_model.specs.Entries.{IsMap}
use Rattle.mapping.proofs.CountsLemmas.{div_mono}
use Rattle.silent_evict.specs.Candidates.{IsCandidate}
pub use Rattle.mapping.proofs.ChosenLemmas.{chosen_none, chosen_some, page_count-most, pages_held-count, pages_held-none, pages_held-some}

-- a candidate is one of the volume's groups
pub candidate_in_reach : (g : Geometry) (m : Entries) (group : ℕ) → IsMap g m → IsCandidate g m group → group ≤ (g.size - 1) / g.p
candidate_in_reach g m group is_map candidate =
    let found = candidate.some in
    let low = is_map.within found.0 found.1 found.2 in
    subst (λ n. n ≤ (g.size - 1) / g.p) found.3 (div_mono found.0 (g.size - 1) g.p (omega (arith, g.in_range.p_low)) (omega (arith, low)))
