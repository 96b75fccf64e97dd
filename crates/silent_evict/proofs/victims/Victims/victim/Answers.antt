use Rattle.std.proofs.Common.{ℕ, ◌+◌, refl, ap, ◌∙◌, rules}
use Rattle.ft_base.specs.declared.geometry.Geometry.{Geometry}
use Rattle.ft_base.specs.Layout.{first_pool}
use Rattle.silent_evict.specs.Candidates.{IsCandidate}
use Rattle.silent_evict.proofs.VictimLemmas.{some_counts, nothing_gives_way, victim_there, victim_absent}
use Rattle.silent_evict.proofs.victims.Victims.victim.Goals as goal

pub returns-in_err-place-clause-none : goal.returns-in_err-place-clause-none
returns-in_err-place-clause-none c =
    let never : (group : ℕ) → IsCandidate c.args.map.now.geometry c.args.map.now.entries group → ⊥ =
    λ group may. some_counts c.args.map.now.geometry c.args.map.now.entries c.candidates-counts.result.now c.candidates-counts.ensures.candidates (c.in_err-place.ensures.none.0 refl)
    in
    search rules

pub returns-then-fewest-clause-none : goal.returns-then-fewest-clause-none
returns-then-fewest-clause-none c = nothing_gives_way c.args.map.now.geometry c.args.map.now.entries c.candidates-counts.ensures.is_map c.candidates-counts.result.now c.candidates-counts.ensures.candidates c.in_ok-place.place c.in_ok-place.ensures.first c.if-fewest.true

pub returns-clause-some : goal.returns-clause-some
returns-clause-some c = victim_there c.args.map.now.geometry c.args.map.now.entries c.candidates-counts.ensures.is_map c.candidates-counts.result.now c.candidates-counts.ensures.candidates c.in_ok-place.place c.in_ok-place.ensures.first c.if-fewest.false
    _ (ap (λ n. n + c.in_ok-place.place) (c.first_pool.ensures.place ∙ ap (λ (g : Geometry). first_pool g) (c.self.view_is ∙ c.requires))) c.group_in.result c.group_in.ensures.some

pub returns-clause-none : goal.returns-clause-none
returns-clause-none c = victim_absent c.args.map.now.geometry c.args.map.now.entries c.candidates-counts.ensures.is_map c.candidates-counts.result.now c.candidates-counts.ensures.candidates c.in_ok-place.place c.in_ok-place.ensures.first c.if-fewest.false
    _ (ap (λ n. n + c.in_ok-place.place) (c.first_pool.ensures.place ∙ ap (λ (g : Geometry). first_pool g) (c.self.view_is ∙ c.requires))) c.group_in.result c.group_in.ensures.none
