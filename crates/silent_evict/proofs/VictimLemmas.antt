-- The meaning of the first least count of the candidates.
use Rattle.std.proofs.Common.{◌≡◌, ℕ, ◌+◌, ◌-◌, ◌<◌, ◌≤◌, List, [], length, get_or, Option, Some, None, IfSome, IfNone, inl, inr, refl, sym, ◌∙◌, ap, subst, arith}
use Rattle.std.proofs.lemmas.List.Elements.{All-get_or}
use Rattle.ft_base.specs.declared.geometry.Geometry.{Geometry}
use Rattle.ft_base.specs.Layout.{first_pool}
use Rattle.cache_model.specs.Records.{Entries}
use Rattle.cache_model.specs.Entries.{IsMap}
use Rattle.lanes.specs.Kernels.{IsFirstLeast}
use Rattle.mapping.specs.declared.bits.Choice.TheVariants.{Mapped}
use Rattle.mapping.specs.Bits.{chosen_of}
use Rattle.mapping.specs.Candidates.{IsCandidateIn, AreCandidates}
use Rattle.mapping.specs.Numbers.{IsGroupIn, IsNoDataBlock}
use Rattle.mapping.proofs.CandidateLemmas.{place_below}
use Rattle.silent_evict.specs.Candidates.{IsCandidate, IsVictim, pages_held}
use Rattle.silent_evict.proofs.GroupLemmas.{page_count-most}

pub some_counts : (g : Geometry) (m : Entries) (counts : List ℕ) → AreCandidates g m counts → counts ≡ [] → ⊥
some_counts g m counts all none = let long = all.long in let empty : length counts ≡ 0 = ap length none in absurd (omega arith)

module _ (g : Geometry) (m : Entries) (is_map : IsMap g m) (counts : List ℕ) (all : AreCandidates g m counts) (place : ℕ) (least : IsFirstLeast counts place) where
  -- no candidate has fewer pages than the least count
  no_fewer : (other : ℕ) → IsCandidate g m other → get_or counts place 0 ≤ pages_held g m other
  no_fewer other may =
      let x = may.some in
      let pool = is_map.in_pool x.0 x.1 x.2 in
      let within = place_below g x.1.place.block pool.above pool.below in
      let low : x.1.place.block - first_pool g < length counts = omega (arith, within, all.long) in
      let count = all.all other x.1.place.block may (x.0, x.1, x.2, x.4, refl, x.3) in
      subst (λ n. get_or counts place 0 ≤ n) count (All-get_or (λ count. get_or counts place 0 ≤ count) counts (x.1.place.block - first_pool g) 0 low least.least)

  -- no count of pages is 65,535
  pub nothing_gives_way : get_or counts place 0 ≡ 65535 → (group : ℕ) → IsCandidate g m group → ⊥
  nothing_gives_way none group may =
      let fewer = no_fewer group may in
      let most = page_count-most g.p (chosen_of Mapped g m group) in
      let p = g.in_range.p_high in
      absurd (omega (arith, fewer, most, p, none))

  in_block : (get_or counts place 0 ≡ 65535 → ⊥) → IsCandidateIn g m (first_pool g + place) (get_or counts place 0)
  in_block some = elim (all.counted place least.within) [ inl none ↦ absurd (some none) | inr x ↦ x ]

  gives_way : (get_or counts place 0 ≡ 65535 → ⊥) → (block : ℕ) → block ≡ first_pool g + place → (group : ℕ) → IsGroupIn g m block group → IsVictim g m group
  gives_way some block at group found =
      let x = in_block some in
      let y = x.in_block in
      let own = is_map.own_block y.0 found.0 y.1 found.1 y.2 found.2 y.3 (found.4 ∙ at ∙ sym y.4) in
      let same : x.group ≡ group = sym y.5 ∙ sym own.same_group ∙ found.5 in
      subst (λ k. IsVictim g m k) same (record {
        candidate = x.candidate;
        least = λ other may. subst (λ n. n ≤ pages_held g m other) x.pages (no_fewer other may);
      })

  is_data_block : (get_or counts place 0 ≡ 65535 → ⊥) → (block : ℕ) → block ≡ first_pool g + place → IsNoDataBlock m block → ⊥
  is_data_block some block at none = let y = (in_block some).in_block in none y.0 y.1 y.2 y.3 (y.4 ∙ sym at)

  -- the group in the block of the least count gives way, and there is one
  pub victim_there : (get_or counts place 0 ≡ 65535 → ⊥) → (block : ℕ) → block ≡ first_pool g + place → (o : Option ℕ) → IfSome o (IsGroupIn g m block) → IfSome o (IsVictim g m)
  victim_there some block at None found = tt
  victim_there some block at (Some group) found = gives_way some block at group found

  pub victim_absent : (get_or counts place 0 ≡ 65535 → ⊥) → (block : ℕ) → block ≡ first_pool g + place → (o : Option ℕ) → IfNone o (IsNoDataBlock m block) → IfNone o ((group : ℕ) → IsCandidate g m group → ⊥)
  victim_absent some block at None none = absurd (is_data_block some block at none)
  victim_absent some block at (Some group) none = tt
