-- Sums over the lists of groups, by their numbers: while lists are handed on, and from the sizes of the lists.
use Rattle.std.proofs.Common.{◌≡◌, ℕ, zero, suc, ◌+◌, ◌-◌, ◌<◌, ◌≤◌, Bool, List, [], ◌∷◌, ◌++◌, Option, Some, None, length, get_or, set, take, refl, sym, ap, ◌∙◌, subst, inl, inr, arith}
use Rattle.std.specs.List.{sum_by}
use Rattle.std.specs.Vec.{vec_capacity}
use Rattle.std.proofs.lemmas.List.{get_or_append_left, get_or-append_right, get_or-set_same, get_or-set_other, set_past, take_all}
use Rattle.std.proofs.lemmas.List.Sums.{sum_by-cons, sum_by_more}
use Rattle.std.proofs.lemmas.Bool.{cases_lt, cases_eq}
use Rattle.sparse_map.specs.declared.group.Group.{Group}
use Rattle.sparse_map.specs.declared.table.Touched.TheVariants.{Nowhere}
use Rattle.sparse_map.specs.Plan.{lens_of, rooms_of}
use Rattle.sparse_map.specs.Heirs.{beyond_four, brought, all_brought, IsPassedOver}
use Rattle.sparse_map.proofs.HandedOn.{handed_on}
use Rattle.sparse_map.specs.Places.{list_size, sizes_of, places_of, extra, sum_untouched, loose_of, past_most, past_of}
use Rattle.sparse_map.proofs.PlanLemmas.{len_at, room_at}

-- the sum of f over the first m numbers, each with the places of its list
abbrev pub over_rooms : (ℕ → ℕ → ℕ) → List ℕ → ℕ → ℕ
over_rooms f rooms zero = 0
over_rooms f rooms (suc m) = over_rooms f rooms m + f m (get_or rooms m 0)

-- the places alone
abbrev pub places_at : ℕ → ℕ → ℕ
places_at q places = places

-- the places past 65
abbrev pub past_at : ℕ → ℕ → ℕ
past_at q places = places - 65

-- the free places beyond four, if this many items are counted for each list
abbrev pub loose_at : List ℕ → ℕ → ℕ → ℕ
loose_at counts q places = beyond_four places (get_or counts q 0)

pub over_rooms-le : (f h : ℕ → ℕ → ℕ) (r s : List ℕ) (m : ℕ) → ((q : ℕ) → q < m → f q (get_or r q 0) ≤ h q (get_or s q 0)) → over_rooms f r m ≤ over_rooms h s m
over_rooms-le f h r s zero each = omega arith
over_rooms-le f h r s (suc m) each = omega (arith, over_rooms-le f h r s m (λ q lt. each q (omega (arith, lt))), each m (omega arith))

pub over_rooms-none : (r : List ℕ) (m : ℕ) → over_rooms (λ q places. 0) r m ≡ 0
over_rooms-none r zero = refl
over_rooms-none r (suc m) = omega (arith, over_rooms-none r m)

module _ (f : ℕ → ℕ → ℕ) where
  pub over_rooms-more : (r : List ℕ) (m : ℕ) → over_rooms f r (m + 1) ≡ over_rooms f r m + f m (get_or r m 0)
  over_rooms-more r m = let next : m + 1 ≡ suc m = omega arith in ap (over_rooms f r) next

  over_rooms-same : (r s : List ℕ) (m : ℕ) → ((q : ℕ) → q < m → get_or r q 0 ≡ get_or s q 0) → over_rooms f r m ≡ over_rooms f s m
  over_rooms-same r s zero each = refl
  over_rooms-same r s (suc m) each = omega (arith, over_rooms-same r s m (λ q lt. each q (omega (arith, lt))), ap (f m) (each m (omega arith)))

  -- with other places for list g
  over_rooms-set : (rooms : List ℕ) (g places m : ℕ) → over_rooms f (set rooms g places) m ≤ over_rooms f rooms m + f g places
  over_rooms-set rooms g places zero = omega arith
  over_rooms-set rooms g places (suc m) = elim (cases_eq m g) [
    | inl same ↦
        let below : over_rooms f (set rooms g places) m ≡ over_rooms f rooms m =
        over_rooms-same (set rooms g places) rooms m (λ q lt. get_or-set_other rooms g q places 0 (λ e. absurd (omega (arith, e, lt, same)))) in
        elim (cases_lt g (length rooms)) [
          | inl inside ↦
              let here : f m (get_or (set rooms g places) m 0) ≡ f g places =
              ap (λ j. f j (get_or (set rooms g places) j 0)) same ∙ ap (f g) (get_or-set_same rooms g places 0 inside) in
              omega (arith, below, here)
          | inr past ↦
              let here : f m (get_or (set rooms g places) m 0) ≡ f m (get_or rooms m 0) = ap (λ r. f m (get_or r m 0)) (set_past rooms g places past) in
              omega (arith, below, here)
        ]
    | inr ne ↦
        let there : f m (get_or (set rooms g places) m 0) ≡ f m (get_or rooms m 0) = ap (f m) (get_or-set_other rooms g m places 0 ne) in
        omega (arith, over_rooms-set rooms g places m, there)
  ]

  -- a list is handed on, or none
  pub over_rooms-handed : (heir : Option ℕ) (places more : ℕ) (rooms : List ℕ) (m : ℕ) → ((g : ℕ) → heir ≡ Some g → f g places ≤ more)
      → over_rooms f (handed_on heir places rooms) m ≤ over_rooms f rooms m + more
  over_rooms-handed None places more rooms m most = omega arith
  over_rooms-handed (Some g) places more rooms m most = omega (arith, over_rooms-set rooms g places m, most g refl)

-- the free places that a list brings
pub brings : (counts : List ℕ) (heir : Option ℕ) (places g : ℕ) → heir ≡ Some g → loose_at counts g places ≤ brought counts heir places
brings counts None places g e = absurd (let wrong : None ≡ Some g = e in cc)
brings counts (Some h) places g e = let same : beyond_four places (get_or counts h 0) ≡ beyond_four places (get_or counts g 0) = ap (λ (o : Option ℕ). brought counts o places) e in omega (arith, same)

-- ---- the free places that the first old groups hand on
pub brought_none : (rooms counts : List ℕ) (heirs : List (Option ℕ)) → all_brought rooms counts heirs 0 ≡ 0
unfolding all_brought
brought_none rooms counts heirs = refl

pub brought_more : (rooms counts : List ℕ) (heirs : List (Option ℕ)) (m : ℕ) → all_brought rooms counts heirs (m + 1) ≡ all_brought rooms counts heirs m + brought counts (get_or heirs m None) (get_or rooms m 0)
unfolding all_brought
brought_more rooms counts heirs m = let next : m + 1 ≡ suc m = omega arith in ap (all_brought rooms counts heirs) next

pub brought_same : (rooms counts : List ℕ) (heirs others : List (Option ℕ)) (m : ℕ) → ((s : ℕ) → s < m → get_or heirs s None ≡ get_or others s None) → all_brought rooms counts heirs m ≡ all_brought rooms counts others m
unfolding all_brought
brought_same rooms counts heirs others zero each = refl
brought_same rooms counts heirs others (suc m) each =
    let here : brought counts (get_or heirs m None) (get_or rooms m 0) ≡ brought counts (get_or others m None) (get_or rooms m 0) = ap (λ o. brought counts o (get_or rooms m 0)) (each m (omega arith)) in
    omega (arith, here, brought_same rooms counts heirs others m (λ s lt. each s (omega (arith, lt))))

-- the old groups that keep their list, with one more old group
pub kept_push : (rooms counts : List ℕ) (noted : List Bool) (heirs : List (Option ℕ)) (h : Option ℕ) (i most : ℕ) → length heirs ≡ i
    → (h ≡ None → IsPassedOver counts noted i (get_or rooms i 0) (most - all_brought rooms counts heirs i))
    → ((s : ℕ) → s < i → get_or heirs s None ≡ None → IsPassedOver counts noted s (get_or rooms s 0) (most - all_brought rooms counts heirs s))
    → (s : ℕ) → s < i + 1 → get_or (heirs ++ h ∷ []) s None ≡ None → IsPassedOver counts noted s (get_or rooms s 0) (most - all_brought rooms counts (heirs ++ h ∷ []) s)
kept_push rooms counts noted heirs h i most long new all s lt none =
    let news = heirs ++ h ∷ [] in
    let before : all_brought rooms counts news s ≡ all_brought rooms counts heirs s = brought_same rooms counts news heirs s (λ k less. get_or_append_left heirs (h ∷ []) None k (omega (arith, less, lt, long))) in
    subst (λ b. IsPassedOver counts noted s (get_or rooms s 0) (most - b)) (sym before) (elim (cases_eq s i) [
      | inl same ↦
          let here : get_or news i None ≡ h = get_or-append_right heirs (h ∷ []) i i None long (omega arith) ∙ ap (λ k. get_or (h ∷ []) k None) (let first : i - i ≡ 0 = omega arith in first) in
          let none_here : h ≡ None = sym here ∙ ap (λ j. get_or news j None) (sym same) ∙ none in
          subst (λ j. IsPassedOver counts noted j (get_or rooms j 0) (most - all_brought rooms counts heirs j)) (sym same) (new none_here)
      | inr ne ↦ all s (omega (arith, lt, ne)) (sym (get_or_append_left heirs (h ∷ []) None s (omega (arith, lt, ne, long))) ∙ none)
    ])

module _ {V : Type 0} where
  -- ---- the sums that the groups give
  over_sizes : (f : ℕ × ℕ → ℕ) (us : List (Group V)) → sum_by f (sizes_of us) ≡ sum_by (λ g. f (list_size g)) us
  unfolding sizes_of
  over_sizes f [] = refl
  over_sizes f (u ∷ us) = sum_by-cons f (list_size u) (sizes_of us) ∙ ap (λ n. f (list_size u) + n) (over_sizes f us) ∙ sym (sum_by-cons (λ (g : Group V). f (list_size g)) u us)

  over_groups : (F : Group V → ℕ) (f : ℕ → ℕ → ℕ) (us : List (Group V)) (e : Group V) (m : ℕ) → m ≤ length us
      → ((q : ℕ) → q < length us → F (get_or us q e) ≡ f q (get_or (rooms_of us) q 0)) → sum_by F (take m us) ≡ over_rooms f (rooms_of us) m
  over_groups F f us e zero within each = refl
  over_groups F f us e (suc m) within each =
      let before = over_groups F f us e m (omega (arith, within)) each in
      let next : suc m ≡ m + 1 = omega arith in
      ap (λ k. sum_by F (take k us)) next ∙ sum_by_more F us m e (omega (arith, within)) ∙ omega (arith, before, each m (omega (arith, within)))

  over_all : (F : Group V → ℕ) (f : ℕ → ℕ → ℕ) (us : List (Group V)) → ((q : ℕ) (e : Group V) → q < length us → F (get_or us q e) ≡ f q (get_or (rooms_of us) q 0)) → sum_by F us ≡ over_rooms f (rooms_of us) (length us)
  over_all F f [] each = refl
  over_all F f (u ∷ us) each =
      ap (sum_by F) (sym (take_all (length (u ∷ us)) (u ∷ us) (omega arith)))
      ∙ over_groups F f (u ∷ us) u (length (u ∷ us)) (omega arith) (λ q inside. each q u inside)

  pub places_over : (us : List (Group V)) → places_of (sizes_of us) ≡ over_rooms places_at (rooms_of us) (length us)
  unfolding places_of
  places_over us =
      over_sizes (λ s. s.1) us
      ∙ over_all (λ g. vec_capacity g.items) places_at us (λ q e inside. let u = get_or us q e in sym (room_at us q u e u inside refl))

  pub past_over : (us : List (Group V)) → past_of (sizes_of us) ≡ over_rooms past_at (rooms_of us) (length us)
  unfolding sum_untouched past_most
  past_over us =
      over_sizes past_most us
      ∙ over_all (λ g. past_most (list_size g)) past_at us (λ q e inside. let u = get_or us q e in ap (λ n. n - 65) (sym (room_at us q u e u inside refl)))

  pub loose_over : (us : List (Group V)) (counts : List ℕ) → lens_of us ≡ counts → loose_of Nowhere (sizes_of us) ≡ over_rooms (loose_at counts) (rooms_of us) (length us)
  unfolding sum_untouched extra
  loose_over us counts same =
      over_sizes extra us
      ∙ over_all (λ g. extra (list_size g)) (loose_at counts) us (λ q e inside.
      let u = get_or us q e in
      let len = len_at us q u e u inside refl in
      let room = room_at us q u e u inside refl in
      let count : get_or (lens_of us) q 0 ≡ get_or counts q 0 = ap (λ c. get_or c q 0) same in
      omega (arith, len, room, count))
