-- Which lists are handed on, and that each new group has one that fits when items go there.
use Rattle.std.proofs.Common.{◌≡◌, ℕ, ◌+◌, ◌-◌, ◌*◌, ◌/◌, ◌<◌, ◌≤◌, ◌⊎◌, Bool, true, false, List, [], ◌∷◌, ◌++◌, Option, Some, None, length, get_or, set, take, drop, refl, sym, ap, ◌∙◌, subst, inl, inr, arith}
use Rattle.std.specs.Prelude.{IfSome}
use Rattle.std.specs.List.{All}
use Rattle.std.specs.Vec.{vec_capacity}
use Rattle.std.proofs.lemmas.List.{get_or_past, get_or-set_same, get_or-set_other, get_or_append_left, get_or-append_right, take-append-drop, take_more, append-nil, length-map, length-append, length-set}
use Rattle.std.proofs.lemmas.List.Concat.{flat_map-append}
use Rattle.std.proofs.Math.Seq.{take-add}
use Rattle.std.proofs.lemmas.Bool.{cases_lt, cases_eq, false≢true}
use Rattle.sparse_map.specs.declared.group.Group.{Group}
use Rattle.sparse_map.specs.Moved.{items_in}
use Rattle.sparse_map.specs.Plan.{Plan, with_items, lens_of, rooms_of, RoomsFit}
use Rattle.sparse_map.specs.Heirs.{IsFit, all_brought, GetsMore, IsChosen, IsPassedOver, HeirsAreBare, AreRooms, FitsItems, AreClear, AllAreNoted, IsHeir, IsNoHeir, AreHeirs, ListsFit}
use Rattle.sparse_map.proofs.HandedOn.{handed_on}
use Rattle.sparse_map.specs.declared.table.Touched.TheVariants.{Nowhere}
use Rattle.sparse_map.specs.Places.{sizes_of, lacks, lacking}
use Rattle.sparse_map.specs.Trimmed.{IsReady}
use Rattle.std.proofs.lemmas.List.Elements.{All-weaker}
use Rattle.sparse_map.proofs.PlanLemmas.{with_items-append, counts_grow, len_at, room_at}
use Rattle.sparse_map.proofs.PlacesLemmas.{lacks-none, none-counted}

module _ {V : Type 0} where
  -- ---- the turns of the old groups
  pub items_in-more : (us : List (Group V)) (i : ℕ) (u : Group V) → i < length us → u ≡ get_or us i u → items_in (take (i + 1) us) ≡ items_in (take i us) ++ u.items.items
  items_in-more us i u inside is =
      ap items_in (take_more us i u inside ∙ ap (λ x. take i us ++ x ∷ []) (sym is))
      ∙ flat_map-append (λ (g : Group V). g.items.items) (take i us) (u ∷ [])
      ∙ ap (λ r. items_in (take i us) ++ r) (append-nil u.items.items)

  module _ (n : ℕ) (plan : Plan) (us : List (Group V)) where
    -- the items that are counted for a new group once the first old groups had their turn
    abbrev pub counts_by : ℕ → ℕ → ℕ
    counts_by s q = get_or (with_items n plan (items_in (take s us))).counts q 0

    abbrev pub counts_in_all : List ℕ
    counts_in_all = (with_items n plan (items_in us)).counts

    counts-more : (q : ℕ) (xs ys es : List (ℕ × V)) → es ≡ xs ++ ys → get_or (with_items n plan xs).counts q 0 ≤ get_or (with_items n plan es).counts q 0
    counts-more q xs ys es e =
        let split : get_or (with_items n plan es).counts q 0 ≡ get_or (with_items n (with_items n plan xs) ys).counts q 0 =
        ap (λ r. get_or (with_items n plan r).counts q 0) e ∙ ap (λ (p : Plan). get_or p.counts q 0) (with_items-append n plan xs ys) in
        omega (arith, split, counts_grow n (with_items n plan xs) ys q)

    pub counts-later : (s t q : ℕ) → s ≤ t → counts_by s q ≤ counts_by t q
    counts-later s t q le =
        let later : t ≡ s + (t - s) = omega arith in
        counts-more q (items_in (take s us)) (items_in (take (t - s) (drop s us))) (items_in (take t us))
        (ap (λ k. items_in (take k us)) later
        ∙ ap items_in (take-add s (t - s) us)
        ∙ flat_map-append (λ (g : Group V). g.items.items) (take s us) (take (t - s) (drop s us)))

    pub counts-last : (s q : ℕ) → counts_by s q ≤ get_or counts_in_all q 0
    counts-last s q =
        counts-more q (items_in (take s us)) (items_in (drop s us)) (items_in us)
        (ap items_in (sym (take-append-drop s us)) ∙ flat_map-append (λ (g : Group V). g.items.items) (take s us) (drop s us))

    -- ---- which new groups are clear, and which are heirs
    pub clear_more : (now : Plan) (s : ℕ) (before after : List Bool) → now ≡ with_items n plan (items_in (take s us))
        → ((q : ℕ) → get_or after q false ≡ true → (get_or before q false ≡ true) ⊎ ((q / 2 ≡ s) × (get_or now.counts q 0 ≡ 0)))
        → AreClear n plan us s before → AreClear n plan us (s + 1) after
    clear_more now s before after so_far noted clear = λ q is. elim (noted q is) [
      | inl old ↦ (omega (arith, (clear q old).0), (clear q old).1)
      | inr new ↦ (omega (arith, new.0), ap (λ k. counts_by k q) new.0 ∙ sym (ap (λ (p : Plan). get_or p.counts q 0) so_far) ∙ new.1)
    ]

    pub noted_more : (now : Plan) (s : ℕ) (before after : List Bool) → now ≡ with_items n plan (items_in (take s us)) → length now.counts ≡ length plan.counts
        → ((q : ℕ) → q / 2 ≡ s → s < length now.counts / 2 → get_or now.counts q 0 ≡ 0 → get_or after q false ≡ true)
        → ((q : ℕ) → get_or before q false ≡ true → (get_or after q false ≡ true) ⊎ (q / 2 ≡ s))
        → AllAreNoted n plan us s before → AllAreNoted n plan us (s + 1) after
    noted_more now s before after so_far level new others all = λ q inside paired none. elim (cases_eq (q / 2) s) [
      | inl same ↦
          let count : get_or now.counts q 0 ≡ counts_by (q / 2) q = ap (λ (p : Plan). get_or p.counts q 0) so_far ∙ ap (λ k. counts_by k q) (sym same) in
          new q same (omega (arith, same, paired, ap (λ k. k / 2) level)) (count ∙ none)
      | inr ne ↦ elim (others q (all q (omega (arith, inside, ne)) paired none)) [
        | inl noted ↦ noted
        | inr same ↦ absurd (ne same)
      ]
    ]

    noted_inside : (noted : List Bool) (q : ℕ) → get_or noted q false ≡ true → q < length noted
    noted_inside noted q is = elim (cases_lt q (length noted)) [
      | inl lt ↦ lt
      | inr past ↦ absurd (false≢true (sym (get_or_past noted q false past) ∙ is))
    ]

    pub chosen_heir : (rooms counts : List ℕ) (noted : List Bool) (m s q : ℕ) → rooms ≡ rooms_of us → counts ≡ counts_in_all → length noted ≡ length plan.counts → AreClear n plan us m noted → IsChosen rooms counts noted s q → IsHeir n plan us s q
    chosen_heir rooms counts noted m s q same all long clear chosen =
        let room : get_or rooms s 0 ≡ get_or (rooms_of us) s 0 = ap (λ r. get_or r s 0) same in
        let count : get_or counts q 0 ≡ get_or counts_in_all q 0 = ap (λ r. get_or r q 0) all in
        record {
          inside = omega (arith, noted_inside noted q chosen.clear, long);
          more = subst (λ l. GetsMore l s q) all chosen.more;
          fits = omega (arith, chosen.fits, room, count);
          clear = ap (λ k. counts_by k q) (sym chosen.more.within) ∙ (clear q chosen.clear).1;
        }

    pub no_heir : (counts : List ℕ) (noted : List Bool) (heirs : List (Option ℕ)) (s : ℕ) → counts ≡ counts_in_all → length counts ≡ length plan.counts → s < length us → AllAreNoted n plan us (length us) noted
        → IsPassedOver counts noted s (get_or (rooms_of us) s 0) (8 * (length counts / 2) - all_brought (rooms_of us) counts heirs s)
        → (length plan.counts / 2 ≤ s) ⊎ ((q : ℕ) × GetsMore counts_in_all s q × IsNoHeir n plan us heirs s q)
    no_heir counts noted heirs s all level inside are (inl none) = inl (omega (arith, none, ap (λ k. k / 2) level))
    no_heir counts noted heirs s all level inside are (inr (q, more, why)) =
        let count : get_or counts q 0 ≡ get_or counts_in_all q 0 = ap (λ l. get_or l q 0) all in
        let spent : all_brought (rooms_of us) counts heirs s ≡ all_brought (rooms_of us) counts_in_all heirs s = ap (λ l. all_brought (rooms_of us) l heirs s) all in
        let half : length counts / 2 ≡ length plan.counts / 2 = ap (λ k. k / 2) level in
        elim (cases_lt s (length plan.counts / 2)) [
          | inr past ↦ inl past
          | inl own ↦ inr (
            q,
            subst (λ l. GetsMore l s q) all more,
            elim why [
              | inl other ↦ elim (cases_eq (counts_by s q) 0) [
                | inl none ↦ absurd (false≢true (sym other ∙ are q (omega (arith, inside, more.within)) (omega (arith, own, more.within)) (ap (λ k. counts_by k q) more.within ∙ none)))
                | inr some ↦ inl (omega (arith, some))
              ]
              | inr (inl full) ↦ inr (inl (omega (arith, full, count)))
              | inr (inr far) ↦ inr (inr (omega (arith, far, count, spent, half)))
            ],
          )
        ]

    -- ---- at the turn of an old group
    module _ (heirs : List (Option ℕ)) (are : AreHeirs n plan us heirs) (s : ℕ) where
      pub heir_inside : (h : Option ℕ) (m : ℕ) → get_or heirs s None ≡ h → length plan.counts ≡ m → IfSome h (λ q. q < m)
      heir_inside None m e long = tt
      heir_inside (Some q) m e long = omega (arith, (are.each s q e).inside, long)

      pub heir_clear : (h : Option ℕ) (now : Plan) → get_or heirs s None ≡ h → now ≡ with_items n plan (items_in (take s us)) → IfSome h (λ q. get_or now.counts q 0 ≡ 0)
      heir_clear None now e so_far = tt
      heir_clear (Some q) now e so_far = ap (λ (p : Plan). get_or p.counts q 0) so_far ∙ (are.each s q e).clear

      rooms_still : (rooms : List ℕ) (q : ℕ) → (get_or heirs s None ≡ Some q → ⊥)
          → IsFit (get_or rooms q 0) (get_or counts_in_all q 0) ⊎ ((k : ℕ) × (s ≤ k) × (get_or heirs k None ≡ Some q))
          → IsFit (get_or rooms q 0) (get_or counts_in_all q 0) ⊎ ((k : ℕ) × (s + 1 ≤ k) × (get_or heirs k None ≡ Some q))
      rooms_still rooms q other (inl fit) = inl fit
      rooms_still rooms q other (inr (k, le, e)) = elim (cases_eq k s) [
        | inl same ↦ absurd (other (ap (λ j. get_or heirs j None) (sym same) ∙ e))
        | inr ne ↦ inr (k, omega arith, e)
      ]

      pub rooms_after : (h : Option ℕ) (rooms : List ℕ) (places : ℕ) → get_or heirs s None ≡ h → places ≡ get_or (rooms_of us) s 0 → AreRooms rooms counts_in_all heirs s → AreRooms (handed_on h places rooms) counts_in_all heirs (s + 1)
      rooms_after None rooms places e room all = λ q inside. rooms_still rooms q (λ some. let wrong : None ≡ Some q = sym e ∙ some in cc) (all q inside)
      rooms_after (Some g) rooms places e room all = λ q inside. elim (cases_eq q g) [
        | inl same ↦
            let fit = (are.each s g e).fits in
            let long : length (set rooms g places) ≡ length rooms = length-set rooms g places in
            let here : get_or (set rooms g places) q 0 ≡ places = ap (λ j. get_or (set rooms g places) j 0) same ∙ get_or-set_same rooms g places 0 (omega (arith, inside, long, same)) in
            let count : get_or counts_in_all q 0 ≡ get_or counts_in_all g 0 = ap (λ j. get_or counts_in_all j 0) same in
            inl (omega (arith, fit, here, count, room))
        | inr ne ↦
            let there : get_or (set rooms g places) q 0 ≡ get_or rooms q 0 = get_or-set_other rooms g q places 0 ne in
            let long : length (set rooms g places) ≡ length rooms = length-set rooms g places in
            subst (λ r. IsFit r (get_or counts_in_all q 0) ⊎ ((k : ℕ) × (s + 1 ≤ k) × (get_or heirs k None ≡ Some q))) (sym there)
            (rooms_still rooms q (λ some. let wrong : Some g ≡ Some q = sym e ∙ some in ne cc) (all q (omega (arith, inside, long))))
      ]

      -- each list has room for the items whose turn it is. A list that fits has room for all items, and nothing goes to
      -- an heir that is still to come
      pub turn_fits : (rooms : List ℕ) (now : Plan) (xs : List (ℕ × V)) → now ≡ with_items n plan (items_in (take s us)) → items_in (take (s + 1) us) ≡ items_in (take s us) ++ xs
          → AreRooms rooms counts_in_all heirs (s + 1) → RoomsFit rooms (with_items n now xs).counts
      turn_fits rooms now xs so_far more all = λ q inside.
          let here : get_or (with_items n now xs).counts q 0 ≡ counts_by (s + 1) q =
          ap (λ p. get_or (with_items n p xs).counts q 0) so_far
          ∙ ap (λ (p : Plan). get_or p.counts q 0) (sym (with_items-append n plan (items_in (take s us)) xs))
          ∙ ap (λ r. get_or (with_items n plan r).counts q 0) (sym more) in
          elim (all q inside) [
            | inl fit ↦ omega (arith, fit, here, counts-last (s + 1) q)
            | inr (k, le, e) ↦ let none = (are.each k q e).clear in omega (arith, none, here, counts-later (s + 1) k q le)
          ]

      -- after the last turn
      pub rooms_last : (rooms : List ℕ) → length us ≤ s → AreRooms rooms counts_in_all heirs s → (q : ℕ) → q < length rooms → IsFit (get_or rooms q 0) (get_or counts_in_all q 0)
      rooms_last rooms past all = λ q inside. elim (all q inside) [
        | inl fit ↦ fit
        | inr (k, le, e) ↦ absurd (let wrong : None ≡ Some q = sym (get_or_past heirs k None (omega (arith, past, le, are.level))) ∙ e in cc)
      ]

  pub fit_each : (us : List (Group V)) (counts : List ℕ) → lens_of us ≡ counts → ((q : ℕ) → q < length (rooms_of us) → IsFit (get_or (rooms_of us) q 0) (get_or counts q 0)) → All FitsItems us
  fit_each us counts same fit = λ k d inside.
      let long : length (rooms_of us) ≡ length us = length-map us (λ (g : Group V). vec_capacity g.items) in
      let here = fit k (omega (arith, inside, long)) in
      let u = get_or us k d in
      let len = len_at us k u d u inside refl in
      let room = room_at us k u d u inside refl in
      let count : get_or (lens_of us) k 0 ≡ get_or counts k 0 = ap (λ c. get_or c k 0) same in
      omega (arith, here, len, room, count)

  pub fit_ready : (us : List (Group V)) → All FitsItems us → lacking 1 Nowhere (sizes_of us) ≡ 0
  fit_ready us all = none-counted (lacks 1) IsReady lacks-none us (All-weaker FitsItems IsReady (λ g fit. omega (arith, fit)) us all)

  -- as the code reads the lists
  pub lists_read : (n : ℕ) (us read old ws now : List (Group V)) (heirs seen : List (Option ℕ)) → read ≡ us → old ≡ us → now ≡ ws → seen ≡ heirs → ListsFit n ws read heirs → ListsFit n now old seen
  lists_read n us read old ws now heirs seen same_read same_old same_now same_heirs lists =
      subst (λ l. ListsFit n l old seen) (sym same_now)
      (subst (λ r. ListsFit n ws r seen) (same_read ∙ sym same_old)
      (subst (λ h. ListsFit n ws read h) (sym same_heirs) lists))

-- ---- one list more
pub rooms_push : (rooms counts : List ℕ) (heirs : List (Option ℕ)) (r i : ℕ) → length rooms ≡ i → IsFit r (get_or counts i 0) ⊎ (get_or heirs (i / 2) None ≡ Some i) → AreRooms rooms counts heirs 0 → AreRooms (rooms ++ r ∷ []) counts heirs 0
rooms_push rooms counts heirs r i long new all = λ q inside. elim (cases_lt q i) [
  | inl lt ↦
      let here : get_or (rooms ++ r ∷ []) q 0 ≡ get_or rooms q 0 = get_or_append_left rooms (r ∷ []) 0 q (omega (arith, lt, long)) in
      subst (λ x. IsFit x (get_or counts q 0) ⊎ ((s : ℕ) × (0 ≤ s) × (get_or heirs s None ≡ Some q))) (sym here) (all q (omega (arith, lt, long)))
  | inr le ↦
      let last : q ≡ i = omega (arith, inside, length-append rooms (r ∷ []), le, long) in
      let here : get_or (rooms ++ r ∷ []) i 0 ≡ r = get_or-append_right rooms (r ∷ []) i i 0 long (omega arith) ∙ ap (λ k. get_or (r ∷ []) k 0) (let none : i - i ≡ 0 = omega arith in none) in
      subst (λ j. IsFit (get_or (rooms ++ r ∷ []) j 0) (get_or counts j 0) ⊎ ((s : ℕ) × (0 ≤ s) × (get_or heirs s None ≡ Some j))) (sym last) (elim new [
        | inl fit ↦ inl (omega (arith, fit, here))
        | inr heir ↦ inr (i / 2, omega arith, heir)
      ])
]

pub heirs_push : (rooms counts : List ℕ) (noted : List Bool) (heirs : List (Option ℕ)) (h : Option ℕ) (i : ℕ) → length heirs ≡ i → ((q : ℕ) → h ≡ Some q → IsChosen rooms counts noted i q)
    → ((s q : ℕ) → get_or heirs s None ≡ Some q → IsChosen rooms counts noted s q) → (s q : ℕ) → get_or (heirs ++ h ∷ []) s None ≡ Some q → IsChosen rooms counts noted s q
heirs_push rooms counts noted heirs h i long new all s q is = elim (cases_lt s i) [
  | inl lt ↦ all s q (sym (get_or_append_left heirs (h ∷ []) None s (omega (arith, lt, long))) ∙ is)
  | inr past ↦ elim (cases_eq s i) [
    | inl same ↦
        let first : i - i ≡ 0 = omega arith in
        let here : get_or (heirs ++ h ∷ []) i None ≡ h = get_or-append_right heirs (h ∷ []) i i None long (omega arith) ∙ ap (λ k. get_or (h ∷ []) k None) first in
        subst (λ j. IsChosen rooms counts noted j q) (sym same) (new q (sym here ∙ ap (λ j. get_or (heirs ++ h ∷ []) j None) (sym same) ∙ is))
    | inr ne ↦
        let none : get_or (heirs ++ h ∷ []) s None ≡ None = get_or_past (heirs ++ h ∷ []) s None (omega (arith, length-append heirs (h ∷ []), long, past, ne)) in
        absurd (let wrong : None ≡ Some q = sym none ∙ is in cc)
  ]
]

-- a fact that holds of each list and its number, and of no list past the end
pub each_push : (P : ℕ → ℕ → Type 0) (rooms : List ℕ) (r i : ℕ) → length rooms ≡ i → P i r → ((q : ℕ) → P q (get_or rooms q 0)) → ((q : ℕ) → P q 0) → (q : ℕ) → P q (get_or (rooms ++ r ∷ []) q 0)
each_push P rooms r i long new all past q = elim (cases_lt q i) [
  | inl lt ↦ subst (P q) (sym (get_or_append_left rooms (r ∷ []) 0 q (omega (arith, lt, long)))) (all q)
  | inr over ↦ elim (cases_eq q i) [
    | inl same ↦
        let here : get_or (rooms ++ r ∷ []) i 0 ≡ r = get_or-append_right rooms (r ∷ []) i i 0 long (omega arith) ∙ ap (λ k. get_or (r ∷ []) k 0) (let none : i - i ≡ 0 = omega arith in none) in
        subst (λ j. P j (get_or (rooms ++ r ∷ []) j 0)) (sym same) (subst (P i) (sym here) new)
    | inr ne ↦ subst (P q) (sym (get_or_past (rooms ++ r ∷ []) q 0 (omega (arith, length-append rooms (r ∷ []), long, over, ne)))) (past q)
  ]
]

pub bare_push : (rooms : List ℕ) (heirs : List (Option ℕ)) (r i : ℕ) → length rooms ≡ i → (get_or heirs (i / 2) None ≡ Some i → r ≡ 0) → HeirsAreBare rooms heirs → HeirsAreBare (rooms ++ r ∷ []) heirs
bare_push rooms heirs r i long new all = each_push (λ q p. get_or heirs (q / 2) None ≡ Some q → p ≡ 0) rooms r i long new all (λ q heir. refl)

pub bare_same : (rooms others : List ℕ) (heirs : List (Option ℕ)) → rooms ≡ others → HeirsAreBare others heirs → HeirsAreBare rooms heirs
bare_same rooms others heirs same all = subst (λ r. HeirsAreBare r heirs) (sym same) all

pub few_push : (rooms counts : List ℕ) (r i : ℕ) → length rooms ≡ i → r ≤ get_or counts i 0 + 1 → ((q : ℕ) → get_or rooms q 0 ≤ get_or counts q 0 + 1) → (q : ℕ) → get_or (rooms ++ r ∷ []) q 0 ≤ get_or counts q 0 + 1
few_push rooms counts r i long new all = each_push (λ q p. p ≤ get_or counts q 0 + 1) rooms r i long new all (λ q. omega arith)

pub rooms_same : (rooms others counts : List ℕ) (heirs : List (Option ℕ)) → rooms ≡ others → AreRooms others counts heirs 0 → AreRooms rooms counts heirs 0
rooms_same rooms others counts heirs same all = subst (λ r. AreRooms r counts heirs 0) (sym same) all

pub few_same : (rooms others counts : List ℕ) → rooms ≡ others → ((q : ℕ) → get_or others q 0 ≤ get_or counts q 0 + 1) → (q : ℕ) → get_or rooms q 0 ≤ get_or counts q 0 + 1
few_same rooms others counts same all q = omega (arith, all q, ap (λ r. get_or r q 0) same)

pub rooms_none : (rooms counts : List ℕ) (heirs : List (Option ℕ)) → rooms ≡ [] → AreRooms rooms counts heirs 0
rooms_none rooms counts heirs none = λ q inside. absurd (omega (arith, inside, ap length none))
