-- The turn of an old group: its list is handed on, and then its items go in.
use Rattle.std.proofs.Common.{◌≡◌, ℕ, zero, suc, ◌+◌, ◌-◌, ◌*◌, ◌/◌, ◌<◌, ◌≤◌, List, [], ◌∷◌, ◌++◌, Option, None, length, get_or, take, drop, map, refl, sym, ap, ◌∙◌, subst, arith}
use Rattle.std.specs.Prelude.{is_some, IfSome}
use Rattle.std.specs.Vec.{vec_len, vec_capacity}
use Rattle.std.proofs.lemmas.List.{drop_more, take_all, length-drop, length-map}
use Rattle.sparse_map.specs.declared.group.Group.{Group}
use Rattle.sparse_map.specs.declared.table.Touched.TheVariants.{Nowhere}
use Rattle.sparse_map.specs.Groups.{all_slots}
use Rattle.sparse_map.specs.Places.{sizes_of, places_of, loose_of, past_of}
use Rattle.sparse_map.specs.Moved.{items_in, CanTake, HasTaken}
use Rattle.sparse_map.specs.Plan.{Plan, planned, with_items, lens_of, rooms_of, plan_of, RoomsFit}
use Rattle.sparse_map.specs.Heirs.{IsFit, brought, all_brought, AreRooms, ListsFit}
use Rattle.sparse_map.proofs.HandedOn.{handed_on}
use Rattle.sparse_map.proofs.RankLemmas.{ones_at_most_64}
use Rattle.sparse_map.proofs.PlanLemmas.{with_items-append, room_at}
use Rattle.sparse_map.proofs.TakingLemmas.{slots_of-same, Taking, taking_first, taking_more, taking_same}
use Rattle.sparse_map.proofs.RoomsLemmas.{over_rooms, places_at, past_at, loose_at, over_rooms-le, over_rooms-none, over_rooms-more, places_over, past_over, loose_over, over_rooms-handed, brings, brought_more}
use Rattle.sparse_map.proofs.HeirLemmas.{items_in-more, rooms_last, heir_inside, heir_clear, rooms_after, turn_fits}

module _ {V : Type 0} where
  -- the items of the old groups before number s are in, and the lists that those groups hand on are handed on
  pub record AtTurn (n : ℕ) (start old : List (Group V)) (heirs : List (Option ℕ)) (s : ℕ) (now rest : List (Group V)) : Type 0 where
    pub taking : Taking n start (items_in old) now (items_in rest)
    pub left : rest ≡ drop s old
    pub plan : plan_of n now ≡ with_items n (plan_of n start) (items_in (take s old))
    pub rooms : AreRooms (rooms_of now) (with_items n (plan_of n start) (items_in old)).counts heirs s
    pub within : s ≤ length old
    pub loose : over_rooms (loose_at (with_items n (plan_of n start) (items_in old)).counts) (rooms_of now) (length start) ≤ all_brought (rooms_of old) (with_items n (plan_of n start) (items_in old)).counts heirs s
    pub places : over_rooms places_at (rooms_of now) (length start) ≤ over_rooms places_at (rooms_of start) (length start) + over_rooms places_at (rooms_of old) s
    pub short : over_rooms past_at (rooms_of now) (length start) ≤ over_rooms past_at (rooms_of start) (length start) + over_rooms past_at (rooms_of old) s

  module _ (n : ℕ) (start old : List (Group V)) (heirs : List (Option ℕ)) (lists : ListsFit n start old heirs) (s : ℕ) (now rest later : List (Group V)) (u : Group V)
      (at : AtTurn n start old heirs s now rest) (steps : rest ≡ u ∷ later) where
    there : drop s old ≡ u ∷ later
    there = sym at.left ∙ steps

    pub turn_inside : s < length old
    turn_inside = omega (arith, ap length there, length-drop s old)

    parts : u ∷ later ≡ get_or old s u ∷ drop (s + 1) old
    parts = sym there ∙ drop_more old s u turn_inside

    is_at : u ≡ get_or old s u
    is_at = ap (λ r. get_or r 0 u) parts

    more : items_in (take (s + 1) old) ≡ items_in (take s old) ++ u.items.items
    more = items_in-more old s u turn_inside is_at

    pub turn_heir_inside : length now ≡ length start → IfSome (get_or heirs s None) (λ q. q < length now)
    turn_heir_inside level =
        heir_inside n (plan_of n start) old heirs lists.handed s (get_or heirs s None) (length now) refl
        (length-map start (λ (g : Group V). vec_len g.items) ∙ sym level)

    pub turn_heir_clear : IfSome (get_or heirs s None) (λ q. get_or (lens_of now) q 0 ≡ 0)
    turn_heir_clear = heir_clear n (plan_of n start) old heirs lists.handed s (get_or heirs s None) (plan_of n now) refl at.plan

    -- ---- after the list was handed on
    module _ (mid : List (Group V)) (places : ℕ) (slots : all_slots mid ≡ all_slots now) (lens : lens_of mid ≡ lens_of now)
        (rooms : rooms_of mid ≡ handed_on (get_or heirs s None) places (rooms_of now)) (room : places ≡ vec_capacity u.items) where
      mid_level : length mid ≡ length now
      mid_level = sym (length-map mid (λ (g : Group V). vec_len g.items)) ∙ ap length lens ∙ length-map now (λ (g : Group V). vec_len g.items)

      plan_same : plan_of n mid ≡ plan_of n now
      plan_same = let table = slots_of-same n mid now slots in λ i. planned (map is_some (table i)) (lens i)

      plan_mid : plan_of n mid ≡ with_items n (plan_of n start) (items_in (take s old))
      plan_mid = plan_same ∙ at.plan

      rooms_mid : AreRooms (rooms_of mid) (with_items n (plan_of n start) (items_in old)).counts heirs (s + 1)
      rooms_mid =
          subst (λ r. AreRooms r (with_items n (plan_of n start) (items_in old)).counts heirs (s + 1)) (sym rooms)
          (rooms_after n (plan_of n start) old heirs lists.handed s (get_or heirs s None) (rooms_of now) places refl
          (room ∙ sym (room_at old s u u u turn_inside is_at)) at.rooms)

      abbrev counts : List ℕ
      counts = (with_items n (plan_of n start) (items_in old)).counts

      room_old : places ≡ get_or (rooms_of old) s 0
      room_old = room ∙ sym (room_at old s u u u turn_inside is_at)

      loose_mid : over_rooms (loose_at counts) (rooms_of mid) (length start) ≤ all_brought (rooms_of old) counts heirs (s + 1)
      loose_mid =
          let h = get_or heirs s None in
          let now_read : over_rooms (loose_at counts) (rooms_of mid) (length start) ≡ over_rooms (loose_at counts) (handed_on h places (rooms_of now)) (length start) = ap (λ r. over_rooms (loose_at counts) r (length start)) rooms in
          let read : brought counts h places ≡ brought counts h (get_or (rooms_of old) s 0) = ap (brought counts h) room_old in
          omega (arith, now_read, read, over_rooms-handed (loose_at counts) h places (brought counts h places) (rooms_of now) (length start) (λ g e. brings counts h places g e), brought_more (rooms_of old) counts heirs s, at.loose)

      places_mid : over_rooms places_at (rooms_of mid) (length start) ≤ over_rooms places_at (rooms_of start) (length start) + over_rooms places_at (rooms_of old) (s + 1)
      places_mid =
          let now_read : over_rooms places_at (rooms_of mid) (length start) ≡ over_rooms places_at (handed_on (get_or heirs s None) places (rooms_of now)) (length start) = ap (λ r. over_rooms places_at r (length start)) rooms in
          let more : over_rooms places_at (rooms_of old) (s + 1) ≡ over_rooms places_at (rooms_of old) s + get_or (rooms_of old) s 0 = over_rooms-more places_at (rooms_of old) s in
          omega (arith, now_read, more, room_old, over_rooms-handed places_at (get_or heirs s None) places places (rooms_of now) (length start) (λ g e. omega arith), at.places)

      short_mid : over_rooms past_at (rooms_of mid) (length start) ≤ over_rooms past_at (rooms_of start) (length start) + over_rooms past_at (rooms_of old) (s + 1)
      short_mid =
          let now_read : over_rooms past_at (rooms_of mid) (length start) ≡ over_rooms past_at (handed_on (get_or heirs s None) places (rooms_of now)) (length start) = ap (λ r. over_rooms past_at r (length start)) rooms in
          let more : over_rooms past_at (rooms_of old) (s + 1) ≡ over_rooms past_at (rooms_of old) s + (get_or (rooms_of old) s 0 - 65) = over_rooms-more past_at (rooms_of old) s in
          omega (arith, now_read, more, room_old, over_rooms-handed past_at (get_or heirs s None) places (places - 65) (rooms_of now) (length start) (λ g e. omega arith), at.short)

      taking_mid : Taking n start (items_in old) mid (u.items.items ++ items_in later)
      taking_mid =
          subst (λ r. Taking n start (items_in old) mid r) (ap items_in steps)
          (taking_same n start (items_in old) now mid (items_in rest) mid_level slots plan_same at.taking)

      pub turn_ready : CanTake n mid u.items.items
      turn_ready = taking_first n mid u.items.items (items_in later) taking_mid.ready

      pub turn_has_room : RoomsFit (rooms_of mid) (with_items n (plan_of n mid) u.items.items).counts
      turn_has_room = turn_fits n (plan_of n start) old heirs lists.handed s (rooms_of mid) (plan_of n mid) u.items.items plan_mid more rooms_mid

      pub turn_next : (new : List (Group V)) → HasTaken n mid new u.items.items → rooms_of new ≡ rooms_of mid → length new ≡ length mid → AtTurn n start old heirs (s + 1) new later
      turn_next new taken same level =
          record {
            taking = taking_more n start (items_in old) mid new u.items.items (items_in later) taking_mid taken level;
            left = ap (drop 1) parts;
            plan =
                taken.plan
                ∙ ap (λ p. with_items n p u.items.items) plan_mid
                ∙ sym (with_items-append n (plan_of n start) (items_in (take s old)) u.items.items)
                ∙ ap (λ r. with_items n (plan_of n start) r) (sym more);
            rooms = subst (λ r. AreRooms r (with_items n (plan_of n start) (items_in old)).counts heirs (s + 1)) (sym same) rooms_mid;
            within = omega (arith, turn_inside);
            loose = subst (λ r. over_rooms (loose_at (with_items n (plan_of n start) (items_in old)).counts) r (length start) ≤ all_brought (rooms_of old) (with_items n (plan_of n start) (items_in old)).counts heirs (s + 1)) (sym same) loose_mid;
            places = subst (λ r. over_rooms places_at r (length start) ≤ over_rooms places_at (rooms_of start) (length start) + over_rooms places_at (rooms_of old) (s + 1)) (sym same) places_mid;
            short = subst (λ r. over_rooms past_at r (length start) ≤ over_rooms past_at (rooms_of start) (length start) + over_rooms past_at (rooms_of old) (s + 1)) (sym same) short_mid;
          }

  -- ---- before the first turn nothing was brought
  pub made_few : (start : List (Group V)) (counts : List ℕ) → ((q : ℕ) → get_or (rooms_of start) q 0 ≤ get_or counts q 0 + 1) → (rooms : List ℕ) (heirs : List (Option ℕ))
      → over_rooms (loose_at counts) (rooms_of start) (length start) ≤ all_brought rooms counts heirs 0
  made_few start counts made rooms heirs =
      let none : over_rooms (loose_at counts) (rooms_of start) (length start) ≤ over_rooms (λ q places. 0) (rooms_of start) (length start) =
      over_rooms-le (loose_at counts) (λ q places. 0) (rooms_of start) (rooms_of start) (length start) (λ q lt. omega (arith, made q)) in
      omega (arith, none, over_rooms-none (rooms_of start) (length start))

  -- ---- after the last turn
  -- no list has more items than a group
  len_small : (us : List (Group V)) (q : ℕ) → get_or (lens_of us) q 0 ≤ 64
  len_small [] q = omega arith
  len_small (u ∷ us) zero = omega (arith, ones_at_most_64 u.occupied u.fits, u.counted, u.items.ok.0)
  len_small (u ∷ us) (suc q) = len_small us q

  pub record AtEnd (n : ℕ) (start old now : List (Group V)) : Type 0 where
    pub lens : lens_of now ≡ (with_items n (plan_of n start) (items_in old)).counts
    pub fit : (q : ℕ) → q < length (rooms_of now) → IsFit (get_or (rooms_of now) q 0) (get_or (with_items n (plan_of n start) (items_in old)).counts q 0)
    pub few : length now ≡ length start → loose_of Nowhere (sizes_of now) ≤ 8 * (length start / 2)
    pub more : length now ≡ length start → places_of (sizes_of start) ≤ places_of (sizes_of now)
    pub handed : length now ≡ length start → places_of (sizes_of now) ≤ places_of (sizes_of start) + places_of (sizes_of old)
    pub short : length now ≡ length start → past_of (sizes_of now) ≤ past_of (sizes_of old)

  pub turn_last : (n : ℕ) (start old : List (Group V)) (heirs : List (Option ℕ)) → ListsFit n start old heirs → (s : ℕ) (now rest : List (Group V)) → AtTurn n start old heirs s now rest → rest ≡ [] → AtEnd n start old now
  turn_last n start old heirs lists s now rest at none =
      let counts = (with_items n (plan_of n start) (items_in old)).counts in
      let past : length old ≤ s = omega (arith, length-drop s old, ap length (sym at.left ∙ none)) in
      let all : s ≡ length old = omega (arith, past, at.within) in
      let lens : lens_of now ≡ counts = ap (λ (p : Plan). p.counts) at.plan ∙ ap (λ r. (with_items n (plan_of n start) (items_in r)).counts) (take_all s old past) in
      let fit : (q : ℕ) → q < length (rooms_of now) → IsFit (get_or (rooms_of now) q 0) (get_or counts q 0) = rooms_last n (plan_of n start) old heirs lists.handed s (rooms_of now) past at.rooms in
      let wide : length (rooms_of now) ≡ length now = length-map now (λ (g : Group V). vec_capacity g.items) in
      record {
        lens = lens;
        fit = fit;
        few =
            λ level.
            let seen : over_rooms (loose_at counts) (rooms_of now) (length now) ≡ over_rooms (loose_at counts) (rooms_of now) (length start) = ap (over_rooms (loose_at counts) (rooms_of now)) level in
            let whole : all_brought (rooms_of old) counts heirs s ≡ all_brought (rooms_of old) counts heirs (length old) = ap (all_brought (rooms_of old) counts heirs) all in
            omega (arith, loose_over now counts lens, seen, at.loose, whole, lists.few);
        more =
            λ level.
            let seen : over_rooms places_at (rooms_of now) (length now) ≡ over_rooms places_at (rooms_of now) (length start) = ap (over_rooms places_at (rooms_of now)) level in
            let each : over_rooms places_at (rooms_of start) (length start) ≤ over_rooms places_at (rooms_of now) (length start) =
            over_rooms-le places_at places_at (rooms_of start) (rooms_of now) (length start) (λ q lt. omega (arith, lists.made q, fit q (omega (arith, lt, level, wide)))) in
            omega (arith, places_over start, places_over now, seen, each);
        handed =
            λ level.
            let seen : over_rooms places_at (rooms_of now) (length now) ≡ over_rooms places_at (rooms_of now) (length start) = ap (over_rooms places_at (rooms_of now)) level in
            let whole : over_rooms places_at (rooms_of old) s ≡ over_rooms places_at (rooms_of old) (length old) = ap (over_rooms places_at (rooms_of old)) all in
            omega (arith, places_over start, places_over now, places_over old, seen, whole, at.places);
        short =
            λ level.
            let seen : over_rooms past_at (rooms_of now) (length now) ≡ over_rooms past_at (rooms_of now) (length start) = ap (over_rooms past_at (rooms_of now)) level in
            let whole : over_rooms past_at (rooms_of old) s ≡ over_rooms past_at (rooms_of old) (length old) = ap (over_rooms past_at (rooms_of old)) all in
            let made : over_rooms past_at (rooms_of start) (length start) ≤ over_rooms (λ q places. 0) (rooms_of start) (length start) =
            over_rooms-le past_at (λ q places. 0) (rooms_of start) (rooms_of start) (length start) (λ q lt.
            let count : get_or (lens_of now) q 0 ≡ get_or counts q 0 = ap (λ l. get_or l q 0) lens in
            omega (arith, lists.made q, count, len_small now q)) in
            omega (arith, past_over now, past_over old, seen, whole, made, over_rooms-none (rooms_of start) (length start), at.short);
      }
