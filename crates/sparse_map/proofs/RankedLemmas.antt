-- The rank of a bucket, while a look-up goes on and while items change.
use Rattle.std.proofs.Common.{◌≡◌, ◌≢◌, ℕ, zero, suc, ◌+◌, ◌-◌, ◌*◌, ◌++◌, count_ones, ◌/◌, ◌%◌, ◌<◌, ◌≤◌, List, [], ◌∷◌, Option, Some, None, length, get_or, set, cond, eqb, refl, sym, ap, ◌∙◌, subst, inl, inr, arith}
use Rattle.std.specs.Prelude.{is_some, IsSome, option_map}
use Rattle.std.specs.Int.{bit_at}
use Rattle.std.specs.List.{flat_map, SwappedAt}
use Rattle.std.proofs.lemmas.List.{get_or_default, get_or_past, get_or-set_same, get_or-set_other, length-set, set-append_left, set-append_right}
use Rattle.std.proofs.lemmas.Bool.{cases_lt, cases_eq, eq-eqb, ne_eqb, cond-true, cond-false, false≢true}
use Rattle.sparse_map.specs.declared.group.Group.{Group}
use Rattle.sparse_map.specs.Slots.{rank, slot_at, key_at, group_slots, exchanged}
use Rattle.sparse_map.specs.Groups.{slots_in, all_slots, slots_of, IsTable}
use Rattle.sparse_map.specs.Ranks.{IsRankOf, IsRankAt, IsSeated}
use Rattle.sparse_map.specs.Probe.{IsPlaceOf, IsFreeFor}
use Rattle.sparse_map.specs.declared.table.Place.{Place}
use Rattle.sparse_map.specs.declared.table.Place.TheVariants.{Found, Free}
use Rattle.sparse_map.proofs.RankLemmas.{rank_zero, rank_suc, rank_same, rank_at_most, ones_at_most_64}
use Rattle.sparse_map.proofs.GroupLemmas.{taken, untaken, get_or-group_slots, unpacked_item, slots-replace}
use Rattle.sparse_map.proofs.RoundLemmas.{next, next_cases}
use Rattle.sparse_map.proofs.SlotLemmas.{is_some-key_at, slot_of_key}
use Rattle.sparse_map.proofs.BucketLemmas.{same_slot, key_in_all, key_within}
use Rattle.sparse_map.proofs.TableLemmas.{length-slots_in, length-all_slots, slot_in_group, slot_of_bucket}

module _ {V : Type 0} where
  -- the rank, counted in the group that an index read
  pub rank_read : (us : List (Group V)) (b place : ℕ) (u d : Group V) → b < 64 * length us → u ≡ get_or us (b / 64) d → place ≡ rank u.occupied (b % 64) → IsRankOf us b place
  rank_read us b place u d inside is at =
      λ e. at ∙ ap (λ (x : Group V). rank x.occupied (b % 64)) (is ∙ get_or_default us (b / 64) d e (omega arith))

  -- the rank of a bucket that has a key
  pub seated : (n : ℕ) (us : List (Group V)) (b place key : ℕ) → key_at (slots_of n us) b ≡ Some key → IsRankOf us b place → IsSeated us b place
  seated n us b place key is at =
      record {
        within = key_within n us b key is;
        occupied = ap is_some (slot_of_key (all_slots us) b key (key_in_all n us b key is)).1;
        rank = at;
      }

  -- the place is the rank in the group that an index read
  pub rank_here : (us : List (Group V)) (b place : ℕ) (u d : Group V) → IsRankOf us b place → u ≡ get_or us (b / 64) d → place ≡ rank u.occupied (b % 64)
  rank_here us b place u d at is = at d ∙ ap (λ (x : Group V). rank x.occupied (b % 64)) (sym is)

  pub rank_few : (us : List (Group V)) (b place : ℕ) → b < 64 * length us → IsRankOf us b place → place ≤ 64
  rank_few [] b place inside at = absurd (omega arith)
  rank_few (u ∷ us) b place inside at =
      let x = get_or (u ∷ us) (b / 64) u in
      let lt : b % 64 < 64 = omega arith in
      omega (arith, at u, rank_at_most x.occupied (b % 64) x.fits lt, ones_at_most_64 x.occupied x.fits)

  -- the bucket after an occupied one
  pub rank_next : (us : List (Group V)) (n b place : ℕ) → n ≤ 64 * length us → b < n → IsRankOf us b place → IsSome (slot_at (all_slots us) b)
      → IsRankOf us (next n b) (cond (eqb (next n b % 64) 0) 0 (place + 1))
  rank_next us n b place long inside at some e =
      let u = get_or us (next n b / 64) e in
      elim (cases_eq (next n b % 64) 0) [
        | inl first ↦
            cond-true (eqb (next n b % 64) 0) 0 (place + 1) (eq-eqb (next n b % 64) 0 first)
            ∙ sym (ap (rank u.occupied) first ∙ rank_zero u.occupied)
        | inr later ↦ elim (next_cases n b) [
          | inl round ↦ absurd (later (ap (λ x. x % 64) round.1))
          | inr on ↦
              let same : next n b / 64 ≡ b / 64 = omega (arith, on.1, later) in
              let one : next n b % 64 ≡ b % 64 + 1 = omega (arith, on.1, later) in
              let w = get_or us (b / 64) e in
              let lt : b % 64 < 64 = omega arith in
              let where_is : 64 * (b / 64) + b % 64 ≡ b = omega arith in
              let here : slot_at (all_slots us) b ≡ slot_at (slots_in w) (b % 64) =
              ap (slot_at (all_slots us)) (sym where_is) ∙ slot_in_group us (b / 64) (b % 64) w e (omega arith) lt refl in
              let bit : bit_at w.occupied (b % 64) ≡ 1 = taken w (b % 64) lt (subst (λ o. IsSome o) here some) in
              let more : place + 1 ≡ rank w.occupied (b % 64 + 1) = omega (arith, at e, rank_suc w.occupied (b % 64), bit) in
              cond-false (eqb (next n b % 64) 0) 0 (place + 1) (ne_eqb (next n b % 64) 0 later)
              ∙ more
              ∙ (λ i. rank (get_or us (sym same i) e).occupied (sym one i))
        ]
      ]

  -- the same, as a walk names them
  pub rank_on : (us : List (Group V)) (n b place nb nplace : ℕ) → n ≤ 64 * length us → b < n → IsRankOf us b place → IsSome (slot_at (all_slots us) b)
      → nb ≡ next n b → nplace ≡ cond (eqb (nb % 64) 0) 0 (place + 1) → IsRankOf us nb nplace
  rank_on us n b place nb nplace long inside at some on is =
      let there : IsRankOf us nb (cond (eqb (nb % 64) 0) 0 (place + 1)) =
      subst (λ x. IsRankOf us x (cond (eqb (x % 64) 0) 0 (place + 1))) (sym on) (rank_next us n b place long inside at some) in
      subst (λ x. IsRankOf us nb x) (sym is) there

  -- a look-up ended at a bucket with the key, or at a free one
  pub key_found : (s : List (Option (ℕ × V))) (key b : ℕ) (p : Place) → IsPlaceOf s key p → p ≡ Found b → key_at s b ≡ Some key
  key_found s key b p place is = subst (λ x. IsPlaceOf s key x) is place

  pub free_found : (s : List (Option (ℕ × V))) (key b : ℕ) (p : Place) → IsPlaceOf s key p → p ≡ Free b → IsFreeFor s key b
  free_found s key b p place is = subst (λ x. IsPlaceOf s key x) is place

  pub rank_found : (us : List (Group V)) (b place : ℕ) (p : Place) → IsRankAt us p place → p ≡ Found b → IsRankOf us b place
  rank_found us b place p at is = subst (λ x. IsRankAt us x place) is at

  pub rank_free : (us : List (Group V)) (b place : ℕ) (p : Place) → IsRankAt us p place → p ≡ Free b → IsRankOf us b place
  rank_free us b place p at is = subst (λ x. IsRankAt us x place) is at

  -- groups with the same occupied buckets
  rank_of_same : (u w : Group V) (k : ℕ) → k ≤ 64 → ((j : ℕ) → j < 64 → is_some (slot_at (slots_in w) j) ≡ is_some (slot_at (slots_in u) j)) → rank w.occupied k ≡ rank u.occupied k
  rank_of_same u w k le same =
      rank_same w.occupied u.occupied k (λ j lt.
      let inside : j < 64 = omega arith in
      by_slot j inside (slot_at (slots_in u) j) (slot_at (slots_in w) j) refl refl (same j inside)) where
        by_slot : (j : ℕ) → j < 64 → (o p : Option (ℕ × V)) → slot_at (slots_in u) j ≡ o → slot_at (slots_in w) j ≡ p → is_some p ≡ is_some o → bit_at w.occupied j ≡ bit_at u.occupied j
        by_slot j lt None None before after e = untaken w j lt after ∙ sym (untaken u j lt before)
        by_slot j lt (Some x) (Some y) before after e = taken w j lt (ap is_some after) ∙ sym (taken u j lt (ap is_some before))
        by_slot j lt None (Some y) before after e = absurd (false≢true (sym e))
        by_slot j lt (Some x) None before after e = absurd (false≢true e)

  pub ranks_same : (us ws : List (Group V)) → length ws ≡ length us → ((b : ℕ) → is_some (slot_at (all_slots ws) b) ≡ is_some (slot_at (all_slots us) b))
      → (b place : ℕ) → IsRankOf us b place → IsRankOf ws b place
  ranks_same us ws long same b place at e =
      elim (cases_lt (b / 64) (length us)) [
        | inl inside ↦
            let u = get_or us (b / 64) e in
            let w = get_or ws (b / 64) e in
            let lt : b % 64 ≤ 64 = omega arith in
            at e ∙ sym (rank_of_same u w (b % 64) lt (λ j h.
            ap is_some (sym (slot_in_group ws (b / 64) j w e (omega (arith, long)) h refl))
            ∙ same (64 * (b / 64) + j)
            ∙ ap is_some (slot_in_group us (b / 64) j u e inside h refl)))
        | inr past ↦ at e ∙ ap (λ (x : Group V). rank x.occupied (b % 64)) (get_or_past us (b / 64) e past ∙ sym (get_or_past ws (b / 64) e (omega (arith, long, past))))
      ]

  -- buckets with the items of two occupied ones exchanged
  pub exchanged-some : (s : List (Option (ℕ × V))) (a b : ℕ) → a < length s → b < length s → IsSome (slot_at s a) → IsSome (slot_at s b)
      → (c : ℕ) → is_some (slot_at (exchanged s a b) c) ≡ is_some (slot_at s c)
  exchanged-some s a b la lb sa sb c =
      let first = set s a (slot_at s b) in
      let long = length-set s a (slot_at s b) in
      elim (cases_eq c b) [
        | inl e ↦
            ap (λ x. is_some (slot_at (exchanged s a b) x)) e
            ∙ ap is_some (get_or-set_same first b (slot_at s a) None (omega (arith, long)))
            ∙ sa
            ∙ sym sb
            ∙ ap (λ x. is_some (slot_at s x)) (sym e)
        | inr other ↦
            ap is_some (get_or-set_other first b c (slot_at s a) None other)
            ∙ elim (cases_eq c a) as (λ _. is_some (slot_at first c) ≡ is_some (slot_at s c)) [
              | inl e ↦
                  ap (λ x. is_some (slot_at first x)) e
                  ∙ ap is_some (get_or-set_same s a (slot_at s b) None la)
                  ∙ sb
                  ∙ sym sa
                  ∙ ap (λ x. is_some (slot_at s x)) (sym e)
              | inr apart ↦ ap is_some (get_or-set_other s a c (slot_at s b) None apart)
            ]
      ]

  -- two buckets of one group set
  set_two_in_group : (us : List (Group V)) (i j k : ℕ) (u e w : Group V) (x y : Option (ℕ × V)) → i < length us → j < 64 → k < 64 → u ≡ get_or us i e
      → slots_in w ≡ set (set (slots_in u) j x) k y → all_slots (set us i w) ≡ set (set (all_slots us) (64 * i + j) x) (64 * i + k) y
  unfolding all_slots
  set_two_in_group [] i j k u e w x y inside lj lk is new = absurd (omega arith)
  set_two_in_group (v ∷ us) zero j k u e w x y inside lj lk is new =
      let rest = flat_map slots_in us in
      let first : j < length (slots_in v) = omega (arith, length-slots_in v) in
      let second : k < length (set (slots_in v) j x) = omega (arith, length-slots_in v, length-set (slots_in v) j x) in
      let at_j : j ≡ 64 * 0 + j = omega arith in
      let at_k : k ≡ 64 * 0 + k = omega arith in
      ap (λ l. l ++ rest) (new ∙ ap (λ g. set (set (slots_in g) j x) k y) is)
      ∙ sym (set-append_left (set (slots_in v) j x) rest k y second)
      ∙ ap (λ l. set l k y) (sym (set-append_left (slots_in v) rest j x first))
      ∙ (λ t. set (set (slots_in v ++ rest) (at_j t) x) (at_k t) y)
  set_two_in_group (v ∷ us) (suc i) j k u e w x y inside lj lk is new =
      let rest = flat_map slots_in us in
      let past_j : 64 ≤ 64 * suc i + j = omega arith in
      let past_k : 64 ≤ 64 * suc i + k = omega arith in
      let at_j : 64 * i + j ≡ 64 * suc i + j - 64 = omega arith in
      let at_k : 64 * i + k ≡ 64 * suc i + k - 64 = omega arith in
      ap (λ l. slots_in v ++ l) (set_two_in_group us i j k u e w x y (omega arith) lj lk is new ∙ (λ t. set (set rest (at_j t) x) (at_k t) y))
      ∙ sym (set-append_right (slots_in v) (set rest (64 * suc i + j - 64) x) 64 (64 * suc i + k) y (length-slots_in v) past_k)
      ∙ ap (λ l. set l (64 * suc i + k) y) (sym (set-append_right (slots_in v) rest 64 (64 * suc i + j) x (length-slots_in v) past_j))

  pub exchanged_in : (us : List (Group V)) (a b : ℕ) (u e w : Group V) → a < 64 * length us → b < 64 * length us → a / 64 ≡ b / 64 → u ≡ get_or us (a / 64) e
      → slots_in w ≡ exchanged (slots_in u) (a % 64) (b % 64) → all_slots (set us (a / 64) w) ≡ exchanged (all_slots us) a b
  exchanged_in us a b u e w la lb together is new =
      let j : a % 64 < 64 = omega arith in
      let k : b % 64 < 64 = omega arith in
      let at_a : 64 * (a / 64) + a % 64 ≡ a = omega arith in
      let at_b : 64 * (a / 64) + b % 64 ≡ b = omega (arith, together) in
      let here = slot_of_bucket us a u e la is in
      let there = slot_of_bucket us b u e lb (is ∙ ap (λ i. get_or us i e) together) in
      set_two_in_group us (a / 64) (a % 64) (b % 64) u e w (slot_at (slots_in u) (b % 64)) (slot_at (slots_in u) (a % 64)) (omega arith) j k is new
      ∙ (λ t. set (set (all_slots us) (at_a t) (sym there t)) (at_b t) (sym here t))

  -- two items of a group swapped in its list
  pub slots-exchanged : (u : Group V) (k l p q : ℕ) (ws : List (ℕ × V)) → k < 64 → l < 64 → IsSome (slot_at (slots_in u) k) → IsSome (slot_at (slots_in u) l)
      → p ≡ rank u.occupied k → q ≡ rank u.occupied l → SwappedAt u.items.items ws p q → group_slots u.occupied ws ≡ exchanged (slots_in u) k l
  slots-exchanged u k l p q ws lk ll sk sl at_k at_l swapped = by_slot (slot_at (slots_in u) k) sk where
    by_slot : (o : Option (ℕ × V)) → IsSome o → group_slots u.occupied ws ≡ exchanged (slots_in u) k l
    by_slot None some = absurd (false≢true some)
    by_slot (Some d) some =
        let n = u.occupied in
        let xs = u.items.items in
        let first = get_or xs (rank n k) d in
        let second = get_or xs (rank n l) d in
        let ys = set xs (rank n k) second in
        let long : length ys ≡ count_ones n = length-set xs (rank n k) second ∙ u.counted in
        let is_k : slot_at (slots_in u) k ≡ Some first = get_or-group_slots n xs k None lk ∙ unpacked_item n xs k d u.fits u.counted lk (taken u k lk sk) in
        let is_l : slot_at (slots_in u) l ≡ Some second = get_or-group_slots n xs l None ll ∙ unpacked_item n xs l d u.fits u.counted ll (taken u l ll sl) in
        let items : ws ≡ set ys (rank n l) first = swapped.3 d ∙ (λ t. set (set xs (at_k t) (get_or xs (at_l t) d)) (at_l t) (get_or xs (at_k t) d)) in
        ap (group_slots n) items
        ∙ slots-replace n n l ys u.fits long ll first (taken u l ll sl)
        ∙ ap (λ s. set s l (Some first)) (slots-replace n n k xs u.fits u.counted lk second (taken u k lk sk))
        ∙ (λ t. set (set (slots_in u) k (sym is_l t)) l (sym is_k t))

  module _ (us ws : List (Group V)) (a b : ℕ) (la : a < 64 * length us) (lb : b < 64 * length us) (sa : IsSome (slot_at (all_slots us) a)) (sb : IsSome (slot_at (all_slots us) b))
      (is : all_slots ws ≡ exchanged (all_slots us) a b) where
    pub some_exchanged : (c : ℕ) → is_some (slot_at (all_slots ws) c) ≡ is_some (slot_at (all_slots us) c)
    some_exchanged c =
        let s = all_slots us in
        let inside_a : a < length s = omega (arith, length-all_slots us) in
        let inside_b : b < length s = omega (arith, length-all_slots us) in
        ap (λ t. is_some (slot_at t c)) is ∙ exchanged-some s a b inside_a inside_b sa sb c

    pub ranks_exchanged : (c place : ℕ) → IsRankOf us c place → IsRankOf ws c place
    ranks_exchanged =
        let s = all_slots us in
        let total : length (all_slots ws) ≡ length s = ap length is ∙ length-set (set s a (slot_at s b)) b (slot_at s a) ∙ length-set s a (slot_at s b) in
        let long : length ws ≡ length us = omega (arith, total, length-all_slots ws, length-all_slots us) in
        ranks_same us ws long some_exchanged

  -- ---- the buckets of one group from b on, which an index read
  module _ (n : ℕ) (us : List (Group V)) (b k : ℕ) (u d : Group V) (table : IsTable n us) (inside : b < 64 * length us) (is : u ≡ get_or us (b / 64) d) where
    here : (q : ℕ) → q / 64 ≡ b / 64 → slot_at (slots_of n us) q ≡ slot_at (slots_in u) (q % 64)
    here q same = same_slot n us table.rest q ∙ slot_of_bucket us q u d (omega (arith, same)) (is ∙ ap (λ i. get_or us i d) (sym same))

    pub run_taken : k ≤ 64 → ((j : ℕ) → b % 64 ≤ j → j < k → IsSome (slot_at (slots_in u) j)) → (q : ℕ) → b ≤ q → q < b - b % 64 + k → IsSome (key_at (slots_of n us) q)
    run_taken le some q from to =
        let same : q / 64 ≡ b / 64 = omega (arith, from, to, le) in
        is_some-key_at (slots_of n us) q ∙ ap is_some (here q same) ∙ some (q % 64) (omega (arith, from, to, le)) (omega (arith, from, to, le))

    pub run_free : k < 64 → slot_at (slots_in u) k ≡ None → slot_at (slots_of n us) (b - b % 64 + k) ≡ None
    run_free lt free =
        let same : (b - b % 64 + k) / 64 ≡ b / 64 = omega (arith, lt) in
        let at : (b - b % 64 + k) % 64 ≡ k = omega (arith, lt) in
        here (b - b % 64 + k) same ∙ ap (slot_at (slots_in u)) at ∙ free

    pub run_other : (key : ℕ) → k ≤ 64 → ((j : ℕ) → b % 64 ≤ j → j < k → key_at (slots_in u) j ≢ Some key) → (q : ℕ) → b ≤ q → q < b - b % 64 + k → key_at (slots_of n us) q ≢ Some key
    run_other key le other q from to is =
        let same : q / 64 ≡ b / 64 = omega (arith, from, to, le) in
        other (q % 64) (omega (arith, from, to, le)) (omega (arith, from, to, le)) (ap (option_map (λ e. e.0)) (sym (here q same)) ∙ is)

    pub run_key : (key : ℕ) → k < 64 → key_at (slots_in u) k ≡ Some key → key_at (slots_of n us) (b - b % 64 + k) ≡ Some key
    run_key key lt has =
        let same : (b - b % 64 + k) / 64 ≡ b / 64 = omega (arith, lt) in
        let at : (b - b % 64 + k) % 64 ≡ k = omega (arith, lt) in
        ap (option_map (λ e. e.0)) (here (b - b % 64 + k) same) ∙ ap (key_at (slots_in u)) at ∙ has

    pub run_rank : (place : ℕ) → k < 64 → place ≡ rank u.occupied k → IsRankOf us (b - b % 64 + k) place
    run_rank place lt counted =
        let same : (b - b % 64 + k) / 64 ≡ b / 64 = omega (arith, lt) in
        let at : (b - b % 64 + k) % 64 ≡ k = omega (arith, lt) in
        rank_read us (b - b % 64 + k) place u d (omega (arith, lt)) (is ∙ ap (λ i. get_or us i d) (sym same)) (counted ∙ ap (rank u.occupied) (sym at))
