-- The walk of a removal: the item that is removed stands at the hole, and the items after it are looked at in turn.
use Rattle.std.proofs.Common.{◌≡◌, ◌≢◌, ℕ, ◌+◌, ◌<◌, ◌≤◌, List, Option, Some, None, length, set, refl, sym, ap, ◌∙◌, subst, inl, inr, arith}
use Rattle.std.specs.Prelude.{is_some, IsSome, option_map}
use Rattle.std.specs.Ordering.{nat_cmp}
use Rattle.std.specs.FinMap.{find}
use Rattle.std.proofs.lemmas.List.{length-set}
use Rattle.std.proofs.lemmas.Bool.{cases_lt, cases_eq, false≢true}
use Rattle.sparse_map.specs.Home.{home, steps}
use Rattle.sparse_map.specs.Slots.{slot_at, key_at, items_of, exchanged}
use Rattle.sparse_map.proofs.RoundLemmas.{next, next_below, steps_self, steps_below, steps_same, steps-next, steps_join, steps_over}
use Rattle.sparse_map.proofs.SlotLemmas.{Once, Once-exchanged, WithinAt-exchanged, exchanged-WithinAt, same_found, slot_at-set_same, slot_at-set_other, is_some-key_at, length-items_of-full, length-items_of-exchanged, exchanged_at_first, exchanged_at_second, exchanged_elsewhere, length-exchanged}
use Rattle.sparse_map.proofs.PackedLemmas.{PackedAt, PackedAt-to, key_inside}
use Rattle.sparse_map.proofs.HomeLemmas.{home_below}
use Rattle.sparse_map.specs.Probe.{IsShifted}

module _ {V : Type 0} where
  -- the packed law for all items but the one that is removed
  pub record PackedBut (n : ℕ) (s : List (Option (ℕ × V))) (hole : ℕ) : Type 0 where
    pub once : Once s
    pub reached : (b key q : ℕ) → b ≢ hole → key_at s b ≡ Some key → q < n → steps n (home n key) q ≤ steps n (home n key) b → IsSome (key_at s q)

  -- `step` buckets from `start` on are occupied, the last of them is `at`, and no item between the hole and there has its way over the hole
  pub record Shifting (n : ℕ) (s : List (Option (ℕ × V))) (start hole at step : ℕ) : Type 0 where
    pub packed : PackedBut n s hole
    pub hole_inside : hole < n
    pub at_inside : at < n
    pub walked : steps n start at + 1 ≡ step
    pub passed : steps n start hole ≤ steps n start at
    pub occupied : (q : ℕ) → q < n → steps n start q < step → IsSome (key_at s q)
    pub after : (b key : ℕ) → b ≢ hole → steps n hole b ≤ steps n hole at → key_at s b ≡ Some key → steps n (home n key) b < steps n (home n key) hole

  pub shifting_start : (n : ℕ) (s : List (Option (ℕ × V))) (start : ℕ) → PackedAt n s → length s ≡ n → start < n → IsSome (key_at s start) → Shifting n s start start start 1
  shifting_start n s start packed long inside some =
      let zero_steps = steps_self n start in
      record {
        packed = record { once = packed.once; reached = λ b key q ne. packed.reached b key q };
        hole_inside = inside;
        at_inside = inside;
        walked = omega (arith, zero_steps);
        passed = omega arith;
        occupied = λ q lq less.
            let same : q ≡ start = steps_same n start q start inside lq inside (omega arith) in
            ap (λ x. is_some (key_at s x)) same ∙ some;
        after = λ b key ne le has.
            let lb : b < n = subst (λ m. b < m) long (key_inside s b key has) in
            absurd (ne (steps_same n start b start inside lb inside (omega arith)));
      }

  -- the walk goes round less than once: the hole is no further from the start, and so is the way on from it
  hole_to_at : (n : ℕ) (s : List (Option (ℕ × V))) (start hole at step : ℕ) → start < n → Shifting n s start hole at step → steps n start hole + steps n hole at ≡ steps n start at
  hole_to_at n s start hole at step inside walk = steps_over n start hole at inside walk.hole_inside walk.at_inside walk.passed

  pub further : (n : ℕ) (s : List (Option (ℕ × V))) (start hole at step : ℕ) → start < n → Shifting n s start hole at step → step < n → steps n start (next n at) ≡ step
  further n s start hole at step inside walk more =
      steps-next n start at inside walk.at_inside (omega (arith, walk.walked)) ∙ walk.walked

  pub hole_further : (n : ℕ) (s : List (Option (ℕ × V))) (start hole at step : ℕ) → start < n → Shifting n s start hole at step → step < n → steps n hole (next n at) ≡ steps n hole at + 1
  hole_further n s start hole at step inside walk more =
      steps-next n hole at walk.hole_inside walk.at_inside (omega (arith, walk.walked, hole_to_at n s start hole at step inside walk))

  pub apart_from_hole : (n : ℕ) (s : List (Option (ℕ × V))) (start hole at step : ℕ) → start < n → Shifting n s start hole at step → step < n → hole ≢ next n at
  apart_from_hole n s start hole at step inside walk more e =
      let zero_steps : steps n hole (next n at) ≡ 0 = ap (steps n hole) (sym e) ∙ steps_self n hole in
      omega (arith, hole_further n s start hole at step inside walk more)

  occupied_further : (n : ℕ) (s : List (Option (ℕ × V))) (start hole at step key : ℕ) → start < n → Shifting n s start hole at step → step < n → key_at s (next n at) ≡ Some key
      → (q : ℕ) → q < n → steps n start q < step + 1 → IsSome (key_at s q)
  occupied_further n s start hole at step key inside walk more is q lq less =
      let there = further n s start hole at step inside walk more in
      elim (cases_lt (steps n start q) step) [
        | inl before ↦ walk.occupied q lq before
        | inr later ↦
            let same : q ≡ next n at = steps_same n start q (next n at) inside lq (next_below n at walk.at_inside) (omega (arith, there)) in
            ap (λ x. is_some (key_at s x)) same ∙ ap is_some is
      ]

  -- the next item stays: its way from home does not lead over the hole
  pub shifting_stays : (n : ℕ) (s : List (Option (ℕ × V))) (start hole at step key : ℕ) → length s ≡ n → start < n → Shifting n s start hole at step → step < n
      → key_at s (next n at) ≡ Some key → steps n (home n key) (next n at) < steps n (home n key) hole → Shifting n s start hole (next n at) (step + 1)
  shifting_stays n s start hole at step key long inside walk more is short =
      let there = further n s start hole at step inside walk more in
      let on = hole_further n s start hole at step inside walk more in
      record {
        packed = walk.packed;
        hole_inside = walk.hole_inside;
        at_inside = next_below n at walk.at_inside;
        walked = omega (arith, there);
        passed = omega (arith, there, walk.walked, walk.passed);
        occupied = occupied_further n s start hole at step key inside walk more is;
        after = λ b k ne le has.
            let lb : b < n = subst (λ m. b < m) long (key_inside s b k has) in
            elim (cases_lt (steps n hole at) (steps n hole b)) [
              | inr before ↦ walk.after b k ne before has
              | inl later ↦
                  let here : b ≡ next n at = steps_same n hole b (next n at) walk.hole_inside lb (next_below n at walk.at_inside) (omega (arith, on)) in
                  let keys : Some k ≡ Some key = sym has ∙ ap (key_at s) here ∙ is in
                  let same : key ≡ k = cc in
                  subst (λ x. steps n (home n x) b < steps n (home n x) hole) same (subst (λ x. steps n (home n key) x < steps n (home n key) hole) (sym here) short)
            ];
      }

  -- the next item moves to the hole, over which its way led, and leaves the hole in its own bucket
  module _ (n : ℕ) (s : List (Option (ℕ × V))) (start hole at step key : ℕ) (long : length s ≡ n) (inside : start < n) (walk : Shifting n s start hole at step) (more : step < n)
      (is : key_at s (next n at) ≡ Some key) (over : steps n (home n key) hole ≤ steps n (home n key) (next n at)) where
    to : ℕ
    to = next n at

    apart : hole ≢ to
    unfolding to
    apart = apart_from_hole n s start hole at step inside walk more

    to_inside : to < n
    unfolding to
    to_inside = next_below n at walk.at_inside

    hole_slot : hole < length s
    hole_slot = subst (λ m. hole < m) (sym long) walk.hole_inside

    to_slot : to < length s
    to_slot = subst (λ m. to < m) (sym long) to_inside

    key_here : key_at s to ≡ Some key
    unfolding to
    key_here = is

    at_hole : key_at (exchanged s hole to) hole ≡ Some key
    at_hole = ap (option_map (λ e. e.0)) (exchanged_at_first s hole to hole_slot to_slot apart) ∙ key_here

    at_to : key_at (exchanged s hole to) to ≡ key_at s hole
    at_to = ap (option_map (λ e. e.0)) (exchanged_at_second s hole to hole_slot to_slot apart)

    elsewhere : (q : ℕ) → q ≢ hole → q ≢ to → key_at (exchanged s hole to) q ≡ key_at s q
    elsewhere q nh nt = ap (option_map (λ e. e.0)) (exchanged_elsewhere s hole to hole_slot to_slot apart q nh nt)

    hole_some : IsSome (key_at s hole)
    hole_some = walk.occupied hole walk.hole_inside (omega (arith, walk.walked, walk.passed))

    some_still : (q : ℕ) → IsSome (key_at s q) → IsSome (key_at (exchanged s hole to) q)
    some_still q some = elim (cases_eq q hole) [
      | inl e ↦ ap (λ x. is_some (key_at (exchanged s hole to) x)) e ∙ ap is_some at_hole
      | inr nh ↦ elim (cases_eq q to) [
        | inl e ↦ ap (λ x. is_some (key_at (exchanged s hole to) x)) e ∙ ap is_some at_to ∙ hole_some
        | inr nt ↦ ap is_some (elsewhere q nh nt) ∙ some
      ]
    ]

    way_to : steps n (home n key) hole ≤ steps n (home n key) to
    unfolding to
    way_to = over

    start_to : steps n start to ≡ step
    unfolding to
    start_to = further n s start hole at step inside walk more

    occupied_to : (q : ℕ) → q < n → steps n start q < step + 1 → IsSome (key_at s q)
    occupied_to = occupied_further n s start hole at step key inside walk more is

    shifting_moves : Shifting n (exchanged s hole to) start to to (step + 1)
    shifting_moves =
        record {
          packed = record {
            once = Once-exchanged s hole to hole_slot to_slot apart walk.packed.once;
            reached = λ b k q nt has lq on. elim (cases_eq b hole) [
              | inl e ↦
                  let keys : Some k ≡ Some key = sym has ∙ ap (key_at (exchanged s hole to)) e ∙ at_hole in
                  let same : k ≡ key = cc in
                  let on_hole : steps n (home n key) q ≤ steps n (home n key) hole = subst (λ x. steps n (home n x) q ≤ steps n (home n x) hole) same (subst (λ x. steps n (home n k) q ≤ steps n (home n k) x) e on) in
                  let short : steps n (home n key) q ≤ steps n (home n key) to = omega (arith, on_hole, way_to) in
                  some_still q (walk.packed.reached to key q (λ x. apart (sym x)) key_here lq short)
              | inr nh ↦ some_still q (walk.packed.reached b k q nh (sym (elsewhere b nh nt) ∙ has) lq on)
            ];
          };
          hole_inside = to_inside;
          at_inside = to_inside;
          walked = omega (arith, start_to);
          passed = omega arith;
          occupied = λ q lq less. some_still q (occupied_to q lq less);
          after = λ b k ne le has.
              let lb : b < n = subst (λ m. b < m) (length-exchanged s hole to hole_slot to_slot apart ∙ long) (key_inside (exchanged s hole to) b k has) in
              absurd (ne (steps_same n to b to to_inside lb to_inside (omega (arith, steps_self n to))));
        }

  -- at a free bucket the walk ends: no other item has its way over the hole
  pub no_way_over : (n : ℕ) (s : List (Option (ℕ × V))) (start hole at step : ℕ) → ((k : ℕ) → home n k < n) → length s ≡ n → start < n → Shifting n s start hole at step → step < n
      → key_at s (next n at) ≡ None → (b key : ℕ) → b ≢ hole → key_at s b ≡ Some key → steps n (home n key) b < steps n (home n key) hole
  no_way_over n s start hole at step home_in long inside walk more free b key ne has =
      let lb : b < n = subst (λ m. b < m) long (key_inside s b key has) in
      let on = hole_further n s start hole at step inside walk more in
      elim (cases_lt (steps n (home n key) b) (steps n (home n key) hole)) [
        | inl short ↦ short
        | inr over ↦
            elim (cases_lt (steps n hole at) (steps n hole b)) [
              | inr before ↦ walk.after b key ne before has
              | inl later ↦
                  let whole = steps_over n (home n key) hole b (home_in key) walk.hole_inside lb over in
                  let less = steps_below n (home n key) b (home_in key) lb in
                  let first = steps_join n (home n key) hole (next n at) (home_in key) walk.hole_inside (next_below n at walk.at_inside) (omega (arith, whole, less, on)) in
                  absurd (false≢true (sym (ap is_some free) ∙ walk.packed.reached b key (next n at) ne has (next_below n at walk.at_inside) (omega (arith, whole, first, on))))
            ]
      ]

  pub shifting_full : (n : ℕ) (s : List (Option (ℕ × V))) (start hole at : ℕ) → length s ≡ n → start < n → length (items_of s) < n → Shifting n s start hole at n → ⊥
  shifting_full n s start hole at long inside room walk =
      let full = length-items_of-full s (λ b lb.
      let lb_n : b < n = subst (λ m. b < m) long lb in
      sym (is_some-key_at s b) ∙ walk.occupied b lb_n (steps_below n start b inside lb_n)) in
      omega arith

  -- with the hole freed the packed law holds
  pub packed-set_none : (n : ℕ) (s : List (Option (ℕ × V))) (hole : ℕ) → hole < length s → PackedBut n s hole
      → ((b key : ℕ) → b ≢ hole → key_at s b ≡ Some key → steps n (home n key) b < steps n (home n key) hole) → PackedAt n (set s hole None)
  packed-set_none n s hole lh packed no_way =
      let none_here : key_at (set s hole None) hole ≡ None = ap (option_map (λ e. e.0)) (slot_at-set_same s hole None lh) in
      let others : (c : ℕ) → c ≢ hole → key_at (set s hole None) c ≡ key_at s c = λ c ne. ap (option_map (λ e. e.0)) (slot_at-set_other s hole None lh c ne) in
      let no_hole : (c k : ℕ) → key_at (set s hole None) c ≡ Some k → c ≢ hole = λ c k has e. false≢true (sym (ap is_some none_here) ∙ sym (ap (λ x. is_some (key_at (set s hole None) x)) e) ∙ ap is_some has) in
      record {
        once = λ c d key kc kd. packed.once c d key (sym (others c (no_hole c key kc)) ∙ kc) (sym (others d (no_hole d key kd)) ∙ kd);
        reached = λ c key q has lq on.
            let nc = no_hole c key has in
            let before = sym (others c nc) ∙ has in
            let short = no_way c key nc before in
            let nq : q ≢ hole = λ e. let far : steps n (home n key) hole ≤ steps n (home n key) c = subst (λ x. steps n (home n key) x ≤ steps n (home n key) c) e on in omega (arith, short) in
            ap is_some (others q nq) ∙ packed.reached c key q nc before lq on;
      }

  -- ---- the whole walk, against the table that it began with
  pub record Walked (n : ℕ) (old new : List (Option (ℕ × V))) (start hole at step : ℕ) : Type 0 where
    pub walk : Shifting n new start hole at step
    pub long : length new ≡ n
    pub doomed : slot_at new hole ≡ slot_at old start
    pub found : (q : ℕ) → find nat_cmp q (items_of new) ≡ find nat_cmp q (items_of old)
    pub count : length (items_of new) ≡ length (items_of old)

  pub walked_start : (n : ℕ) (s : List (Option (ℕ × V))) (start : ℕ) → PackedAt n s → length s ≡ n → start < n → IsSome (slot_at s start) → Walked n s s start start start 1
  walked_start n s start packed long inside some =
      record { walk = shifting_start n s start packed long inside (is_some-key_at s start ∙ some); long = long; doomed = refl; found = λ q. refl; count = refl }

  pub walked_stays : (n : ℕ) (old new : List (Option (ℕ × V))) (start hole at step key : ℕ) → start < n → Walked n old new start hole at step → step < n
      → key_at new (next n at) ≡ Some key → steps n (home n key) (next n at) < steps n (home n key) hole → Walked n old new start hole (next n at) (step + 1)
  walked_stays n old new start hole at step key inside w more is short =
      record { walk = shifting_stays n new start hole at step key w.long inside w.walk more is short; long = w.long; doomed = w.doomed; found = w.found; count = w.count }

  pub walked_moves : (n : ℕ) (old new : List (Option (ℕ × V))) (start hole at step key : ℕ) → start < n → Walked n old new start hole at step → step < n
      → key_at new (next n at) ≡ Some key → steps n (home n key) hole ≤ steps n (home n key) (next n at) → Walked n old (exchanged new hole (next n at)) start (next n at) (next n at) (step + 1)
  unfolding to
  walked_moves n old new start hole at step key inside w more is over =
      let lh = subst (λ m. hole < m) (sym w.long) w.walk.hole_inside in
      let lt = subst (λ m. next n at < m) (sym w.long) (next_below n at w.walk.at_inside) in
      let ne = apart_from_hole n new start hole at step inside w.walk more in
      record {
        walk = shifting_moves n new start hole at step key w.long inside w.walk more is over;
        long = length-exchanged new hole (next n at) lh lt ne ∙ w.long;
        doomed = exchanged_at_second new hole (next n at) lh lt ne ∙ w.doomed;
        found = λ q.
            same_found new (exchanged new hole (next n at)) q (Once-exchanged new hole (next n at) lh lt ne w.walk.packed.once) (WithinAt-exchanged new hole (next n at) lh lt ne q) (exchanged-WithinAt new hole (next n at) lh lt ne q)
            ∙ w.found q;
        count = length-items_of-exchanged new hole (next n at) lh lt ne ∙ w.count;
      }

  pub walked_done : (n : ℕ) (old new : List (Option (ℕ × V))) (start hole at step : ℕ) → start < n → Walked n old new start hole at step → step < n
      → key_at new (next n at) ≡ None → IsShifted old new start hole
  walked_done n old new start hole at step inside w more free =
      let home_in : (k : ℕ) → home n k < n = λ k. let some : 0 < n = omega arith in home_below n k some in
      let lh = subst (λ m. hole < m) (sym w.long) w.walk.hole_inside in
      record {
        inside = lh;
        item = w.doomed;
        once = w.walk.packed.once;
        found = w.found;
        count = w.count;
        packed = PackedAt-to n (set new hole None) (length-set new hole None ∙ w.long) (packed-set_none n new hole lh w.walk.packed (no_way_over n new start hole at step home_in w.long inside w.walk more free));
      }

  pub walked_full : (n : ℕ) (old new : List (Option (ℕ × V))) (start hole at : ℕ) → start < n → length (items_of old) < n → Walked n old new start hole at n → ⊥
  walked_full n old new start hole at inside room w = shifting_full n new start hole at w.long inside (omega (arith, w.count)) w.walk
