use Rattle.std.proofs.Common.{◌≡◌, ◌+◌, ◌-◌, ◌*◌, suc, set, length, None, ◌<◌, ◌≤◌, ◌^◌, sym, ap, ◌∙◌, subst, refl, arith, inl, inr}
use Rattle.std.proofs.lemmas.Bool.{cases_lt, false≢true}
use Rattle.std.specs.Prelude.{is_some, IsSome}
use Rattle.sparse_map.specs.Home.{home, steps}
use Rattle.sparse_map.specs.Slots.{slot_at, key_at, exchanged}
use Rattle.sparse_map.specs.Ranks.{IsRankOf}
use Rattle.sparse_map.specs.Groups.{all_slots, slots_of, IsTable}
use Rattle.sparse_map.specs.Places.{sizes_of}
use Rattle.sparse_map.specs.Removal.{shifted_back}
use Rattle.sparse_map.proofs.RemovalLemmas.{back_ends, back_stays, back_moves}
use Rattle.sparse_map.proofs.RoundLemmas.{next, next_below}
use Rattle.sparse_map.proofs.HomeLemmas.{sized}
use Rattle.sparse_map.proofs.BucketLemmas.{slot_below, some_below, same_key, table_long, length-table, exchanged_below, table_exchanged}
use Rattle.sparse_map.proofs.PackedLemmas.{PackedAt-from}
use Rattle.sparse_map.proofs.ShiftLemmas.{Walked, walked_start, walked_stays, walked_moves, walked_done, walked_full, apart_from_hole}
use Rattle.sparse_map.proofs.SlotLemmas.{is_some-key_at}
use Rattle.sparse_map.proofs.RankedLemmas.{rank_few, rank_on}
use Rattle.sparse_map.proofs.table.shift_back.Goals as goal
use Rattle.sparse_map.proofs.table.shift_back.Goals.{then-leads_over, else-leads_over}

pub loop-step-init : goal.loop-step-init
loop-step-init g c =
    let n = c.bucket_count-buckets.result in
    let e = c.bucket_count-buckets.ensures.count in
    let s = slots_of (2 ^ c.args.bits) c.args.groups.now in
    let long = length-table (2 ^ c.args.bits) c.args.groups.now (sized c.args.bits c.requires.table.size) c.requires.table.table ∙ sym e in
    let inside : c.args.bucket < n = omega (arith, some_below (2 ^ c.args.bits) c.args.groups.now c.requires.table.table.rest c.args.bucket c.requires.seat.occupied, e) in
    let some = ap is_some (slot_below (2 ^ c.args.bits) c.args.groups.now c.args.bucket (omega (arith, inside, e))) ∙ c.requires.seat.occupied in
    record { walked = walked_start n s c.args.bucket (PackedAt-from n s long c.requires.table.packed) long inside some; back = refl; table = c.requires.table.table; sizes = refl; here = c.requires.seat.occupied; at_rank = c.requires.seat.rank; hole_rank = c.requires.seat.rank }

pub next_rank-at_rank-requires : goal.next_rank-at_rank-requires
next_rank-at_rank-requires g c =
    let w = c.loop-step.invariant.walked in
    let inside : c.loop-step.at < 64 * length c.loop-step.groups = omega (arith, w.walk.at_inside, table_long (2 ^ c.args.bits) c.loop-step.groups (sized c.args.bits c.requires.table.size) c.loop-step.invariant.table, c.bucket_count-buckets.ensures.count) in
    rank_few c.loop-step.groups c.loop-step.at c.loop-step.at_rank inside c.loop-step.invariant.at_rank

pub key_at-requires-clause-rank : goal.key_at-requires-clause-rank
key_at-requires-clause-rank g c =
    let w = c.loop-step.invariant.walked in
    rank_on c.loop-step.groups c.bucket_count-buckets.result c.loop-step.at c.loop-step.at_rank c.next_bucket-at.result c.next_rank-at_rank.result
    (omega (arith, table_long (2 ^ c.args.bits) c.loop-step.groups (sized c.args.bits c.requires.table.size) c.loop-step.invariant.table, c.bucket_count-buckets.ensures.count))
    w.walk.at_inside c.loop-step.invariant.at_rank c.loop-step.invariant.here c.next_bucket-at.ensures c.next_rank-at_rank.ensures

pub key_at-requires-clause-within : goal.key_at-requires-clause-within
key_at-requires-clause-within g c =
    let w = c.loop-step.invariant.walked in
    let below : next c.bucket_count-buckets.result c.loop-step.at < c.bucket_count-buckets.result = next_below c.bucket_count-buckets.result c.loop-step.at w.walk.at_inside in
    omega (arith, below, c.next_bucket-at.ensures, table_long (2 ^ c.args.bits) c.loop-step.groups (sized c.args.bits c.requires.table.size) c.loop-step.invariant.table, c.bucket_count-buckets.ensures.count)

pub returns-in-None-clause-shifted : goal.returns-in-None-clause-shifted
returns-in-None-clause-shifted g c =
    let n = c.bucket_count-buckets.result in
    let e = c.bucket_count-buckets.ensures.count in
    let inside : c.args.bucket < n = omega (arith, some_below (2 ^ c.args.bits) c.args.groups.now c.requires.table.table.rest c.args.bucket c.requires.seat.occupied, e) in
    walked_done n (slots_of (2 ^ c.args.bits) c.args.groups.now) (slots_of (2 ^ c.args.bits) c.loop-step.groups) c.args.bucket c.loop-step.hole c.loop-step.at c.loop-step._step inside c.loop-step.invariant.walked c.loop-step-test.true
    (ap (key_at (slots_of (2 ^ c.args.bits) c.loop-step.groups)) (sym c.next_bucket-at.ensures) ∙ same_key (2 ^ c.args.bits) c.loop-step.groups c.loop-step.invariant.table.rest c.next_bucket-at.result ∙ sym c.key_at.ensures ∙ c.in-None.is)

pub exchange-requires-clause-apart : goal.exchange-requires-clause-apart
exchange-requires-clause-apart g c =
    let n = c.bucket_count-buckets.result in
    let e = c.bucket_count-buckets.ensures.count in
    let inside : c.args.bucket < n = omega (arith, some_below (2 ^ c.args.bits) c.args.groups.now c.requires.table.table.rest c.args.bucket c.requires.seat.occupied, e) in
    λ same. apart_from_hole n (slots_of (2 ^ c.args.bits) c.loop-step.groups) c.args.bucket c.loop-step.hole c.loop-step.at c.loop-step._step inside c.loop-step.invariant.walked.walk c.loop-step-test.true (same ∙ c.next_bucket-at.ensures)

pub loop-step-preserved : goal.loop-step-preserved
loop-step-preserved g c =
    let n = c.bucket_count-buckets.result in
    let e = c.bucket_count-buckets.ensures.count in
    let inside : c.args.bucket < n = omega (arith, some_below (2 ^ c.args.bits) c.args.groups.now c.requires.table.table.rest c.args.bucket c.requires.seat.occupied, e) in
    let old = slots_of (2 ^ c.args.bits) c.args.groups.now in
    let new = slots_of (2 ^ c.args.bits) c.loop-step.groups in
    let w = c.loop-step.invariant.walked in
    let is = ap (key_at new) (sym c.next_bucket-at.ensures) ∙ same_key (2 ^ c.args.bits) c.loop-step.groups c.loop-step.invariant.table.rest c.next_bucket-at.result ∙ sym c.key_at.ensures ∙ c.in-Some.is in
    let some : IsSome (slot_at (all_slots c.loop-step.groups) c.next_bucket-at.result) = sym (is_some-key_at (all_slots c.loop-step.groups) c.next_bucket-at.result) ∙ ap is_some (sym c.key_at.ensures ∙ c.in-Some.is) in
    let ranked : IsRankOf c.loop-step.groups c.next_bucket-at.result c.next_rank-at_rank.result =
    rank_on c.loop-step.groups n c.loop-step.at c.loop-step.at_rank c.next_bucket-at.result c.next_rank-at_rank.result
    (omega (arith, table_long (2 ^ c.args.bits) c.loop-step.groups (sized c.args.bits c.requires.table.size) c.loop-step.invariant.table, c.bucket_count-buckets.ensures.count))
    w.walk.at_inside c.loop-step.invariant.at_rank c.loop-step.invariant.here c.next_bucket-at.ensures c.next_rank-at_rank.ensures in
    let key = c.in-Some.key in
    let hole = c.loop-step.hole in
    let on = c.next_bucket-at.ensures in
    let apart = apart_from_hole n new c.args.bucket hole c.loop-step.at c.loop-step._step inside w.walk c.loop-step-test.true in
    let inside_hole : hole < length new = subst (λ m. hole < m) (sym w.long) w.walk.hole_inside in
    let fewer : suc (n - (c.loop-step._step + 1)) ≡ n - c.loop-step._step = omega (arith, c.loop-step-test.true) in
    elim c.if-leads_over.branch [
      | then-leads_over b ↦
          let over_2 : steps (2 ^ c.args.bits) (home (2 ^ c.args.bits) key) hole ≤ steps (2 ^ c.args.bits) (home (2 ^ c.args.bits) key) c.next_bucket-at.result = c.leads_over.ensures.0 b.if-leads_over.true in
          let over = subst (λ x. steps n (home n key) hole ≤ steps n (home n key) x) on (subst (λ m. steps m (home m key) hole ≤ steps m (home m key) c.next_bucket-at.result) (sym e) over_2) in
          let moved = walked_moves n old new c.args.bucket hole c.loop-step.at c.loop-step._step key inside w c.loop-step-test.true is over in
          let hole_below : hole < 2 ^ c.args.bits = omega (arith, w.walk.hole_inside, e) in
          let at_below : c.next_bucket-at.result < 2 ^ c.args.bits = omega (arith, next_below n c.loop-step.at w.walk.at_inside, on, e) in
          let slots =
          ap (slots_of (2 ^ c.args.bits)) b.groups-is
          ∙ exchanged_below (2 ^ c.args.bits) c.loop-step.groups b.exchange.new.groups hole c.next_bucket-at.result hole_below at_below b.exchange.ensures.slots
          ∙ ap (λ x. exchanged new hole x) on in
          record {
            walked = subst (λ t. Walked n old t c.args.bucket c.if-leads_over.hole c.next_bucket-at.result (c.loop-step._step + 1)) (sym slots)
                (subst (λ x. Walked n old (exchanged new hole (next n c.loop-step.at)) c.args.bucket x c.next_bucket-at.result (c.loop-step._step + 1)) (sym b.hole-is)
                (subst (λ x. Walked n old (exchanged new hole (next n c.loop-step.at)) c.args.bucket x x (c.loop-step._step + 1)) (sym on) moved));
            back =
                (λ i. shifted_back n (n - (c.loop-step._step + 1)) ((b.hole-is ∙ on) i) (on i) (set (slots i) ((b.hole-is ∙ on) i) None))
                ∙ sym (back_moves n (n - (c.loop-step._step + 1)) hole c.loop-step.at new apart inside_hole key is over)
                ∙ ap (λ m. shifted_back n m hole c.loop-step.at (set new hole None)) fewer
                ∙ c.loop-step.invariant.back;
            table = subst (λ us. IsTable (2 ^ c.args.bits) us) (sym b.groups-is)
                (table_exchanged (2 ^ c.args.bits) c.loop-step.groups b.exchange.new.groups hole c.next_bucket-at.result hole_below at_below b.exchange.ensures.slots c.loop-step.invariant.table);
            sizes = ap sizes_of b.groups-is ∙ b.exchange.ensures.sizes ∙ c.loop-step.invariant.sizes;
            here = ap (λ us. is_some (slot_at (all_slots us) c.next_bucket-at.result)) b.groups-is ∙ b.exchange.ensures.occupied c.next_bucket-at.result ∙ some;
            at_rank = subst (λ us. IsRankOf us c.next_bucket-at.result c.next_rank-at_rank.result) (sym b.groups-is)
                (b.exchange.ensures.ranks c.next_bucket-at.result c.next_rank-at_rank.result ranked);
            hole_rank = subst (λ us. IsRankOf us c.if-leads_over.hole c.if-leads_over.hole_rank) (sym b.groups-is)
                (subst (λ x. IsRankOf b.exchange.new.groups x c.if-leads_over.hole_rank) (sym b.hole-is)
                (subst (λ x. IsRankOf b.exchange.new.groups c.next_bucket-at.result x) (sym b.hole_rank-is)
                (b.exchange.ensures.ranks c.next_bucket-at.result c.next_rank-at_rank.result ranked)));
          }
      | else-leads_over b ↦
          let short_2 : steps (2 ^ c.args.bits) (home (2 ^ c.args.bits) key) c.next_bucket-at.result < steps (2 ^ c.args.bits) (home (2 ^ c.args.bits) key) hole =
          elim (cases_lt (steps (2 ^ c.args.bits) (home (2 ^ c.args.bits) key) c.next_bucket-at.result) (steps (2 ^ c.args.bits) (home (2 ^ c.args.bits) key) hole)) [
            | inl lt ↦ lt
            | inr le ↦ absurd (false≢true (sym b.if-leads_over.false ∙ c.leads_over.ensures.1 le))
          ] in
          let short = subst (λ x. steps n (home n key) x < steps n (home n key) hole) on (subst (λ m. steps m (home m key) c.next_bucket-at.result < steps m (home m key) hole) (sym e) short_2) in
          let stayed = walked_stays n old new c.args.bucket hole c.loop-step.at c.loop-step._step key inside w c.loop-step-test.true is short in
          record {
            walked = subst (λ t. Walked n old t c.args.bucket c.if-leads_over.hole c.next_bucket-at.result (c.loop-step._step + 1)) (sym (ap (slots_of (2 ^ c.args.bits)) b.groups-is))
                (subst (λ x. Walked n old new c.args.bucket x c.next_bucket-at.result (c.loop-step._step + 1)) (sym b.hole-is)
                (subst (λ x. Walked n old new c.args.bucket hole x (c.loop-step._step + 1)) (sym on) stayed));
            back =
                (λ i. shifted_back n (n - (c.loop-step._step + 1)) (b.hole-is i) (on i) (set (slots_of (2 ^ c.args.bits) (b.groups-is i)) (b.hole-is i) None))
                ∙ sym (back_stays n (n - (c.loop-step._step + 1)) hole c.loop-step.at new apart inside_hole key is short)
                ∙ ap (λ m. shifted_back n m hole c.loop-step.at (set new hole None)) fewer
                ∙ c.loop-step.invariant.back;
            table = subst (λ us. IsTable (2 ^ c.args.bits) us) (sym b.groups-is) c.loop-step.invariant.table;
            sizes = ap sizes_of b.groups-is ∙ c.loop-step.invariant.sizes;
            here = ap (λ us. is_some (slot_at (all_slots us) c.next_bucket-at.result)) b.groups-is ∙ some;
            at_rank = subst (λ us. IsRankOf us c.next_bucket-at.result c.next_rank-at_rank.result) (sym b.groups-is) ranked;
            hole_rank = subst (λ us. IsRankOf us c.if-leads_over.hole c.if-leads_over.hole_rank) (sym b.groups-is)
                (subst (λ x. IsRankOf c.loop-step.groups x c.if-leads_over.hole_rank) (sym b.hole-is)
                (subst (λ x. IsRankOf c.loop-step.groups c.loop-step.hole x) (sym b.hole_rank-is) c.loop-step.invariant.hole_rank));
          }
    ]

pub returns-clause-shifted : goal.returns-clause-shifted
returns-clause-shifted g c =
    let n = c.bucket_count-buckets.result in
    let e = c.bucket_count-buckets.ensures.count in
    let inside : c.args.bucket < n = omega (arith, some_below (2 ^ c.args.bits) c.args.groups.now c.requires.table.table.rest c.args.bucket c.requires.seat.occupied, e) in
    let w = c.loop-step.invariant.walked in
    let end : c.loop-step._step ≡ n = omega arith in
    absurd (walked_full n (slots_of (2 ^ c.args.bits) c.args.groups.now) (slots_of (2 ^ c.args.bits) c.loop-step.groups) c.args.bucket c.loop-step.hole c.loop-step.at inside (omega (arith, c.requires.table.room, e))
    (subst (λ m. Walked n (slots_of (2 ^ c.args.bits) c.args.groups.now) (slots_of (2 ^ c.args.bits) c.loop-step.groups) c.args.bucket c.loop-step.hole c.loop-step.at m) end w))

pub returns-in-None-clause-walk : goal.returns-in-None-clause-walk
returns-in-None-clause-walk g c =
    let n = c.bucket_count-buckets.result in
    let e = c.bucket_count-buckets.ensures.count in
    let inside : c.args.bucket < n = omega (arith, some_below (2 ^ c.args.bits) c.args.groups.now c.requires.table.table.rest c.args.bucket c.requires.seat.occupied, e) in
    let new = slots_of (2 ^ c.args.bits) c.loop-step.groups in
    let hole = c.loop-step.hole in
    let w = c.loop-step.invariant.walked in
    let apart = apart_from_hole n new c.args.bucket hole c.loop-step.at c.loop-step._step inside w.walk c.loop-step-test.true in
    let inside_hole : hole < length new = subst (λ m. hole < m) (sym w.long) w.walk.hole_inside in
    let fewer : suc (n - (c.loop-step._step + 1)) ≡ n - c.loop-step._step = omega (arith, c.loop-step-test.true) in
    sym (back_ends n (n - (c.loop-step._step + 1)) hole c.loop-step.at new apart inside_hole (ap (key_at new) (sym c.next_bucket-at.ensures) ∙ same_key (2 ^ c.args.bits) c.loop-step.groups c.loop-step.invariant.table.rest c.next_bucket-at.result ∙ sym c.key_at.ensures ∙ c.in-None.is))
    ∙ ap (λ m. shifted_back n m hole c.loop-step.at (set new hole None)) fewer
    ∙ c.loop-step.invariant.back
    ∙ ap (λ m. shifted_back m (m - 1) c.args.bucket c.args.bucket (set (slots_of (2 ^ c.args.bits) c.args.groups.now) c.args.bucket None)) e

pub returns-clause-walk : goal.returns-clause-walk
returns-clause-walk g c =
    let n = c.bucket_count-buckets.result in
    let e = c.bucket_count-buckets.ensures.count in
    let inside : c.args.bucket < n = omega (arith, some_below (2 ^ c.args.bits) c.args.groups.now c.requires.table.table.rest c.args.bucket c.requires.seat.occupied, e) in
    let w = c.loop-step.invariant.walked in
    let end : c.loop-step._step ≡ n = omega arith in
    absurd (walked_full n (slots_of (2 ^ c.args.bits) c.args.groups.now) (slots_of (2 ^ c.args.bits) c.loop-step.groups) c.args.bucket c.loop-step.hole c.loop-step.at inside (omega (arith, c.requires.table.room, e))
    (subst (λ m. Walked n (slots_of (2 ^ c.args.bits) c.args.groups.now) (slots_of (2 ^ c.args.bits) c.loop-step.groups) c.args.bucket c.loop-step.hole c.loop-step.at m) end w))

pub exchange-requires-clause-a : goal.exchange-requires-clause-a
exchange-requires-clause-a g c =
    let n = 2 ^ c.args.bits in
    let e = c.bucket_count-buckets.ensures.count in
    let w = c.loop-step.invariant.walked in
    let start : c.args.bucket < n = some_below n c.args.groups.now c.requires.table.table.rest c.args.bucket c.requires.seat.occupied in
    let hole : c.loop-step.hole < n = omega (arith, w.walk.hole_inside, e) in
    record {
      within = omega (arith, w.walk.hole_inside, table_long (2 ^ c.args.bits) c.loop-step.groups (sized c.args.bits c.requires.table.size) c.loop-step.invariant.table, c.bucket_count-buckets.ensures.count);
      occupied =
          ap is_some (sym (slot_below n c.loop-step.groups c.loop-step.hole hole) ∙ w.doomed ∙ slot_below n c.args.groups.now c.args.bucket start)
          ∙ c.requires.seat.occupied;
      rank = c.loop-step.invariant.hole_rank;
    }

pub exchange-requires-clause-b : goal.exchange-requires-clause-b
exchange-requires-clause-b g c =
    let w = c.loop-step.invariant.walked in
    let below : next c.bucket_count-buckets.result c.loop-step.at < c.bucket_count-buckets.result = next_below c.bucket_count-buckets.result c.loop-step.at w.walk.at_inside in
    record {
      within = omega (arith, below, c.next_bucket-at.ensures, table_long (2 ^ c.args.bits) c.loop-step.groups (sized c.args.bits c.requires.table.size) c.loop-step.invariant.table, c.bucket_count-buckets.ensures.count);
      occupied = sym (is_some-key_at (all_slots c.loop-step.groups) c.next_bucket-at.result) ∙ ap is_some (sym c.key_at.ensures ∙ c.in-Some.is);
      rank =
          rank_on c.loop-step.groups c.bucket_count-buckets.result c.loop-step.at c.loop-step.at_rank c.next_bucket-at.result c.next_rank-at_rank.result
          (omega (arith, table_long (2 ^ c.args.bits) c.loop-step.groups (sized c.args.bits c.requires.table.size) c.loop-step.invariant.table, c.bucket_count-buckets.ensures.count))
          w.walk.at_inside c.loop-step.invariant.at_rank c.loop-step.invariant.here c.next_bucket-at.ensures c.next_rank-at_rank.ensures;
    }
