use Rattle.std.proofs.Common.{◌≡◌, ◌≢◌, ◌+◌, ◌^◌, ◌<◌, ◌≤◌, max, length, cond, eqb, ap, sym, ◌∙◌, subst, arith}
use Rattle.std.specs.Prelude.{OnErr}
use Rattle.std.specs.Vec.{vec_len}
use Rattle.sparse_map.specs.Home.{IsDoubledFor, buckets_for}
use Rattle.sparse_map.specs.Groups.{slots_of}
use Rattle.sparse_map.specs.Packed.{len_of, buckets_of, IsWidened}
use Rattle.sparse_map.proofs.MapLemmas.{kept_buckets}
use Rattle.sparse_map.proofs.ViewLemmas.{seen_len, seen_slots, seen_buckets, seen_sound}
use Rattle.std.proofs.lemmas.Result.{on_ok_weaker}
use Rattle.sparse_map.proofs.ReserveLemmas.{on_ok, on_ok_always, on_err_both, doubled_grows, other_buckets, map_of-slots, sound_stocked, sound_either, loose_either, stays_either, peak_either, as_before, no_more}
use Rattle.sparse_map.proofs.map.SparseMap.reserve.Goals as goal

pub bits_for-bits-requires-clause-room : goal.bits_for-bits-requires-clause-room
bits_for-bits-requires-clause-room g c =
    let len = seen_len c.self.inside c.args.self.now c.self.invariant.table c.self.view_is in
    omega (arith, len, c.requires, c.from-n.ensures)

pub stock_up-requires : goal.stock_up-requires
stock_up-requires g c =
    let m = c.self.inside in
    let t = c.args.self.now in
    let len = seen_len m t c.self.invariant.table c.self.view_is in
    let some : 0 < m.bits = omega (arith, c.bits_for-bits.ensures.size.many, c.if-bits-self.true) in
    let size = kept_buckets m.bits m.len m.spare (vec_len m.stock) m.touched m.groups.items c.self.invariant.table some in
    let long : length (slots_of (buckets_for m.bits) m.groups.items) ≡ buckets_of t = ap length (seen_slots m t c.self.invariant.table c.self.view_is) in
    let wide : 2 ^ c.bits_for-bits.result ≡ 2 ^ m.bits = ap (λ b. 2 ^ b) c.if-bits-self.true in
    omega (arith, c.bits_for-bits.ensures.doubled.enough, wide, size, long, len)

pub widen-requires-clause-wider : goal.widen-requires-clause-wider
widen-requires-clause-wider g c =
    let m = c.self.inside in
    let t = c.args.self.now in
    let narrow : cond (eqb m.bits 0) 0 (2 ^ m.bits) ≡ buckets_of t = seen_buckets m t c.self.invariant.table c.self.view_is in
    let grows = doubled_grows (m.len + c.from-n.result) (cond (eqb m.bits 0) 0 (2 ^ m.bits)) (2 ^ c.bits_for-bits.result) c.bits_for-bits.ensures.doubled in
    subst (λ n. n ≤ 2 ^ c.bits_for-bits.result) narrow grows

pub widen-requires-clause-room : goal.widen-requires-clause-room
widen-requires-clause-room g c =
    let len = seen_len c.self.inside c.args.self.now c.self.invariant.table c.self.view_is in
    omega (arith, c.bits_for-bits.ensures.doubled.enough, len)

pub returns-then-bits-self-clause-map : goal.returns-then-bits-self-clause-map
returns-then-bits-self-clause-map g c = map_of-slots c.args.self.now c.stock_up.new.self c.stock_up.ensures.slots

pub returns-then-bits-self-clause-buckets : goal.returns-then-bits-self-clause-buckets
returns-then-bits-self-clause-buckets g c =
    let m = c.self.inside in
    let t = c.args.self.now in
    let some : 0 < m.bits = omega (arith, c.bits_for-bits.ensures.size.many, c.if-bits-self.true) in
    let need : m.len + c.from-n.result ≡ len_of t + c.args.n = λ i. seen_len m t c.self.invariant.table c.self.view_is i + c.from-n.ensures i in
    let narrow : cond (eqb m.bits 0) 0 (2 ^ m.bits) ≡ buckets_of t = seen_buckets m t c.self.invariant.table c.self.view_is in
    let wide : 2 ^ c.bits_for-bits.result ≡ buckets_of c.stock_up.new.self =
    ap (λ b. 2 ^ b) c.if-bits-self.true
    ∙ sym (kept_buckets m.bits m.len m.spare (vec_len m.stock) m.touched m.groups.items c.self.invariant.table some)
    ∙ ap length (seen_slots m t c.self.invariant.table c.self.view_is ∙ sym c.stock_up.ensures.slots) in
    on_ok c.stock_up.result (IsDoubledFor (len_of t + c.args.n) (buckets_of t) (buckets_of c.stock_up.new.self))
    (subst (λ x. IsDoubledFor x (buckets_of t) (buckets_of c.stock_up.new.self)) need
    (subst (λ x. IsDoubledFor (m.len + c.from-n.result) x (buckets_of c.stock_up.new.self)) narrow
    (subst (λ x. IsDoubledFor (m.len + c.from-n.result) (cond (eqb m.bits 0) 0 (2 ^ m.bits)) x) wide c.bits_for-bits.ensures.doubled)))

pub returns-then-bits-self-clause-sound : goal.returns-then-bits-self-clause-sound
returns-then-bits-self-clause-sound g c =
    let m = c.self.inside in
    let t = c.args.self.now in
    let len = seen_len m t c.self.invariant.table c.self.view_is in
    let some : 0 < m.bits = omega (arith, c.bits_for-bits.ensures.size.many, c.if-bits-self.true) in
    let size = kept_buckets m.bits m.len m.spare (vec_len m.stock) m.touched m.groups.items c.self.invariant.table some in
    let long : length (slots_of (buckets_for m.bits) m.groups.items) ≡ buckets_of t = ap length (seen_slots m t c.self.invariant.table c.self.view_is) in
    let wide : 2 ^ c.bits_for-bits.result ≡ 2 ^ m.bits = ap (λ b. 2 ^ b) c.if-bits-self.true in
    sound_stocked c.stock_up.result t c.stock_up.new.self c.from-n.result (seen_sound m t c.self.invariant.table c.self.view_is)
    (omega (arith, c.bits_for-bits.ensures.doubled.enough, wide, size, long, len))
    c.stock_up.ensures.slots c.stock_up.ensures.spare c.stock_up.ensures.err c.stock_up.ensures.places c.stock_up.ensures.blanks

pub returns-else-bits-self-clause-buckets : goal.returns-else-bits-self-clause-buckets
returns-else-bits-self-clause-buckets g c =
    let m = c.self.inside in
    let t = c.args.self.now in
    let need : m.len + c.from-n.result ≡ len_of t + c.args.n = λ i. seen_len m t c.self.invariant.table c.self.view_is i + c.from-n.ensures i in
    let narrow : cond (eqb m.bits 0) 0 (2 ^ m.bits) ≡ buckets_of t = seen_buckets m t c.self.invariant.table c.self.view_is in
    on_ok_weaker {P = buckets_of c.widen.new.self ≡ 2 ^ c.bits_for-bits.result} {Q = IsDoubledFor (len_of t + c.args.n) (buckets_of t) (buckets_of c.widen.new.self)} c.widen.result
    (λ wide.
    subst (λ x. IsDoubledFor x (buckets_of t) (buckets_of c.widen.new.self)) need
    (subst (λ x. IsDoubledFor (m.len + c.from-n.result) x (buckets_of c.widen.new.self)) narrow
    (subst (λ x. IsDoubledFor (m.len + c.from-n.result) (cond (eqb m.bits 0) 0 (2 ^ m.bits)) x) (sym wide) c.bits_for-bits.ensures.doubled)))
    c.widen.ensures.buckets

pub returns-else-bits-self-clause-sound : goal.returns-else-bits-self-clause-sound
returns-else-bits-self-clause-sound g c =
    sound_either c.widen.result c.args.self.now c.widen.new.self (seen_sound c.self.inside c.args.self.now c.self.invariant.table c.self.view_is) c.widen.ensures.sound c.widen.ensures.err

pub returns-then-bits-self-clause-fitted : goal.returns-then-bits-self-clause-fitted
returns-then-bits-self-clause-fitted g c = c.stock_up.ensures.fitted

pub returns-then-bits-self-clause-doubled : goal.returns-then-bits-self-clause-doubled
returns-then-bits-self-clause-doubled g c =
    let t = c.args.self.now in
    let u = c.stock_up.new.self in
    let level : buckets_of u ≡ buckets_of t = ap length c.stock_up.ensures.slots in
    on_ok c.stock_up.result (buckets_of u ≢ buckets_of t → IsWidened t u) (λ other. absurd (other level))

pub returns-then-bits-self-clause-err : goal.returns-then-bits-self-clause-err
returns-then-bits-self-clause-err g c =
    on_err_both c.stock_up.result (c.stock_up.new.self.slots ≡ c.args.self.now.slots) (c.stock_up.new.self.spare ≡ c.args.self.now.spare) c.stock_up.ensures.slots c.stock_up.ensures.err

pub returns-then-bits-self-clause-refused : goal.returns-then-bits-self-clause-refused
returns-then-bits-self-clause-refused g c =
    let t = c.args.self.now in
    let u = c.stock_up.new.self in
    subst (λ n. OnErr c.stock_up.result ((u.places ≤ t.places) × (u.blanks ≤ max t.blanks (max t.spare n)))) c.from-n.ensures c.stock_up.ensures.refused

pub returns-else-bits-self-clause-stays : goal.returns-else-bits-self-clause-stays
returns-else-bits-self-clause-stays g c =
    let m = c.self.inside in
    let t = c.args.self.now in
    let narrow : cond (eqb m.bits 0) 0 (2 ^ m.bits) ≡ buckets_of t = seen_buckets m t c.self.invariant.table c.self.view_is in
    let other : buckets_of t ≢ 2 ^ c.bits_for-bits.result = subst (λ n. n ≢ 2 ^ c.bits_for-bits.result) narrow (other_buckets m.bits c.bits_for-bits.result (λ e. c.if-bits-self.false (sym e))) in
    stays_either c.widen.result t c.widen.new.self c.widen.ensures.err (2 ^ c.bits_for-bits.result) other c.widen.ensures.buckets

pub returns-else-bits-self-clause-peak : goal.returns-else-bits-self-clause-peak
returns-else-bits-self-clause-peak g c =
    let m = c.self.inside in
    let t = c.args.self.now in
    let narrow : cond (eqb m.bits 0) 0 (2 ^ m.bits) ≡ buckets_of t = seen_buckets m t c.self.invariant.table c.self.view_is in
    let other : buckets_of t ≢ 2 ^ c.bits_for-bits.result = subst (λ n. n ≢ 2 ^ c.bits_for-bits.result) narrow (other_buckets m.bits c.bits_for-bits.result (λ e. c.if-bits-self.false (sym e))) in
    peak_either c.widen.result t c.widen.new.self c.widen.ensures.err (2 ^ c.bits_for-bits.result) other c.widen.ensures.buckets

pub returns-else-bits-self-clause-fitted : goal.returns-else-bits-self-clause-fitted
returns-else-bits-self-clause-fitted g c = c.widen.ensures.fitted

pub returns-else-bits-self-clause-doubled : goal.returns-else-bits-self-clause-doubled
returns-else-bits-self-clause-doubled g c =
    let t = c.args.self.now in
    let u = c.widen.new.self in
    on_ok_always c.widen.result (buckets_of u ≢ buckets_of t) (IsWidened t u) c.widen.ensures.widened

pub returns-else-bits-self-clause-loose : goal.returns-else-bits-self-clause-loose
returns-else-bits-self-clause-loose g c =
    let t = c.args.self.now in
    let u = c.widen.new.self in
    loose_either c.widen.result t u c.widen.ensures.err
    (on_ok_weaker {P = IsWidened t u} {Q = u.loose ≡ 0} c.widen.result (λ w. w.loose) c.widen.ensures.widened)

pub returns-else-bits-self-clause-err : goal.returns-else-bits-self-clause-err
returns-else-bits-self-clause-err g c = as_before c.widen.result c.args.self.now c.widen.new.self c.widen.ensures.err

pub returns-else-bits-self-clause-refused : goal.returns-else-bits-self-clause-refused
returns-else-bits-self-clause-refused g c = no_more c.widen.result c.args.self.now c.widen.new.self c.widen.ensures.err (max c.args.self.now.spare c.args.n)
