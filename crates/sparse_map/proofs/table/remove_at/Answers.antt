use Rattle.std.proofs.Common.{◌≡◌, ℕ, ◌^◌, ◌<◌, List, cond, eqb, sym, ap, ◌∙◌, subst, arith, length, None, set}
use Rattle.std.specs.Prelude.{is_some}
use Rattle.std.specs.Ordering.{nat_cmp}
use Rattle.std.specs.FinMap.{find}
use Rattle.sparse_map.specs.Slots.{items_of, slot_at}
use Rattle.sparse_map.specs.Groups.{slots_of, IsTable}
use Rattle.sparse_map.specs.Places.{places_of, loose_of, lacking, past_of}
use Rattle.sparse_map.specs.declared.group.Group.{Group}
use Rattle.sparse_map.specs.Home.{IsTableSize}
use Rattle.sparse_map.specs.Packed.{IsPacked}
use Rattle.sparse_map.proofs.HomeLemmas.{sized}
use Rattle.sparse_map.proofs.BucketLemmas.{slot_below, same_slot, table_long, length-table, set_below, table_set}
use Rattle.sparse_map.proofs.SlotLemmas.{find-set_none, length-items_of-set}
use Rattle.sparse_map.proofs.table.remove_at.Goals as goal

pub take-requires : goal.take-requires
take-requires g c =
    let n = 2 ^ c.args.bits in
    let us = c.args.groups.now in
    let ws = c.shift_back-hole.new.groups in
    let hole = c.shift_back-hole.result.0 in
    let shifted = c.shift_back-hole.ensures.shifted in
    let table = c.shift_back-hole.ensures.table in
    let size = sized c.args.bits c.requires.table.size in
    let inside : hole < n = omega (arith, shifted.inside, length-table n ws size table) in
    record {
      seat = record {
        within = omega (arith, inside, table_long n ws size table);
        occupied =
            ap is_some (sym (slot_below n ws hole inside) ∙ shifted.item ∙ same_slot n us c.requires.table.table.rest c.args.bucket)
            ∙ c.requires.seat.occupied;
        rank = c.shift_back-hole.ensures.rank;
      };
    }

hole_below : {V : Type 0} (bits hole : ℕ) (ws : List (Group V)) → IsTableSize bits → IsTable (2 ^ bits) ws → hole < length (slots_of (2 ^ bits) ws) → hole < 2 ^ bits
hole_below bits hole ws size table inside = omega (arith, inside, length-table (2 ^ bits) ws (sized bits size) table)

pub returns-clause-item : goal.returns-clause-item
returns-clause-item g c =
    let n = 2 ^ c.args.bits in
    let ws = c.shift_back-hole.new.groups in
    let hole = c.shift_back-hole.result.0 in
    let shifted = c.shift_back-hole.ensures.shifted in
    sym shifted.item
    ∙ slot_below n ws hole (hole_below c.args.bits hole ws c.requires.table.size c.shift_back-hole.ensures.table shifted.inside)
    ∙ c.take.ensures.item

pub returns-clause-table : goal.returns-clause-table
returns-clause-table g c =
    let n = 2 ^ c.args.bits in
    let ws = c.shift_back-hole.new.groups in
    let hole = c.shift_back-hole.result.0 in
    let table = c.shift_back-hole.ensures.table in
    let inside = hole_below c.args.bits hole ws c.requires.table.size table c.shift_back-hole.ensures.shifted.inside in
    table_set n ws c.take.new.groups hole None inside c.take.ensures.slots table

pub returns-clause-found : goal.returns-clause-found
returns-clause-found g c =
    let now = slots_of (2 ^ c.args.bits) c.shift_back-hole.new.groups in
    let hole = c.shift_back-hole.result.0 in
    let shifted = c.shift_back-hole.ensures.shifted in
    let inside = hole_below c.args.bits hole c.shift_back-hole.new.groups c.requires.table.size c.shift_back-hole.ensures.table shifted.inside in
    let item = slot_below (2 ^ c.args.bits) c.shift_back-hole.new.groups hole inside ∙ c.take.ensures.item in
    λ key.
    ap (λ s. find nat_cmp key (items_of s)) (set_below (2 ^ c.args.bits) c.shift_back-hole.new.groups c.take.new.groups hole None inside c.take.ensures.slots)
    ∙ find-set_none now hole c.take.result.0 shifted.once c.take.result.1 shifted.inside item key
    ∙ ap (λ o. cond (eqb key c.take.result.0) None o) (shifted.found key)

pub returns-clause-count : goal.returns-clause-count
returns-clause-count g c =
    let now = slots_of (2 ^ c.args.bits) c.shift_back-hole.new.groups in
    let hole = c.shift_back-hole.result.0 in
    let shifted = c.shift_back-hole.ensures.shifted in
    let inside = hole_below c.args.bits hole c.shift_back-hole.new.groups c.requires.table.size c.shift_back-hole.ensures.table shifted.inside in
    let item = slot_below (2 ^ c.args.bits) c.shift_back-hole.new.groups hole inside ∙ c.take.ensures.item in
    let fewer = length-items_of-set now hole None shifted.inside in
    let one : cond (is_some (slot_at now hole)) 1 0 ≡ 1 = ap {B = ℕ} (λ o. cond {A = ℕ} (is_some o) 1 0) item in
    let count : length (items_of (slots_of (2 ^ c.args.bits) c.take.new.groups)) ≡ length (items_of (set now hole None)) = ap (λ s. length (items_of s)) (set_below (2 ^ c.args.bits) c.shift_back-hole.new.groups c.take.new.groups hole None inside c.take.ensures.slots) in
    omega (arith, count, fewer, one, shifted.count)

pub returns-clause-places : goal.returns-clause-places
returns-clause-places g c = c.take.ensures.places ∙ ap places_of c.shift_back-hole.ensures.sizes

pub returns-clause-short : goal.returns-clause-short
returns-clause-short g c = omega (arith, c.take.ensures.short, ap past_of c.shift_back-hole.ensures.sizes)

pub returns-clause-loose : goal.returns-clause-loose
returns-clause-loose g c = λ t. omega (arith, c.take.ensures.loose t, ap (loose_of t) c.shift_back-hole.ensures.sizes)

pub returns-clause-lacking : goal.returns-clause-lacking
returns-clause-lacking g c = λ n t. omega (arith, c.take.ensures.lacking n t, ap (lacking n t) c.shift_back-hole.ensures.sizes)

pub returns-clause-walk : goal.returns-clause-walk
returns-clause-walk g c =
    let hole = c.shift_back-hole.result.0 in
    let inside = hole_below c.args.bits hole c.shift_back-hole.new.groups c.requires.table.size c.shift_back-hole.ensures.table c.shift_back-hole.ensures.shifted.inside in
    set_below (2 ^ c.args.bits) c.shift_back-hole.new.groups c.take.new.groups hole None inside c.take.ensures.slots ∙ c.shift_back-hole.ensures.walk

pub returns-clause-packed : goal.returns-clause-packed
returns-clause-packed g c =
    let hole = c.shift_back-hole.result.0 in
    let shifted = c.shift_back-hole.ensures.shifted in
    let inside = hole_below c.args.bits hole c.shift_back-hole.new.groups c.requires.table.size c.shift_back-hole.ensures.table shifted.inside in
    subst (λ s. IsPacked s) (sym (set_below (2 ^ c.args.bits) c.shift_back-hole.new.groups c.take.new.groups hole None inside c.take.ensures.slots)) shifted.packed
