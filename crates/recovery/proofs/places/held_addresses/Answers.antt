use Rattle.std.proofs.Common.{arith}
use Rattle.recovery.proofs.PlaceLemmas.{gathered_none, gathered_more, gathered_past, gathered_all, gathered_room}
use Rattle.recovery.proofs.places.held_addresses.Goals as goal
use Rattle.recovery.proofs.places.held_addresses.Goals.{in-Some, in_default}

pub loop-i-init : goal.loop-i-init
loop-i-init c = record {
  gathered = gathered_none c.args.map.now.geometry c.args.map.now.entries c.in_ok-addresses.addresses.items c.in_ok-addresses.ensures.items;
  room = omega (arith, c.in_ok-addresses.ensures.exact, c.held.ensures.count);
}

pub push_reserved-requires : goal.push_reserved-requires
push_reserved-requires c =
    let m = c.args.map.now in
    omega (arith, gathered_room m.geometry m.entries c.loop-i.addresses.items c.loop-i.i c.in-Some.lba c.in-Some.field-0-1 c.nth.result c.loop-i.invariant.gathered c.nth.ensures.some c.in-Some.is, c.loop-i.invariant.room, c.loop-i.addresses.ok.0)

pub loop-i-preserved : goal.loop-i-preserved
loop-i-preserved c =
    let m = c.args.map.now in
    elim c.match-nth.branch [
      | in-Some w ↦ rw w.addresses-is (record {
        gathered = gathered_more m.geometry m.entries c.loop-i.addresses.items w.push_reserved.new.self.items c.loop-i.i w.in-Some.lba w.in-Some.field-0-1 c.nth.result c.nth.ensures.is_map c.loop-i.invariant.gathered c.nth.ensures.some w.in-Some.is w.push_reserved.ensures.items;
        room = omega (arith, w.push_reserved.ensures.capacity, c.loop-i.invariant.room);
      })
      | in_default w ↦ rw w.addresses-is (record {
        gathered = gathered_past m.geometry m.entries c.loop-i.addresses.items c.loop-i.i c.nth.result c.loop-i.invariant.gathered c.nth.ensures.none w.in_default.is;
        room = c.loop-i.invariant.room;
      })
    ]

pub returns-clause-held : goal.returns-clause-held
returns-clause-held c = gathered_all c.args.map.now.geometry c.args.map.now.entries c.loop-i.addresses.items c.numbers-i-end.result c.loop-i.i c.numbers-i-end.ensures.each c.loop-i-test.false c.loop-i.invariant.gathered
