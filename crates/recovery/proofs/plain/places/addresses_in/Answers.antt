use Rattle.recovery.proofs.PlaceLemmas.{gathered_none, gathered_more, gathered_past, gathered_all}
use Rattle.recovery.proofs.plain.places.addresses_in.Goals as goal
use Rattle.recovery.proofs.plain.places.addresses_in.Goals.{in-Some+in_ok-push, in_default}

pub loop-i-init : goal.loop-i-init
loop-i-init c = gathered_none c.args.map.now.geometry c.args.map.now.entries c.new-addresses.result.items c.new-addresses.ensures.items

pub loop-i-preserved : goal.loop-i-preserved
loop-i-preserved c =
    let m = c.args.map.now in
    elim c.match-nth.branch [
      | in-Some+in_ok-push w ↦ rw w.addresses-is (gathered_more m.geometry m.entries c.loop-i.addresses.items w.push.new.self.items c.loop-i.i w.in-Some.lba w.in-Some.field-0-1 c.nth.result c.nth.ensures.is_map c.loop-i.invariant c.nth.ensures.some w.in-Some.is w.in_ok-push.ensures.items)
      | in_default w ↦ rw w.addresses-is (gathered_past m.geometry m.entries c.loop-i.addresses.items c.loop-i.i c.nth.result c.loop-i.invariant c.nth.ensures.none w.in_default.is)
    ]

pub returns : goal.returns
returns c = gathered_all c.args.map.now.geometry c.args.map.now.entries c.loop-i.addresses.items c.numbers-i-end.result c.loop-i.i c.numbers-i-end.ensures.each c.loop-i-test.false c.loop-i.invariant
