use Rattle.std.proofs.Common.{refl, sym, ◌∙◌, ap, length, arith}
use Rattle.cache_model.specs.Loading.{is_whole}
use Rattle.recovery.specs.Plain.{page_listed}
use Rattle.recovery.proofs.PlaceLemmas.{looked_more, looked_past, looked_all, looked_damaged, has_sorted, written_back, rises}
use Rattle.recovery.proofs.plain.places.first_not_whole.Goals as goal
use Rattle.recovery.proofs.plain.places.first_not_whole.Goals.{in-Some+else-not-is_whole, in_default}

pub returns-then-not-is_whole : goal.returns-then-not-is_whole
returns-then-not-is_whole c =
    let m = c.args.map.now.entries in
    let whole = written_back c.deref-lba-items.result.now c.sort_unstable.new.self _ _ c.deref-lba-items.ensures.value (omega (arith, c.sort_unstable.ensures.len, ap length c.as_mut_slice.ensures.value, c.in_ok-addresses.addresses.ok.0)) in
    let has = has_sorted m c.in_ok-addresses.addresses.items c.as_mut_slice.result.now c.sort_unstable.new.self c.deref-lba-items.result.now c.as_mut_slice.ensures.value c.sort_unstable.ensures.permutation whole c.in_ok-addresses.ensures in
    looked_damaged (page_listed c.args.geometry.now c.args.pages.now) m c.deref-lba-items.result.now has c.loop-lba.lba-index c.loop-lba.invariant
    (rises c.sort_unstable.new.self c.deref-lba-items.result.now whole c.sort_unstable.ensures.sorted) _ c.loop-lba-test.true c.in-Some.at c.in-Some.field-0-1
    (sym c.in-Some.is ∙ c.place.ensures.place) (ap is_whole (sym c.page_at.ensures) ∙ sym c.is_whole.ensures ∙ c.if-not-is_whole.true)

pub loop-lba-preserved : goal.loop-lba-preserved
loop-lba-preserved c =
    let page = page_listed c.args.geometry.now c.args.pages.now in
    let m = c.args.map.now.entries in
    elim c.match-place.branch [
      | in-Some+else-not-is_whole w ↦
          looked_more page m c.deref-lba-items.result.now c.loop-lba.lba-index _ c.loop-lba.invariant c.loop-lba-test.true page w.in-Some.at w.in-Some.field-0-1 refl (sym w.in-Some.is ∙ c.place.ensures.place)
          (ap is_whole (sym w.page_at.ensures) ∙ sym w.is_whole.ensures ∙ w.if-not-is_whole.false)
      | in_default w ↦ looked_past page m c.deref-lba-items.result.now c.loop-lba.lba-index _ c.loop-lba.invariant c.loop-lba-test.true (sym w.in_default.is ∙ c.place.ensures.place)
    ]

pub returns : goal.returns
returns c =
    let m = c.args.map.now.entries in
    let whole = written_back c.deref-lba-items.result.now c.sort_unstable.new.self _ _ c.deref-lba-items.ensures.value (omega (arith, c.sort_unstable.ensures.len, ap length c.as_mut_slice.ensures.value, c.in_ok-addresses.addresses.ok.0)) in
    let has = has_sorted m c.in_ok-addresses.addresses.items c.as_mut_slice.result.now c.sort_unstable.new.self c.deref-lba-items.result.now c.as_mut_slice.ensures.value c.sort_unstable.ensures.permutation whole c.in_ok-addresses.ensures in
    looked_all (page_listed c.args.geometry.now c.args.pages.now) m c.deref-lba-items.result.now has c.loop-lba.lba-index c.loop-lba.invariant c.loop-lba-test.false
