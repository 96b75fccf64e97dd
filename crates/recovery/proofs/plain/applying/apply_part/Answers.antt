use Rattle.std.proofs.Common.{Err, true, false, sym, ◌∙◌, ap}
use Rattle.cache_model.specs.Loading.Refusal.{Damaged as damaged}
use Rattle.recovery.specs.Plain.{page_listed, place_of, named}
use Rattle.recovery.proofs.WalkLemmas.{walk_more, walk_refused}
use Rattle.recovery.proofs.PlainLemmas.{step_answers}
use Rattle.recovery.proofs.plain.applying.apply_part.Goals as goal

pub returns-then-not-branch-clause-applied : goal.returns-then-not-branch-clause-applied
returns-then-not-branch-clause-applied c =
    let g = c.args.geometry.now in
    let part = c.args.part.now in
    let step =
    step_answers g part.kind (named part.stamp) c.loop-i.i (place_of part.kind g part.region c.loop-i.i) c.place_in-at.result (page_listed g c.args.pages.now) c.page_at-page.result c.loop-i.map.geometry c.loop-i.map.entries c.apply_page.new.map.entries c.in-Some.header c.in_ok-apply_page.field-0 false
    c.place_in-at.ensures c.page_at-page.ensures c.loop-i.invariant.geometry (sym c.in-Some.is ∙ c.header_at.ensures.value) c.in_ok-apply_page.ensures.applied c.if-not-branch.true
    in
    walk_refused g part.kind (named part.stamp) (place_of part.kind g part.region) (page_listed g c.args.pages.now) part.pages c.args.map.now.entries c.loop-i.i c.loop-i.map.entries c.loop-i-test.true c.loop-i.invariant.walked (damaged (place_of part.kind g part.region c.loop-i.i)) step
    ∙ ap (λ q. Err (damaged q)) (sym c.place_in-at.ensures)

pub loop-i-preserved : goal.loop-i-preserved
loop-i-preserved c =
    let g = c.args.geometry.now in
    let part = c.args.part.now in
    let step =
    step_answers g part.kind (named part.stamp) c.loop-i.i (place_of part.kind g part.region c.loop-i.i) c.place_in-at.result (page_listed g c.args.pages.now) c.page_at-page.result c.loop-i.map.geometry c.loop-i.map.entries c.apply_page.new.map.entries c.in-Some.header c.in_ok-apply_page.field-0 true
    c.place_in-at.ensures c.page_at-page.ensures c.loop-i.invariant.geometry (sym c.in-Some.is ∙ c.header_at.ensures.value) c.in_ok-apply_page.ensures.applied c.if-not-branch.false
    in
    record {
      geometry = c.in_ok-apply_page.ensures.geometry ∙ c.loop-i.invariant.geometry;
      walked =
          walk_more g part.kind (named part.stamp) (place_of part.kind g part.region) (page_listed g c.args.pages.now) part.pages c.args.map.now.entries c.loop-i.i c.loop-i.map.entries c.loop-i-test.true c.loop-i.invariant.walked c.apply_page.new.map.entries step;
    }
