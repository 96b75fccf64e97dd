use Rattle.std.proofs.Common.{ℕ, arith, sym, ◌∙◌}
use Rattle.cache_model.specs.Loading.{Complete}
use Rattle.recovery.specs.Plain.{page_listed, complete_of}
use Rattle.recovery.proofs.LoadLemmas.{maps_applied, miscounted}
use Rattle.recovery.proofs.PlainLemmas.{is_damaged, is_applied, maps_damaged, log_answers}
use Rattle.recovery.proofs.plain.applying.replay.Goals as goal

pub returns-in-Some-clause-replayed : goal.returns-in-Some-clause-replayed
returns-in-Some-clause-replayed c =
    let g = c.args.geometry.now in
    let page = page_listed g c.args.pages.now in
    let found : ℕ × Complete = (c.args.region, complete_of c.args.sealed.now) in
    maps_damaged g page found (omega (arith, c.requires.pages)) c.args.map.now.entries c.requires.nothing c.in-Some.at
    (is_damaged c.in_ok-at.field-0 (maps_applied g page found c.args.map.now.entries) c.apply_part.new.map.entries c.in-Some.at c.in-Some.is c.in_ok-at.ensures.applied)

pub returns-clause-replayed : goal.returns-clause-replayed
returns-clause-replayed c =
    let g = c.args.geometry.now in
    let page = page_listed g c.args.pages.now in
    let found : ℕ × Complete = (c.args.region, complete_of c.args.sealed.now) in
    log_answers g page found (omega (arith, c.requires.pages)) c.args.map.now.entries c.requires.nothing c.apply_part.new.map.entries c.apply_part-2.new.map.entries c.in_ok-damaged.damaged
    (is_applied c.in_ok-at.field-0 (maps_applied g page found c.args.map.now.entries) c.apply_part.new.map.entries c.in_default.is c.in_ok-at.ensures.applied) (sym c.are_totals.ensures ∙ c.if-not-are_totals.false) c.in_ok-damaged.ensures.applied

pub returns-then-not-are_totals-clause-replayed : goal.returns-then-not-are_totals-clause-replayed
returns-then-not-are_totals-clause-replayed c =
    let g = c.args.geometry.now in
    let page = page_listed g c.args.pages.now in
    let found : ℕ × Complete = (c.args.region, complete_of c.args.sealed.now) in
    miscounted g page found (omega (arith, c.requires.pages)) c.args.map.now.entries c.requires.nothing c.apply_part.new.map.entries
    (is_applied c.in_ok-at.field-0 (maps_applied g page found c.args.map.now.entries) c.apply_part.new.map.entries c.in_default.is c.in_ok-at.ensures.applied)
    c.checkpoint_at.result c.checkpoint_at.ensures (sym c.are_totals.ensures ∙ c.if-not-are_totals.true)
