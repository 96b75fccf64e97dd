use Rattle.std.proofs.Common.{ℕ, refl, sym, ◌∙◌, ap}
use Rattle.std.specs.Option.{option_map}
use Rattle.std.specs.FinMap.{entries}
use Rattle.cache_model.specs.Loading.{Complete, replayed, all_whole}
use Rattle.recovery.specs.Plain.{page_listed, complete_in, complete_of}
use Rattle.recovery.proofs.WalkLemmas.{maps_within}
use Rattle.recovery.proofs.LoadLemmas.{places_whole}
use Rattle.recovery.proofs.PlainLemmas.{never_sealed, region_below, other_numbers, found_is, replay_damaged, place_damaged, is_damaged, is_applied}
use Rattle.recovery.proofs.plain.plain_load.Goals as goal

pub returns-in_default : goal.returns-in_default
returns-in_default c =
    let g = c.args.geometry.now in
    never_sealed g (page_listed g c.args.pages.now) (ap (option_map complete_in) (sym c.in_default.is) ∙ c.newest.ensures)

pub returns-then-not-is_wanted : goal.returns-then-not-is_wanted
returns-then-not-is_wanted c =
    let g = c.args.geometry.now in
    let found : ℕ × Complete = (c.in-Some.region, complete_of c.in-Some.sealed) in
    other_numbers g (page_listed g c.args.pages.now) found (ap (option_map complete_in) (sym c.in-Some.is) ∙ c.newest.ensures) (sym c.is_wanted.ensures ∙ c.if-not-is_wanted.true)

pub replay-requires-clause-region : goal.replay-requires-clause-region
replay-requires-clause-region c =
    region_below c.args.geometry.now (page_listed c.args.geometry.now c.args.pages.now) (c.in-Some.region, complete_of c.in-Some.sealed)
    (ap (option_map complete_in) (sym c.in-Some.is) ∙ c.newest.ensures)

pub replay-requires-clause-pages : goal.replay-requires-clause-pages
replay-requires-clause-pages c =
    let g = c.args.geometry.now in
    let page = page_listed g c.args.pages.now in
    let found : ℕ × Complete = (c.in-Some.region, complete_of c.in-Some.sealed) in
    maps_within g page found (found_is g page found (ap (option_map complete_in) (sym c.in-Some.is) ∙ c.newest.ensures) (sym c.is_wanted.ensures ∙ c.if-not-is_wanted.false))

pub returns-in-Some-2 : goal.returns-in-Some-2
returns-in-Some-2 c =
    let g = c.args.geometry.now in
    let page = page_listed g c.args.pages.now in
    let found : ℕ × Complete = (c.in-Some.region, complete_of c.in-Some.sealed) in
    let there = found_is g page found (ap (option_map complete_in) (sym c.in-Some.is) ∙ c.newest.ensures) (sym c.is_wanted.ensures ∙ c.if-not-is_wanted.false) in
    replay_damaged g page found there c.in-Some-2.at (is_damaged c.in_ok-at.field-0 (replayed g page found) c.replay.new.map.entries c.in-Some-2.at c.in-Some-2.is c.in_ok-at.ensures.replayed)

pub returns-in-Some-3 : goal.returns-in-Some-3
returns-in-Some-3 c =
    let g = c.args.geometry.now in
    let page = page_listed g c.args.pages.now in
    let found : ℕ × Complete = (c.in-Some.region, complete_of c.in-Some.sealed) in
    let there = found_is g page found (ap (option_map complete_in) (sym c.in-Some.is) ∙ c.newest.ensures) (sym c.is_wanted.ensures ∙ c.if-not-is_wanted.false) in
    let m = c.replay.new.map.entries in
    place_damaged g page found there m c.in-Some-3.at (is_applied c.in_ok-at.field-0 (replayed g page found) m c.in_default-2.is c.in_ok-at.ensures.replayed)
    (is_damaged c.in_ok-at-2.field-0 (all_whole page (entries m) m) m c.in-Some-3.at c.in-Some-3.is c.in_ok-at-2.ensures)

pub returns : goal.returns
returns c =
    let g = c.args.geometry.now in
    let page = page_listed g c.args.pages.now in
    let found : ℕ × Complete = (c.in-Some.region, complete_of c.in-Some.sealed) in
    let there = found_is g page found (ap (option_map complete_in) (sym c.in-Some.is) ∙ c.newest.ensures) (sym c.is_wanted.ensures ∙ c.if-not-is_wanted.false) in
    let m = c.replay.new.map.entries in (
      places_whole g page found there page refl m (is_applied c.in_ok-at.field-0 (replayed g page found) m c.in_default-2.is c.in_ok-at.ensures.replayed) page refl
          (is_applied c.in_ok-at-2.field-0 (all_whole page (entries m) m) m c.in_default-3.is c.in_ok-at-2.ensures),
      c.in_ok-at.ensures.geometry ∙ c.in_ok-map.ensures.geometry,
    )
