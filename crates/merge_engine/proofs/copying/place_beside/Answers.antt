use Rattle.std.proofs.Common.{◌≡◌, ◌+◌, ◌*◌, false, Some, None, sym, ◌∙◌, ap}
use Rattle.std.specs.FinMap.{get}
use Rattle.ft_base.specs.declared.block.Place.{Place}
use Rattle.mapping.specs.declared.bits.Choice.TheVariants.{Mapped}
use Rattle.mapping.specs.Bits.{is_chosen}
use Rattle.merge_engine.proofs.PlaceLemmas.{lacked_by_none, lacked_by_block, place_in_block, place_logged}
use Rattle.merge_engine.proofs.copying.place_beside.Goals.{in_default-via-in-Some+else-has, in_default-via-in_default}
use Rattle.merge_engine.proofs.copying.place_beside.Goals as goal

pub returns-in-Some : goal.returns-in-Some
returns-in-Some c =
    ap (λ b. let at : Place = record { block = b; page = c.args.page } in Some at) c.block.ensures
    ∙ place_in_block c.args.cache.now.geometry c.args.cache.now.map.entries c.args.group c.args.page c.requires.page c.args.own.now c.in-Some.block c.requires.is_map c.requires.own c.in-Some.is
    (sym c.has.ensures ∙ c.if-has.true)

pub returns-in-Some-logged_place : goal.returns-in-Some-logged_place
returns-in-Some-logged_place c =
    let parts = c.args.cache.now in
    let lacks : is_chosen Mapped (get parts.map.entries (c.args.group * parts.geometry.p + c.args.page)) ≡ false = elim c.in_default.branch [
      | in_default-via-in-Some+else-has w ↦ lacked_by_block parts.geometry parts.map.entries c.args.group c.args.page c.requires.page c.args.own.now w.in-Some.block c.requires.own w.in-Some.is (sym w.has.ensures ∙ w.if-has.false)
      | in_default-via-in_default w ↦ lacked_by_none parts.geometry parts.map.entries c.args.group c.args.page c.requires.page c.args.own.now c.requires.own w.in_default.is
    ] in
    place_logged parts.geometry parts.map.entries c.args.group c.args.page c.requires.page (Some (c.in-Some-logged_place.at, c.in-Some-logged_place.field-0-1)) c.in-Some-logged_place.ensures lacks

pub returns-in-None : goal.returns-in-None
returns-in-None c =
    let parts = c.args.cache.now in
    let lacks : is_chosen Mapped (get parts.map.entries (c.args.group * parts.geometry.p + c.args.page)) ≡ false = elim c.in_default.branch [
      | in_default-via-in-Some+else-has w ↦ lacked_by_block parts.geometry parts.map.entries c.args.group c.args.page c.requires.page c.args.own.now w.in-Some.block c.requires.own w.in-Some.is (sym w.has.ensures ∙ w.if-has.false)
      | in_default-via-in_default w ↦ lacked_by_none parts.geometry parts.map.entries c.args.group c.args.page c.requires.page c.args.own.now c.requires.own w.in_default.is
    ] in
    place_logged parts.geometry parts.map.entries c.args.group c.args.page c.requires.page None c.in-None.ensures lacks
