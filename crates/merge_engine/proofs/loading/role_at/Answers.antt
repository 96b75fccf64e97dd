use Rattle.std.proofs.Common.{◌≡◌, ◌/◌, sym, ◌∙◌, subst}
use Rattle.ft_base.specs.declared.geometry.Geometry.{Geometry}
use Rattle.mapping.specs.declared.bits.Choice.TheVariants.{Mapped}
use Rattle.mapping.specs.Bits.{chosen_of}
use Rattle.merge_engine.proofs.GroupLemmas.{data_at}
use Rattle.merge_engine.proofs.LoadedLemmas.{data_role, log_role, no_data_role}
use Rattle.merge_engine.proofs.loading.role_at.Goals as goal

pub returns-then-block : goal.returns-then-block
returns-then-block c =
    let parts = c.args.parts.now in
    let g = parts.geometry in
    data_role g parts.map.entries c.args.lba c.args.block c.in-Some.own c.requires.map (data_at parts.map.geometry g parts.map.entries _ c.in-Some.own c.requires.of_one.map c.in-Some.ensures.some) (sym c.block.ensures ∙ c.if-block.true)

pub returns-else-block : goal.returns-else-block
returns-else-block c =
    let parts = c.args.parts.now in
    let g = parts.geometry in
    log_role g parts.map.entries c.args.lba c.args.block c.in-Some.own (data_at parts.map.geometry g parts.map.entries _ c.in-Some.own c.requires.of_one.map c.in-Some.ensures.some) (λ same. c.if-block.false (c.block.ensures ∙ same))

pub returns-in_default : goal.returns-in_default
returns-in_default c = λ e is here.
    let parts = c.args.parts.now in
    no_data_role parts.geometry parts.map.entries c.args.lba (subst (λ (h : Geometry). chosen_of Mapped h parts.map.entries (c.args.lba / parts.geometry.p) ≡ 0) c.requires.of_one.map c.in_default.ensures.none) e is
