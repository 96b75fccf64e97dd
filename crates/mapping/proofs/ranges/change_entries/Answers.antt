use Rattle.std.proofs.Common.{ap, sym, subst, ◌∙◌}
use Rattle.ft_base.specs.declared.geometry.Geometry.{Geometry}
use Rattle.cache_model.specs.Records.{after}
use Rattle.mapping.specs.MappedPages.{NamesPage}
use Rattle.mapping.proofs.StepLemmas.{names_page}
use Rattle.mapping.proofs.RangeLemmas.{around}
use Rattle.mapping.proofs.ranges.change_entries.Goals as goal

pub step-requires-clause-page : goal.step-requires-clause-page
step-requires-clause-page c = subst (λ (g : Geometry). NamesPage g c.args.change.now) (sym c.requires.geometry) (names_page c.args.geometry.now c.args.held.now.entries c.args.change.now c.requires.fits)

pub enter_all-requires-clause-index : goal.enter_all-requires-clause-index
enter_all-requires-clause-index c = around c.args.geometry.now c.args.change.now c.args.held.now.entries c.step.new.held.entries _ _ c.leave_all.new.index c.requires.span.first c.requires.span.count
    (c.step.ensures.entries ∙ ap (λ (g : Geometry). after g c.args.change.now c.args.held.now.entries) c.requires.geometry) c.leave_all.ensures

pub leave_all-requires-clause-span : goal.leave_all-requires-clause-span
leave_all-requires-clause-span c = c.requires.span.inside

pub enter_all-requires-clause-span : goal.enter_all-requires-clause-span
enter_all-requires-clause-span c = c.requires.span.inside

pub enter_all-requires-clause-geometry : goal.enter_all-requires-clause-geometry
enter_all-requires-clause-geometry c = c.step.ensures.tables.geometry ∙ c.requires.geometry

pub enter_all-requires-clause-block : goal.enter_all-requires-clause-block
enter_all-requires-clause-block c = record { some = c.block_of-now.ensures.some; none = c.block_of-now.ensures.none }

pub returns-clause-block : goal.returns-clause-block
returns-clause-block c = record { some = c.block_of-now.ensures.some; none = c.block_of-now.ensures.none }
