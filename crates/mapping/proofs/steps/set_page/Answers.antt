use Rattle.std.proofs.Common.{ap, sym, subst, ◌∙◌, ◌<◌}
use Rattle.ft_base.specs.declared.geometry.Geometry.{Geometry}
use Rattle.cache_model.specs.Records.{after}
use Rattle.ft_base.specs.declared.record.Record.TheVariants.{SetPage}
use Rattle.std.specs.FinMap.{get}
use Rattle.mapping.proofs.StepLemmas.{page_absent, page_anew}
use Rattle.mapping.proofs.steps.set_page.Goals as goal

pub put_page-requires-clause-absent : goal.put_page-requires-clause-absent
put_page-requires-clause-absent c = ap (λ m. get m c.args.lba) c.remove.ensures.entries ∙ page_absent c.args.held.now.geometry c.args.held.now.entries c.args.lba

pub put_page-requires-clause-page : goal.put_page-requires-clause-page
put_page-requires-clause-page c = subst (λ (g : Geometry). c.args.place.page < g.p) (sym c.remove.ensures.room.tables.geometry) c.requires.page

pub returns-clause-entries : goal.returns-clause-entries
returns-clause-entries c =
    c.put_page.ensures.entries ∙ ap (λ g. after g (SetPage c.args.lba c.args.place c.args.dirty) c.remove.new.self.entries) c.remove.ensures.room.tables.geometry
    ∙ ap (after c.args.held.now.geometry (SetPage c.args.lba c.args.place c.args.dirty)) c.remove.ensures.entries ∙ page_anew c.args.held.now.geometry c.args.held.now.entries c.args.lba c.args.place c.args.dirty
