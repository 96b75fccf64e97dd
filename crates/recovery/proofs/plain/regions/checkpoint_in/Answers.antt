use Rattle.std.proofs.Common.{sym, ◌∙◌, ap}
use Rattle.std.specs.Option.{option_map}
use Rattle.recovery.specs.Plain.{page_listed, complete_of, named}
use Rattle.recovery.proofs.PlainLemmas.{stamp_none, stamp_some}
use Rattle.recovery.proofs.plain.regions.checkpoint_in.Goals as goal

pub returns-in_err-stamp : goal.returns-in_err-stamp
returns-in_err-stamp c =
    let g = c.args.geometry.now in
    ap (option_map complete_of) c.from_residual.ensures ∙ stamp_none g (page_listed g c.args.pages.now) c.args.region c.checkpoint_at.result c.page_at-first.result c.checkpoint_at.ensures c.page_at-first.ensures (ap (option_map named) (sym c.in_err-stamp.was) ∙ c.stamp_in.ensures)

pub returns : goal.returns
returns c =
    let g = c.args.geometry.now in
    stamp_some g (page_listed g c.args.pages.now) c.args.region c.checkpoint_at.result c.page_at-first.result (named c.in_ok-stamp.stamp) (option_map complete_of c.sealed_from.result) c.checkpoint_at.ensures c.page_at-first.ensures
    (ap (option_map named) (sym c.in_ok-stamp.was) ∙ c.stamp_in.ensures) c.sealed_from.ensures
