use Rattle.std.proofs.Common.{nat_eq, sym, ap, ◌∙◌}
use Rattle.std.proofs.lemmas.Bool.{ne_eqb, or_from}
use Rattle.std.proofs.lemmas.List.Folds.{list_any_more}
use Rattle.std.proofs.lemmas.Option.{get_or_from_slice_get, slice_get_within}
use Rattle.test_parts.proofs.appended.is_in_use.Goals as goal

pub loop-i-preserved : goal.loop-i-preserved
loop-i-preserved c =
    let used = c.args.logs.now.used in
    let block = c.args.block in
    let i = c.loop-i.i in
    let one = c.nth.result in
    let at = sym c.nth.ensures.nth in
    list_any_more (nat_eq block) used i one (slice_get_within used i one at)
    ∙ or_from _ _ c.loop-i.invariant (ap (nat_eq block) (get_or_from_slice_get used i one one at) ∙ ne_eqb block one (λ same. c.if-nth-block.false (sym same)))
