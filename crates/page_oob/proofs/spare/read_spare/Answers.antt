use Rattle.std.proofs.Common.{sym, ap, refl, option_map}
use Rattle.page_oob.specs.Parts.{parts}
use Rattle.page_oob.proofs.SpareLemmas.{not_same, not_good, found, outside}
use Rattle.page_oob.proofs.spare.read_spare.Goals as goal

pub returns-then-not-same-clause-value : goal.returns-then-not-same-clause-value
returns-then-not-same-clause-value c =
    sym (ap (λ o. option_map parts o) (not_same c.args.spare.now.0 c.spelled.result c.kind_of-kind.result _ c.number_at-address.result c.eq-same.result
    (record { kind_is = c.kind_of-kind.ensures; era_is = refl; address_is = c.number_at-address.ensures }) c.spelled.ensures c.eq-same.ensures c.if-not-same.true))

pub returns-then-not-same-clause-grammar : goal.returns-then-not-same-clause-grammar
returns-then-not-same-clause-grammar c =
    outside c.args.spare.now.0 (not_same c.args.spare.now.0 c.spelled.result c.kind_of-kind.result _ c.number_at-address.result c.eq-same.result
    (record { kind_is = c.kind_of-kind.ensures; era_is = refl; address_is = c.number_at-address.ensures }) c.spelled.ensures c.eq-same.ensures c.if-not-same.true)

pub returns-then-not-suits-clause-value : goal.returns-then-not-suits-clause-value
returns-then-not-suits-clause-value c =
    sym (ap (λ o. option_map parts o) (not_good c.args.spare.now.0 c.spelled.result c.kind_of-kind.result _ c.number_at-address.result c.eq-same.result c.suits.result
    (record { kind_is = c.kind_of-kind.ensures; era_is = refl; address_is = c.number_at-address.ensures })
    c.spelled.ensures c.eq-same.ensures c.if-not-same.false c.suits.ensures c.if-not-suits.true))

pub returns-then-not-suits-clause-grammar : goal.returns-then-not-suits-clause-grammar
returns-then-not-suits-clause-grammar c =
    outside c.args.spare.now.0 (not_good c.args.spare.now.0 c.spelled.result c.kind_of-kind.result _ c.number_at-address.result c.eq-same.result c.suits.result
    (record { kind_is = c.kind_of-kind.ensures; era_is = refl; address_is = c.number_at-address.ensures })
    c.spelled.ensures c.eq-same.ensures c.if-not-same.false c.suits.ensures c.if-not-suits.true)

pub returns-clause-value : goal.returns-clause-value
returns-clause-value c =
    sym (ap (λ o. option_map parts o) (found c.args.spare.now.0 c.spelled.result c.kind_of-kind.result _ c.number_at-address.result c.eq-same.result c.suits.result
    (record { kind_is = c.kind_of-kind.ensures; era_is = refl; address_is = c.number_at-address.ensures })
    c.spelled.ensures c.eq-same.ensures c.if-not-same.false c.suits.ensures c.if-not-suits.false))
