use Rattle.std.proofs.Common.{subst}
use Rattle.ft_base.specs.declared.geometry.Geometry.{Geometry}
use Rattle.flashtier_words.specs.Command.{IsDirty}
use Rattle.flashtier_words.specs.Matching.{value_of}
use Rattle.flashtier_words.proofs.ValueLemmas.{same_numbers}
use Rattle.flashtier_words.proofs.settings.options_of.Goals as goal

pub returns-in_err-dirty-clause-none : goal.returns-in_err-dirty-clause-none
returns-in_err-dirty-clause-none c =
    let value = value_of c.args.matches.now in
    let geometry = c.in_ok-geometry.geometry in
    rw c.from_residual-in_err-dirty.ensures (λ g dirty numbers is.
    c.in_err-dirty.ensures.none dirty (subst (λ (h : Geometry). IsDirty value h.c dirty) (same_numbers value g geometry numbers c.in_ok-geometry.ensures.some) is))
