use Rattle.std.proofs.Common.{Some, sym, ◌∙◌, ap}
use Rattle.cache_model.specs.Loading.{complete, is_seal_of}
use Rattle.op_log.specs.declared.stamp.Stamp.{Stamp}
use Rattle.op_log.specs.Stamps.{named}
use Rattle.checkpoint.proofs.WalkLemmas.{walk_sealed, walk_no_seal}
use Rattle.checkpoint.proofs.walk.after_seal.Goals as goal

pub returns-then-not-ends : goal.returns-then-not-ends
returns-then-not-ends c = λ page head is rest.
    let other = sym (sym c.if-not-ends.true ∙ c.ends.ensures c.args.seal.now c.args.totals.now) in
    walk_no_seal c.args.sequence c.args.walk.records rest c.args.walk.stamp c.of.result page c.args.header.now c.of.ensures c.args.seal.now c.args.totals.now head is
    (ap (λ (e : Stamp). is_seal_of (named e) c.args.sequence c.args.walk.records (c.args.header.now, c.args.seal.now, c.args.totals.now)) (sym c.unwrap_or-stamp.ensures) ∙ other)

pub returns : goal.returns
returns c = λ page head is rest.
    let own = sym (sym c.if-not-ends.false ∙ c.ends.ensures c.args.seal.now c.args.totals.now) in
    walk_sealed c.args.sequence c.args.walk.records rest c.args.walk.stamp c.of.result page c.args.header.now c.of.ensures c.args.seal.now c.args.totals.now head is
    (ap (λ (e : Stamp). is_seal_of (named e) c.args.sequence c.args.walk.records (c.args.header.now, c.args.seal.now, c.args.totals.now)) (sym c.unwrap_or-stamp.ensures) ∙ own)
    ∙ ap (λ (e : Stamp). Some (complete (named e) c.args.sequence (record { seal = c.args.seal.now; totals = c.args.totals.now }))) (sym c.unwrap_or-stamp.ensures)
