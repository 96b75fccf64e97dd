use Rattle.std.proofs.Common.{◌+◌, sym, ◌∙◌, ap, arith}
use Rattle.cache_model.specs.declared.format.PageKind.TheVariants.{Map}
use Rattle.cache_model.specs.Loading.{is_page, sealed_from}
use Rattle.op_log.specs.declared.stamp.Stamp.{Stamp}
use Rattle.op_log.specs.Stamps.{named}
use Rattle.checkpoint.proofs.WalkLemmas.{walk_on, walk_no_map}
use Rattle.checkpoint.proofs.walk.after_records.Goals as goal

pub returns-then-not-is_map_page : goal.returns-then-not-is_map_page
returns-then-not-is_map_page c = λ page head rest.
    let other = sym (sym c.if-not-is_map_page.true ∙ c.is_map_page.ensures) in
    walk_no_map c.args.sequence c.args.walk.records rest c.args.walk.stamp c.of.result page c.args.header.now c.of.ensures head
    (ap (λ (e : Stamp). is_page Map (named e) c.args.sequence c.args.header.now) (sym c.unwrap_or-stamp.ensures) ∙ other)

pub returns : goal.returns
returns c = λ page head. (
  omega (arith, c.requires.few),
  λ rest.
      let own = sym (sym c.if-not-is_map_page.false ∙ c.is_map_page.ensures) in
      walk_on c.args.sequence c.args.walk.records rest c.args.walk.stamp c.of.result page c.args.header.now c.of.ensures head
      (ap (λ (e : Stamp). is_page Map (named e) c.args.sequence c.args.header.now) (sym c.unwrap_or-stamp.ensures) ∙ own)
      ∙ ap (λ (e : Stamp). sealed_from (named e) (c.args.sequence + 1) (c.args.walk.records + c.args.header.now.count) rest) (sym c.unwrap_or-stamp.ensures),
)
