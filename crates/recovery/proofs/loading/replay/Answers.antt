use Rattle.std.proofs.Common.{ap, arith, rules, sym, ◌∙◌}
use Rattle.ft_base.specs.Contents.{Contents}
use Rattle.checkpoint.specs.Found.{found_in}
use Rattle.mapping.proofs.FewLemmas.{keeps_then}
use Rattle.recovery.proofs.LoadLemmas.{maps_refused, miscounted, log_refused, log_rolled}
use Rattle.recovery.proofs.loading.replay.Goals as goal

pub returns-in_err-apply_maps-clause-refused : goal.returns-in_err-apply_maps-clause-refused
returns-in_err-apply_maps-clause-refused g c =
    let refused = maps_refused c.args.geometry.now (g.M.Media.state c.args.media.now).contents.flash.page (found_in c.args.newest.now) (omega (arith, c.requires.pages)) c.args.map.now.entries c.requires.nothing c.in_err-apply_maps.field-0.0 c.in_err-apply_maps.ensures.refused in
    search rules

pub returns-in_err-roll-clause-refused : goal.returns-in_err-roll-clause-refused
returns-in_err-roll-clause-refused g c =
    let refused =
    log_refused c.args.geometry.now (g.M.Media.state c.args.media.now).contents.flash.page (found_in c.args.newest.now) (omega (arith, c.requires.pages)) c.args.map.now.entries c.requires.nothing c.apply_maps.new.map.entries c.in_ok-apply_maps.ensures.applied (sym c.has_totals.ensures ∙ c.if-not-has_totals.false)
    (g.M.Media.state c.apply_maps.new.media).contents.flash.page (ap (λ (k : Contents). k.flash.page) c.in_ok-apply_maps.ensures.reads.contents) c.in_err-roll.field-0.0 c.in_err-roll.ensures.refused
    in
    search rules

pub returns-clause-replayed : goal.returns-clause-replayed
returns-clause-replayed g c =
    log_rolled c.args.geometry.now (g.M.Media.state c.args.media.now).contents.flash.page (found_in c.args.newest.now) (omega (arith, c.requires.pages)) c.args.map.now.entries c.requires.nothing c.apply_maps.new.map.entries c.in_ok-apply_maps.ensures.applied (sym c.has_totals.ensures ∙ c.if-not-has_totals.false)
    (g.M.Media.state c.apply_maps.new.media).contents.flash.page (ap (λ (k : Contents). k.flash.page) c.in_ok-apply_maps.ensures.reads.contents) c.roll.new.map.entries c.in_ok-roll.ensures.applied

pub returns-clause-few : goal.returns-clause-few
returns-clause-few g c = keeps_then c.args.map.now c.apply_maps.new.map c.roll.new.map c.in_ok-apply_maps.ensures.few c.in_ok-roll.ensures.few

pub returns-then-not-has_totals-clause-refused : goal.returns-then-not-has_totals-clause-refused
returns-then-not-has_totals-clause-refused g c =
    miscounted c.args.geometry.now (g.M.Media.state c.args.media.now).contents.flash.page (found_in c.args.newest.now) (omega (arith, c.requires.pages)) c.args.map.now.entries c.requires.nothing c.apply_maps.new.map.entries c.in_ok-apply_maps.ensures.applied
    c.checkpoint_at-seal.result c.checkpoint_at-seal.ensures (sym c.has_totals.ensures ∙ c.if-not-has_totals.true)
