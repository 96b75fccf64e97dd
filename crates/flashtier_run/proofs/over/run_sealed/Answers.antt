use Rattle.std.proofs.Common.{◌≡◌, rules, sym}
use Rattle.sealed_media.specs.Sealed.{sealed_state}
use Rattle.flashtier_run.specs.Runs.{Runs}
use Rattle.flashtier_run.proofs.RunsLemmas.{runs_beneath, runs_same}
use Rattle.flashtier_run.proofs.over.run_sealed.Goals as goal

pub returns : goal.returns
returns g c =
    let before = c.new-sealed.result in
    let after = c.run_over.new.rig in
    let lent = c.run_over.ensures.lent.rig_lent in
    let beneath : before.raw.now ≡ c.args.raw.now = c.new-sealed.ensures.raw in
    let same = c.new-sealed.ensures.same_raw in
    let same_raw : after.raw.ghost_name ≡ before.raw.ghost_name = cc in
    let ran : Runs c.args.parity c.args.command c.run_over.result c.args.source.now c.run_over.new.source c.args.sink.now c.run_over.new.sink before.raw.now after.raw.now
    (g.I.Source.state c.args.source.now) (g.I.Source.state c.run_over.new.source) (g.O.Sink.state c.args.sink.now) (g.O.Sink.state c.run_over.new.sink)
    (sealed_state (g.W.RawMedia.state before.raw.now) before.raw.ghost_name) (sealed_state (g.W.RawMedia.state after.raw.now) after.raw.ghost_name)
    = runs_beneath (λ s. s.raw.now) c.args.parity c.args.command c.run_over.result _ _ _ _ before after _ _ _ _ _ _ c.run_over.ensures in
    let named : Runs c.args.parity c.args.command c.run_over.result c.args.source.now c.run_over.new.source c.args.sink.now c.run_over.new.sink before.raw.now after.raw.now
    (g.I.Source.state c.args.source.now) (g.I.Source.state c.run_over.new.source) (g.O.Sink.state c.args.sink.now) (g.O.Sink.state c.run_over.new.sink)
    (sealed_state (g.W.RawMedia.state before.raw.now) before.raw.ghost_name) (sealed_state (g.W.RawMedia.state after.raw.now) before.raw.ghost_name)
    = rw same_raw at ran in
    (before.raw.ghost_name, runs_same (λ w. sealed_state (g.W.RawMedia.state w) before.raw.ghost_name) c.args.parity c.args.command c.run_over.result _ _ _ _ before.raw.now after.raw.now _ _ _ _ _ _ (sym beneath) (search (rules, same, same_raw)) named)
