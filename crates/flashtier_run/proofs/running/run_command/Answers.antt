use Rattle.std.proofs.Common.{inl, inr, refl}
use Rattle.flashtier_words.specs.declared.command.Command.TheVariants.{Replay, Cost, Gen, Inspect, Sweep}
use Rattle.flashtier_run.proofs.SetupLemmas.{by_setup}
use Rattle.flashtier_run.proofs.StatusLemmas.{runs_made, runs_read, runs_swept, unbegun_source}
use Rattle.flashtier_run.proofs.running.run_command.Goals as goal

pub returns-in-Replay : goal.returns-in-Replay
returns-in-Replay g c =
    let run = c.replay_over.ensures in
    let is = by_setup (λ m o. Replay m o c.in-Replay.form c.in-Replay.disks) (λ m o. refl) c.in-Replay.is c.setup_of-setup.ensures in
    rw is (runs_read (Replay _ _ _ _) c.replay_over.result _ c.status_of.ensures _ _ _ _ _ _ _ _ _ _ _ _ (λ made. made) (elim run.ends [ inl none ↦ inl (tt, none) | inr ends ↦ inr ends ]) run.end run.causes (λ other. inl (run.on other)) run.lent)

pub returns-in-Cost : goal.returns-in-Cost
returns-in-Cost g c =
    let run = c.cost_spelled.ensures in
    let is = by_setup (λ m o. Cost m o c.in-Cost.form) (λ m o. refl) c.in-Cost.is c.setup_of-setup.ensures in
    rw is (runs_read (Cost _ _ _) c.cost_spelled.result _ c.status_of-in-Cost.ensures _ _ _ _ _ _ _ _ _ _ _ _ (λ made. made) (elim run.ends [ inl none ↦ inl (tt, none) | inr ends ↦ inr ends ]) run.end run.causes (λ other. inl (run.on other)) run.lent)

pub returns-in-Gen : goal.returns-in-Gen
returns-in-Gen g c =
    let run = c.gen_with.ensures in
    let is = by_setup (λ m o. Gen m o c.in-Gen.number c.in-Gen.count) (λ m o. refl) c.in-Gen.is c.setup_of-setup.ensures in
    rw is (runs_made (Gen _ _ _ _) c.gen_with.result _ c.status_of-in-Gen.ensures _ _ _ _ _ _ _ _ _ _ _ _ (λ read. read) refl refl (elim run.ends [ inl none ↦ inl (tt, unbegun_source none) | inr ends ↦ inr ends ]) run.causes run.on (record { source_lent = refl; sink_lent = run.lent.sink_lent; rig_lent = run.lent.rig_lent }))

pub returns-in-Inspect : goal.returns-in-Inspect
returns-in-Inspect g c =
    let run = c.inspect_with.ensures in
    let is = by_setup (λ m o. Inspect m o) (λ m o. refl) c.in-Inspect.is c.setup_of-setup.ensures in
    rw is (runs_read (Inspect _ _) c.inspect_with.result _ c.status_of-in-Inspect.ensures _ _ _ _ _ _ _ _ _ _ _ _ (λ made. made) (elim run.ends [ inl none ↦ inl (tt, none) | inr ends ↦ inr ends ]) run.end run.causes (λ other. inl (run.on other)) run.lent)

pub returns-in-Sweep : goal.returns-in-Sweep
returns-in-Sweep g c =
    let run = c.sweep_with.ensures in
    let is = by_setup (λ m o. Sweep m o c.in-Sweep.outcome) (λ m o. refl) c.in-Sweep.is c.setup_of-setup.ensures in
    rw is (runs_swept (Sweep _ _ _) c.sweep_with.result _ c.status_of-in-Sweep.ensures _ _ _ _ _ _ _ _ _ _ _ _ tt (λ made. made) (inr run.ends) run.end run.causes (λ other. elim (run.on other) [ inl same ↦ inr (tt, same) | inr on ↦ inl on ]) run.lent)
