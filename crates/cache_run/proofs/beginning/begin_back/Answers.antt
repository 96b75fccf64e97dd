use Rattle.std.proofs.Common.{refl}
use Rattle.ft_base.specs.declared.told.Mode.TheVariants.{Back}
use Rattle.write_back.specs.Left.{IsLeft, owes, state_of}
use Rattle.trace_replay.proofs.CutsLemmas.{failed_same}
use Rattle.cache_run.proofs.BeginLemmas.{begins_made, new_from}
use Rattle.cache_run.proofs.beginning.begin_back.Goals as goal

pub returns-in-Ok-create-clause-new : goal.returns-in-Ok-create-clause-new
returns-in-Ok-create-clause-new g c =
    let volume = c.in-Ok-create.volume in
    let made = c.in-Ok-create.ensures in
    new_from Back c.args.options.now (IsLeft volume) (owes volume) (state_of volume) (g.R.Media.state c.args.rig.now) (g.R.Media.state c.fit_for.new.rig) (g.R.Media.state c.create.new.rig) c.in-Ok.ensures.fitted
    made.owns made.owes made.opened made.creates.stands made.creates.ready made.creates.disk_reads made.creates.disk_writes (failed_same _ _ (made.creates.cause.none refl)) made.creates.passes

pub returns-in-Ok-create-clause-begins : goal.returns-in-Ok-create-clause-begins
returns-in-Ok-create-clause-begins g c =
    let creates = c.in-Ok-create.ensures.creates in
    begins_made c.in-Ok-create.volume c.args.options.now.geometry (g.R.Media.state c.args.rig.now) (g.R.Media.state c.fit_for.new.rig) (g.R.Media.state c.create.new.rig) c.in-Ok.ensures.fitted
    creates.disk_reads creates.disk_writes (creates.cause.none refl) creates.passes
