use Rattle.std.proofs.Common.{refl, ap, sym, subst, arith}
use Rattle.std.proofs.lemmas.Result.{IfErr-weaker, IfOk-weaker, on_ok_weaker}
use Rattle.trace_model.specs.declared.line.Line.TheVariants as line
use Rattle.trace_model.specs.Run.{disk_without}
use Rattle.trace_replay.proofs.OwingEndLemmas.{cut_spends, on_ok_any, owing_spends, owing_within, owing_write}
use Rattle.ft_base.specs.Contents.{Contents}
use Rattle.ft_media.specs.State.{State}
use Rattle.trace_replay.specs.Owing.{BecameOwing, StandForLater}
use Rattle.trace_replay.proofs.LaterLemmas.{line_became}
use Rattle.trace_replay.proofs.OwingLemmas.{older_owing, owing_plus}
use Rattle.trace_replay.proofs.WithinLemmas.{read_backs_some}
use Rattle.trace_replay.proofs.later_lines.call_line.Goals as goal

pub returns-in-Write-clause-leaves : goal.returns-in-Write-clause-leaves
returns-in-Write-clause-leaves g c = rw c.in-Write.is c.write_later.ensures.leaves

pub returns-in-Write-clause-runs : goal.returns-in-Write-clause-runs
returns-in-Write-clause-runs g c = rw c.in-Write.is c.write_later.ensures.runs

pub returns-in-Write-clause-gathered : goal.returns-in-Write-clause-gathered
returns-in-Write-clause-gathered g c = rw c.in-Write.is (IfOk-weaker c.write_later.result _ _ (λ s _ run o stops. tt) c.write_later.ensures.leaves.became)

pub returns-in-Write-clause-said : goal.returns-in-Write-clause-said
returns-in-Write-clause-said g c = IfOk-weaker c.write_later.result _ _ (λ s went. went.said) c.write_later.ensures.went.done

pub returns-in-Write-clause-spends : goal.returns-in-Write-clause-spends
returns-in-Write-clause-spends g c = rw c.in-Write.is (owing_spends (line.Write c.in-Write.lba c.in-Write.count c.in-Write.tag) _ _ _ _ c.write_later.result c.write_later.ensures.spends)

pub returns-in-Write-clause-ends : goal.returns-in-Write-clause-ends
returns-in-Write-clause-ends g c = rw c.in-Write.is (IfErr-weaker c.write_later.result _ _ (λ e ends run. owing_write g.P.Script.state g.P.Script.came g.P.Script.broke g.P.Script.knows e _ _ _ _ c.in-Write.lba c.in-Write.count c.in-Write.tag run ends) c.write_later.ensures.went.ended)

pub returns-in-Write-clause-told : goal.returns-in-Write-clause-told
returns-in-Write-clause-told g c = on_ok_any c.write_later.result _ (λ lba count is. absurd (let here = c.in-Write.is in cc))

pub returns-in-Read-clause-leaves : goal.returns-in-Read-clause-leaves
returns-in-Read-clause-leaves g c = rw c.in-Read.is c.read_later.ensures.leaves

pub returns-in-Read-clause-runs : goal.returns-in-Read-clause-runs
returns-in-Read-clause-runs g c = rw c.in-Read.is c.read_later.ensures.runs

pub returns-in-Read-clause-gathered : goal.returns-in-Read-clause-gathered
returns-in-Read-clause-gathered g c = rw c.in-Read.is c.read_later.ensures.found

pub returns-in-Read-clause-said : goal.returns-in-Read-clause-said
returns-in-Read-clause-said g c = IfOk-weaker c.read_later.result _ _ (λ s went. went.said) c.read_later.ensures.went.done

pub returns-in-Read-clause-spends : goal.returns-in-Read-clause-spends
returns-in-Read-clause-spends g c = rw c.in-Read.is (owing_spends (line.Read c.in-Read.lba c.in-Read.count) _ _ _ _ c.read_later.result c.read_later.ensures.spends)

pub returns-in-Read-clause-ends : goal.returns-in-Read-clause-ends
returns-in-Read-clause-ends g c = let some = (rw c.in-Read.is at c.requires.may_run.runnable).0 in rw c.in-Read.is (IfErr-weaker c.read_later.result _ _ (λ e ends run. owing_within g.P.Script.state g.P.Script.came g.P.Script.broke g.P.Script.knows e _ _ _ _ (line.Read c.in-Read.lba c.in-Read.count) run refl (λ cuts. read_backs_some c.in-Read.lba c.in-Read.count (disk_without 0 run) some) ends tt) c.read_later.ensures.went.ended)

pub returns-in-Read-clause-told : goal.returns-in-Read-clause-told
returns-in-Read-clause-told g c = on_ok_weaker c.read_later.result (λ told lba count is. told) c.read_later.ensures.told

pub returns-in-Flush-clause-leaves : goal.returns-in-Flush-clause-leaves
returns-in-Flush-clause-leaves g c = rw c.in-Flush.is c.flush_later.ensures.leaves

pub returns-in-Flush-clause-runs : goal.returns-in-Flush-clause-runs
returns-in-Flush-clause-runs g c = rw c.in-Flush.is c.flush_later.ensures.runs

pub returns-in-Flush-clause-gathered : goal.returns-in-Flush-clause-gathered
returns-in-Flush-clause-gathered g c = rw c.in-Flush.is (IfOk-weaker c.flush_later.result _ _ (λ s _ run o stops. tt) c.flush_later.ensures.leaves.became)

pub returns-in-Flush-clause-said : goal.returns-in-Flush-clause-said
returns-in-Flush-clause-said g c = IfOk-weaker c.flush_later.result _ _ (λ s went. went.said) c.flush_later.ensures.went.done

pub returns-in-Flush-clause-spends : goal.returns-in-Flush-clause-spends
returns-in-Flush-clause-spends g c = rw c.in-Flush.is (owing_spends line.Flush _ _ _ _ c.flush_later.result c.flush_later.ensures.spends)

pub returns-in-Flush-clause-ends : goal.returns-in-Flush-clause-ends
returns-in-Flush-clause-ends g c = rw c.in-Flush.is (IfErr-weaker c.flush_later.result _ _ (λ e ends run. owing_within g.P.Script.state g.P.Script.came g.P.Script.broke g.P.Script.knows e _ _ _ _ line.Flush run refl (λ cuts none. cc) ends tt) c.flush_later.ensures.went.ended)

pub returns-in-Flush-clause-told : goal.returns-in-Flush-clause-told
returns-in-Flush-clause-told g c = on_ok_any c.flush_later.result _ (λ lba count is. absurd (let here = c.in-Flush.is in cc))

pub returns-in-Idle-clause-leaves : goal.returns-in-Idle-clause-leaves
returns-in-Idle-clause-leaves g c = rw c.in-Idle.is c.idle_later.ensures.leaves

pub returns-in-Idle-clause-runs : goal.returns-in-Idle-clause-runs
returns-in-Idle-clause-runs g c = rw c.in-Idle.is c.idle_later.ensures.runs

pub returns-in-Idle-clause-gathered : goal.returns-in-Idle-clause-gathered
returns-in-Idle-clause-gathered g c = rw c.in-Idle.is (IfOk-weaker c.idle_later.result _ _ (λ s _ run o stops. tt) c.idle_later.ensures.leaves.became)

pub returns-in-Idle-clause-said : goal.returns-in-Idle-clause-said
returns-in-Idle-clause-said g c = IfOk-weaker c.idle_later.result _ _ (λ s went. went.said) c.idle_later.ensures.went.done

pub returns-in-Idle-clause-spends : goal.returns-in-Idle-clause-spends
returns-in-Idle-clause-spends g c = rw c.in-Idle.is (owing_spends line.Idle _ _ _ _ c.idle_later.result c.idle_later.ensures.spends)

pub returns-in-Idle-clause-ends : goal.returns-in-Idle-clause-ends
returns-in-Idle-clause-ends g c = rw c.in-Idle.is (IfErr-weaker c.idle_later.result _ _ (λ e ends run. owing_within g.P.Script.state g.P.Script.came g.P.Script.broke g.P.Script.knows e _ _ _ _ line.Idle run refl (λ cuts none. cc) ends (λ at_write. absurd (cc))) c.idle_later.ensures.went.ended)

pub returns-in-Idle-clause-told : goal.returns-in-Idle-clause-told
returns-in-Idle-clause-told g c = on_ok_any c.idle_later.result _ (λ lba count is. absurd (let here = c.in-Idle.is in cc))

pub returns-in-Cut-clause-leaves : goal.returns-in-Cut-clause-leaves
returns-in-Cut-clause-leaves g c = rw c.in-Cut.is c.cut_later.ensures.leaves

pub returns-in-Cut-clause-runs : goal.returns-in-Cut-clause-runs
returns-in-Cut-clause-runs g c = rw c.in-Cut.is c.cut_later.ensures.runs

pub returns-in-Cut-clause-gathered : goal.returns-in-Cut-clause-gathered
returns-in-Cut-clause-gathered g c = rw c.in-Cut.is (IfOk-weaker c.cut_later.result _ _ (λ s _ run o stops. tt) c.cut_later.ensures.leaves.became)

pub returns-in-Cut-clause-spends : goal.returns-in-Cut-clause-spends
returns-in-Cut-clause-spends g c = rw c.in-Cut.is (cut_spends c.in-Cut.outcome _ _ _ _ c.cut_later.result)

pub returns-in-Cut-clause-ends : goal.returns-in-Cut-clause-ends
returns-in-Cut-clause-ends g c = rw c.in-Cut.is (IfErr-weaker c.cut_later.result _ _ (λ e ends run. owing_within g.P.Script.state g.P.Script.came g.P.Script.broke g.P.Script.knows e _ _ _ _ (line.Cut c.in-Cut.outcome) run refl (λ cuts none. cc) ends (λ at_write. absurd (cc))) c.cut_later.ensures.ended)

pub returns-in-Cut-clause-told : goal.returns-in-Cut-clause-told
returns-in-Cut-clause-told g c = on_ok_any c.cut_later.result _ (λ lba count is. absurd (let here = c.in-Cut.is in cc))

pub returns-in-Stop-clause-leaves : goal.returns-in-Stop-clause-leaves
returns-in-Stop-clause-leaves g c =
    let owes = g.V.Volume.owes c.args.volume.now in
    let stands = g.V.Volume.stands (g.V.Volume.state c.args.volume.now).told in
    let old = (g.R.Media.state c.args.rig.now).contents in
    let recent = c.args.work.now.recent in
    let stop = line.Stop c.in-Stop.after c.in-Stop.outcome in
    let same = sym (ap (λ (s : State). s.contents) c.arm.ensures.same) in
    rw c.in-Stop.is (record {
      owner = (subst (λ (k : Contents). g.V.Volume.owns c.args.volume.now k) same c.requires.may.owns, refl);
      became = λ run o stops. subst (λ (k : Contents). BecameOwing (owes k) stands k recent stop 0 0 0 run) same
          (line_became (owes old) stands old run recent o.older o.all o.few o.since stop recent refl (λ k ws. refl) (omega arith) refl o.owing);
      images = λ run o. subst (λ (k : Contents). StandForLater stands k recent stop run) same (older_owing _ stands _ _ _ (owing_plus _ _ _ _ _ o.owing));
      recent = c.requires.may.recent;
    })

pub returns-in-Nothing-clause-leaves : goal.returns-in-Nothing-clause-leaves
returns-in-Nothing-clause-leaves g c =
    let owes = g.V.Volume.owes c.args.volume.now in
    let stands = g.V.Volume.stands (g.V.Volume.state c.args.volume.now).told in
    let old = (g.R.Media.state c.args.rig.now).contents in
    let recent = c.args.work.now.recent in
    rw c.in-Nothing.is (record {
      owner = (c.requires.may.owns, refl);
      became = λ run o stops. line_became (owes old) stands old run recent o.older o.all o.few o.since line.Nothing recent refl (λ k ws. refl) (omega arith) refl o.owing;
      images = λ run o. older_owing _ stands _ _ _ (owing_plus _ _ _ _ _ o.owing);
      recent = c.requires.may.recent;
    })
