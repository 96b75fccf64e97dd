use Rattle.std.proofs.Common.{ap, ◌≡◌, subst}
use Rattle.std.proofs.lemmas.Result.{IfOk-weaker}
use Rattle.trace_replay.specs.Saying.{count_unless}
use Rattle.trace_replay.specs.Went.{GoesCut}
use Rattle.trace_replay.proofs.BackLemmas.{found_front, some_weaker}
use Rattle.trace_replay.proofs.WentLemmas.{went_on}
use Rattle.trace_replay.proofs.back.read_back.Goals as goal

pub returns-in-Some-clause-found : goal.returns-in-Some-clause-found
returns-in-Some-clause-found g c =
    IfOk-weaker c.read_recent.result _ _ (λ o. some_weaker o _ _ (λ found told d stood.
    told d (c.kept_once.ensures.leaves.kept d stood) (found_front c.args.request.lba c.args.request.count c.args.request.tag c.in-Some.kept d ((rw c.in-Some.is at c.in_ok-front.ensures.found) d stood)))) c.read_recent.ensures.found

pub returns-in-Some-clause-went : goal.returns-in-Some-clause-went
returns-in-Some-clause-went g c =
    let none : count_unless c.in_ok-front.front ≡ 0 = ap count_unless c.in-Some.is in
    went_on g.P.Script.state g.P.Script.came g.P.Script.broke g.P.Script.knows count_unless 0 _ _ _ _ _ _ c.read_recent.result
    (subst (λ n. GoesCut g.P.Script.state g.P.Script.came g.P.Script.broke g.P.Script.knows n 0 c.args.script.now c.kept_once.new.script (g.R.Media.state c.args.rig.now) (g.R.Media.state c.kept_once.new.rig)) none c.in_ok-front.ensures.went.done)
    c.read_recent.ensures.went
