use Rattle.std.proofs.Common.{◌/◌, arith, rules}
use Rattle.many_disks.specs.Script.{coded}
use Rattle.many_disks.proofs.ScriptLemmas.{came_first, share_within, some_share}
use Rattle.many_disks.proofs.TallyLemmas.{count_more}
use Rattle.many_disks.proofs.script.ManyScript.new.Goals as goal

pub invariant_of-result : goal.invariant_of-result
invariant_of-result g c = record {
  sized = search rules;
  some = some_share c.args.size c.args.disks c.requires.some c.requires.shared;
  few = c.requires.few;
  within = share_within c.args.size c.args.disks;
  choice = omega arith;
  counted = count_more 0 c.new.result.bytes c.new-2.result.each (omega arith) c.new-2.ensures.few;
}

pub returns-clause-came : goal.returns-clause-came
returns-clause-came g c =
    let share = c.args.size / c.args.disks in
    let a = g.I.Source.state c.args.source.now in
    came_first share c.args.disks c.new.result c.new-2.result.each a (g.O.Sink.state c.args.sink.now) c.new.ensures.size (c.new.ensures.came (coded c.args.disks) a) (c.new-2.ensures.none share)
