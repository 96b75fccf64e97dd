use Rattle.std.proofs.lemmas.Result.{on_ok_weaker}
use Rattle.trace_replay.specs.Events.{lines_given, touched_in}
use Rattle.many_disks.proofs.ScriptLemmas.{came_touched}
use Rattle.many_disks.proofs.script.ManyScriptScript.touched.Goals as goal

pub invariant_of-self : goal.invariant_of-self
invariant_of-self g c =
    let self = c.args.self.now in
    record {
      sized = self.sized;
      some = self.some;
      few = self.few;
      within = self.within;
      choice = self.choice;
      counted = c.take.ensures.few self.reader.bytes self.counted;
    }

pub returns-clause-told : goal.returns-clause-told
returns-clause-told g c = on_ok_weaker c.take.result (λ taken s b e came.
    came_touched _ _ _ _ _ _ _ s b e came c.args.lba c.args.block.now c.take.new.self.each (taken (lines_given e) (touched_in e) came.tally)) c.take.ensures.taken
