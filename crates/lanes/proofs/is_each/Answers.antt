use Rattle.std.proofs.lemmas.List.{take_rest}
use Rattle.lanes.proofs.EachLemmas.{IsEach_by_rest}
use Rattle.lanes.proofs.is_each.Goals as goal

pub returns : goal.returns
returns c =
    let rest = rw (take_rest c.args.bytes.now c.vectors_of-done.result) at c.is_each.ensures in
    IsEach_by_rest c.args.byte c.args.bytes.now c.vectors_of-done.result c.is_each.result c.vectors_of-done.ensures.each rest
