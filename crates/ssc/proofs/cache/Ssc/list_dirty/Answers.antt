use Rattle.std.proofs.Common.{◌∙◌, length, take, ap, arith}
use Rattle.ssc.proofs.ListedLemmas.{listed_all, listed_front, listed_more, listed_none}
use Rattle.ssc.proofs.cache.Ssc.list_dirty.Goals as goal

pub loop-i-init : goal.loop-i-init
loop-i-init c = let map = c.args.self.now.parts.map in listed_none map.geometry map.entries c.args.from c.args.end c.args.out.now.items

pub loop-i-preserved : goal.loop-i-preserved
loop-i-preserved c =
    let map = c.args.self.now.parts.map in
    listed_more map.geometry map.entries c.args.from c.args.end c.loop-i.i c.args.out.now.items c.loop-i.out.items c.list_number.new.out.items c.numbers-i-end.ensures.is_map c.loop-i.invariant c.in_ok-list_number.ensures.done

pub returns-in_err-list_number-clause-front : goal.returns-in_err-list_number-clause-front
returns-in_err-list_number-clause-front c =
    let map = c.args.self.now.parts.map in
    ap (take (length c.args.out.now.items)) c.in_err-list_number.ensures.refused ∙ listed_front map.geometry map.entries c.args.from c.args.end c.loop-i.i c.args.out.now.items c.loop-i.out.items c.loop-i.invariant

pub returns-clause-done : goal.returns-clause-done
returns-clause-done c =
    let map = c.args.self.now.parts.map in
    listed_all map.geometry map.entries c.args.from c.args.end c.loop-i.i c.args.out.now.items c.loop-i.out.items (λ a e is. let low = c.numbers-i-end.ensures.each a e is in let past = c.loop-i-test.false in omega arith) c.loop-i.invariant

pub returns-clause-front : goal.returns-clause-front
returns-clause-front c =
    let map = c.args.self.now.parts.map in
    listed_front map.geometry map.entries c.args.from c.args.end c.loop-i.i c.args.out.now.items c.loop-i.out.items c.loop-i.invariant
