use Rattle.std.proofs.lemmas.Bool.{false≢true}
use Rattle.ssc.proofs.ListedLemmas.{not_dirty, not_high, not_low}
use Rattle.ssc.proofs.cache.Ssc.dirty_nth.Goals as goal

pub returns-then-lba-from : goal.returns-then-lba-from
returns-then-lba-from c =
    let map = c.args.self.now.parts.map in
    not_low map.geometry map.entries c.in_ok-lba.ensures.is_map c.args.i c.in_ok-lba.lba c.args.from c.args.end c.in_ok-lba.field-0-1 c.in_ok-lba.ensures.some c.if-lba-from.true

pub returns-then-lba-end : goal.returns-then-lba-end
returns-then-lba-end c =
    let map = c.args.self.now.parts.map in
    not_high map.geometry map.entries c.in_ok-lba.ensures.is_map c.args.i c.in_ok-lba.lba c.args.from c.args.end c.in_ok-lba.field-0-1 c.in_ok-lba.ensures.some c.if-lba-end.true

pub returns-then-not-is_dirty : goal.returns-then-not-is_dirty
returns-then-not-is_dirty c =
    let map = c.args.self.now.parts.map in
    not_dirty map.geometry map.entries c.in_ok-lba.ensures.is_map c.args.i c.in_ok-lba.lba c.args.from c.args.end c.in_ok-lba.field-0-1 c.in_ok-lba.ensures.some (λ e. false≢true (c.if-not-is_dirty.ensures.1 e))
