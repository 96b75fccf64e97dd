use Rattle.std.proofs.Common.{◌≤◌, ◌-◌, ap, refl, sym, subst}
use Rattle.mapping.proofs.TallyLemmas.{held_some, dirty_some, index_without}
use Rattle.mapping.proofs.index.Index.leave.Goals as goal

pub leave-requires : goal.leave-requires
leave-requires c = (c.requires.0, c.requires.1, c.requires.2.logs, c.requires.3)

pub overflow_sub-self : goal.overflow_sub-self
overflow_sub-self c = held_some c.args.geometry.now c.requires.0 c.requires.1 c.args.lba c.args.entry.now c.requires.3 c.args.self.now c.requires.2

pub overflow_sub-self-2 : goal.overflow_sub-self-2
overflow_sub-self-2 c = subst (λ n. n ≤ c.args.self.now.dirty) (sym c.bit.ensures) (dirty_some c.args.geometry.now c.requires.0 c.requires.1 c.args.lba c.args.entry.now c.requires.3 c.args.self.now c.requires.2)

pub returns : goal.returns
returns c = λ m is_map all is. index_without c.args.geometry.now m is_map c.args.lba c.args.entry.now is c.args.self.now _ c.number_of.result c.number_of.ensures.number refl (c.leave.ensures m is_map all.logs is) refl (ap (λ n. c.args.self.now.dirty - n) c.bit.ensures) all
