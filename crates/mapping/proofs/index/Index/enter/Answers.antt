use Rattle.std.proofs.Common.{◌<◌, ◌^◌, ◌+◌, ap, refl, arith, rules}
use Rattle.mapping.proofs.TallyLemmas.{held_few, dirty_few, index_with, bit_few}
use Rattle.mapping.proofs.index.Index.enter.Goals as goal

pub enter-requires : goal.enter-requires
enter-requires c = (c.requires.0, c.requires.1, c.requires.2.logs, c.requires.3)

pub overflow_add-self : goal.overflow_add-self
overflow_add-self c =
    let few = held_few c.args.geometry.now c.requires.0 c.requires.1 c.args.lba c.args.entry.now c.requires.3 c.args.self.now c.requires.2 in
    let small : c.args.self.now.held + 1 < 2 ^ 32 = omega (arith, few) in
    search rules

pub overflow_add-self-2 : goal.overflow_add-self-2
overflow_add-self-2 c =
    let few = dirty_few c.args.geometry.now c.requires.0 c.requires.1 c.args.lba c.args.entry.now c.requires.3 c.args.self.now c.requires.2 in
    let one = bit_few c.args.entry.now.dirty c.bit.result c.bit.ensures in
    let small : c.args.self.now.dirty + c.bit.result < 2 ^ 32 = omega (arith, few, one) in
    search rules

pub returns : goal.returns
returns c = λ m is_map all is. index_with c.args.geometry.now m is_map c.args.lba c.args.entry.now is c.args.self.now _ c.number_of.result c.number_of.ensures.number refl (c.enter.ensures m is_map all.logs is) refl (ap (λ n. c.args.self.now.dirty + n) c.bit.ensures) all
