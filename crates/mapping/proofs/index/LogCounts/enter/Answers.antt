use Rattle.std.proofs.Common.{◌+◌, ◌<◌, ◌^◌, not, refl, sym, ap, arith, rules}
use Rattle.mapping.proofs.TallyLemmas.{logs_same_with, entered_few, used_few, entered_logs, one_more, none_less}
use Rattle.mapping.proofs.index.LogCounts.enter.Goals as goal

pub returns-then-entry : goal.returns-then-entry
returns-then-entry c = λ m is_map logs is. logs_same_with c.args.geometry.now m is_map c.args.lba c.args.entry.now is c.args.self.now c.if-entry.true logs

pub overflow_add-before : goal.overflow_add-before
overflow_add-before c =
    let few = entered_few c.args.geometry.now c.requires.0 c.requires.1 c.args.lba c.args.entry.now c.requires.3 c.args.self.now c.first_pool.result c.index-before.result.now c.first_pool.ensures.place c.index-before.ensures c.requires.2 in
    let small : c.index-before.result.now + 1 < 2 ^ 32 = omega (arith, few) in
    search rules

pub overflow_add-self : goal.overflow_add-self
overflow_add-self c =
    let few = used_few c.args.geometry.now c.requires.0 c.requires.1 c.args.lba c.args.entry.now c.requires.3 c.args.self.now c.requires.2 in
    let small : c.args.self.now.used + 1 < 2 ^ 32 = omega (arith, few) in
    search rules

pub returns-then-before-eq0 : goal.returns-then-before-eq0
returns-then-before-eq0 c = λ m is_map logs is. entered_logs c.args.geometry.now m is_map c.args.lba c.args.entry.now is c.args.self.now _ c.first_pool.result c.index-before.result.now
    (ap not c.if-entry.false) c.first_pool.ensures.place c.index-before.ensures refl (one_more c.index-before.result.now c.args.self.now.used c.if-before-eq0.true) logs

pub returns-else-before-eq0 : goal.returns-else-before-eq0
returns-else-before-eq0 c = λ m is_map logs is. entered_logs c.args.geometry.now m is_map c.args.lba c.args.entry.now is c.args.self.now _ c.first_pool.result c.index-before.result.now
    (ap not c.if-entry.false) c.first_pool.ensures.place c.index-before.ensures refl (sym (none_less c.index-before.result.now c.args.self.now.used c.if-before-eq0.false)) logs
