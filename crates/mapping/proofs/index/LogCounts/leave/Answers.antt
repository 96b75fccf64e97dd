use Rattle.std.proofs.Common.{◌-◌, not, refl, ap}
use Rattle.mapping.proofs.TallyLemmas.{logs_same_without, left_some, used_some, left_logs, one_less, none_less}
use Rattle.mapping.proofs.index.LogCounts.leave.Goals as goal

pub returns-then-entry : goal.returns-then-entry
returns-then-entry c = λ m is_map logs is. logs_same_without c.args.geometry.now m is_map c.args.lba c.args.entry.now is c.args.self.now c.if-entry.true logs

pub overflow_sub-left : goal.overflow_sub-left
overflow_sub-left c = left_some c.args.geometry.now c.requires.0 c.requires.1 c.args.lba c.args.entry.now c.requires.3 c.args.self.now c.first_pool.result c.index.result.now (ap not c.if-entry.false) c.first_pool.ensures.place c.index.ensures c.requires.2

pub overflow_sub-self : goal.overflow_sub-self
overflow_sub-self c = used_some c.args.geometry.now c.requires.0 c.requires.1 c.args.lba c.args.entry.now c.requires.3 c.args.self.now (ap not c.if-entry.false) c.requires.2

pub returns-then-left-eq0 : goal.returns-then-left-eq0
returns-then-left-eq0 c = λ m is_map logs is. left_logs c.args.geometry.now m is_map c.args.lba c.args.entry.now is c.args.self.now _ c.first_pool.result c.index.result.now (ap not c.if-entry.false) c.first_pool.ensures.place c.index.ensures refl
    (one_less (c.index.result.now - 1) c.args.self.now.used c.if-left-eq0.true (used_some c.args.geometry.now m is_map c.args.lba c.args.entry.now is c.args.self.now (ap not c.if-entry.false) logs)) logs

pub returns-else-left-eq0 : goal.returns-else-left-eq0
returns-else-left-eq0 c = λ m is_map logs is. left_logs c.args.geometry.now m is_map c.args.lba c.args.entry.now is c.args.self.now _ c.first_pool.result c.index.result.now (ap not c.if-entry.false) c.first_pool.ensures.place c.index.ensures refl
    (none_less (c.index.result.now - 1) c.args.self.now.used c.if-left-eq0.false) logs
