use Rattle.std.proofs.Common.{◌<◌, ◌≤◌, ◌-◌, ◌^◌, set, ap, subst, sym, ◌∙◌, rules}
use Rattle.ft_base.specs.Layout.{first_pool, blocks}
use Rattle.mapping.proofs.CandidateLemmas.{any_in_pool, in_pool, block_now, forgotten, noted_none, noted_some, no_dirty, no_block, count_small}
use Rattle.mapping.proofs.candidates.Candidates.note.Goals as goal

pub forget-requires-clause-pool : goal.forget-requires-clause-pool
forget-requires-clause-pool c = any_in_pool c.args.geometry.now c.requires.0 c.requires.2 c.args.before c.requires.3.old_map c.requires.3.had_block

pub forget-requires-clause-long : goal.forget-requires-clause-long
forget-requires-clause-long c = c.requires.4.long

pub returns-then-is_dirty : goal.returns-then-is_dirty
returns-then-is_dirty c = λ m n group change all. noted_none c.args.geometry.now m n group c.args.before c.args.now c.args.is_dirty change c.forget.new.self.counts.items
    (forgotten c.args.geometry.now m n group c.args.before c.args.now c.args.is_dirty change c.args.self.now.counts.items c.forget.new.self.counts.items all c.forget.ensures) (no_dirty c.args.geometry.now m n group c.args.before c.args.now c.args.is_dirty change c.if-is_dirty.true)

pub overflow_cast-pages : goal.overflow_cast-pages
overflow_cast-pages c = let small : c.count-pages.result < 2 ^ 16 = count_small c.in-Some.block.present c.count-pages.result c.count-pages.ensures in search rules

pub put-requires-clause-above : goal.put-requires-clause-above
put-requires-clause-above c =
    let x = c.requires in
    let own = block_now c.args.geometry.now x.0 x.1 x.2 c.args.before c.args.now c.args.is_dirty x.3 c.in-Some.block c.in-Some.is in
    subst (λ k. first_pool c.args.geometry.now ≤ k) (sym c.block.ensures) (in_pool c.args.geometry.now x.1 x.2 c.in-Some.block x.3.new_map own).0

pub put-requires-clause-below : goal.put-requires-clause-below
put-requires-clause-below c =
    let x = c.requires in
    let own = block_now c.args.geometry.now x.0 x.1 x.2 c.args.before c.args.now c.args.is_dirty x.3 c.in-Some.block c.in-Some.is in
    subst (λ k. k < blocks c.args.geometry.now) (sym c.block.ensures) (in_pool c.args.geometry.now x.1 x.2 c.in-Some.block x.3.new_map own).1

pub put-requires-clause-long : goal.put-requires-clause-long
put-requires-clause-long c =
    let x = c.requires in
    (forgotten c.args.geometry.now x.0 x.1 x.2 c.args.before c.args.now c.args.is_dirty x.3 c.args.self.now.counts.items c.forget.new.self.counts.items x.4 c.forget.ensures).long

pub returns-in-Some : goal.returns-in-Some
returns-in-Some c = λ m n group change all. noted_some c.args.geometry.now m n group c.args.before c.args.now c.args.is_dirty change c.in-Some.block c.forget.new.self.counts.items c.put.new.self.counts.items c.count-pages.result c.in-Some.is c.if-is_dirty.false
    (forgotten c.args.geometry.now m n group c.args.before c.args.now c.args.is_dirty change c.args.self.now.counts.items c.forget.new.self.counts.items all c.forget.ensures) c.count-pages.ensures
    (c.put.ensures ∙ ap (λ k. set c.forget.new.self.counts.items (k - first_pool c.args.geometry.now) c.count-pages.result) c.block.ensures)

pub returns-in-None : goal.returns-in-None
returns-in-None c = λ m n group change all. noted_none c.args.geometry.now m n group c.args.before c.args.now c.args.is_dirty change c.forget.new.self.counts.items
    (forgotten c.args.geometry.now m n group c.args.before c.args.now c.args.is_dirty change c.args.self.now.counts.items c.forget.new.self.counts.items all c.forget.ensures) (no_block c.args.geometry.now m n group c.args.before c.args.now c.args.is_dirty change c.in-None.is)
