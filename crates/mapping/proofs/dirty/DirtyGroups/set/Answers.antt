use Rattle.std.proofs.Common.{◌≡◌, ◌<◌, length, set, ap, sym, subst, arith, inl, inr}
use Rattle.std.specs.List.{insert, remove}
use Rattle.std.proofs.lemmas.List.{length-set}
use Rattle.std.proofs.lemmas.List.Edits.{length-insert, length-remove}
use Rattle.mapping.specs.DirtyGroups.{Pairs, DirtyCounts, count_of, IsCounted, IsAt, IsGapFor, SetsOnly}
use Rattle.mapping.proofs.DirtyLemmas.{some_here, none_here, one_of, none_of, set_only, remove_only, same_only, insert_only}
use Rattle.mapping.proofs.dirty.DirtyGroups.set.Goals as goal

-- a group that becomes dirty has room
pub unreachable-requires : goal.unreachable-requires
unreachable-requires c =
    let pairs = ap (λ (d : DirtyCounts). length d.pairs) c.self.view_is in
    let room = ap (λ (d : DirtyCounts). d.room) c.self.view_is in
    let none = none_here _ _ _ c.in-Err.ensures.absent in
    let long = c.self.inside.pairs.ok.0 in
    let full = c.in_default.ensures.full in
    elim c.requires [
      | inl zero ↦ omega (arith, zero, c.if-count-gt0-2.true)
      | inr rest ↦ elim rest [
        | inl some ↦ omega (arith, some, none)
        | inr low ↦ omega (arith, low, room, long, full, pairs)
      ]
    ]

-- the group is there, and gets another count
pub returns-then-count-gt0-clause-counts : goal.returns-then-count-gt0-clause-counts
returns-then-count-gt0-clause-counts c =
    let pairs = ap (λ (d : DirtyCounts). d.pairs) c.self.view_is in
    let found = subst (λ (l : Pairs). IsAt l c.args.group c.in-Ok.at) (sym pairs) c.in-Ok.ensures.found in
    subst (λ (l : Pairs). SetsOnly l (set c.self.inside.pairs.items c.in-Ok.at (c.args.group, c.args.count)) c.args.group c.args.count) pairs (set_only c.self.inside.pairs.items c.self.invariant c.args.group c.in-Ok.at found c.args.count)

pub returns-then-count-gt0-clause-len : goal.returns-then-count-gt0-clause-len
returns-then-count-gt0-clause-len c =
    let pairs = ap (λ (d : DirtyCounts). d.pairs) c.self.view_is in
    let same = ap length pairs in
    let long = length-set c.self.inside.pairs.items c.in-Ok.at (c.args.group, c.args.count) in
    let before = one_of (count_of c.args.self.now.pairs c.args.group) (some_here _ (subst IsCounted pairs c.self.invariant) _ _ c.in-Ok.ensures.found) in
    let after = one_of c.args.count c.if-count-gt0.true in
    omega (arith, same, long, before, after)

-- it is there, and is left out
pub returns-else-count-gt0-clause-counts : goal.returns-else-count-gt0-clause-counts
returns-else-count-gt0-clause-counts c =
    let pairs = ap (λ (d : DirtyCounts). d.pairs) c.self.view_is in
    let zero : c.args.count ≡ 0 = let none = c.if-count-gt0.false in omega (arith, none) in
    let found = subst (λ (l : Pairs). IsAt l c.args.group c.in-Ok.at) (sym pairs) c.in-Ok.ensures.found in
    subst (λ n. SetsOnly c.args.self.now.pairs c.remove.new.self.items c.args.group n) (sym zero)
    (subst (λ (l : Pairs). SetsOnly c.args.self.now.pairs l c.args.group 0) (sym c.remove.ensures.items)
    (subst (λ (l : Pairs). SetsOnly l (remove c.self.inside.pairs.items c.in-Ok.at) c.args.group 0) pairs (remove_only c.self.inside.pairs.items c.self.invariant c.args.group c.in-Ok.at found)))

pub returns-else-count-gt0-clause-len : goal.returns-else-count-gt0-clause-len
returns-else-count-gt0-clause-len c =
    let pairs = ap (λ (d : DirtyCounts). d.pairs) c.self.view_is in
    let same = ap length pairs in
    let found = subst (λ (l : Pairs). IsAt l c.args.group c.in-Ok.at) (sym pairs) c.in-Ok.ensures.found in
    let long = length-remove c.self.inside.pairs.items c.in-Ok.at found.within in
    let items = ap length c.remove.ensures.items in
    let before = one_of (count_of c.args.self.now.pairs c.args.group) (some_here _ (subst IsCounted pairs c.self.invariant) _ _ c.in-Ok.ensures.found) in
    let after = none_of c.args.count (let none = c.if-count-gt0.false in omega (arith, none)) in
    omega (arith, same, long, items, before, after)

-- it comes
pub returns-in-Ok-insert-clause-counts : goal.returns-in-Ok-insert-clause-counts
returns-in-Ok-insert-clause-counts c =
    let pairs = ap (λ (d : DirtyCounts). d.pairs) c.self.view_is in
    let gap = subst (λ (l : Pairs). IsGapFor l c.args.group c.in-Err.at) (sym pairs) c.in-Err.ensures.absent in
    subst (λ (l : Pairs). SetsOnly c.args.self.now.pairs l c.args.group c.args.count) (sym c.in-Ok-insert.ensures.items)
    (subst (λ (l : Pairs). SetsOnly l (insert c.self.inside.pairs.items c.in-Err.at (c.args.group, c.args.count)) c.args.group c.args.count) pairs (insert_only c.self.inside.pairs.items c.args.group c.in-Err.at gap c.args.count))

pub returns-in-Ok-insert-clause-len : goal.returns-in-Ok-insert-clause-len
returns-in-Ok-insert-clause-len c =
    let pairs = ap (λ (d : DirtyCounts). d.pairs) c.self.view_is in
    let same = ap length pairs in
    let gap = subst (λ (l : Pairs). IsGapFor l c.args.group c.in-Err.at) (sym pairs) c.in-Err.ensures.absent in
    let long = length-insert c.self.inside.pairs.items c.in-Err.at (c.args.group, c.args.count) gap.within in
    let items = ap length c.in-Ok-insert.ensures.items in
    let before = none_of (count_of c.args.self.now.pairs c.args.group) (none_here _ _ _ c.in-Err.ensures.absent) in
    let after = one_of c.args.count c.if-count-gt0-2.true in
    omega (arith, same, long, items, before, after)

-- it isn't there, and stays away
pub returns-else-count-gt0-2-clause-counts : goal.returns-else-count-gt0-2-clause-counts
returns-else-count-gt0-2-clause-counts c =
    let zero : c.args.count ≡ 0 = let none = c.if-count-gt0-2.false in omega (arith, none) in
    subst (λ n. SetsOnly c.args.self.now.pairs c.args.self.now.pairs c.args.group n) (sym zero) (same_only _ _ _ c.in-Err.ensures.absent)

pub returns-else-count-gt0-2-clause-len : goal.returns-else-count-gt0-2-clause-len
returns-else-count-gt0-2-clause-len c =
    let before = none_of (count_of c.args.self.now.pairs c.args.group) (none_here _ _ _ c.in-Err.ensures.absent) in
    let after = none_of c.args.count (let none = c.if-count-gt0-2.false in omega (arith, none)) in
    omega (arith, before, after)
