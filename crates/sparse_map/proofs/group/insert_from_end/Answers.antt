use Rattle.std.proofs.Common.{◌≡◌, ◌+◌, ◌-◌, ◌≤◌, length, sym, ap, ◌∙◌, subst, arith}
use Rattle.std.specs.Prelude.{insert}
use Rattle.std.specs.List.{SwappedAt}
use Rattle.std.proofs.lemmas.List.Edits.{insert_end}
use Rattle.sparse_map.proofs.EditLemmas.{swapped_down}
use Rattle.sparse_map.proofs.group.insert_from_end.Goals as goal

pub loop-at-init : goal.loop-at-init
loop-at-init g c =
    let v = c.args.items.now in
    let last : c.len-at.result ≡ length v.items = omega (arith, c.len-at.ensures, v.ok.0) in
    record {
      items = c.push_reserved.ensures.items ∙ sym (insert_end v.items c.args.item) ∙ ap (λ p. insert v.items p c.args.item) (sym last);
      len = c.push_reserved.ensures.len;
      at = omega (arith, c.len-at.ensures);
      place = omega (arith, c.len-at.ensures, c.requires.within);
      capacity = c.push_reserved.ensures.capacity;
    }

pub loop-at-preserved : goal.loop-at-preserved
loop-at-preserved g c =
    let v = c.args.items.now in
    let ys = c.swap.new.self in
    let at = c.loop-at.at in
    let inv = c.loop-at.invariant in
    let lt = c.loop-at-test.true in
    let next : at ≡ at - 1 + 1 = omega (arith, lt) in
    let le : at ≤ length v.items = omega (arith, inv.at, v.ok.0) in
    let long : length ys.items ≡ length v.items + 1 = omega (arith, c.swap.ensures.len, inv.len, ys.ok.0, v.ok.0) in
    record {
      items = swapped_down v.items ys.items (at - 1) at c.args.item next le long (subst (λ xs. SwappedAt xs ys.items (at - 1) at) inv.items c.swap.ensures.by_index);
      len = c.swap.ensures.len ∙ inv.len;
      at = omega (arith, inv.at);
      place = omega (arith, lt);
      capacity = c.swap.ensures.capacity ∙ inv.capacity;
    }

pub returns-clause-items : goal.returns-clause-items
returns-clause-items g c =
    let same : c.loop-at.at ≡ c.args.place = omega (arith, c.loop-at-test.false, c.loop-at.invariant.place) in
    c.loop-at.invariant.items ∙ ap (λ p. insert c.args.items.now.items p c.args.item) same
