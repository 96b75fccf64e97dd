use Rattle.std.proofs.Common.{[], ◌≡◌, ◌+◌, get_or, length, arith, rules}
use Rattle.many_disks.specs.Tally.{IsUncounted}
use Rattle.many_disks.proofs.TallyLemmas.{counts_from, tallies_from, uncounted, uncounted_few}
use Rattle.many_disks.proofs.tally.Tallies.new.Goals as goal

pub returns-clause-none : goal.returns-clause-none
returns-clause-none c = λ share. tallies_from share 0 [] [] c.from_fn.result (λ i any within.
    let long : length c.from_fn.result ≡ 16 = c.from_fn.ensures.items.long in
    let at = c.from_fn.ensures.items.at i any (omega arith) in
    let none : IsUncounted (get_or c.from_fn.result i any) = search (rules, at.2) in
    uncounted share (0 + i) (get_or c.from_fn.result i any) none)

pub returns-clause-few : goal.returns-clause-few
returns-clause-few c = counts_from 0 c.from_fn.result (λ i any within.
    let long : length c.from_fn.result ≡ 16 = c.from_fn.ensures.items.long in
    let at = c.from_fn.ensures.items.at i any (omega arith) in
    let none : IsUncounted (get_or c.from_fn.result i any) = search (rules, at.2) in
    uncounted_few (get_or c.from_fn.result i any) none)
