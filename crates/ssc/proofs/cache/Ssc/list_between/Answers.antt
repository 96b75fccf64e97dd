use Rattle.std.proofs.Common.{◌≡◌, ◌+◌, ◌++◌, ◌∙◌, List, ℕ, length, ap, subst}
use Rattle.std.specs.List.Sorted.{IsPermutation}
use Rattle.std.proofs.lemmas.List.Sorted.{IsNonDecreasingBy-from_sort, length_permutation}
use Rattle.ssc.specs.CacheState.{entries_of}
use Rattle.ssc.specs.Listed.{AddsListed}
use Rattle.ssc.proofs.CommandLemmas.{not_refused}
use Rattle.ssc.proofs.ListedLemmas.{part_is, sorted_listed, sorted_part}
use Rattle.ssc.proofs.cache.Ssc.list_between.Goals as goal

pub returns-clause-done : goal.returns-clause-done
returns-clause-done c =
    let m = entries_of c.args.self.now in
    let end = c.args.from + c.args.count in
    let old = c.args.out.now.items in
    let items = c.list_dirty.new.out.items in
    let now = c.deref_mut.result.now in
    let sorted = c.sort_unstable.new.self in
    let adds : AddsListed c.args.from end m old items = not_refused c.list_dirty.result c.is_err.result c.is_err.ensures.value c.if-is_err.false c.list_dirty.ensures.done in
    let shows = c.deref_mut.ensures.value in
    let len = c.list_dirty.new.out.ok.0 in
    let before : c.len-before.result ≡ length old = c.len-before.ensures ∙ c.args.out.now.ok.0 in
    let part = part_is c.len-before.result c.list_dirty.new.out.len old adds.found now items sorted shows adds.items len before in
    let moved = subst (λ (l : List ℕ). IsPermutation l sorted) part c.sort_unstable.ensures.permutation in
    let up = IsNonDecreasingBy-from_sort (λ (n : ℕ). n) sorted c.sort_unstable.ensures.sorted in
    sorted_part c.len-before.result c.list_dirty.new.out.len old adds.found now items sorted shows adds.items len before (length_permutation adds.found sorted moved)
    ∙ ap (λ l. old ++ l) (sorted_listed c.args.from end m adds.found sorted adds.each moved up)
