use Rattle.std.proofs.Common.{◌<◌, ◌≤◌, ltb-true, subst, arith}
use Rattle.silent_evict.proofs.GroupLemmas.{pages_held-some}
use Rattle.silent_evict.proofs.PlainLemmas.{candidate_from_pages, clean_candidate}
use Rattle.silent_evict.proofs.plain.is_candidate.Goals as goal

pub returns-then-pages_held-gt0 : goal.returns-then-pages_held-gt0
returns-then-pages_held-gt0 c =
    let some = subst (λ n. 0 < n) c.pages_held.ensures c.if-pages_held-gt0.true in
    (λ t. candidate_from_pages c.args.map.now.geometry c.args.map.now.entries c.args.group some (c.is_wholly_clean.ensures.0 t), λ candidate. c.is_wholly_clean.ensures.1 (clean_candidate c.args.map.now.geometry c.args.map.now.entries c.args.group candidate))

pub returns-else-pages_held-gt0 : goal.returns-else-pages_held-gt0
returns-else-pages_held-gt0 c =
    let none = subst (λ n. n ≤ 0) c.pages_held.ensures c.if-pages_held-gt0.false in
    (λ t. let some : 0 < c.pages_held.result = ltb-true _ _ t in absurd (omega arith), λ candidate. let some = pages_held-some c.args.map.now.geometry c.args.map.now.entries c.args.group candidate in absurd (omega arith))
