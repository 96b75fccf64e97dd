use Rattle.mapping.proofs.SeekingLemmas.{NotBefore}
use Rattle.mapping.proofs.seeking.found_in.Given as goal

-- no such entry at the pages so far
abbrev pub invariant-loop-page : goal.invariant-loop-page
invariant-loop-page l = NotBefore l.geometry l.sought l.held.entries l.block l.page
