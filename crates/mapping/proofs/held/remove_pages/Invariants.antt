use Rattle.mapping.proofs.PackedLemmas.{PagesGone}
use Rattle.mapping.proofs.held.remove_pages.Given as goal

-- the pages so far are removed
abbrev pub invariant-loop-page : goal.invariant-loop-page
invariant-loop-page l = PagesGone l.geometry l.group l.fn.pages l.pages l.page
