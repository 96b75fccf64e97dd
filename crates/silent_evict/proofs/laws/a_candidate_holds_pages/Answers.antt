use Rattle.mapping.specs.declared.bits.Choice.TheVariants.{Mapped}
use Rattle.mapping.specs.Bits.{chosen_of}
use Rattle.silent_evict.proofs.GroupLemmas.{page_count-most, pages_held-some}
use Rattle.silent_evict.proofs.laws.a_candidate_holds_pages.Goals as goal

pub returns-clause-some : goal.returns-clause-some
returns-clause-some c = λ g m group candidate. pages_held-some g m group candidate

pub returns-clause-most : goal.returns-clause-most
returns-clause-most c = λ g m group. page_count-most g.p (chosen_of Mapped g m group)
