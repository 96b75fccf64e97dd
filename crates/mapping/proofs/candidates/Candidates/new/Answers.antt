use Rattle.mapping.proofs.CandidateLemmas.{no_candidates}
use Rattle.mapping.proofs.candidates.Candidates.new.Goals as goal

pub returns : goal.returns
returns c = no_candidates c.args.geometry.now _ (c.in_ok-counts.ensures.items_if_clones_equal (λ y same. same))
