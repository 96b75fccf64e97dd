use Rattle.sparse_map.proofs.plan.no_counts.Goals as goal

pub returns-clause-items : goal.returns-clause-items
returns-clause-items c = c.in_ok-counts.ensures.items_if_clones_equal (λ y same. same)
