use Rattle.sparse_map.proofs.plan.no_marks.Goals as goal

pub returns-clause-items : goal.returns-clause-items
returns-clause-items c = c.in_ok-marks.ensures.items_if_clones_equal (λ y same. same)
