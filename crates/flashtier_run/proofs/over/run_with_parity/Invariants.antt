use Rattle.flashtier_run.proofs.over.run_with_parity.Given as goal

-- the counts from which the run begins
abbrev pub ghosts-run_counted : goal.ghosts-run_counted
ghosts-run_counted g a = record { flash = (g.R.Media.state a.rig.now).faults.flash; cuts = (g.R.Media.state a.rig.now).faults.cuts }
