use Rattle.flashtier_words.proofs.settings.volume_of.Goals as goal

pub returns-in_err-mode-clause-none : goal.returns-in_err-mode-clause-none
returns-in_err-mode-clause-none c = rw c.from_residual.ensures (λ o says. c.in_err-mode.ensures.none o.mode o.ack says.writes)
