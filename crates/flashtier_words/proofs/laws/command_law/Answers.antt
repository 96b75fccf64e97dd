use Rattle.std.proofs.Common.{codes, refl}
use Rattle.flashtier_words.proofs.DeviceLemmas.{same_over}
use Rattle.flashtier_words.proofs.ValueLemmas.{apart, costed_apart, costed_inspected, costed_made, costed_swept, inspected_apart, inspected_made, same_command, same_gen, same_read, same_replayed, same_spelling, same_sweep, swept_apart, swept_inspected, swept_made}
use Rattle.flashtier_words.specs.Command.{cost_names}
use Rattle.flashtier_words.proofs.laws.command_law.Goals as goal

pub returns-clause-replay : goal.returns-clause-replay
returns-clause-replay c = same_replayed

pub returns-clause-form : goal.returns-clause-form
returns-clause-form c = same_spelling

pub returns-clause-costed : goal.returns-clause-costed
returns-clause-costed c = same_read cost_names refl (codes "cost")

pub returns-clause-costed_apart : goal.returns-clause-costed_apart
returns-clause-costed_apart c = costed_apart

pub returns-clause-costed_inspected : goal.returns-clause-costed_inspected
returns-clause-costed_inspected c = costed_inspected

pub returns-clause-costed_made : goal.returns-clause-costed_made
returns-clause-costed_made c = costed_made

pub returns-clause-costed_swept : goal.returns-clause-costed_swept
returns-clause-costed_swept c = costed_swept

pub returns-clause-made : goal.returns-clause-made
returns-clause-made c = λ words o other number number_too count count_too. same_gen words o other number number_too count count_too

pub returns-clause-apart : goal.returns-clause-apart
returns-clause-apart c = apart

pub returns-clause-inspected : goal.returns-clause-inspected
returns-clause-inspected c = same_command (codes "inspect")

pub returns-clause-inspected_apart : goal.returns-clause-inspected_apart
returns-clause-inspected_apart c = inspected_apart

pub returns-clause-inspected_made : goal.returns-clause-inspected_made
returns-clause-inspected_made c = inspected_made

pub returns-clause-swept : goal.returns-clause-swept
returns-clause-swept c = same_sweep

pub returns-clause-swept_apart : goal.returns-clause-swept_apart
returns-clause-swept_apart c = swept_apart

pub returns-clause-swept_inspected : goal.returns-clause-swept_inspected
returns-clause-swept_inspected c = swept_inspected

pub returns-clause-swept_made : goal.returns-clause-swept_made
returns-clause-swept_made c = swept_made

pub returns-clause-devices : goal.returns-clause-devices
returns-clause-devices c = same_over
