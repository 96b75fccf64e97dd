use Rattle.std.proofs.Common.{◌+◌, ◌*◌}
use Rattle.std.specs.Prelude.{true}
use Rattle.std.proofs.lemmas.Nat.{div-mul-add}
use Rattle.many_disks.specs.Lines.{many_readings}
use Rattle.many_disks.proofs.AloneLemmas.{answers_alone, disk_alone, end_alone, ends_printed_alone, trace_quiet, trace_says, trace_unarmed}
use Rattle.many_disks.proofs.WhileLemmas.{while_alone}
use Rattle.many_disks.proofs.laws.each_disk_is_alone.Goals as goal

pub returns-clause-blocks : goal.returns-clause-blocks
returns-clause-blocks c = λ o share disks bytes run left was disk a less. disk_alone share disk run (trace_quiet o share disks bytes run left was) (disk * share + a) (div-mul-add disk share a less)

pub returns-clause-end : goal.returns-clause-end
returns-clause-end c = λ o share disks bytes run left was disk. end_alone share disk (disk * share) run (trace_quiet o share disks bytes run left was)

pub returns-clause-answers : goal.returns-clause-answers
returns-clause-answers c = λ o share disks bytes run left was disk. answers_alone share disk run (trace_quiet o share disks bytes run left was)

pub returns-clause-printed : goal.returns-clause-printed
returns-clause-printed c = λ o share disks bytes run left was disk. while_alone share disks (many_readings share disks true bytes) disk run (trace_says o share disks bytes run left was) (trace_quiet o share disks bytes run left was)

pub returns-clause-ends : goal.returns-clause-ends
returns-clause-ends c = λ o share disks bytes run left was start cuts lost fits. ends_printed_alone o.ack share disks start cuts lost run (trace_quiet o share disks bytes run left was) (trace_unarmed o share disks bytes run left was) fits
