use Rattle.std.proofs.Common.{sym}
use Rattle.mapping.proofs.MarkedLemmas.{no_marked}
use Rattle.mapping.proofs.TallyLemmas.{no_groups}
use Rattle.mapping.proofs.marks.MarkedGroups.new.Goals as goal

pub returns : goal.returns
returns c = record { dirty = no_marked c.args.geometry.now c.in_ok-new.field-0 c.in_ok-new.ensures; data_blocks = sym (no_groups c.args.geometry.now (λ e. e.block_mapped)) }
