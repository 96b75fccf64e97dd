use Rattle.std.proofs.Common.{ap, ◌∙◌, option_map, subst}
use Rattle.std.specs.Prelude.{IsSome}
use Rattle.sparse_map.proofs.TableLemmas.{slot_of_bucket}
use Rattle.sparse_map.proofs.RankedLemmas.{rank_here}
use Rattle.sparse_map.proofs.table.value_at.Goals as goal

pub value-requires-clause-occupied : goal.value-requires-clause-occupied
value-requires-clause-occupied g c =
    let read = c.index-groups-bucket in
    subst (λ o. IsSome o) (slot_of_bucket c.args.groups.now c.args.bucket read.result read.result c.requires.seat.within read.is) c.requires.seat.occupied

pub returns : goal.returns
returns g c =
    let read = c.index-groups-bucket in
    ap (option_map (λ e. e.1)) (slot_of_bucket c.args.groups.now c.args.bucket read.result read.result c.requires.seat.within read.is) ∙ c.value.ensures

pub value-requires-clause-place : goal.value-requires-clause-place
value-requires-clause-place g c =
    let read = c.index-groups-bucket in
    rank_here c.args.groups.now c.args.bucket c.args.rank read.result read.result c.requires.seat.rank read.is
