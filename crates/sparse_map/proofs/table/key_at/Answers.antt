use Rattle.std.proofs.Common.{ap, sym, ◌∙◌, option_map}
use Rattle.sparse_map.proofs.TableLemmas.{slot_of_bucket}
use Rattle.sparse_map.proofs.RankedLemmas.{rank_here}
use Rattle.sparse_map.proofs.table.key_at.Goals as goal

pub key-requires-clause-place : goal.key-requires-clause-place
key-requires-clause-place g c =
    let read = c.index-groups-bucket in
    rank_here c.args.groups.now c.args.bucket c.args.rank read.result read.result c.requires.rank read.is

pub returns : goal.returns
returns g c =
    let read = c.index-groups-bucket in
    c.key.ensures ∙ ap (option_map (λ e. e.0)) (sym (slot_of_bucket c.args.groups.now c.args.bucket read.result read.result c.requires.within read.is))
