use Rattle.std.proofs.Common.{◌≡◌, ◌-◌, ◌^◌, min, length, ap, ◌∙◌, arith}
use Rattle.sparse_map.proofs.PlacesLemmas.{loose-more, loose-all, loose-none}
use Rattle.sparse_map.proofs.table.beyond_of.Goals as goal

pub loop-group-init : goal.loop-group-init
loop-group-init g c = omega (arith, loose-none g.row.V.Denot)

pub loop-group-preserved : goal.loop-group-preserved
loop-group-preserved g c =
    let more = loose-more c.args.groups.now c.loop-group.group-index c.group-item.result c.group-item.result c.loop-group-test.true c.group-item.is in
    omega (arith, c.loop-group.invariant, c.saturating_add-beyond.ensures, c.beyond_few.ensures, more)

pub returns : goal.returns
returns g c =
    let end : c.loop-group.group-index ≡ length c.args.groups.now = omega arith in
    c.loop-group.invariant ∙ ap (λ n. min n (2 ^ 64 - 1)) (loose-all c.args.groups.now c.loop-group.group-index end)
