use Rattle.std.proofs.Common.{◌≤◌, length, rules, arith}
use Rattle.write_back.proofs.VolumeLemmas.{made_all, made_more, made_none, made_room}
use Rattle.write_back.proofs.tables.table_of_addresses.Goals as goal

pub loop-lba-init : goal.loop-lba-init
loop-lba-init c = made_none c.args.geometry.now _ c.in_ok-table.table (search rules)

pub touch-requires : goal.touch-requires
touch-requires c =
    made_room c.args.geometry.now c.args.lbas.now c.requires.ascend c.requires.few c.loop-lba.lba-index c.loop-lba.table c.loop-lba.invariant c.loop-lba-test.true c.p.result c.p.ensures

pub loop-lba-preserved : goal.loop-lba-preserved
loop-lba-preserved c =
    made_more c.args.geometry.now c.args.lbas.now c.requires.ascend c.requires.few c.loop-lba.lba-index c.loop-lba.table c.loop-lba.invariant c.loop-lba-test.true c.p.result c.p.ensures c.touch.new.self c.in_ok-touch.ensures.ok

pub returns : goal.returns
returns c =
    let end : length c.args.lbas.now ≤ c.loop-lba.lba-index = omega arith in
    made_all c.args.geometry.now c.args.lbas.now c.requires.ascend c.requires.few c.loop-lba.lba-index c.loop-lba.table c.loop-lba.invariant end
