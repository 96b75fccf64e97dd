use Rattle.std.proofs.Common.{List, ℕ, arith, subst}
use Rattle.std.proofs.lemmas.Result.{IfOk-weaker}
use Rattle.write_back.specs.Tables.{IsTableOf}
use Rattle.write_back.proofs.VolumeLemmas.{loaded_ascends, loaded_few, loaded_listed, loaded_size}
use Rattle.write_back.proofs.tables.loaded_table_of.Goals as goal

pub exists-requires : goal.exists-requires
exists-requires c = let same = loaded_size c.args.disk.now c.requires in let all = c.size.ensures in omega (arith, same, all)

pub table_of_addresses-requires : goal.table_of_addresses-requires
table_of_addresses-requires c =
    let v = c.args.disk.now in
    let is = loaded_listed v c.requires c.as_slice.result.now _ _ _ c.as_slice.ensures.value c.new-lbas.ensures.items c.size.ensures c.in_ok-exists.ensures.done in
    record { ascend = loaded_ascends v c.requires c.as_slice.result.now is; few = loaded_few v c.requires c.as_slice.result.now is }

pub returns : goal.returns
returns c =
    let v = c.args.disk.now in
    let is = loaded_listed v c.requires c.as_slice.result.now _ _ _ c.as_slice.ensures.value c.new-lbas.ensures.items c.size.ensures c.in_ok-exists.ensures.done in
    IfOk-weaker c.table_of_addresses.result _ _ (λ table of. subst (λ (l : List ℕ). IsTableOf v.options.geometry l table) is of) c.table_of_addresses.ensures
