use Rattle.std.proofs.Common.{List, ℕ, subst}
use Rattle.std.proofs.lemmas.Result.{IfOk-weaker}
use Rattle.write_back.specs.Tables.{IsTableOf}
use Rattle.write_back.proofs.VolumeLemmas.{ascends, few, listed}
use Rattle.write_back.proofs.tables.dirty_table_of.Goals as goal

pub table_of_addresses-requires : goal.table_of_addresses-requires
table_of_addresses-requires c =
    let v = c.args.disk.now in
    let is = listed v c.requires.may c.as_slice.result.now _ _ _ c.as_slice.ensures.value c.new-lbas.ensures.items c.size.ensures c.in_ok-exists.ensures.done in
    record { ascend = ascends v c.requires.may c.as_slice.result.now is; few = few v c.requires.may c.as_slice.result.now is }

pub returns-clause-table : goal.returns-clause-table
returns-clause-table c = IfOk-weaker c.table_of_addresses.result _ _ (λ table of. of.groups) c.table_of_addresses.ensures

pub returns-clause-exact : goal.returns-clause-exact
returns-clause-exact c =
    let v = c.args.disk.now in
    let is = listed v c.requires.may c.as_slice.result.now _ _ _ c.as_slice.ensures.value c.new-lbas.ensures.items c.size.ensures c.in_ok-exists.ensures.done in
    IfOk-weaker c.table_of_addresses.result _ _ (λ table of. (subst (λ (l : List ℕ). IsTableOf v.options.geometry l table) is of).exact) c.table_of_addresses.ensures

pub returns-clause-order : goal.returns-clause-order
returns-clause-order c =
    let v = c.args.disk.now in
    let is = listed v c.requires.may c.as_slice.result.now _ _ _ c.as_slice.ensures.value c.new-lbas.ensures.items c.size.ensures c.in_ok-exists.ensures.done in
    IfOk-weaker c.table_of_addresses.result _ _ (λ table of. (subst (λ (l : List ℕ). IsTableOf v.options.geometry l table) is of).order) c.table_of_addresses.ensures
