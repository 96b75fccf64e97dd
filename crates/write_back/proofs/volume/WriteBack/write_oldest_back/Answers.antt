use Rattle.std.proofs.Common.{ℕ, Ok, Err, refl, sym, subst, ap, ◌∙◌, List, rules}
use Rattle.dirty_table.specs.Groups.{Groups, without_first}
use Rattle.cached_disk.specs.Kept.{dirty_of, waiting_in, WritesDisk}
use Rattle.write_back.proofs.TableLemmas.{last_length, last_waiting}
use Rattle.write_back.proofs.WriteLemmas.{cleaned_left, group_within, oldest_has}
use Rattle.write_back.proofs.volume.WriteBack.write_oldest_back.Goals as goal

pub write_group_back-requires-clause-group : goal.write_group_back-requires-clause-group
write_group_back-requires-clause-group g c =
    let v = c.args.self.now in
    group_within v (g.M.Media.state c.args.media.now).contents c.requires.left c.requires.up c.in-Some.group (oldest_has v.dirty.order c.in-Some.group (sym c.in-Some.ensures))

pub returns-in-Ok-clause-steps : goal.returns-in-Ok-clause-steps
returns-in-Ok-clause-steps g c =
    let v = c.args.self.now in
    let to = c.write_group_back.ensures in
    record {
      left = cleaned_left v c.write_group_back.new.disk c.remove-was_there.new.self (g.M.Media.state c.args.media.now).contents (g.M.Media.state c.write_group_back.new.media).contents
          c.in-Some.group c.requires.left c.requires.up to.back.left to.back.made c.in-Ok.ensures.cleaned c.remove-was_there.ensures.order;
      goes = c.in-Ok.ensures.back.goes c.args.self.now.dirty.order c.remove-was_there.new.self.order;
      faulted = c.in-Ok.ensures.back.faulted;
      within = c.in-Ok.ensures.back.within;
    }

pub returns-in-Ok-clause-table : goal.returns-in-Ok-clause-table
returns-in-Ok-clause-table g c =
    let v = c.args.self.now in
    let p = v.disk.options.geometry.p in
    let disk = c.write_group_back.new.disk in
    ap (λ o. waiting_in o.geometry.p c.remove-was_there.new.self.order (dirty_of disk)) c.write_group_back.ensures.back.made.0
    ∙ ap (λ (t : Groups). waiting_in p t.order (dirty_of disk)) c.remove-was_there.ensures.order
    ∙ ap (λ (l : List ℕ). waiting_in p (without_first c.in-Some.group v.dirty.order) l) c.in-Ok.ensures.cleaned
    ∙ last_waiting p v.dirty.order (dirty_of v.disk) c.in-Some.group c.requires.left.table.apart (sym c.in-Some.ensures)

pub returns-in-Ok-clause-writes : goal.returns-in-Ok-clause-writes
returns-in-Ok-clause-writes g c =
    let v = c.args.self.now in
    subst (λ (n : ℕ). WritesDisk n (g.M.Media.state c.args.media.now) (g.M.Media.state c.write_group_back.new.media) (Ok tt)) (sym (last_length v.disk.options.geometry.p v.dirty.order (dirty_of v.disk) c.in-Some.group (sym c.in-Some.ensures))) c.in-Ok.ensures.back.writes

pub returns-in-Err-clause-steps : goal.returns-in-Err-clause-steps
returns-in-Err-clause-steps g c =
    record {
      left = search rules;
      goes = c.in-Err.ensures.back.goes c.args.self.now.dirty.order c.args.self.now.dirty.order;
      faulted = c.in-Err.ensures.back.faulted;
      within = c.in-Err.ensures.back.within;
    }

pub returns-in-Err-clause-writes : goal.returns-in-Err-clause-writes
returns-in-Err-clause-writes g c =
    let v = c.args.self.now in
    subst (λ (n : ℕ). WritesDisk n (g.M.Media.state c.args.media.now) (g.M.Media.state c.write_group_back.new.media) (Err c.in-Err.error)) (sym (last_length v.disk.options.geometry.p v.dirty.order (dirty_of v.disk) c.in-Some.group (sym c.in-Some.ensures))) c.in-Err.ensures.back.writes

pub returns-in-Err-clause-same : goal.returns-in-Err-clause-same
returns-in-Err-clause-same g c = λ up. record { table = refl; disk = c.in-Err.ensures.same up }
