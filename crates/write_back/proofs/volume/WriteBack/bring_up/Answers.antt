use Rattle.std.proofs.Common.{◌≡◌, true, List, refl, Ok, rules, sym, subst}
use Rattle.std.proofs.lemmas.Bool.{both_ways}
use Rattle.ft_volume.specs.declared.options.Options.{Options}
use Rattle.cached_disk.specs.Kept as kept
use Rattle.ft_base.specs.PlainDisk.{BlockWrite}
use Rattle.cached_disk.specs.declared.disk.CachedDisk.{CachedDisk}
use Rattle.cached_disk.proofs.OpenedLemmas.{comes_up, refused_memory}
use Rattle.cached_disk.proofs.ReadLemmas.{down_owes, owes_down}
use Rattle.write_back.specs.Left.{IsDirtyTable}
use Rattle.write_back.proofs.VolumeLemmas.{given_up, stays_up}
use Rattle.write_back.proofs.volume.WriteBack.bring_up.Goals as goal

pub returns-then-not-is_down-clause-comes : goal.returns-then-not-is_down-clause-comes
returns-then-not-is_down-clause-comes g c = stays_up c.args.self.now (g.M.Media.state c.args.media.now) c.requires (search rules)

pub returns-in-Err-dirty_table_of-clause-left : goal.returns-in-Err-dirty_table_of-clause-left
returns-in-Err-dirty_table_of-clause-left g c =
    let v = c.args.self.now in
    given_up c.bring_up.new.self v.dirty (g.M.Media.state c.bring_up.new.media).contents c.in-Ok.ensures.left (search rules)
    (subst (λ (o : Options). IsDirtyTable o.geometry v.dirty) (sym c.in-Ok.ensures.reopens.made.0) c.requires.table)

pub returns-in-Err-dirty_table_of-clause-comes : goal.returns-in-Err-dirty_table_of-clause-comes
returns-in-Err-dirty_table_of-clause-comes g c =
    let v = c.args.self.now in
    let down : kept.is_down v.disk ≡ true = search rules in
    refused_memory v.disk c.bring_up.new.self v.dirty.order v.dirty.order (g.M.Media.state c.args.media.now) (g.M.Media.state c.bring_up.new.media) _ c.in-Ok.ensures.reopens down

pub returns-in-Ok-dirty_table_of-clause-comes : goal.returns-in-Ok-dirty_table_of-clause-comes
returns-in-Ok-dirty_table_of-clause-comes g c =
    let v = c.args.self.now in
    let down : kept.is_down v.disk ≡ true = search rules in
    comes_up v.disk c.bring_up.new.self v.dirty.order c.in-Ok-dirty_table_of.dirty.order (g.M.Media.state c.args.media.now) (g.M.Media.state c.bring_up.new.media) (Ok tt) c.in-Ok.ensures.reopens
    (λ up. absurd (both_ways (kept.is_down v.disk) up down)) (λ was. c.in-Ok-dirty_table_of.ensures.order)

pub returns-in-Err-dirty_table_of-clause-owes : goal.returns-in-Err-dirty_table_of-clause-owes
returns-in-Err-dirty_table_of-clause-owes g c = λ owed owes.
    let v = c.args.self.now in
    let w : CachedDisk = record c.bring_up.new.self { down = true } in
    let down : kept.is_down v.disk ≡ true = search rules in
    let nothing = down_owes v.disk (g.M.Media.state c.args.media.now).contents owed down owes in
    subst (λ (ws : List BlockWrite). kept.Owes w (g.M.Media.state c.bring_up.new.media).contents ws) (sym nothing) (owes_down w (g.M.Media.state c.bring_up.new.media).contents refl)
