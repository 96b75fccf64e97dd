use Rattle.std.proofs.Common.{rules, ◌≡◌, inr, refl, sym, ◌∙◌, subst}
use Rattle.ft_base.specs.declared.geometry.Geometry.{Geometry}
use Rattle.block_pool.specs.Pool.{role_of}
use Rattle.block_pool.specs.declared.pool.Role.TheVariants.{Log}
use Rattle.merge_engine.specs.Room.{GivesRoom}
use Rattle.merge_engine.proofs.ResultLemmas.{on_ok_from, ok_at}
use Rattle.merge_engine.proofs.TakeLemmas.{agree_map}
use Rattle.merge_engine.proofs.GoesLemmas.{room_for_one}
use Rattle.merge_engine.proofs.OwnerLemmas.{unowned_merged}
use Rattle.merge_engine.proofs.SwitchLemmas.{logs_of_owner}
use Rattle.merge_engine.proofs.WayLemmas.{gave_way-gives}
use Rattle.merge_engine.proofs.FreedLemmas.{frees_none, frees_merged, page_of_owner, blocks_most}
use Rattle.merge_engine.proofs.freeing.merge_owner.Goals as goal

pub returns-in-Some-clause-unowned : goal.returns-in-Some-clause-unowned
returns-in-Some-clause-unowned g c = on_ok_from c.merge_group.result (λ v is. λ used.
    let old = c.args.cache.now in
    let new = c.merge_group.new.cache in
    let e = c.merge_group.ensures in
    unowned_merged old.geometry old.map.entries new c.args.at _ (agree_map old (g.M.Media.state c.args.media.now).contents c.requires.can.agree)
    (ok_at c.merge_group.result v is e.merges.agree).sound.roles used
    c.in-Some.ensures.owner (ok_at c.merge_group.result v is e.gathered).merged (ok_at c.merge_group.result v is e.page_mapped))

pub returns-in-Some-clause-log_blocks : goal.returns-in-Some-clause-log_blocks
returns-in-Some-clause-log_blocks g c = logs_of_owner c.args.cache.now c.in-Some.lba c.args.at c.merge_group.new.cache.log_blocks c.in-Some.ensures.owner c.merge_group.ensures.log_blocks

pub returns-in-Some-clause-goes : goal.returns-in-Some-clause-goes
returns-in-Some-clause-goes g c = record {
  agree = c.merge_group.ensures.merges.agree;
  room = on_ok_from c.merge_group.result (λ v is. room_for_one c.merge_group.new.cache.log (ok_at c.merge_group.result v is c.merge_group.ensures.merges.nothing_waits));
  lists = on_ok_from c.merge_group.result (λ v is. λ list durable lists.
      let old = c.args.cache.now in
      let contents = (g.M.Media.state c.args.media.now).contents in
      let e = c.merge_group.ensures in
      let owner = c.in-Some.ensures.owner in
      let way = (ok_at c.merge_group.result v is e.merges.lists) list durable lists in
      inr (
        ok_at c.merge_group.result v is e.merges.nothing_waits,
        (way.0, subst (λ (h : Geometry). GivesRoom h list way.0) (sym e.geometry) (gave_way-gives old contents _ list durable way.0 c.requires.can.agree (c.in-Some.lba, owner.0, owner.1, refl) lists way.1), way.2),
      ));
  stands = c.merge_group.ensures.merges.stands;
}

pub returns-in-None-clause-unowned : goal.returns-in-None-clause-unowned
returns-in-None-clause-unowned g c = λ used a e is here. c.in-None.ensures.none a (e, is, here)

pub returns-in-Some-clause-nothing : goal.returns-in-Some-clause-nothing
returns-in-Some-clause-nothing g c = λ none. let owner = c.in-Some.ensures.owner in absurd (none c.in-Some.lba owner.0 owner.1 owner.2)

pub returns-then-ne-clause-groups : goal.returns-then-ne-clause-groups
returns-then-ne-clause-groups g c = frees_none c.args.cache.now.geometry c.args.at.block c.args.cache.now.map.entries c.args.cache.now.map.entries refl

pub returns-in-None-clause-groups : goal.returns-in-None-clause-groups
returns-in-None-clause-groups g c = frees_none c.args.cache.now.geometry c.args.at.block c.args.cache.now.map.entries c.args.cache.now.map.entries refl

pub returns-in-Some-clause-groups : goal.returns-in-Some-clause-groups
returns-in-Some-clause-groups g c = on_ok_from c.merge_group.result (λ v is.
    let old = c.args.cache.now in
    let new = c.merge_group.new.cache in
    let e = c.merge_group.ensures in
    let roles = c.requires.can.agree.sound.roles in
    let found : c.role.result ≡ Log = search rules in
    let is_log : role_of old.pool c.args.at.block ≡ Log = sym c.role.ensures ∙ found in
    frees_merged old.geometry c.args.at.block _ old.map.entries new.map.entries (ok_at c.merge_group.result v is e.beside)
    (page_of_owner old c.args.at c.in-Some.lba roles ((roles.log_blocks c.args.at.block c.requires.in_pool).0 is_log) c.in-Some.ensures.owner)
    (blocks_most old.geometry new (g.M.Media.state c.merge_group.new.media).contents (ok_at c.merge_group.result v is e.merges.agree) e.geometry))
