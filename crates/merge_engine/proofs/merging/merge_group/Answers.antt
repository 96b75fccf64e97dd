use Rattle.std.proofs.Common.{rules, ap, subst, inl}
use Rattle.ft_media.proofs.DrivesLemmas.{only_then}
use Rattle.ft_base.specs.declared.geometry.Geometry.{Geometry}
use Rattle.silent_evict.specs.Candidates.{HasDataBlock}
use Rattle.merge_engine.specs.declared.parts.Parts.{Parts}
use Rattle.merge_engine.specs.Merges.{HasBlockOrRoom, list_without}
use Rattle.merge_engine.proofs.ResultLemmas.{on_ok_from, ok_at}
use Rattle.merge_engine.proofs.MoveLemmas.{fillers_gone, fillers_still, room_not_lacked}
use Rattle.merge_engine.proofs.GaveLemmas.{page_mapped_stay, given_either, victim_other}
use Rattle.merge_engine.proofs.GoesLemmas.{room_for_one}
use Rattle.merge_engine.proofs.MergeLemmas.{lists_victims, has_own, has_room, lacks_room, victim_is, no_candidate, victim_gave, victim_way, group_gave, group_way}
use Rattle.merge_engine.proofs.MergeLemmas.{stays_way, held_then, room_then, merged_then, stay_then, mapped_after, merged_gone, mapped_gone, given_itself, given_after}
use Rattle.merge_engine.proofs.FreedLemmas.{beside_moved, beside_victim, beside_dropped}
use Rattle.merge_engine.proofs.CostLemmas.{costs_of_way}
use Rattle.merge_engine.proofs.SwitchLemmas.{logs_after}
use Rattle.merge_engine.proofs.merging.merge_group.Goals.{then-own-via-then-own, then-own-via-else-own+then-data_blocks-cache}
use Rattle.merge_engine.proofs.merging.merge_group.Goals as goal

pub move_group-requires-clause-block : goal.move_group-requires-clause-block
move_group-requires-clause-block g c =
    let room : HasBlockOrRoom c.args.cache.now.geometry c.args.cache.now.map.entries c.args.group = elim c.then-own.branch [
      | then-own-via-then-own w ↦ has_own c.args.cache.now.geometry c.args.cache.now.map.geometry c.args.cache.now.map.entries c.args.group c.requires.can.agree.sound.of_one.map c.block_of.result c.is_some-own.result c.is_some-own.ensures w.if-own.true c.block_of.ensures.some
      | then-own-via-else-own+then-data_blocks-cache w ↦ has_room c.args.cache.now.geometry c.args.cache.now.map.geometry c.args.cache.now.map.entries c.args.group c.requires.can.agree.sound.of_one.map w.data_blocks.result w.data_blocks.ensures.count w.if-data_blocks-cache.true
    ] in
    room

pub returns-then-own-clause-merges : goal.returns-then-own-clause-merges
returns-then-own-clause-merges g c = let room : HasBlockOrRoom c.args.cache.now.geometry c.args.cache.now.map.entries c.args.group = elim c.then-own.branch [
  | then-own-via-then-own w ↦ has_own c.args.cache.now.geometry c.args.cache.now.map.geometry c.args.cache.now.map.entries c.args.group c.requires.can.agree.sound.of_one.map c.block_of.result c.is_some-own.result c.is_some-own.ensures w.if-own.true c.block_of.ensures.some
  | then-own-via-else-own+then-data_blocks-cache w ↦ has_room c.args.cache.now.geometry c.args.cache.now.map.geometry c.args.cache.now.map.entries c.args.group c.requires.can.agree.sound.of_one.map w.data_blocks.result w.data_blocks.ensures.count w.if-data_blocks-cache.true
] in
    record {
      agree = c.move_group.ensures.kept.agree;
      nothing_waits = c.move_group.ensures.kept.nothing_waits;
      lists = on_ok_from c.move_group.result (λ v is. λ list durable lists.
          (list, stays_way c.args.cache.now (g.M.Media.state c.args.media.now).contents c.args.group list durable c.requires.can.agree room lists, ok_at c.move_group.result v is c.move_group.ensures.kept.lists list durable lists));
      stands = λ list durable lists. given_itself c.args.cache.now.geometry (g.M.Media.state c.move_group.new.media).contents.flash.page durable list (c.move_group.ensures.kept.stands list durable lists);
    }

pub returns-then-own-clause-page_mapped : goal.returns-then-own-clause-page_mapped
returns-then-own-clause-page_mapped g c =
    on_ok_from c.move_group.result (λ v is.
    page_mapped_stay c.args.cache.now.geometry c.args.cache.now.map.entries c.args.group c.move_group.new.cache.map.entries (ok_at c.move_group.result v is c.move_group.ensures.gathered).merged (ok_at c.move_group.result v is c.move_group.ensures.others))

pub returns-in_err-drop_group-in-Some-clause-merges : goal.returns-in_err-drop_group-in-Some-clause-merges
returns-in_err-drop_group-in-Some-clause-merges g c = record {
  agree = search rules;
  nothing_waits = search rules;
  lists = search rules;
  stands = let lacks = lacks_room c.args.cache.now.geometry c.args.cache.now.map.geometry c.args.cache.now.map.entries c.args.group c.requires.can.agree.sound.of_one.map c.block_of.result c.is_some-own.result
      c.data_blocks.result c.is_some-own.ensures c.if-own.false c.block_of.ensures.none c.data_blocks.ensures.count c.data_blocks.ensures.most c.if-data_blocks-cache.false in
      let victim = victim_is c.args.cache.now.geometry c.args.cache.now.map.geometry c.args.cache.now.map.entries c.args.group c.requires.can.agree.sound.of_one.map c.in-Some.victim c.in-Some.ensures.some in
      λ list durable lists.
      given_either c.args.cache.now.geometry (g.M.Media.state c.drop_group.new.media).contents.flash.page durable list (list_without c.args.cache.now.geometry c.in-Some.victim list)
      (victim_gave c.args.cache.now (g.M.Media.state c.args.media.now).contents c.requires.can.agree c.args.group lacks c.requires.held c.in-Some.victim list durable victim lists)
      (c.drop_group.ensures.stands list durable (lists_victims c.args.cache.now c.victim.new.self (g.M.Media.state c.args.media.now).contents.flash.page list durable lists));
}

pub move_group-requires-in-Some-clause-can : goal.move_group-requires-in-Some-clause-can
move_group-requires-in-Some-clause-can g c = record {
  agree = c.in_ok-drop_group-in-Some.ensures.agree;
  groups = search rules;
  room = room_for_one c.drop_group.new.cache.log c.in_ok-drop_group-in-Some.ensures.nothing_waits;
}

pub move_group-requires-in-Some-clause-held : goal.move_group-requires-in-Some-clause-held
move_group-requires-in-Some-clause-held g c =
    let lacks = lacks_room c.args.cache.now.geometry c.args.cache.now.map.geometry c.args.cache.now.map.entries c.args.group c.requires.can.agree.sound.of_one.map c.block_of.result c.is_some-own.result
    c.data_blocks.result c.is_some-own.ensures c.if-own.false c.block_of.ensures.none c.data_blocks.ensures.count c.data_blocks.ensures.most c.if-data_blocks-cache.false in
    let victim = victim_is c.args.cache.now.geometry c.args.cache.now.map.geometry c.args.cache.now.map.entries c.args.group c.requires.can.agree.sound.of_one.map c.in-Some.victim c.in-Some.ensures.some in
    let same = ap (λ (p : Parts). p.geometry) c.drop_group.ensures.cache in
    held_then c.args.cache.now.geometry c.drop_group.new.cache.geometry c.args.cache.now.map.entries c.drop_group.new.cache.map.entries c.args.group c.in-Some.victim same c.drop_group.ensures.map.entries lacks victim c.requires.held

pub move_group-requires-in-Some-clause-block : goal.move_group-requires-in-Some-clause-block
move_group-requires-in-Some-clause-block g c =
    let lacks = lacks_room c.args.cache.now.geometry c.args.cache.now.map.geometry c.args.cache.now.map.entries c.args.group c.requires.can.agree.sound.of_one.map c.block_of.result c.is_some-own.result
    c.data_blocks.result c.is_some-own.ensures c.if-own.false c.block_of.ensures.none c.data_blocks.ensures.count c.data_blocks.ensures.most c.if-data_blocks-cache.false in
    let victim = victim_is c.args.cache.now.geometry c.args.cache.now.map.geometry c.args.cache.now.map.entries c.args.group c.requires.can.agree.sound.of_one.map c.in-Some.victim c.in-Some.ensures.some in
    let same = ap (λ (p : Parts). p.geometry) c.drop_group.ensures.cache in
    room_then c.args.cache.now.geometry c.drop_group.new.cache.geometry c.args.cache.now.map.entries c.drop_group.new.cache.map.entries c.args.group c.in-Some.victim same c.drop_group.ensures.map.entries lacks victim

pub returns-in_ok-drop_group-in-Some-clause-merges : goal.returns-in_ok-drop_group-in-Some-clause-merges
returns-in_ok-drop_group-in-Some-clause-merges g c = record {
  agree = c.move_group-in-Some.ensures.kept.agree;
  nothing_waits = c.move_group-in-Some.ensures.kept.nothing_waits;
  lists = let lacks = lacks_room c.args.cache.now.geometry c.args.cache.now.map.geometry c.args.cache.now.map.entries c.args.group c.requires.can.agree.sound.of_one.map c.block_of.result c.is_some-own.result
      c.data_blocks.result c.is_some-own.ensures c.if-own.false c.block_of.ensures.none c.data_blocks.ensures.count c.data_blocks.ensures.most c.if-data_blocks-cache.false in
      let victim = victim_is c.args.cache.now.geometry c.args.cache.now.map.geometry c.args.cache.now.map.entries c.args.group c.requires.can.agree.sound.of_one.map c.in-Some.victim c.in-Some.ensures.some in
      on_ok_from c.move_group-in-Some.result (λ v is. λ list durable lists. (
        list_without c.args.cache.now.geometry c.in-Some.victim list,
        victim_way c.args.cache.now (g.M.Media.state c.args.media.now).contents c.requires.can.agree c.args.group lacks c.requires.held c.in-Some.victim list durable victim lists,
        ok_at c.move_group-in-Some.result v is c.move_group-in-Some.ensures.kept.lists (list_without c.args.cache.now.geometry c.in-Some.victim list)
            (list_without c.args.cache.now.geometry c.in-Some.victim list) (c.in_ok-drop_group-in-Some.ensures.lists list durable
            (lists_victims c.args.cache.now c.victim.new.self (g.M.Media.state c.args.media.now).contents.flash.page list durable lists)),
      ));
  stands = let lacks = lacks_room c.args.cache.now.geometry c.args.cache.now.map.geometry c.args.cache.now.map.entries c.args.group c.requires.can.agree.sound.of_one.map c.block_of.result c.is_some-own.result
      c.data_blocks.result c.is_some-own.ensures c.if-own.false c.block_of.ensures.none c.data_blocks.ensures.count c.data_blocks.ensures.most c.if-data_blocks-cache.false in
      let victim = victim_is c.args.cache.now.geometry c.args.cache.now.map.geometry c.args.cache.now.map.entries c.args.group c.requires.can.agree.sound.of_one.map c.in-Some.victim c.in-Some.ensures.some in
      let same = ap (λ (p : Parts). p.geometry) c.drop_group.ensures.cache in
      λ list durable lists.
      given_after c.args.cache.now.geometry c.drop_group.new.cache.geometry (g.M.Media.state c.move_group-in-Some.new.media).contents.flash.page durable list (list_without c.args.cache.now.geometry c.in-Some.victim list) same
      (victim_gave c.args.cache.now (g.M.Media.state c.args.media.now).contents c.requires.can.agree c.args.group lacks c.requires.held c.in-Some.victim list durable victim lists)
      (c.move_group-in-Some.ensures.kept.stands (list_without c.args.cache.now.geometry c.in-Some.victim list) (list_without c.args.cache.now.geometry c.in-Some.victim list)
      (c.in_ok-drop_group-in-Some.ensures.lists list durable (lists_victims c.args.cache.now c.victim.new.self (g.M.Media.state c.args.media.now).contents.flash.page list durable lists)));
}

pub returns-in_ok-drop_group-in-Some-clause-gathered : goal.returns-in_ok-drop_group-in-Some-clause-gathered
returns-in_ok-drop_group-in-Some-clause-gathered g c = let same = ap (λ (p : Parts). p.geometry) c.drop_group.ensures.cache in
    on_ok_from c.move_group-in-Some.result (λ v is. record {
      merged = merged_then c.args.cache.now.geometry c.drop_group.new.cache.geometry c.args.cache.now.map.entries c.drop_group.new.cache.map.entries c.args.group
          c.in-Some.victim same c.drop_group.ensures.map.entries c.move_group-in-Some.new.cache.map.entries (ok_at c.move_group-in-Some.result v is c.move_group-in-Some.ensures.gathered).merged;
      filled = fillers_still c.args.cache.now.geometry c.drop_group.new.cache.geometry c.move_group-in-Some.new.cache.map.entries c.args.group
          (g.M.Media.state c.move_group-in-Some.new.media).contents.flash.page same (ok_at c.move_group-in-Some.result v is c.move_group-in-Some.ensures.gathered).filled;
    })

pub returns-in_ok-drop_group-in-Some-clause-page_mapped : goal.returns-in_ok-drop_group-in-Some-clause-page_mapped
returns-in_ok-drop_group-in-Some-clause-page_mapped g c =
    let same = ap (λ (p : Parts). p.geometry) c.drop_group.ensures.cache in
    on_ok_from c.move_group-in-Some.result (λ v is. mapped_after c.args.cache.now.geometry c.drop_group.new.cache.geometry c.args.cache.now.map.entries c.drop_group.new.cache.map.entries c.args.group
    c.in-Some.victim same c.drop_group.ensures.map.entries c.move_group-in-Some.new.cache.map.entries (ok_at c.move_group-in-Some.result v is c.move_group-in-Some.ensures.gathered).merged
    (ok_at c.move_group-in-Some.result v is c.move_group-in-Some.ensures.others))

pub returns-in_ok-drop_group-in-Some-clause-drives : goal.returns-in_ok-drop_group-in-Some-clause-drives
returns-in_ok-drop_group-in-Some-clause-drives g c = only_then _ _ _ _ c.in_ok-drop_group-in-Some.ensures.drives.flash c.move_group-in-Some.ensures.drives

pub returns-in-None-clause-merges : goal.returns-in-None-clause-merges
returns-in-None-clause-merges g c = record {
  agree = c.drop_group-in-None.ensures.agree;
  nothing_waits = c.drop_group-in-None.ensures.nothing_waits;
  lists = let lacks = lacks_room c.args.cache.now.geometry c.args.cache.now.map.geometry c.args.cache.now.map.entries c.args.group c.requires.can.agree.sound.of_one.map c.block_of.result c.is_some-own.result
      c.data_blocks.result c.is_some-own.ensures c.if-own.false c.block_of.ensures.none c.data_blocks.ensures.count c.data_blocks.ensures.most c.if-data_blocks-cache.false in
      let none = no_candidate c.args.cache.now.geometry c.args.cache.now.map.geometry c.args.cache.now.map.entries c.args.group c.requires.can.agree.sound.of_one.map c.in-None.ensures.none in
      on_ok_from c.drop_group-in-None.result (λ v is. λ list durable lists. (
        list_without c.args.cache.now.geometry c.args.group list,
        group_way c.args.cache.now (g.M.Media.state c.args.media.now).contents c.requires.can.agree c.args.group lacks c.requires.held list durable none lists,
        ok_at c.drop_group-in-None.result v is c.drop_group-in-None.ensures.lists list durable (lists_victims c.args.cache.now c.victim.new.self (g.M.Media.state c.args.media.now).contents.flash.page list durable lists),
      ));
  stands = let lacks = lacks_room c.args.cache.now.geometry c.args.cache.now.map.geometry c.args.cache.now.map.entries c.args.group c.requires.can.agree.sound.of_one.map c.block_of.result c.is_some-own.result
      c.data_blocks.result c.is_some-own.ensures c.if-own.false c.block_of.ensures.none c.data_blocks.ensures.count c.data_blocks.ensures.most c.if-data_blocks-cache.false in
      let none = no_candidate c.args.cache.now.geometry c.args.cache.now.map.geometry c.args.cache.now.map.entries c.args.group c.requires.can.agree.sound.of_one.map c.in-None.ensures.none in
      λ list durable lists.
      given_either c.args.cache.now.geometry (g.M.Media.state c.drop_group-in-None.new.media).contents.flash.page durable list (list_without c.args.cache.now.geometry c.args.group list)
      (group_gave c.args.cache.now (g.M.Media.state c.args.media.now).contents c.requires.can.agree c.args.group lacks c.requires.held list durable none lists)
      (c.drop_group-in-None.ensures.stands list durable (lists_victims c.args.cache.now c.victim.new.self (g.M.Media.state c.args.media.now).contents.flash.page list durable lists));
}

pub returns-in-None-clause-gathered : goal.returns-in-None-clause-gathered
returns-in-None-clause-gathered g c = on_ok_from c.drop_group-in-None.result (λ v is. record {
  merged = merged_gone c.args.cache.now.geometry c.args.cache.now.map.entries c.drop_group-in-None.new.cache.map.entries c.args.group c.drop_group-in-None.ensures.map.entries;
  filled = fillers_gone c.args.cache.now.geometry c.args.cache.now.map.entries c.drop_group-in-None.new.cache.map.entries c.args.group (g.M.Media.state c.drop_group-in-None.new.media).contents.flash.page c.drop_group-in-None.ensures.map.entries;
})

pub returns-in-None-clause-page_mapped : goal.returns-in-None-clause-page_mapped
returns-in-None-clause-page_mapped g c =
    on_ok_from c.drop_group-in-None.result (λ v is. mapped_gone c.args.cache.now.geometry c.args.cache.now.map.entries c.drop_group-in-None.new.cache.map.entries c.args.group c.drop_group-in-None.ensures.map.entries)

pub returns-in_ok-drop_group-in-Some-clause-log_blocks : goal.returns-in_ok-drop_group-in-Some-clause-log_blocks
returns-in_ok-drop_group-in-Some-clause-log_blocks g c =
    let is = c.drop_group.ensures.cache in
    logs_after c.args.cache.now c.drop_group.new.cache c.args.group c.in-Some.victim (ap (λ (p : Parts). p.geometry) is) (ap (λ (p : Parts). p.log_blocks) is) c.drop_group.ensures.map.entries c.move_group-in-Some.new.cache.log_blocks c.move_group-in-Some.ensures.log_blocks

pub returns-in_err-drop_group-in-Some-clause-log_blocks : goal.returns-in_err-drop_group-in-Some-clause-log_blocks
returns-in_err-drop_group-in-Some-clause-log_blocks g c = inl (ap (λ (p : Parts). p.log_blocks) c.drop_group.ensures.cache)

pub returns-in-None-clause-log_blocks : goal.returns-in-None-clause-log_blocks
returns-in-None-clause-log_blocks g c = inl (ap (λ (p : Parts). p.log_blocks) c.drop_group-in-None.ensures.cache)

pub returns-then-own-clause-beside : goal.returns-then-own-clause-beside
returns-then-own-clause-beside g c = let room : HasBlockOrRoom c.args.cache.now.geometry c.args.cache.now.map.entries c.args.group = elim c.then-own.branch [
  | then-own-via-then-own w ↦ has_own c.args.cache.now.geometry c.args.cache.now.map.geometry c.args.cache.now.map.entries c.args.group c.requires.can.agree.sound.of_one.map c.block_of.result c.is_some-own.result c.is_some-own.ensures w.if-own.true c.block_of.ensures.some
  | then-own-via-else-own+then-data_blocks-cache w ↦ has_room c.args.cache.now.geometry c.args.cache.now.map.geometry c.args.cache.now.map.entries c.args.group c.requires.can.agree.sound.of_one.map w.data_blocks.result w.data_blocks.ensures.count w.if-data_blocks-cache.true
] in
    on_ok_from c.move_group.result (λ v is. beside_moved c.args.cache.now.geometry c.args.cache.now.map.entries c.move_group.new.cache.map.entries c.args.group room
    (ok_at c.move_group.result v is c.move_group.ensures.others) (ok_at c.move_group.result v is c.move_group.ensures.own))

pub returns-in_ok-drop_group-in-Some-clause-beside : goal.returns-in_ok-drop_group-in-Some-clause-beside
returns-in_ok-drop_group-in-Some-clause-beside g c =
    let lacks = lacks_room c.args.cache.now.geometry c.args.cache.now.map.geometry c.args.cache.now.map.entries c.args.group c.requires.can.agree.sound.of_one.map c.block_of.result c.is_some-own.result
    c.data_blocks.result c.is_some-own.ensures c.if-own.false c.block_of.ensures.none c.data_blocks.ensures.count c.data_blocks.ensures.most c.if-data_blocks-cache.false in
    let victim = victim_is c.args.cache.now.geometry c.args.cache.now.map.geometry c.args.cache.now.map.entries c.args.group c.requires.can.agree.sound.of_one.map c.in-Some.victim c.in-Some.ensures.some in
    let same = ap (λ (p : Parts). p.geometry) c.drop_group.ensures.cache in
    on_ok_from c.move_group-in-Some.result (λ v is. beside_victim c.args.cache.now.geometry c.args.cache.now.map.entries c.move_group-in-Some.new.cache.map.entries c.args.group c.in-Some.victim lacks victim
    (stay_then c.args.cache.now.geometry c.drop_group.new.cache.geometry c.args.cache.now.map.entries c.drop_group.new.cache.map.entries c.args.group c.in-Some.victim same c.drop_group.ensures.map.entries c.move_group-in-Some.new.cache.map.entries
    (ok_at c.move_group-in-Some.result v is c.move_group-in-Some.ensures.others))
    (subst (λ (h : Geometry). HasDataBlock h c.move_group-in-Some.new.cache.map.entries c.args.group) same (ok_at c.move_group-in-Some.result v is c.move_group-in-Some.ensures.own)))

pub returns-in-None-clause-beside : goal.returns-in-None-clause-beside
returns-in-None-clause-beside g c =
    let lacks = lacks_room c.args.cache.now.geometry c.args.cache.now.map.geometry c.args.cache.now.map.entries c.args.group c.requires.can.agree.sound.of_one.map c.block_of.result c.is_some-own.result
    c.data_blocks.result c.is_some-own.ensures c.if-own.false c.block_of.ensures.none c.data_blocks.ensures.count c.data_blocks.ensures.most c.if-data_blocks-cache.false in
    let none = no_candidate c.args.cache.now.geometry c.args.cache.now.map.geometry c.args.cache.now.map.entries c.args.group c.requires.can.agree.sound.of_one.map c.in-None.ensures.none in
    on_ok_from c.drop_group-in-None.result (λ v is. beside_dropped c.args.cache.now.geometry c.args.cache.now.map.entries c.drop_group-in-None.new.cache.map.entries c.args.group lacks none c.drop_group-in-None.ensures.map.entries)

pub returns-then-own-clause-costs : goal.returns-then-own-clause-costs
returns-then-own-clause-costs g c = let room : HasBlockOrRoom c.args.cache.now.geometry c.args.cache.now.map.entries c.args.group = elim c.then-own.branch [
  | then-own-via-then-own w ↦ has_own c.args.cache.now.geometry c.args.cache.now.map.geometry c.args.cache.now.map.entries c.args.group c.requires.can.agree.sound.of_one.map c.block_of.result c.is_some-own.result c.is_some-own.ensures w.if-own.true c.block_of.ensures.some
  | then-own-via-else-own+then-data_blocks-cache w ↦ has_room c.args.cache.now.geometry c.args.cache.now.map.geometry c.args.cache.now.map.entries c.args.group c.requires.can.agree.sound.of_one.map w.data_blocks.result w.data_blocks.ensures.count w.if-data_blocks-cache.true
] in
    on_ok_from c.move_group.result (λ v is. record {
      moved = λ _. ok_at c.move_group.result v is c.move_group.ensures.costs;
      way = λ lacks gone is. absurd (room_not_lacked c.args.cache.now.geometry c.args.cache.now.map.entries c.args.group lacks room);
      dropped = λ lacks none low. absurd (room_not_lacked c.args.cache.now.geometry c.args.cache.now.map.entries c.args.group lacks room);
    })

pub returns-in_ok-drop_group-in-Some-clause-costs : goal.returns-in_ok-drop_group-in-Some-clause-costs
returns-in_ok-drop_group-in-Some-clause-costs g c =
    let lacks = lacks_room c.args.cache.now.geometry c.args.cache.now.map.geometry c.args.cache.now.map.entries c.args.group c.requires.can.agree.sound.of_one.map c.block_of.result c.is_some-own.result
    c.data_blocks.result c.is_some-own.ensures c.if-own.false c.block_of.ensures.none c.data_blocks.ensures.count c.data_blocks.ensures.most c.if-data_blocks-cache.false in
    let victim = victim_is c.args.cache.now.geometry c.args.cache.now.map.geometry c.args.cache.now.map.entries c.args.group c.requires.can.agree.sound.of_one.map c.in-Some.victim c.in-Some.ensures.some in
    let is_of = c.drop_group.ensures.cache in
    on_ok_from c.move_group-in-Some.result (λ v is. record {
      moved = λ room. absurd (room_not_lacked c.args.cache.now.geometry c.args.cache.now.map.entries c.args.group lacks room);
      way = λ _ gone _. costs_of_way c.args.cache.now c.drop_group.new.cache c.args.group c.in-Some.victim (ap (λ (p : Parts). p.geometry) is_of) (ap (λ (p : Parts). p.log_blocks) is_of) c.drop_group.ensures.map.entries
          (victim_other c.args.cache.now.geometry c.args.cache.now.map.entries c.args.group c.in-Some.victim lacks victim) c.move_group-in-Some.new.cache
          (g.M.Media.state c.args.media.now).counts (g.M.Media.state c.drop_group.new.media).counts (g.M.Media.state c.move_group-in-Some.new.media).counts
          c.in_ok-drop_group-in-Some.ensures.nothing_waits c.in_ok-drop_group-in-Some.ensures.next c.in_ok-drop_group-in-Some.ensures.one_program (ok_at c.move_group-in-Some.result v is c.move_group-in-Some.ensures.costs);
      dropped = λ _ none low. absurd (none c.in-Some.victim victim.candidate);
    })

pub returns-in-None-clause-costs : goal.returns-in-None-clause-costs
returns-in-None-clause-costs g c =
    let lacks = lacks_room c.args.cache.now.geometry c.args.cache.now.map.geometry c.args.cache.now.map.entries c.args.group c.requires.can.agree.sound.of_one.map c.block_of.result c.is_some-own.result
    c.data_blocks.result c.is_some-own.ensures c.if-own.false c.block_of.ensures.none c.data_blocks.ensures.count c.data_blocks.ensures.most c.if-data_blocks-cache.false in
    let none = no_candidate c.args.cache.now.geometry c.args.cache.now.map.geometry c.args.cache.now.map.entries c.args.group c.requires.can.agree.sound.of_one.map c.in-None.ensures.none in
    on_ok_from c.drop_group-in-None.result (λ v is. record {
      moved = λ room. absurd (room_not_lacked c.args.cache.now.geometry c.args.cache.now.map.entries c.args.group lacks room);
      way = λ _ gone is. absurd (none gone is);
      dropped = λ _ _ low. ok_at c.drop_group-in-None.result v is c.drop_group-in-None.ensures.one_program low;
    })
