use Rattle.std.proofs.Common.{◌≡◌, false, true, inl, inr, refl, ◌∙◌, ap, arith}
use Rattle.ft_media.specs.State.{State}
use Rattle.ft_media.proofs.DrivesLemmas.{only_then}
use Rattle.checkpoint.specs.Current.{log_committed}
use Rattle.merge_engine.specs.declared.parts.Parts.{Parts}
use Rattle.merge_engine.proofs.LogRoomLemmas.{can_begin, lists_made}
use Rattle.merge_engine.proofs.MoveLemmas.{stands_still}
use Rattle.merge_engine.proofs.ResultLemmas.{on_ok_from, ok_at}
use Rattle.merge_engine.proofs.MergeLemmas.{given_itself}
use Rattle.merge_engine.proofs.GoesLemmas.{given_then, goes_then, room_for_one}
use Rattle.merge_engine.proofs.BeginLemmas.{begins_log, costs_as, freed_then}
use Rattle.merge_engine.proofs.appending.open_if_closed.Goals as goal

pub returns-clause-goes : goal.returns-clause-goes
returns-clause-goes g c = record {
  agree = c.commit_and_take.ensures.kept.agree;
  room = on_ok_from c.commit_and_take.result (λ v is. room_for_one c.commit_and_take.new.cache.log (ok_at c.commit_and_take.result v is c.commit_and_take.ensures.kept.nothing_waits));
  lists = on_ok_from c.commit_and_take.result (λ v is. λ list durable lists.
      let mid = c.make_room.new.cache in
      let e = c.commit_and_take.ensures in
      goes_then c.args.cache.now.log mid (g.M.Media.state c.make_room.new.media).contents.flash.page c.args.cache.now.geometry c.make_room.ensures.geometry list durable
      c.commit_and_take.new.cache (g.M.Media.state c.commit_and_take.new.media).contents.flash.page (e.geometry ∙ c.make_room.ensures.geometry)
      (c.in_ok-make_room.ensures.goes.lists list durable lists)
      (λ l d now. inr (ok_at c.commit_and_take.result v is e.kept.nothing_waits, (l, inl refl, (ok_at c.commit_and_take.result v is e.kept.lists) l d now))));
  stands = λ list durable lists.
      let mid = c.make_room.new.cache in
      given_then c.args.cache.now.log mid (g.M.Media.state c.make_room.new.media).contents.flash.page c.args.cache.now.geometry c.make_room.ensures.geometry list durable
      (g.M.Media.state c.commit_and_take.new.media).contents.flash.page (c.in_ok-make_room.ensures.goes.lists list durable lists)
      (λ l d now. given_itself mid.geometry (g.M.Media.state c.commit_and_take.new.media).contents.flash.page d l (c.commit_and_take.ensures.kept.stands l d now));
}

pub returns-clause-drives : goal.returns-clause-drives
returns-clause-drives g c = only_then _ _ _ _ c.in_ok-make_room.ensures.drives.flash c.commit_and_take.ensures.drives

pub returns-in_err-make_room-clause-no_merge : goal.returns-in_err-make_room-clause-no_merge
returns-in_err-make_room-clause-no_merge g c = λ room. let made = c.in_err-make_room.ensures.no_merge (can_begin c.args.cache.now (λ some. absurd (omega arith)) room) in let both : false ≡ true = made.0 in absurd (cc)

pub returns-clause-no_merge : goal.returns-clause-no_merge
returns-clause-no_merge g c = λ room. record {
  map_stays = let made = c.make_room.ensures.no_merge (can_begin c.args.cache.now (λ some. absurd (omega arith)) room) in
      c.commit_and_take.ensures.map ∙ ap (λ (p : Parts). p.map) made.1;
  list_stands = λ list durable lists.
      let old = c.args.cache.now in
      let mid = c.make_room.new.cache in
      let made = c.make_room.ensures.no_merge (can_begin old (λ some. absurd (omega arith)) room) in
      stands_still old.geometry mid.geometry (g.M.Media.state c.commit_and_take.new.media).contents.flash.page durable list c.make_room.ensures.geometry
      (c.commit_and_take.ensures.kept.stands list durable (lists_made old mid (g.M.Media.state c.args.media.now) (g.M.Media.state c.make_room.new.media) list durable made.1 made.2 lists));
  list_stays = on_ok_from c.commit_and_take.result (λ v is. λ list durable lists.
      let old = c.args.cache.now in
      let mid = c.make_room.new.cache in
      let made = c.make_room.ensures.no_merge (can_begin old (λ some. absurd (omega arith)) room) in
      inr (
        ok_at c.commit_and_take.result v is c.commit_and_take.ensures.kept.nothing_waits,
        (ok_at c.commit_and_take.result v is c.commit_and_take.ensures.kept.lists) list durable (lists_made old mid (g.M.Media.state c.args.media.now) (g.M.Media.state c.make_room.new.media) list durable made.1 made.2 lists),
      ));
}

pub returns-then-room-gt0-clause-freed : goal.returns-then-room-gt0-clause-freed
returns-then-room-gt0-clause-freed g c = λ needs. absurd (needs (inl (omega (arith, c.room.ensures.room, c.if-room-gt0.true))))

pub returns-clause-begins : goal.returns-clause-begins
returns-clause-begins g c = on_ok_from c.commit_and_take.result (λ v is. λ closed.
    let old = c.args.cache.now in
    let mid = c.make_room.new.cache in
    let e = c.commit_and_take.ensures in
    let takes = ok_at c.commit_and_take.result v is e.takes in
    begins_log old mid c.commit_and_take.new.cache takes.0 c.in_ok-make_room.ensures.makes takes.1 c.requires.can.agree.sound.of_one c.in_ok-make_room.ensures.goes.agree.sound.of_one c.make_room.ensures.geometry
    (ok_at c.commit_and_take.result v is e.kept.nothing_waits)
    (λ can. ok_at c.commit_and_take.result v is e.log ∙ ap (λ (p : Parts). log_committed p.log) (c.make_room.ensures.no_merge can).1))

pub returns-clause-freed : goal.returns-clause-freed
returns-clause-freed g c = on_ok_from c.commit_and_take.result (λ v is. λ needs.
    freed_then c.args.cache.now c.make_room.new.cache c.commit_and_take.new.cache c.commit_and_take.ensures.map (c.in_ok-make_room.ensures.freed needs))

pub returns-clause-costs : goal.returns-clause-costs
returns-clause-costs g c = on_ok_from c.commit_and_take.result (λ v is. λ closed can.
    let old = c.args.cache.now in
    let mid = c.make_room.new.cache in
    let made = c.make_room.ensures.no_merge can in
    costs_as old mid (g.M.Media.state c.args.media.now).counts (g.M.Media.state c.make_room.new.media).counts (g.M.Media.state c.commit_and_take.new.media).counts
    (ap (λ (p : Parts). p.log) made.1) (ap (λ (p : Parts). p.map) made.1) c.make_room.ensures.geometry (ap (λ (s : State). s.counts) made.2) (ok_at c.commit_and_take.result v is c.commit_and_take.ensures.costs))
