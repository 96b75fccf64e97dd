use Rattle.std.proofs.Common.{◌<◌, length, inl, sym, ◌∙◌, ap, subst}
use Rattle.ft_base.specs.Layout.{page_records}
use Rattle.ft_media.proofs.DrivesLemmas.{only_then}
use Rattle.checkpoint.proofs.CountsLemmas.{programs_after}
use Rattle.merge_engine.specs.declared.parts.Parts.{Parts}
use Rattle.merge_engine.proofs.ResultLemmas.{on_ok_from, ok_at}
use Rattle.merge_engine.proofs.BesideLemmas.{lists_as}
use Rattle.merge_engine.proofs.GoesLemmas.{given_then, goes_then}
use Rattle.merge_engine.proofs.LogRoomLemmas.{keeps_stands, keeps_then}
use Rattle.merge_engine.proofs.BeginLemmas.{begins_then, freed_then}
use Rattle.merge_engine.proofs.appending.append.Goals as goal

pub returns-clause-goes : goal.returns-clause-goes
returns-clause-goes g c = record {
  agree = c.program_next.ensures.agree;
  room = on_ok_from c.program_next.result (λ v is.
      subst (λ (p : Parts). length p.log.buffered < page_records p.log.geometry) (sym (ok_at c.program_next.result v is c.program_next.ensures.cache)) c.in_ok-open_if_closed.ensures.goes.room);
  lists = on_ok_from c.program_next.result (λ v is. λ list durable lists.
      let mid = c.open_if_closed.new.cache in
      let new = c.program_next.new.cache in
      let made = ok_at c.program_next.result v is c.program_next.ensures.cache in
      goes_then c.args.cache.now.log mid (g.M.Media.state c.open_if_closed.new.media).contents.flash.page c.args.cache.now.geometry c.open_if_closed.ensures.geometry list durable
      new (g.M.Media.state c.program_next.new.media).contents.flash.page (ap (λ (p : Parts). p.geometry) made ∙ c.open_if_closed.ensures.geometry)
      (c.in_ok-open_if_closed.ensures.goes.lists list durable lists)
      (λ l d now. inl (ap (λ (p : Parts). p.log) made, lists_as mid new (g.M.Media.state c.program_next.new.media).contents.flash.page l d (ap (λ (p : Parts). p.map) made) (ap (λ (p : Parts). p.geometry) made) (c.program_next.ensures.lists l d now))));
  stands = λ list durable lists.
      let mid = c.open_if_closed.new.cache in
      given_then c.args.cache.now.log mid (g.M.Media.state c.open_if_closed.new.media).contents.flash.page c.args.cache.now.geometry c.open_if_closed.ensures.geometry list durable
      (g.M.Media.state c.program_next.new.media).contents.flash.page (c.in_ok-open_if_closed.ensures.goes.lists list durable lists)
      (λ l d now. inl (c.program_next.ensures.lists l d now).stands);
}

pub returns-clause-programs : goal.returns-clause-programs
returns-clause-programs g c = on_ok_from c.program_next.result (λ v is.
    programs_after (g.M.Media.state c.args.media.now) (g.M.Media.state c.open_if_closed.new.media) (g.M.Media.state c.program_next.new.media) 1 c.in_ok-open_if_closed.ensures.drives.flash.passes (ok_at c.program_next.result v is c.program_next.ensures.programs))

pub returns-clause-drives : goal.returns-clause-drives
returns-clause-drives g c = only_then _ _ _ _ c.in_ok-open_if_closed.ensures.drives.flash c.program_next.ensures.drives

pub returns-clause-no_merge : goal.returns-clause-no_merge
returns-clause-no_merge g c = λ room. record {
  map_stays = c.program_next.ensures.map ∙ (c.open_if_closed.ensures.no_merge room).map_stays;
  list_stands = λ list durable lists.
      let mid = c.open_if_closed.new.cache in
      keeps_stands c.args.cache.now.log mid (g.M.Media.state c.open_if_closed.new.media).contents.flash.page (g.M.Media.state c.program_next.new.media).contents.flash.page list durable c.program_next.ensures.lists
      c.args.cache.now.geometry c.open_if_closed.ensures.geometry ((c.in_ok-open_if_closed.ensures.no_merge room).list_stays list durable lists);
  list_stays = on_ok_from c.program_next.result (λ v is. λ list durable lists.
      let mid = c.open_if_closed.new.cache in
      let made = ok_at c.program_next.result v is c.program_next.ensures.cache in
      keeps_then c.args.cache.now.log mid (g.M.Media.state c.open_if_closed.new.media).contents.flash.page (g.M.Media.state c.program_next.new.media).contents.flash.page list durable c.program_next.ensures.lists
      c.program_next.new.cache (ap (λ (p : Parts). p.log) made) (ap (λ (p : Parts). p.map) made) (ap (λ (p : Parts). p.geometry) made) ((c.in_ok-open_if_closed.ensures.no_merge room).list_stays list durable lists));
}

pub returns-clause-begins : goal.returns-clause-begins
returns-clause-begins g c = on_ok_from c.program_next.result (λ v is. λ closed.
    begins_then c.args.cache.now c.open_if_closed.new.cache c.program_next.new.cache c.args.cache.now.geometry.p (c.in_ok-open_if_closed.ensures.begins closed) (ok_at c.program_next.result v is c.program_next.ensures.cache))

pub returns-clause-freed : goal.returns-clause-freed
returns-clause-freed g c = on_ok_from c.program_next.result (λ v is. λ needs.
    freed_then c.args.cache.now c.open_if_closed.new.cache c.program_next.new.cache c.program_next.ensures.map (c.in_ok-open_if_closed.ensures.freed needs))

pub returns-clause-costs : goal.returns-clause-costs
returns-clause-costs g c = on_ok_from c.program_next.result (λ v is. λ closed can.
    ((g.M.Media.state c.open_if_closed.new.media).counts, c.in_ok-open_if_closed.ensures.costs closed can, ok_at c.program_next.result v is c.program_next.ensures.counts))
