use Rattle.std.proofs.Common.{◌<◌, ◌∙◌, ap, sym, subst, arith}
use Rattle.ft_base.specs.declared.geometry.Geometry.{Geometry}
use Rattle.cache_model.specs.Cache.{written_block}
use Rattle.merge_engine.specs.declared.parts.Parts.{Parts}
use Rattle.merge_engine.proofs.TakeLemmas.{agree_map}
use Rattle.ssc.proofs.PlaceLemmas.{new_page_fits}
use Rattle.ssc.proofs.WrittenLemmas.{room_after, puts_block, inside_entries, inside_pushed, page_begun, pushed_some}
use Rattle.ssc.proofs.putting.write_page.Goals as goal

pub append-requires : goal.append-requires
append-requires g c = record { can = record { agree = c.requires.may.agree; groups = c.requires.memory.groups; room = c.requires.may.few } }

pub put_page-requires-clause-room : goal.put_page-requires-clause-room
put_page-requires-clause-room g c = record {
  pages = let same = c.append.ensures.room.pages in let some = c.requires.memory.pages in omega arith;
  groups = omega arith;
  room = c.in_ok-place.ensures.goes.room;
}

pub put_page-requires-clause-is_map : goal.put_page-requires-clause-is_map
put_page-requires-clause-is_map g c = agree_map c.append.new.cache (g.M.Media.state c.append.new.media).contents c.in_ok-place.ensures.goes.agree

pub put_page-requires-clause-fits : goal.put_page-requires-clause-fits
put_page-requires-clause-fits g c =
    let old = (g.M.Media.state c.args.media.now).contents in
    let new = (g.M.Media.state c.append.new.media).contents in
    new_page_fits c.append.new.cache new c.in_ok-place.ensures.goes.agree new.flash.page c.in_ok-place.place c.args.lba c.args.block.now c.in_ok-place.ensures.place c.args.dirty
    (subst (λ (h : Geometry). c.args.lba < h.size) (sym c.append.ensures.geometry) c.requires.may.lba)
    (λ t. room_after c.args.parts.now c.append.new.cache old new c.requires.may.agree c.in_ok-place.ensures.goes.agree c.append.ensures.geometry c.in_ok-place.ensures.goes.lists c.args.lba (c.requires.dirty t))

pub returns-clause-waits : goal.returns-clause-waits
returns-clause-waits g c = pushed_some _ _ _ c.put_page.ensures.log

pub returns-clause-agree : goal.returns-clause-agree
returns-clause-agree g c = c.put_page.ensures.agree (g.M.Media.state c.append.new.media).contents c.args.block.now c.in_ok-place.ensures.goes.agree c.in_ok-place.ensures.place

pub returns-clause-lists : goal.returns-clause-lists
returns-clause-lists g c =
    let old = (g.M.Media.state c.args.media.now).contents in
    let new = (g.M.Media.state c.append.new.media).contents in
    puts_block c.args.parts.now c.append.new.cache old new c.requires.may.agree c.in_ok-place.ensures.goes.agree c.append.ensures.geometry c.put_page.new.cache c.args.lba c.in_ok-place.place (written_block c.args.lba c.args.block.now c.args.dirty)
    (inside_entries c.args.parts.now c.append.new.cache (λ room. (c.append.ensures.no_merge room).map_stays)) c.put_page.ensures.log
    (λ list durable. c.put_page.ensures.lists new c.args.block.now list durable c.in_ok-place.ensures.place)
    c.in_ok-place.ensures.goes.lists

pub returns-clause-pages : goal.returns-clause-pages
returns-clause-pages g c = record {
  programs = c.in_ok-place.ensures.programs;
  log_page = record {
    inside = λ room. let one = c.in_ok-place.ensures.one_program room in ap (λ (p : Parts). p.log_blocks) c.put_page.ensures.cache ∙ ap (λ (p : Parts). p.log_blocks) one.0;
    opened = λ none. page_begun c.args.parts.now c.append.new.cache c.put_page.new.cache (ap (λ (p : Parts). p.log_blocks) c.put_page.ensures.cache) (c.in_ok-place.ensures.begins none);
  };
}

pub returns-clause-one_program : goal.returns-clause-one_program
returns-clause-one_program g c = λ room. let one = c.in_ok-place.ensures.one_program room in (inside_pushed c.args.parts.now c.append.new.cache c.put_page.new.cache c.args.lba c.in_ok-place.place c.args.dirty one.0 c.put_page.ensures.log, one.1)

pub returns-clause-list_stands : goal.returns-clause-list_stands
returns-clause-list_stands g c = λ room. (c.append.ensures.no_merge room).list_stands

pub returns-in_err-place-clause-list_stands : goal.returns-in_err-place-clause-list_stands
returns-in_err-place-clause-list_stands g c = λ room. (c.append.ensures.no_merge room).list_stands
