use Rattle.std.proofs.Common.{◌≡◌, ap, ◌∙◌, ◌+◌, ◌*◌, arith, rules, refl, subst}
use Rattle.std.specs.FinMap.{get}
use Rattle.ft_base.specs.declared.geometry.Geometry.{Geometry}
use Rattle.ft_media.proofs.DrivesLemmas.{drives_none, drives_then}
use Rattle.mapping.specs.Bits.{IsBlockOf}
use Rattle.checkpoint.specs.Counts.{programs_counted}
use Rattle.checkpoint.proofs.CountsLemmas.{programs_none, programs_more}
use Rattle.checkpoint.proofs.OnlyLemmas.{only_failed}
use Rattle.merge_engine.specs.Steps.{IsCopyOf, filler_page}
use Rattle.merge_engine.proofs.PlaceLemmas.{owned_place, at_entry, at_none}
use Rattle.merge_engine.proofs.TakeLemmas.{agree_map}
use Rattle.merge_engine.proofs.CopyLemmas.{copied_more, filled_more, held_is_below, is_page_of_group, page_before, pages_of_group}
use Rattle.merge_engine.proofs.copying.copy_group.Goals as goal

pub place_beside-from-requires-clause-is_map : goal.place_beside-from-requires-clause-is_map
place_beside-from-requires-clause-is_map g c = agree_map c.args.cache.now (g.M.Media.state c.args.media.now).contents c.requires.agree

pub place_beside-from-requires-clause-own : goal.place_beside-from-requires-clause-own
place_beside-from-requires-clause-own g c = subst (λ (h : Geometry). IsBlockOf h c.args.cache.now.map.entries c.args.group c.block_of-own.result) c.requires.agree.sound.of_one.map
    (record { some = c.block_of-own.ensures.some; none = c.block_of-own.ensures.none })

pub place_beside-from-requires-clause-page : goal.place_beside-from-requires-clause-page
place_beside-from-requires-clause-page g c = (is_page_of_group c.args.cache.now (g.M.Media.state c.args.media.now).contents c.args.group c.held_bits-held.result c.loop-page.page c.requires.agree c.held_bits-held.ensures c.loop-page-test.true).0

pub place_beside-from-requires-clause-size : goal.place_beside-from-requires-clause-size
place_beside-from-requires-clause-size g c = (is_page_of_group c.args.cache.now (g.M.Media.state c.args.media.now).contents c.args.group c.held_bits-held.result c.loop-page.page c.requires.agree c.held_bits-held.ensures c.loop-page-test.true).1

pub copy_page-requires-clause-from : goal.copy_page-requires-clause-from
copy_page-requires-clause-from g c =
    let a = c.args.group * c.args.cache.now.geometry.p + c.loop-page.page in
    owned_place c.args.cache.now.map.entries a (get c.args.cache.now.map.entries a) c.place_beside-from.result refl c.place_beside-from.ensures

pub copy_page-requires-clause-next : goal.copy_page-requires-clause-next
copy_page-requires-clause-next g c = record {
  free = c.requires.free;
  ready = c.loop-page.invariant.next;
  in_block = (is_page_of_group c.args.cache.now (g.M.Media.state c.args.media.now).contents c.args.group c.held_bits-held.result c.loop-page.page c.requires.agree c.held_bits-held.ensures c.loop-page-test.true).0;
}

pub returns-in_err-copy_page-clause-lists : goal.returns-in_err-copy_page-clause-lists
returns-in_err-copy_page-clause-lists g c list durable lists = c.copy_page.ensures.lists list durable (c.loop-page.invariant.lists list durable lists)

pub returns-in_err-copy_page-clause-drives : goal.returns-in_err-copy_page-clause-drives
returns-in_err-copy_page-clause-drives g c = only_failed _ _ _ _ _ c.loop-page.invariant.drives c.in_err-copy_page.ensures.drives (search rules)

pub loop-page-init : goal.loop-page-init
loop-page-init g c = record {
  agree = c.requires.agree;
  lists = λ list durable lists. lists;
  next = c.requires.erased;
  copied = search rules;
  filled = search rules;
  counts = programs_none (g.M.Media.state c.args.media.now).counts (g.met.M.Media.is_small c.args.media.now).counts.programs;
  drives = drives_none (g.M.Media.state c.args.media.now);
}

pub loop-page-preserved : goal.loop-page-preserved
loop-page-preserved g c = record {
  agree = c.in_ok-copy_page.ensures.agree;
  lists = λ list durable lists. c.copy_page.ensures.lists list durable (c.loop-page.invariant.lists list durable lists);
  next = c.in_ok-copy_page.ensures.next;
  copied = copied_more c.args.cache.now (g.M.Media.state c.loop-page.media).contents (g.M.Media.state c.copy_page.new.media).contents.flash c.args.group c.args.block
      (c.args.group * c.args.cache.now.geometry.p + c.loop-page.page) c.loop-page.page (record { block = c.args.block; page = c.loop-page.page })
      c.loop-page.invariant.agree (g.met.M.Media.blank_ahead c.loop-page.media) refl refl c.loop-page.invariant.next c.loop-page.invariant.copied c.in_ok-copy_page.ensures.others
      (λ e there. at_entry (get c.args.cache.now.map.entries (c.args.group * c.args.cache.now.geometry.p + c.loop-page.page)) c.place_beside-from.result c.place_beside-from.ensures
      (λ at. IsCopyOf (g.M.Media.state c.copy_page.new.media).contents.flash.page at (record { block = c.args.block; page = c.loop-page.page })) c.in_ok-copy_page.ensures.copied e there);
  filled = filled_more c.args.cache.now.geometry c.args.cache.now.map.entries (g.M.Media.state c.loop-page.media).contents.flash
      (g.M.Media.state c.copy_page.new.media).contents.flash c.args.group c.args.block (c.args.group * c.args.cache.now.geometry.p + c.loop-page.page) c.loop-page.page
      (record { block = c.args.block; page = c.loop-page.page })
      refl refl c.loop-page.invariant.filled c.in_ok-copy_page.ensures.others
      (λ none. at_none (get c.args.cache.now.map.entries (c.args.group * c.args.cache.now.geometry.p + c.loop-page.page)) c.place_beside-from.result c.place_beside-from.ensures
      ((g.M.Media.state c.copy_page.new.media).contents.flash.page (record { block = c.args.block; page = c.loop-page.page }) ≡ filler_page) c.in_ok-copy_page.ensures.filler none);
  counts = programs_more c.loop-page.page (g.M.Media.state c.args.media.now).counts (g.M.Media.state c.loop-page.media).counts (g.M.Media.state c.copy_page.new.media).counts c.loop-page.invariant.counts c.in_ok-copy_page.ensures.counts;
  drives = drives_then (g.M.Media.state c.args.media.now) (g.M.Media.state c.loop-page.media) (g.M.Media.state c.copy_page.new.media) _ _ c.loop-page.invariant.drives c.in_ok-copy_page.ensures.drives.flash;
}

pub returns-clause-copied : goal.returns-clause-copied
returns-clause-copied g c a e there in_group =
    let low = held_is_below c.args.cache.now c.args.group c.held_bits-held.result c.requires.agree.sound.of_one c.held_bits-held.ensures a e there in_group in
    let past = c.loop-page-test.false in
    c.loop-page.invariant.copied.each a e there in_group (omega arith)

pub returns-clause-filled : goal.returns-clause-filled
returns-clause-filled g c a b e in_a none in_b there less =
    let low = held_is_below c.args.cache.now c.args.group c.held_bits-held.result c.requires.agree.sound.of_one c.held_bits-held.ensures b e there in_b in
    let before = page_before a b c.args.cache.now.geometry.p c.args.group in_a in_b less in
    let past = c.loop-page-test.false in
    c.loop-page.invariant.filled.each a none in_a (omega arith)

pub returns-clause-counts : goal.returns-clause-counts
returns-clause-counts g c pages reach =
    let all = pages_of_group c.args.cache.now c.args.group c.held_bits-held.result pages c.requires.agree.sound.of_one c.held_bits-held.ensures reach in
    let past = c.loop-page-test.false in
    let here : c.loop-page.page ≡ pages = omega arith in
    c.loop-page.invariant.counts ∙ ap (λ n. programs_counted n (g.M.Media.state c.args.media.now).counts) here
