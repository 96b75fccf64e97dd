use Rattle.std.proofs.Common.{◌≡◌, ℕ, ◌<◌, List, length, slice_get, inr, ◌∙◌, ap, subst, arith}
use Rattle.ft_base.specs.declared.geometry.Geometry.{Geometry}
use Rattle.op_log.specs.Log.{LogValue}
use Rattle.log_blocks.specs.Logs.{LogBlocksValue, without_block}
use Rattle.merge_engine.specs.declared.parts.Parts.{Parts}
use Rattle.merge_engine.specs.Room.{FlashStandsForGiven}
use Rattle.merge_engine.specs.Steps.{CanBeginLog, GoesOn}
use Rattle.merge_engine.proofs.ResultLemmas.{on_ok_from, ok_at}
use Rattle.merge_engine.proofs.BesideLemmas.{lists_as}
use Rattle.merge_engine.proofs.GiveBackLemmas.{few_left, room_after}
use Rattle.merge_engine.proofs.HeldLogsLemmas.{can_from, all_left}
use Rattle.merge_engine.proofs.BeginLemmas.{freed_as}
use Rattle.merge_engine.proofs.appending.make_room.Goals as goal

pub returns-clause-few : goal.returns-clause-few
returns-clause-few g c = on_ok_from c.free_log_block.result (λ v is.
    let mid = c.free_unheld.new.cache in
    let new = c.free_log_block.new.cache in
    let agree = c.free_unheld.ensures.agree (g.M.Media.state c.args.media.now).contents c.requires.can.agree in
    let low = room_after mid.log_blocks new.log_blocks c.used.ensures.sound (omega (arith, c.used.ensures.used, c.if-used-cache.false, mid.geometry.in_range.l_low)) (ok_at c.free_log_block.result v is c.free_log_block.ensures.log_blocks) in
    let first = ap (λ (h : Geometry). h.l) agree.sound.of_one.log_blocks in
    let then = ap (λ (h : Geometry). h.l) c.free_log_block.ensures.geometry in
    omega arith)

pub returns-clause-goes : goal.returns-clause-goes
returns-clause-goes g c = record {
  agree = c.free_log_block.ensures.goes.agree;
  room = c.free_log_block.ensures.goes.room;
  lists = on_ok_from c.free_log_block.result (λ v is. λ list durable lists.
      let mid = c.free_unheld.new.cache in
      let gave = c.free_unheld.ensures.cache in
      subst (λ (l : LogValue). GoesOn l c.free_log_block.new.cache (g.M.Media.state c.free_log_block.new.media).contents.flash.page list durable) (ap (λ (p : Parts). p.log) gave)
      ((ok_at c.free_log_block.result v is c.free_log_block.ensures.goes.lists) list durable
      (lists_as c.args.cache.now mid (g.M.Media.state c.args.media.now).contents.flash.page list durable (ap (λ (p : Parts). p.map) gave) (ap (λ (p : Parts). p.geometry) gave) lists)));
  stands = λ list durable lists.
      let mid = c.free_unheld.new.cache in
      let gave = c.free_unheld.ensures.cache in
      subst (λ (h : Geometry). FlashStandsForGiven h (g.M.Media.state c.free_log_block.new.media).contents.flash.page durable list) (ap (λ (p : Parts). p.geometry) gave)
      (c.free_log_block.ensures.goes.stands list durable
      (lists_as c.args.cache.now mid (g.M.Media.state c.args.media.now).contents.flash.page list durable (ap (λ (p : Parts). p.map) gave) (ap (λ (p : Parts). p.geometry) gave) lists));
}

pub returns-clause-no_merge : goal.returns-clause-no_merge
returns-clause-no_merge g c = λ can.
    let old = c.args.cache.now in
    let mid = c.free_unheld.new.cache in
    let s = c.requires.can.agree.sound in
    let few = few_left old mid s.log_blocks s.of_one.log_blocks (ap (λ (p : Parts). p.geometry) c.free_unheld.ensures.cache) c.free_unheld.ensures.no_more c.free_unheld.ensures.fewer can in
    absurd (omega (arith, c.used.ensures.used, c.if-used-cache.false))

fewer : (old mid : Parts) (count : ℕ) → mid.geometry ≡ old.geometry → count ≡ length mid.log_blocks.used → count < mid.geometry.l → length mid.log_blocks.used < old.geometry.l
fewer old mid count same is low = let l = ap (λ (h : Geometry). h.l) same in omega (arith, is, low, l)

pub returns-then-used-cache-clause-makes : goal.returns-then-used-cache-clause-makes
returns-then-used-cache-clause-makes g c =
    let old = c.args.cache.now in
    let mid = c.free_unheld.new.cache in
    let e = c.free_unheld.ensures in
    record {
      unheld = λ can. e.held;
      erases = λ can. e.erases;
      oldest = λ cannot. absurd (cannot (can_from old mid.log_blocks.used e.held (fewer old mid c.used.result (ap (λ (p : Parts). p.geometry) e.cache) c.used.ensures.used c.if-used-cache.true)));
    }

pub returns-then-used-cache-clause-freed : goal.returns-then-used-cache-clause-freed
returns-then-used-cache-clause-freed g c = λ needs.
    let old = c.args.cache.now in
    let mid = c.free_unheld.new.cache in
    let e = c.free_unheld.ensures in
    absurd (needs (inr (can_from old mid.log_blocks.used e.held (fewer old mid c.used.result (ap (λ (p : Parts). p.geometry) e.cache) c.used.ensures.used c.if-used-cache.true))))

pub returns-clause-makes : goal.returns-clause-makes
returns-clause-makes g c = on_ok_from c.free_log_block.result (λ v is.
    let old = c.args.cache.now in
    let mid = c.free_unheld.new.cache in
    let e = c.free_unheld.ensures in
    let s = c.requires.can.agree.sound in
    let few = few_left old mid s.log_blocks s.of_one.log_blocks (ap (λ (p : Parts). p.geometry) e.cache) e.no_more e.fewer in
    let never : CanBeginLog old → ⊥ = λ can. let low = few can in absurd (omega (arith, low, c.used.ensures.used, c.if-used-cache.false)) in
    record {
      unheld = λ can. absurd (never can);
      erases = λ can. absurd (never can);
      oldest = λ cannot oldest first.
          let same = all_left old mid.log_blocks.used e.held cannot in
          ap (λ (l : LogBlocksValue). l.used) (ok_at c.free_log_block.result v is c.free_log_block.ensures.log_blocks oldest (ap (λ (l : List ℕ). slice_get l 0) same ∙ first)) ∙ ap (without_block oldest) same;
    })

pub returns-clause-freed : goal.returns-clause-freed
returns-clause-freed g c = on_ok_from c.free_log_block.result (λ v is. λ needs.
    let old = c.args.cache.now in
    let mid = c.free_unheld.new.cache in
    let e = c.free_unheld.ensures in
    freed_as old mid c.free_log_block.new.cache (all_left old mid.log_blocks.used e.held (λ can. needs (inr can))) (ap (λ (p : Parts). p.map) e.cache) (ap (λ (p : Parts). p.geometry) e.cache)
    (ok_at c.free_log_block.result v is c.free_log_block.ensures.groups))
