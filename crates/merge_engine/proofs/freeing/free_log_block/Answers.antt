use Rattle.std.proofs.Common.{◌≡◌, ◌<◌, length, Some, false, true, refl, sym, ◌∙◌, ap, subst}
use Rattle.ft_base.specs.Layout.{page_records}
use Rattle.mapping.specs.Numbers.{StandsNoneIn}
use Rattle.mapping.specs.MapValue.{MapValue}
use Rattle.log_blocks.specs.Logs.{LogBlocksValue, IsInUse, released}
use Rattle.merge_engine.specs.declared.parts.Parts.{Parts}
use Rattle.merge_engine.specs.Room.{FreesGroups}
use Rattle.merge_engine.proofs.GoesLemmas.{goes_as}
use Rattle.merge_engine.proofs.LogRoomLemmas.{given_same}
use Rattle.merge_engine.proofs.GiveBackLemmas.{was_in_use}
use Rattle.merge_engine.proofs.SwitchLemmas.{lost_at_last, used_before}
use Rattle.merge_engine.proofs.freeing.free_log_block.Goals as goal

pub returns-in_err-merge_owners-clause-unheld : goal.returns-in_err-merge_owners-clause-unheld
returns-in_err-merge_owners-clause-unheld g c = λ oldest is unheld.
    let same : Some oldest ≡ Some c.in-Some.block = sym is ∙ sym c.in-Some.ensures.oldest in
    let one : oldest ≡ c.in-Some.block = cc in
    let was = c.in_err-merge_owners.ensures.nothing (subst (λ n. StandsNoneIn c.args.cache.now.map.entries n) one unheld) in
    let both : false ≡ true = was.0 in
    absurd (cc)

pub returns-clause-unheld : goal.returns-clause-unheld
returns-clause-unheld g c = λ oldest is unheld.
    let same : Some oldest ≡ Some c.in-Some.block = sym is ∙ sym c.in-Some.ensures.oldest in
    let one : oldest ≡ c.in-Some.block = cc in
    let was = c.merge_owners.ensures.nothing (subst (λ n. StandsNoneIn c.args.cache.now.map.entries n) one unheld) in
    (refl, given_same c.args.cache.now c.merge_owners.new.cache c.give_back_used.new.cache _ was.1 c.give_back_used.ensures.cache, was.2)

pub returns-clause-log_blocks : goal.returns-clause-log_blocks
returns-clause-log_blocks g c = λ oldest is.
    let same : Some c.in-Some.block ≡ Some oldest = c.in-Some.ensures.oldest ∙ is in
    let one : c.in-Some.block ≡ oldest = cc in
    subst (λ b. c.give_back_used.new.cache.log_blocks ≡ released b c.args.cache.now.log_blocks) one
    (lost_at_last c.in-Some.block c.args.cache.now.log_blocks c.merge_owners.new.cache.log_blocks c.give_back_used.new.cache.log_blocks c.merge_owners.ensures.log_blocks c.in-Some.ensures.in_use c.give_back_used.ensures.used c.give_back_used.ensures.switched)

pub returns-in_err-merge_owners-clause-used : goal.returns-in_err-merge_owners-clause-used
returns-in_err-merge_owners-clause-used g c = used_before c.in-Some.block c.args.cache.now.log_blocks c.merge_owners.new.cache.log_blocks c.merge_owners.ensures.log_blocks

pub returns-clause-used : goal.returns-clause-used
returns-clause-used g c = λ b used.
    let is = lost_at_last c.in-Some.block c.args.cache.now.log_blocks c.merge_owners.new.cache.log_blocks c.give_back_used.new.cache.log_blocks c.merge_owners.ensures.log_blocks c.in-Some.ensures.in_use c.give_back_used.ensures.used c.give_back_used.ensures.switched in
    was_in_use c.args.cache.now.log_blocks c.in-Some.block b (subst (λ (l : LogBlocksValue). IsInUse l b) is used)

pub returns-clause-goes : goal.returns-clause-goes
returns-clause-goes g c = record {
  agree = c.give_back_used.ensures.agree (g.M.Media.state c.merge_owners.new.media).contents c.in_ok-merge_owners.ensures.goes.agree c.in_ok-merge_owners.ensures.unheld;
  room = subst (λ (p : Parts). length p.log.buffered < page_records p.log.geometry) (sym c.give_back_used.ensures.cache) c.in_ok-merge_owners.ensures.goes.room;
  lists = λ list durable lists.
      let is = c.give_back_used.ensures.cache in
      goes_as c.args.cache.now.log c.merge_owners.new.cache c.give_back_used.new.cache (g.M.Media.state c.merge_owners.new.media).contents.flash.page list durable
      (ap (λ (p : Parts). p.map) is) (ap (λ (p : Parts). p.geometry) is) (ap (λ (p : Parts). p.log) is) (c.in_ok-merge_owners.ensures.goes.lists list durable lists);
  stands = c.merge_owners.ensures.goes.stands;
}

pub returns-clause-groups : goal.returns-clause-groups
returns-clause-groups g c = λ oldest is.
    let old = c.args.cache.now in
    let same : Some c.in-Some.block ≡ Some oldest = c.in-Some.ensures.oldest ∙ is in
    let one : c.in-Some.block ≡ oldest = cc in
    subst (λ b. FreesGroups old.geometry b old.map.entries c.give_back_used.new.cache.map.entries) one
    (subst (λ (m : MapValue). FreesGroups old.geometry c.in-Some.block old.map.entries m.entries) (sym (ap (λ (p : Parts). p.map) c.give_back_used.ensures.cache)) c.in_ok-merge_owners.ensures.groups)
