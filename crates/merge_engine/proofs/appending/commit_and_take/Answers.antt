use Rattle.std.proofs.Common.{◌≡◌, inr, ◌∙◌, ap, subst}
use Rattle.ft_base.specs.declared.geometry.Geometry.{Geometry}
use Rattle.ft_media.specs.State.{State}
use Rattle.ft_media.specs.Media.{erase_counted}
use Rattle.ft_media.proofs.DrivesLemmas.{only_then}
use Rattle.cache_model.specs.Stands.{FlashStandsFor}
use Rattle.merge_engine.specs.declared.parts.Parts.{Parts}
use Rattle.merge_engine.proofs.ResultLemmas.{on_ok_from, ok_at}
use Rattle.merge_engine.proofs.BesideLemmas.{lists_as}
use Rattle.merge_engine.proofs.BeginLemmas.{takes_after}
use Rattle.merge_engine.proofs.appending.commit_and_take.Goals as goal

pub returns-clause-kept : goal.returns-clause-kept
returns-clause-kept g c = record {
  agree = c.take_log_block.ensures.agree;
  nothing_waits = on_ok_from c.take_log_block.result (λ v is. ap (λ (p : Parts). p.log.buffered) c.take_log_block.ensures.cache ∙ c.in_ok-commit.ensures.kept.nothing_waits);
  lists = on_ok_from c.take_log_block.result (λ v is. λ list durable lists.
      lists_as c.commit.new.cache c.take_log_block.new.cache _ list list (ap (λ (p : Parts). p.map) c.take_log_block.ensures.cache) (ap (λ (p : Parts). p.geometry) c.take_log_block.ensures.cache)
      (c.take_log_block.ensures.lists list list (c.in_ok-commit.ensures.kept.lists list durable lists)));
  stands = λ list durable lists.
      let same : c.commit.new.cache.geometry ≡ c.args.cache.now.geometry = ap (λ (p : Parts). p.geometry) c.commit.ensures.cache in
      inr (subst (λ (h : Geometry). FlashStandsFor h (g.M.Media.state c.take_log_block.new.media).contents.flash.page list) same
      (c.take_log_block.ensures.lists list list (c.in_ok-commit.ensures.kept.lists list durable lists)).stands);
}

pub returns-clause-drives : goal.returns-clause-drives
returns-clause-drives g c = only_then _ _ _ _ c.in_ok-commit.ensures.drives.flash c.take_log_block.ensures.drives

pub returns-clause-takes : goal.returns-clause-takes
returns-clause-takes g c = on_ok_from c.take_log_block.result (λ v is.
    let takes = ok_at c.take_log_block.result v is c.take_log_block.ensures.takes in
    (takes.0, takes_after c.args.cache.now c.commit.new.cache c.take_log_block.new.cache takes.0 c.commit.ensures.cache takes.1))

pub returns-clause-log : goal.returns-clause-log
returns-clause-log g c = on_ok_from c.take_log_block.result (λ v is. ap (λ (p : Parts). p.log) c.take_log_block.ensures.cache ∙ c.in_ok-commit.ensures.log)

pub returns-clause-costs : goal.returns-clause-costs
returns-clause-costs g c = on_ok_from c.take_log_block.result (λ v is.
    let erased = ok_at c.take_log_block.result v is c.take_log_block.ensures.counts in
    record {
      counts = λ none. erased ∙ ap (λ (s : State). erase_counted s.counts) (c.commit.ensures.nothing none).2;
      one_more = λ some low. erased ∙ ap erase_counted (c.in_ok-commit.ensures.one_page some low);
      checkpoint = λ some full. erased ∙ ap erase_counted (c.in_ok-commit.ensures.whole_checkpoint some full).counts;
    })
