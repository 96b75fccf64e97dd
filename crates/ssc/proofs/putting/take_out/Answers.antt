use Rattle.std.proofs.Common.{ap, subst}
use Rattle.ft_base.specs.declared.geometry.Geometry.{Geometry}
use Rattle.ft_base.specs.declared.record.Record.TheVariants.{Remove}
use Rattle.cache_model.specs.Cache.{evicted}
use Rattle.merge_engine.specs.declared.parts.Parts.{Parts}
use Rattle.merge_engine.proofs.ResultLemmas.{on_ok_from, ok_at}
use Rattle.merge_engine.proofs.TakeLemmas.{agree_map}
use Rattle.ssc.specs.Steps.{FlashStandsForEither}
use Rattle.ssc.proofs.StepLemmas.{removed_fits}
use Rattle.ssc.proofs.WrittenLemmas.{left_pushed, pushed_some}
use Rattle.ssc.proofs.putting.take_out.Goals as goal

pub put_out-requires-clause-is_map : goal.put_out-requires-clause-is_map
put_out-requires-clause-is_map g c = agree_map c.args.parts.now (g.M.Media.state c.args.media.now).contents c.requires.may.agree

pub put_out-requires-clause-fits : goal.put_out-requires-clause-fits
put_out-requires-clause-fits g c = removed_fits c.args.parts.now (g.M.Media.state c.args.media.now).contents c.args.lba c.requires.may.agree c.requires.may.lba

pub returns-clause-lists : goal.returns-clause-lists
returns-clause-lists g c = on_ok_from c.commit.result (λ v is. λ list durable lists.
    ok_at c.commit.result v is c.commit.ensures.kept.lists (evicted c.args.lba list) durable (c.put_out.ensures.lists (g.M.Media.state c.args.media.now).contents list durable lists))

pub returns-clause-stands : goal.returns-clause-stands
returns-clause-stands g c = λ list durable lists.
    subst (λ (h : Geometry). FlashStandsForEither h (g.M.Media.state c.commit.new.media).contents.flash.page durable (evicted c.args.lba list)) (ap (λ (p : Parts). p.geometry) c.put_out.ensures.cache)
    (c.commit.ensures.kept.stands (evicted c.args.lba list) durable (c.put_out.ensures.lists (g.M.Media.state c.args.media.now).contents list durable lists))

pub returns-clause-one_program : goal.returns-clause-one_program
returns-clause-one_program g c = on_ok_from c.commit.result (λ v is. λ left.
    ok_at c.commit.result v is c.commit.ensures.one_page (pushed_some _ _ _ c.put_out.ensures.log)
    (left_pushed c.args.parts.now c.put_out.new.cache (Remove c.args.lba) c.put_out.ensures.log (ap (λ (p : Parts). p.geometry) c.put_out.ensures.cache) left))
