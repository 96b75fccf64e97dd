use Rattle.std.proofs.Common.{ap, subst}
use Rattle.ft_base.specs.declared.geometry.Geometry.{Geometry}
use Rattle.ft_base.specs.declared.record.Record.TheVariants.{Clean}
use Rattle.cache_model.specs.Cache.{made_clean}
use Rattle.merge_engine.specs.declared.parts.Parts.{Parts}
use Rattle.merge_engine.proofs.ResultLemmas.{on_ok_from, ok_at}
use Rattle.ssc.specs.Steps.{FlashStandsForEither}
use Rattle.ssc.proofs.StepLemmas.{cleaned_fits, after_pushed}
use Rattle.ssc.proofs.putting.mark_clean.Goals as goal

pub note_clean-requires-clause-fits : goal.note_clean-requires-clause-fits
note_clean-requires-clause-fits g c = cleaned_fits c.args.parts.now (g.M.Media.state c.args.media.now).contents c.args.lba c.requires.may.agree c.requires.may.lba

pub returns-clause-lists : goal.returns-clause-lists
returns-clause-lists g c = on_ok_from c.commit_if_full.result (λ v is. λ list durable lists.
    after_pushed c.args.parts.now.log c.note_clean.new.cache c.commit_if_full.new.parts (Clean c.args.lba) (g.M.Media.state c.commit_if_full.new.media).contents.flash.page durable list (made_clean c.args.lba list) c.note_clean.ensures.log
    (ok_at c.commit_if_full.result v is c.commit_if_full.ensures.lists (made_clean c.args.lba list) durable (c.note_clean.ensures.lists (g.M.Media.state c.args.media.now).contents list durable lists)))

pub returns-clause-stands : goal.returns-clause-stands
returns-clause-stands g c = λ list durable lists.
    subst (λ (h : Geometry). FlashStandsForEither h (g.M.Media.state c.commit_if_full.new.media).contents.flash.page durable (made_clean c.args.lba list)) (ap (λ (p : Parts). p.geometry) c.note_clean.ensures.cache)
    (c.commit_if_full.ensures.stands (made_clean c.args.lba list) durable (c.note_clean.ensures.lists (g.M.Media.state c.args.media.now).contents list durable lists))
