use Rattle.std.proofs.Common.{◌/◌, sym, ◌∙◌, ap, subst}
use Rattle.ft_base.specs.declared.geometry.Geometry.{Geometry}
use Rattle.ft_base.specs.declared.record.Record.TheVariants.{Clean}
use Rattle.cache_model.specs.Records.{Entries, after}
use Rattle.cache_model.specs.Cache.{made_clean}
use Rattle.op_log.specs.Log.{LogValue}
use Rattle.merge_engine.specs.Steps.{FollowsGroup}
use Rattle.merge_engine.proofs.NoteLemmas.{agree_less, lists_noted, less_cleaned, cleaned_changes, cleaned_held, cleaned_follows}
use Rattle.merge_engine.proofs.noting.note_clean.Goals as goal

pub returns-clause-agree : goal.returns-clause-agree
returns-clause-agree c = λ contents agree.
    let old = c.args.cache.now in
    let g = old.geometry in
    let m = old.map.entries in
    let is = c.apply.ensures.entries ∙ ap (λ (h : Geometry). after h (Clean c.args.lba) m) c.requires.of_one.map in
    agree_less old c.apply.new.self c.push.new.self old.pool contents (Clean c.args.lba) (c.args.lba / g.p)
    (record {
      map = c.apply.ensures.geometry ∙ c.requires.of_one.map;
      log = ap (λ (l : LogValue). l.geometry) c.push.ensures ∙ c.requires.of_one.log;
      pool = c.requires.of_one.pool;
      victims = c.requires.of_one.victims;
      log_blocks = c.requires.of_one.log_blocks;
      checkpoints = c.requires.of_one.checkpoints;
    })
    c.requires.fits is c.push.ensures (subst (λ (n : Entries). FollowsGroup g (c.args.lba / g.p) m n old.pool old.pool) (sym is) (cleaned_follows g m c.args.lba (c.args.lba / g.p) old.pool))
    (less_cleaned g c.args.lba m) (cleaned_changes g m c.args.lba) agree

pub returns-clause-lists : goal.returns-clause-lists
returns-clause-lists c = λ contents list durable lists.
    let old = c.args.cache.now in
    lists_noted old c.apply.new.self c.push.new.self old.pool (Clean c.args.lba) contents
    (c.apply.ensures.entries ∙ ap (λ (h : Geometry). after h (Clean c.args.lba) c.args.cache.now.map.entries) c.requires.of_one.map) c.push.ensures list (made_clean c.args.lba list) durable
    (cleaned_held old.geometry old.map.entries c.args.lba contents.flash.page list lists.held) lists
