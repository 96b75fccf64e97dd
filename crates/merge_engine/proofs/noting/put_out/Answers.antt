use Rattle.std.proofs.Common.{◌/◌, sym, subst}
use Rattle.ft_base.specs.declared.record.Record.TheVariants.{Remove}
use Rattle.cache_model.specs.Cache.{evicted}
use Rattle.merge_engine.specs.declared.parts.Parts.{Parts}
use Rattle.merge_engine.specs.Agreement.{PartsAgree, Lists, AreOfOne}
use Rattle.merge_engine.proofs.NoteLemmas.{agree_less, lists_noted, less_removed, removed_changes, removed_held}
use Rattle.merge_engine.proofs.noting.put_out.Goals as goal

pub returns-clause-agree : goal.returns-clause-agree
returns-clause-agree c = λ contents agree.
    let old = c.args.cache.now in
    let new = c.note.new.cache in
    let g = old.geometry in
    subst (λ (p : Parts). PartsAgree p contents) (sym c.note.ensures.cache)
    (agree_less old new.map new.log new.pool contents (Remove c.args.lba) (c.args.lba / g.p) (subst AreOfOne c.note.ensures.cache c.note.ensures.of_one) c.requires.fits c.note.ensures.map.entries c.note.ensures.log c.note.ensures.roles
    (less_removed g c.args.lba old.map.entries) (removed_changes g old.map.entries c.args.lba) agree)

pub returns-clause-lists : goal.returns-clause-lists
returns-clause-lists c = λ contents list durable lists.
    let old = c.args.cache.now in
    let new = c.note.new.cache in
    subst (λ (p : Parts). Lists p contents.flash.page (evicted c.args.lba list) durable) (sym c.note.ensures.cache)
    (lists_noted old new.map new.log new.pool (Remove c.args.lba) contents c.note.ensures.map.entries c.note.ensures.log list (evicted c.args.lba list) durable (removed_held old.geometry old.map.entries c.args.lba contents.flash.page list lists.held) lists)
