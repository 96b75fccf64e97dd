use Rattle.std.proofs.Common.{refl, sym, subst, lt-ltb}
use Rattle.std.proofs.lemmas.Bool.{and_from}
use Rattle.ft_base.specs.declared.record.Record.TheVariants.{SetPage}
use Rattle.cache_model.specs.Cache.{written_block}
use Rattle.std.specs.FinMap.{insert}
use Rattle.merge_engine.specs.declared.parts.Parts.{Parts}
use Rattle.merge_engine.specs.Agreement.{PartsAgree, Lists, AreOfOne}
use Rattle.merge_engine.proofs.NoteLemmas.{agree_placed, lists_noted, placed_held, sound_page}
use Rattle.merge_engine.proofs.noting.put_page.Goals as goal

pub note-requires-clause-sound : goal.note-requires-clause-sound
note-requires-clause-sound c =
    let old = c.args.cache.now in
    and_from _ _ (lt-ltb _ _ (sound_page old.geometry old.map.entries c.args.lba c.args.place c.args.dirty c.requires.fits)) refl

pub returns-clause-agree : goal.returns-clause-agree
returns-clause-agree c = λ contents block agree page.
    let old = c.args.cache.now in
    let new = c.note.new.cache in
    subst (λ (p : Parts). PartsAgree p contents) (sym c.note.ensures.cache)
    (agree_placed old new.map new.log new.pool contents c.args.lba c.args.place c.args.dirty block (subst AreOfOne c.note.ensures.cache c.note.ensures.of_one) c.requires.fits c.note.ensures.map.entries c.note.ensures.log c.note.ensures.roles page agree)

pub returns-clause-lists : goal.returns-clause-lists
returns-clause-lists c = λ contents block list durable page lists.
    let old = c.args.cache.now in
    let new = c.note.new.cache in
    subst (λ (p : Parts). Lists p contents.flash.page (insert list c.args.lba (written_block c.args.lba block c.args.dirty)) durable) (sym c.note.ensures.cache)
    (lists_noted old new.map new.log new.pool (SetPage c.args.lba c.args.place c.args.dirty) contents c.note.ensures.map.entries c.note.ensures.log list (insert list c.args.lba (written_block c.args.lba block c.args.dirty)) durable
    (placed_held old.geometry old.map.entries c.args.lba c.args.place c.args.dirty contents.flash.page list block page.whole lists.held) lists)
