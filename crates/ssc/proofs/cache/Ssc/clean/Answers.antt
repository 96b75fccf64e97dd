use Rattle.std.proofs.Common.{◌∙◌, refl, sym, subst, arith, ap}
use Rattle.std.proofs.lemmas.Bool.{false≢true}
use Rattle.ft_base.specs.declared.record.Record.TheVariants.{Clean}
use Rattle.ft_base.specs.Layout.{page_records}
use Rattle.cache_model.specs.Cache.{Cleaned, undo, made_clean}
use Rattle.cache_model.specs.CacheList.{CacheList}
use Rattle.ssc.specs.CacheState.{Holds, geometry_of}
use Rattle.ssc.proofs.HoldsLemmas.{back_clean, few_buffered, few_stepped, length_waiting, pending_cleaned}
use Rattle.ssc.proofs.LosingLemmas.{pending_losing}
use Rattle.ssc.proofs.NotedLemmas.{places_forgot}
use Rattle.ssc.proofs.StepLemmas.{records_after}
use Rattle.ssc.specs.Places.{places_kept}
use Rattle.ssc.proofs.CommandLemmas.{images_after, dirty_entry, no_dirty_entry}
use Rattle.ssc.proofs.OwnLemmas.{given_up_not, held_still, kept_step, kept_held, cleaned_own}
use Rattle.ssc.specs.declared.cache.Ssc.{Ssc}
use Rattle.ssc.proofs.cache.Ssc.clean.Goals as goal

pub returns-then-not-is_dirty-clause-done : goal.returns-then-not-is_dirty-clause-done
returns-then-not-is_dirty-clause-done g c = λ s holds.
    let old = (g.M.Media.state c.args.media.now).contents in
    let same = no_dirty_entry c.args.self.now old s c.args.lba holds (λ e. false≢true (c.if-not-is_dirty.ensures.1 e)) in
    subst (λ (t : CacheList). Holds c.args.self.now old t) (sym same) holds

pub mark_clean-requires : goal.mark_clean-requires
mark_clean-requires g c = record { may = record { agree = c.requires.up.holds.agree; lba = c.requires.lba; few = few_buffered c.args.self.now (g.M.Media.state c.args.media.now).contents c.requires.up.list c.requires.up.holds } }

pub returns-in-Ok-clause-of_dirty : goal.returns-in-Ok-clause-of_dirty
returns-in-Ok-clause-of_dirty g c = λ s holds dirty.
    let h = dirty_entry c.args.self.now (g.M.Media.state c.args.media.now).contents s c.args.lba holds (c.if-not-is_dirty.ensures.0 refl) in
    pending_cleaned s c.args.lba h.0 h.1 h.2 c.args.self.now _ (g.M.Media.state c.args.media.now).contents (g.M.Media.state c.mark_clean.new.media).contents holds
    (record {
      agree = c.in-Ok.ensures.agree;
      memory = λ ready. c.mark_clean.ensures.reserved (holds.memory ready);
      few = few_stepped c.args.self.now.parts c.mark_clean.new.parts (g.M.Media.state c.args.media.now).contents (g.M.Media.state c.mark_clean.new.media).contents holds.agree c.in-Ok.ensures.agree c.mark_clean.ensures.kept holds.few;
    }) c.in-Ok.ensures.room
    (places_forgot c.args.self.now.parts.log.buffered c.mark_clean.new.parts.log.buffered (Clean c.args.lba) c.args.self.now.before c.forget.new.self holds.places refl
    (c.forget.ensures ∙ ap (λ n. places_kept n c.args.self.now.before) c.buffered.ensures.buffered)
    (records_after c.args.self.now.parts.log.buffered (Clean c.args.lba) c.mark_clean.new.parts (g.M.Media.state c.mark_clean.new.media).contents.flash.page (undo holds.waiting s) s (made_clean c.args.lba s)
    (c.in-Ok.ensures.lists s (undo holds.waiting s) holds.lists)))
    (c.in-Ok.ensures.lists s (undo holds.waiting s) holds.lists)

pub returns-in-Ok-clause-done : goal.returns-in-Ok-clause-done
returns-in-Ok-clause-done g c = λ s holds.
    let h = dirty_entry c.args.self.now (g.M.Media.state c.args.media.now).contents s c.args.lba holds (c.if-not-is_dirty.ensures.0 refl) in
    (returns-in-Ok-clause-of_dirty g c s holds h).holds

pub returns-in-Ok-clause-of_other : goal.returns-in-Ok-clause-of_other
returns-in-Ok-clause-of_other g c = λ s holds never.
    let h = dirty_entry c.args.self.now (g.M.Media.state c.args.media.now).contents s c.args.lba holds (c.if-not-is_dirty.ensures.0 refl) in
    absurd (never h)

pub returns-in-Ok-clause-no_write : goal.returns-in-Ok-clause-no_write
returns-in-Ok-clause-no_write g c = λ few.
    let room = ap page_records c.requires.up.holds.agree.sound.of_one.log in
    c.mark_clean.ensures.no_write (omega (arith, few, room, length_waiting c.args.self.now.parts.log.buffered))

pub returns-in-Ok-clause-images : goal.returns-in-Ok-clause-images
returns-in-Ok-clause-images g c = λ s holds. images_after (geometry_of c.args.self.now) (g.M.Media.state c.mark_clean.new.media).contents (undo holds.waiting s) s (made_clean c.args.lba s) (c.mark_clean.ensures.stands s (undo holds.waiting s) holds.lists)

pub returns-in-Err-clause-images : goal.returns-in-Err-clause-images
returns-in-Err-clause-images g c = λ s holds. images_after (geometry_of c.args.self.now) (g.M.Media.state c.mark_clean.new.media).contents (undo holds.waiting s) s (made_clean c.args.lba s) (c.mark_clean.ensures.stands s (undo holds.waiting s) holds.lists)

pub returns-then-not-is_dirty-clause-own : goal.returns-then-not-is_dirty-clause-own
returns-then-not-is_dirty-clause-own g c = kept_held c.args.self.now c.args.self.now (g.M.Media.state c.args.media.now).contents (held_still c.args.self.now (g.M.Media.state c.args.media.now).contents)

pub returns-in-Ok-clause-own : goal.returns-in-Ok-clause-own
returns-in-Ok-clause-own g c = kept_step c.args.self.now _ (g.M.Media.state c.args.media.now).contents (g.M.Media.state c.mark_clean.new.media).contents (made_clean c.args.lba) (cleaned_own c.args.lba) (λ up s holds.
    let h = dirty_entry c.args.self.now (g.M.Media.state c.args.media.now).contents s c.args.lba holds (c.if-not-is_dirty.ensures.0 refl) in
    pending_losing _ (g.M.Media.state c.mark_clean.new.media).contents s (made_clean c.args.lba s) holds.waiting (Cleaned c.args.lba) (back_clean s c.args.lba h.0 h.1 h.2) (returns-in-Ok-clause-of_dirty g c s holds h)) (returns-in-Ok-clause-images g c)

pub returns-in-Err-clause-own : goal.returns-in-Err-clause-own
returns-in-Err-clause-own g c = kept_step c.args.self.now c.give_up.new.self (g.M.Media.state c.args.media.now).contents (g.M.Media.state c.mark_clean.new.media).contents (made_clean c.args.lba) (cleaned_own c.args.lba)
    (λ up. given_up_not c.give_up.new.self (ap (λ (k : Ssc). k.stopped) c.give_up.ensures.cache) up) (returns-in-Err-clause-images g c)
