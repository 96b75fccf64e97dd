use Rattle.std.proofs.Common.{rules, ◌<◌, ◌∙◌, inl, length, sym, ap, subst, false}
use Rattle.ft_base.specs.declared.geometry.Geometry.{Geometry}
use Rattle.cache_model.specs.Cache.{Inserted, undo, written_clean}
use Rattle.merge_engine.specs.declared.parts.Parts.{Parts}
use Rattle.ssc.specs.Kept.{GrewForWrite}
use Rattle.ssc.specs.declared.cache.Ssc.{Ssc}
use Rattle.ssc.specs.Places.{places_kept}
use Rattle.ssc.proofs.CommandLemmas.{not_refused, was_refused, drives_given_up, failed_refuses}
use Rattle.ssc.proofs.GrowthLemmas.{grew_refused, grew_written}
use Rattle.ssc.proofs.HoldsLemmas.{few_buffered, held_none}
use Rattle.ssc.proofs.WriteLemmas.{buffered_from, images_kept, images_written, left_absent, left_of, lists_beside, losing_from, log_room_left, page_from, ring_forgot, written_from, inside_from, settled_unready, left_clean, room_left, none_of_absent, few_left, one_pends, over_held}
use Rattle.ssc.proofs.OwnLemmas.{given_up_not, kept_held, kept_write}
use Rattle.ssc.proofs.cache.Ssc.write_clean.Goals as goal

pub put_clean-requires-clause-may : goal.put_clean-requires-clause-may
put_clean-requires-clause-may g c = record {
  agree = (c.reserve.ensures.holds (g.M.Media.state c.args.media.now).contents c.requires.up.list c.requires.up.holds).holds.agree;
  lba = subst (λ (h : Geometry). c.args.lba < h.size) (sym c.reserve.ensures.same) c.requires.lba;
  few = few_buffered c.reserve.new.self (g.M.Media.state c.args.media.now).contents c.requires.up.list (c.reserve.ensures.holds (g.M.Media.state c.args.media.now).contents c.requires.up.list c.requires.up.holds).holds;
}

pub put_clean-requires-clause-memory : goal.put_clean-requires-clause-memory
put_clean-requires-clause-memory g c = (c.reserve.ensures.holds (g.M.Media.state c.args.media.now).contents c.requires.up.list c.requires.up.holds).holds.memory (not_refused c.reserve.result c.is_err.result c.is_err.ensures.value c.if-is_err.false c.reserve.ensures.ready)

pub returns-in-Ok-clause-done : goal.returns-in-Ok-clause-done
returns-in-Ok-clause-done g c = λ s holds.
    let k = c.reserve.ensures.holds (g.M.Media.state c.args.media.now).contents s holds in
    written_from c.reserve.new.self.parts _ (g.M.Media.state c.put_clean.new.media).contents s (written_clean c.args.lba c.args.block.now) c.args.lba c.put_clean.ensures.kept.geometry
    (left_of c.reserve.new.self.parts _ (g.M.Media.state c.put_clean.new.media).contents s (undo k.holds.waiting s) (written_clean c.args.lba c.args.block.now)
    (left_clean c.reserve.new.self _ (g.M.Media.state c.args.media.now).contents (g.M.Media.state c.put_clean.new.media).contents s c.args.lba c.args.block.now k.holds
    (settled_unready c.reserve.new.self _ (g.M.Media.state c.args.media.now).contents (g.M.Media.state c.put_clean.new.media).contents s k.holds (ap (λ (v : Ssc). v.ready) c.put_clean.ensures.cache) c.in-Ok.ensures.agree c.put_clean.ensures.kept)
    c.in-Ok.ensures.few (ring_forgot c.reserve.new.self.parts c.put_clean.new.self.parts (g.M.Media.state c.put_clean.new.media).contents c.args.lba c.args.block.now c.reserve.new.self.before c.forget.new.self s (undo k.holds.waiting s) k.holds.places
    (c.forget.ensures ∙ ap (λ n. places_kept n c.put_clean.new.self.before) c.buffered.ensures.buffered ∙ ap (λ (v : Ssc). places_kept (length c.put_clean.new.self.parts.log.buffered) v.before) c.put_clean.ensures.cache) (c.in-Ok.ensures.lists s (undo k.holds.waiting s) k.holds.lists))
    c.in-Ok.ensures.over_held (held_none c.reserve.new.self (g.M.Media.state c.args.media.now).contents s c.args.lba k.holds) (c.in-Ok.ensures.lists s (undo k.holds.waiting s) k.holds.lists)))

pub returns-in-Ok-clause-over_held : goal.returns-in-Ok-clause-over_held
returns-in-Ok-clause-over_held g c = λ s holds held. over_held c.reserve.new.self c.put_clean.new.self (g.M.Media.state c.args.media.now).contents s c.args.lba (c.reserve.ensures.holds (g.M.Media.state c.args.media.now).contents s holds).holds held c.in-Ok.ensures.over_held

pub returns-in-Ok-clause-at_absent : goal.returns-in-Ok-clause-at_absent
returns-in-Ok-clause-at_absent g c = λ s holds absent.
    let k = c.reserve.ensures.holds (g.M.Media.state c.args.media.now).contents s holds in
    buffered_from c.reserve.new.self.parts _ (g.M.Media.state c.put_clean.new.media).contents s (written_clean c.args.lba c.args.block.now) (λ v. Inserted c.args.lba) c.args.lba k.holds.waiting holds.waiting k.same c.put_clean.ensures.kept.geometry
    (left_absent c.reserve.new.self _ (g.M.Media.state c.args.media.now).contents (g.M.Media.state c.put_clean.new.media).contents s c.args.lba c.args.block.now k.holds
    (settled_unready c.reserve.new.self _ (g.M.Media.state c.args.media.now).contents (g.M.Media.state c.put_clean.new.media).contents s k.holds (ap (λ (v : Ssc). v.ready) c.put_clean.ensures.cache) c.in-Ok.ensures.agree c.put_clean.ensures.kept)
    c.in-Ok.ensures.few (ring_forgot c.reserve.new.self.parts c.put_clean.new.self.parts (g.M.Media.state c.put_clean.new.media).contents c.args.lba c.args.block.now c.reserve.new.self.before c.forget.new.self s (undo k.holds.waiting s) k.holds.places
    (c.forget.ensures ∙ ap (λ n. places_kept n c.put_clean.new.self.before) c.buffered.ensures.buffered ∙ ap (λ (v : Ssc). places_kept (length c.put_clean.new.self.parts.log.buffered) v.before) c.put_clean.ensures.cache) (c.in-Ok.ensures.lists s (undo k.holds.waiting s) k.holds.lists)) absent (c.in-Ok.ensures.lists s (undo k.holds.waiting s) k.holds.lists))

pub returns-in-Ok-clause-images : goal.returns-in-Ok-clause-images
returns-in-Ok-clause-images g c = λ s holds.
    let k = c.reserve.ensures.holds (g.M.Media.state c.args.media.now).contents s holds in
    images_written c.args.self.now c.reserve.new.self (g.M.Media.state c.put_clean.new.media).contents (undo holds.waiting s) s c.args.lba (written_clean c.args.lba c.args.block.now) c.reserve.ensures.same
    (c.put_clean.ensures.leaves.stands s (undo holds.waiting s) (lists_beside c.reserve.new.self (g.M.Media.state c.args.media.now).contents s holds.waiting k))

pub returns-in-Err-clause-images : goal.returns-in-Err-clause-images
returns-in-Err-clause-images g c = λ s holds.
    let k = c.reserve.ensures.holds (g.M.Media.state c.args.media.now).contents s holds in
    images_written c.args.self.now c.reserve.new.self (g.M.Media.state c.put_clean.new.media).contents (undo holds.waiting s) s c.args.lba (written_clean c.args.lba c.args.block.now) c.reserve.ensures.same
    (c.put_clean.ensures.leaves.stands s (undo holds.waiting s) (lists_beside c.reserve.new.self (g.M.Media.state c.args.media.now).contents s holds.waiting k))

pub returns-then-is_err-clause-own : goal.returns-then-is_err-clause-own
returns-then-is_err-clause-own g c = kept_held c.args.self.now c.reserve.new.self (g.M.Media.state c.args.media.now).contents (c.reserve.ensures.holds (g.M.Media.state c.args.media.now).contents)

pub returns-in-Ok-clause-own : goal.returns-in-Ok-clause-own
returns-in-Ok-clause-own g c = kept_write c.args.self.now _ (g.M.Media.state c.args.media.now).contents (g.M.Media.state c.put_clean.new.media).contents c.args.lba c.args.block.now false
    (λ up s holds.
    let k = c.reserve.ensures.holds (g.M.Media.state c.args.media.now).contents s holds in
    losing_from c.reserve.new.self.parts _ (g.M.Media.state c.put_clean.new.media).contents s (written_clean c.args.lba c.args.block.now) c.args.lba k.holds.waiting holds.waiting k.same c.put_clean.ensures.kept.geometry
    (left_clean c.reserve.new.self _ (g.M.Media.state c.args.media.now).contents (g.M.Media.state c.put_clean.new.media).contents s c.args.lba c.args.block.now k.holds
    (settled_unready c.reserve.new.self _ (g.M.Media.state c.args.media.now).contents (g.M.Media.state c.put_clean.new.media).contents s k.holds (ap (λ (v : Ssc). v.ready) c.put_clean.ensures.cache) c.in-Ok.ensures.agree c.put_clean.ensures.kept)
    c.in-Ok.ensures.few (ring_forgot c.reserve.new.self.parts c.put_clean.new.self.parts (g.M.Media.state c.put_clean.new.media).contents c.args.lba c.args.block.now c.reserve.new.self.before c.forget.new.self s (undo k.holds.waiting s) k.holds.places
    (c.forget.ensures ∙ ap (λ n. places_kept n c.put_clean.new.self.before) c.buffered.ensures.buffered ∙ ap (λ (v : Ssc). places_kept (length c.put_clean.new.self.parts.log.buffered) v.before) c.put_clean.ensures.cache) (c.in-Ok.ensures.lists s (undo k.holds.waiting s) k.holds.lists))
    c.in-Ok.ensures.over_held (held_none c.reserve.new.self (g.M.Media.state c.args.media.now).contents s c.args.lba k.holds) (c.in-Ok.ensures.lists s (undo k.holds.waiting s) k.holds.lists)))
    (returns-in-Ok-clause-images g c)

pub returns-in-Err-clause-own : goal.returns-in-Err-clause-own
returns-in-Err-clause-own g c = kept_write c.args.self.now c.give_up.new.self (g.M.Media.state c.args.media.now).contents (g.M.Media.state c.put_clean.new.media).contents c.args.lba c.args.block.now false
    (λ up. given_up_not c.give_up.new.self (ap (λ (k : Ssc). k.stopped) c.give_up.ensures.cache) up) (returns-in-Err-clause-images g c)

pub returns-then-is_err-clause-runs : goal.returns-then-is_err-clause-runs
returns-then-is_err-clause-runs g c = record {
  geometry = search rules;
  buckets = grew_refused c.args.self.now c.reserve.new.self (was_refused c.reserve.result c.is_err.result c.is_err.ensures.value c.if-is_err.true c.reserve.ensures.refused).1;
  stopped = search rules;
  drives = search rules;
  log_page = search rules;
}

pub returns-in-Ok-clause-runs : goal.returns-in-Ok-clause-runs
returns-in-Ok-clause-runs g c = record {
  geometry = search rules;
  buckets = grew_written c.args.self.now c.reserve.new.self c.put_clean.new.self.parts (λ is. (c.reserve.ensures.there is).1)
      (not_refused c.reserve.result c.is_err.result c.is_err.ensures.value c.if-is_err.false c.reserve.ensures.room) c.put_clean.ensures.kept.buckets;
  stopped = search rules;
  drives = search rules;
  log_page = page_from c.args.self.now.parts c.reserve.new.self.parts c.put_clean.new.self.parts c.reserve.ensures.parts c.in-Ok.ensures.pages.log_page;
}

pub returns-in-Err-clause-runs : goal.returns-in-Err-clause-runs
returns-in-Err-clause-runs g c = record {
  geometry = search rules;
  buckets = subst (λ (k : Ssc). GrewForWrite c.args.self.now.parts k.parts) (sym c.give_up.ensures.cache)
      (grew_written c.args.self.now c.reserve.new.self c.put_clean.new.self.parts (λ is. (c.reserve.ensures.there is).1)
      (not_refused c.reserve.result c.is_err.result c.is_err.ensures.value c.if-is_err.false c.reserve.ensures.room) c.put_clean.ensures.kept.buckets);
  stopped = search rules;
  drives = drives_given_up (Unit {0}) (g.M.Media.state c.args.media.now) (g.M.Media.state c.put_clean.new.media) c.give_up.result c.in-Err.error c.give_up.ensures.error c.in-Err.ensures.drives.flash;
  log_page = search rules;
}

pub returns-in-Ok-clause-in_room : goal.returns-in-Ok-clause-in_room
returns-in-Ok-clause-in_room g c = record {
  inside = λ room s holds.
      let k = c.reserve.ensures.holds (g.M.Media.state c.args.media.now).contents s holds in
      inside_from c.reserve.new.self.parts _ (g.M.Media.state c.put_clean.new.media).contents s (written_clean c.args.lba c.args.block.now) (inl (room_left c.args.self.now c.reserve.new.self c.reserve.ensures.parts room))
      (left_of c.reserve.new.self.parts _ (g.M.Media.state c.put_clean.new.media).contents s (undo k.holds.waiting s) (written_clean c.args.lba c.args.block.now)
      (left_clean c.reserve.new.self _ (g.M.Media.state c.args.media.now).contents (g.M.Media.state c.put_clean.new.media).contents s c.args.lba c.args.block.now k.holds
      (settled_unready c.reserve.new.self _ (g.M.Media.state c.args.media.now).contents (g.M.Media.state c.put_clean.new.media).contents s k.holds (ap (λ (v : Ssc). v.ready) c.put_clean.ensures.cache) c.in-Ok.ensures.agree c.put_clean.ensures.kept)
      c.in-Ok.ensures.few (ring_forgot c.reserve.new.self.parts c.put_clean.new.self.parts (g.M.Media.state c.put_clean.new.media).contents c.args.lba c.args.block.now c.reserve.new.self.before c.forget.new.self s (undo k.holds.waiting s) k.holds.places
      (c.forget.ensures ∙ ap (λ n. places_kept n c.put_clean.new.self.before) c.buffered.ensures.buffered ∙ ap (λ (v : Ssc). places_kept (length c.put_clean.new.self.parts.log.buffered) v.before) c.put_clean.ensures.cache) (c.in-Ok.ensures.lists s (undo k.holds.waiting s) k.holds.lists))
      c.in-Ok.ensures.over_held (held_none c.reserve.new.self (g.M.Media.state c.args.media.now).contents s c.args.lba k.holds) (c.in-Ok.ensures.lists s (undo k.holds.waiting s) k.holds.lists)));
  kept = λ room s holds.
      let k = c.reserve.ensures.holds (g.M.Media.state c.args.media.now).contents s holds in
      inside_from c.reserve.new.self.parts _ (g.M.Media.state c.put_clean.new.media).contents s (written_clean c.args.lba c.args.block.now) (log_room_left c.args.self.now c.reserve.new.self c.reserve.ensures.parts c.reserve.ensures.entries room)
      (left_of c.reserve.new.self.parts _ (g.M.Media.state c.put_clean.new.media).contents s (undo k.holds.waiting s) (written_clean c.args.lba c.args.block.now)
      (left_clean c.reserve.new.self _ (g.M.Media.state c.args.media.now).contents (g.M.Media.state c.put_clean.new.media).contents s c.args.lba c.args.block.now k.holds
      (settled_unready c.reserve.new.self _ (g.M.Media.state c.args.media.now).contents (g.M.Media.state c.put_clean.new.media).contents s k.holds (ap (λ (v : Ssc). v.ready) c.put_clean.ensures.cache) c.in-Ok.ensures.agree c.put_clean.ensures.kept)
      c.in-Ok.ensures.few (ring_forgot c.reserve.new.self.parts c.put_clean.new.self.parts (g.M.Media.state c.put_clean.new.media).contents c.args.lba c.args.block.now c.reserve.new.self.before c.forget.new.self s (undo k.holds.waiting s) k.holds.places
      (c.forget.ensures ∙ ap (λ n. places_kept n c.put_clean.new.self.before) c.buffered.ensures.buffered ∙ ap (λ (v : Ssc). places_kept (length c.put_clean.new.self.parts.log.buffered) v.before) c.put_clean.ensures.cache) (c.in-Ok.ensures.lists s (undo k.holds.waiting s) k.holds.lists))
      c.in-Ok.ensures.over_held (held_none c.reserve.new.self (g.M.Media.state c.args.media.now).contents s c.args.lba k.holds) (c.in-Ok.ensures.lists s (undo k.holds.waiting s) k.holds.lists)));
  kept_images = λ room s holds.
      let k = c.reserve.ensures.holds (g.M.Media.state c.args.media.now).contents s holds in
      images_kept c.args.self.now c.reserve.new.self (g.M.Media.state c.put_clean.new.media).contents (undo holds.waiting s) s (written_clean c.args.lba c.args.block.now s) c.reserve.ensures.same
      (c.put_clean.ensures.leaves.kept (log_room_left c.args.self.now c.reserve.new.self c.reserve.ensures.parts c.reserve.ensures.entries room) s (undo holds.waiting s) (lists_beside c.reserve.new.self (g.M.Media.state c.args.media.now).contents s holds.waiting k));
}

pub returns-in-Err-clause-in_room : goal.returns-in-Err-clause-in_room
returns-in-Err-clause-in_room g c = record {
  inside = search rules;
  kept = search rules;
  kept_images = λ room s holds.
      let k = c.reserve.ensures.holds (g.M.Media.state c.args.media.now).contents s holds in
      images_kept c.args.self.now c.reserve.new.self (g.M.Media.state c.put_clean.new.media).contents (undo holds.waiting s) s (written_clean c.args.lba c.args.block.now s) c.reserve.ensures.same
      (c.put_clean.ensures.leaves.kept (log_room_left c.args.self.now c.reserve.new.self c.reserve.ensures.parts c.reserve.ensures.entries room) s (undo holds.waiting s) (lists_beside c.reserve.new.self (g.M.Media.state c.args.media.now).contents s holds.waiting k));
}

pub returns-in-Ok-clause-costs : goal.returns-in-Ok-clause-costs
returns-in-Ok-clause-costs g c = record {
  one_program = λ s holds absent room few.
      let k = c.reserve.ensures.holds (g.M.Media.state c.args.media.now).contents s holds in
      let x = one_pends c.args.self.now c.reserve.new.self c.put_clean.new.self c.args.lba false _ _ (ap (λ (p : Parts). p.log) c.reserve.ensures.parts)
      (c.in-Ok.ensures.one_program (none_of_absent c.reserve.new.self (g.M.Media.state c.args.media.now).contents s c.args.lba k.holds absent) (room_left c.args.self.now c.reserve.new.self c.reserve.ensures.parts room)
      (few_left c.args.self.now c.reserve.new.self c.reserve.ensures.parts holds.agree.sound.of_one.log few)) in
      (x.0, x.1.1);
  programs = c.in-Ok.ensures.pages.programs;
}

pub returns-in-Err-clause-refused : goal.returns-in-Err-clause-refused
returns-in-Err-clause-refused g c = failed_refuses (Unit {0}) (Unit {0}) c.args.self.now c.give_up.new.self (g.M.Media.state c.args.media.now) (g.M.Media.state c.put_clean.new.media) c.give_up.result c.in-Err.error c.give_up.ensures.error c.in-Err.ensures.drives.memory
