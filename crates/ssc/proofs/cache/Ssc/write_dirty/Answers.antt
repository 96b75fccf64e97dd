use Rattle.std.proofs.Common.{rules, ◌<◌, true, length, inl, refl, sym, subst, ap}
use Rattle.ft_base.specs.declared.geometry.Geometry.{Geometry}
use Rattle.cache_model.specs.Cache.{written_block, undo, written_dirty}
use Rattle.ssc.proofs.CommandLemmas.{not_refused, was_refused, drives_given_up, failed_refuses}
use Rattle.ssc.proofs.GrowthLemmas.{grew_still, grew_refused, grew_written}
use Rattle.ssc.proofs.HoldsLemmas.{few_buffered}
use Rattle.ssc.proofs.WriteLemmas.{full_is, not_full, not_full_from, images_kept, images_written, left_of, lists_beside, losing_from, log_room_left, page_from, written_from, inside_from, settled_unready, left_committed, log_left, room_left, room_for}
use Rattle.ssc.proofs.OwnLemmas.{given_up_not, held_still, kept_held, kept_write}
use Rattle.ssc.specs.Kept.{GrewForWrite}
use Rattle.ssc.specs.declared.cache.Ssc.{Ssc}
use Rattle.ssc.proofs.cache.Ssc.write_dirty.Goals as goal

pub is_full-requires : goal.is_full-requires
is_full-requires g c = record { of_one = c.requires.up.holds.agree.sound.of_one.map }

pub returns-then-is_full-clause-full : goal.returns-then-is_full-clause-full
returns-then-is_full-clause-full g c = λ s holds.
    full_is c.args.self.now (g.M.Media.state c.args.media.now).contents s c.args.lba holds (Unit {0}) _ _ (c.is_full.ensures.full c.if-is_full.true) refl refl

pub returns-then-is_err-clause-full : goal.returns-then-is_err-clause-full
returns-then-is_err-clause-full g c = λ s holds. not_full c.args.self.now (g.M.Media.state c.args.media.now).contents s c.args.lba holds (c.is_full.ensures.room c.if-is_full.false)

pub write_committed-requires-clause-may : goal.write_committed-requires-clause-may
write_committed-requires-clause-may g c = record {
  agree = (c.reserve.ensures.holds (g.M.Media.state c.args.media.now).contents c.requires.up.list c.requires.up.holds).holds.agree;
  lba = subst (λ (h : Geometry). c.args.lba < h.size) (sym c.reserve.ensures.same) c.requires.lba;
  few = few_buffered c.reserve.new.self (g.M.Media.state c.args.media.now).contents c.requires.up.list (c.reserve.ensures.holds (g.M.Media.state c.args.media.now).contents c.requires.up.list c.requires.up.holds).holds;
}

pub write_committed-requires-clause-memory : goal.write_committed-requires-clause-memory
write_committed-requires-clause-memory g c = (c.reserve.ensures.holds (g.M.Media.state c.args.media.now).contents c.requires.up.list c.requires.up.holds).holds.memory (not_refused c.reserve.result c.is_err.result c.is_err.ensures.value c.if-is_err.false c.reserve.ensures.ready)

pub write_committed-requires-clause-dirty : goal.write_committed-requires-clause-dirty
write_committed-requires-clause-dirty g c = λ t. room_for c.args.self.now c.reserve.new.self c.args.lba c.reserve.ensures.same c.reserve.ensures.entries (c.is_full.ensures.room c.if-is_full.false)

pub returns-in-Ok-clause-full : goal.returns-in-Ok-clause-full
returns-in-Ok-clause-full g c = λ s holds. not_full c.args.self.now (g.M.Media.state c.args.media.now).contents s c.args.lba holds (c.is_full.ensures.room c.if-is_full.false)

pub returns-in-Err-clause-full : goal.returns-in-Err-clause-full
returns-in-Err-clause-full g c = λ s holds. not_full_from c.args.self.now (g.M.Media.state c.args.media.now).contents s c.args.lba holds (Unit {0}) c.give_up.result c.in-Err.error c.give_up.ensures.error (c.is_full.ensures.room c.if-is_full.false)

pub returns-in-Ok-clause-done : goal.returns-in-Ok-clause-done
returns-in-Ok-clause-done g c = λ s holds.
    let k = c.reserve.ensures.holds (g.M.Media.state c.args.media.now).contents s holds in
    written_from c.reserve.new.self.parts _ (g.M.Media.state c.write_committed.new.media).contents s (written_dirty c.args.lba c.args.block.now) c.args.lba c.write_committed.ensures.kept.geometry
    (left_of c.reserve.new.self.parts _ (g.M.Media.state c.write_committed.new.media).contents s (undo k.holds.waiting s) (written_dirty c.args.lba c.args.block.now)
    (left_committed c.reserve.new.self.parts _ (g.M.Media.state c.write_committed.new.media).contents s (undo k.holds.waiting s) c.args.lba (written_block c.args.lba c.args.block.now true)
    (settled_unready c.reserve.new.self _ (g.M.Media.state c.args.media.now).contents (g.M.Media.state c.write_committed.new.media).contents s k.holds refl c.in-Ok.ensures.agree c.write_committed.ensures.kept)
    c.in-Ok.ensures.nothing_waits (ap length c.clear.ensures) (c.in-Ok.ensures.lists s (undo k.holds.waiting s) k.holds.lists)))

pub returns-in-Ok-clause-images : goal.returns-in-Ok-clause-images
returns-in-Ok-clause-images g c = λ s holds.
    let k = c.reserve.ensures.holds (g.M.Media.state c.args.media.now).contents s holds in
    images_written c.args.self.now c.reserve.new.self (g.M.Media.state c.write_committed.new.media).contents (undo holds.waiting s) s c.args.lba (written_dirty c.args.lba c.args.block.now) c.reserve.ensures.same
    (c.write_committed.ensures.leaves.stands s (undo holds.waiting s) (lists_beside c.reserve.new.self (g.M.Media.state c.args.media.now).contents s holds.waiting k))

pub returns-in-Err-clause-images : goal.returns-in-Err-clause-images
returns-in-Err-clause-images g c = λ s holds.
    let k = c.reserve.ensures.holds (g.M.Media.state c.args.media.now).contents s holds in
    images_written c.args.self.now c.reserve.new.self (g.M.Media.state c.write_committed.new.media).contents (undo holds.waiting s) s c.args.lba (written_dirty c.args.lba c.args.block.now) c.reserve.ensures.same
    (c.write_committed.ensures.leaves.stands s (undo holds.waiting s) (lists_beside c.reserve.new.self (g.M.Media.state c.args.media.now).contents s holds.waiting k))

pub returns-then-is_full-clause-own : goal.returns-then-is_full-clause-own
returns-then-is_full-clause-own g c = kept_held c.args.self.now c.args.self.now (g.M.Media.state c.args.media.now).contents (held_still c.args.self.now (g.M.Media.state c.args.media.now).contents)

pub returns-then-is_err-clause-own : goal.returns-then-is_err-clause-own
returns-then-is_err-clause-own g c = kept_held c.args.self.now c.reserve.new.self (g.M.Media.state c.args.media.now).contents (c.reserve.ensures.holds (g.M.Media.state c.args.media.now).contents)

pub returns-in-Ok-clause-own : goal.returns-in-Ok-clause-own
returns-in-Ok-clause-own g c = kept_write c.args.self.now _ (g.M.Media.state c.args.media.now).contents (g.M.Media.state c.write_committed.new.media).contents c.args.lba c.args.block.now true
    (λ up s holds.
    let k = c.reserve.ensures.holds (g.M.Media.state c.args.media.now).contents s holds in
    losing_from c.reserve.new.self.parts _ (g.M.Media.state c.write_committed.new.media).contents s (written_dirty c.args.lba c.args.block.now) c.args.lba k.holds.waiting holds.waiting k.same c.write_committed.ensures.kept.geometry
    (left_committed c.reserve.new.self.parts _ (g.M.Media.state c.write_committed.new.media).contents s (undo k.holds.waiting s) c.args.lba (written_block c.args.lba c.args.block.now true)
    (settled_unready c.reserve.new.self _ (g.M.Media.state c.args.media.now).contents (g.M.Media.state c.write_committed.new.media).contents s k.holds refl c.in-Ok.ensures.agree c.write_committed.ensures.kept)
    c.in-Ok.ensures.nothing_waits (ap length c.clear.ensures) (c.in-Ok.ensures.lists s (undo k.holds.waiting s) k.holds.lists)))
    (returns-in-Ok-clause-images g c)

pub returns-in-Err-clause-own : goal.returns-in-Err-clause-own
returns-in-Err-clause-own g c = kept_write c.args.self.now c.give_up.new.self (g.M.Media.state c.args.media.now).contents (g.M.Media.state c.write_committed.new.media).contents c.args.lba c.args.block.now true
    (λ up. given_up_not c.give_up.new.self (ap (λ (k : Ssc). k.stopped) c.give_up.ensures.cache) up) (returns-in-Err-clause-images g c)

pub returns-then-is_full-clause-runs : goal.returns-then-is_full-clause-runs
returns-then-is_full-clause-runs g c = record {
  geometry = search rules;
  buckets = grew_still c.args.self.now.parts;
  stopped = search rules;
  drives = search rules;
  log_page = search rules;
}

pub returns-then-is_err-clause-runs : goal.returns-then-is_err-clause-runs
returns-then-is_err-clause-runs g c = record {
  geometry = search rules;
  buckets = grew_refused c.args.self.now c.reserve.new.self (was_refused c.reserve.result c.is_err.result c.is_err.ensures.value c.if-is_err.true c.reserve.ensures.refused).1;
  stopped = search rules;
  drives = search rules;
  log_page = search rules;
}

pub returns-in-Ok-clause-runs : goal.returns-in-Ok-clause-runs
returns-in-Ok-clause-runs g c = record {
  geometry = search rules;
  buckets = grew_written c.args.self.now c.reserve.new.self c.write_committed.new.parts (λ is. (c.reserve.ensures.there is).1)
      (not_refused c.reserve.result c.is_err.result c.is_err.ensures.value c.if-is_err.false c.reserve.ensures.room) c.write_committed.ensures.kept.buckets;
  stopped = search rules;
  drives = search rules;
  log_page = page_from c.args.self.now.parts c.reserve.new.self.parts c.write_committed.new.parts c.reserve.ensures.parts c.in-Ok.ensures.pages.log_page;
}

pub returns-in-Err-clause-runs : goal.returns-in-Err-clause-runs
returns-in-Err-clause-runs g c = record {
  geometry = search rules;
  buckets = subst (λ (k : Ssc). GrewForWrite c.args.self.now.parts k.parts) (sym c.give_up.ensures.cache)
      (grew_written c.args.self.now c.reserve.new.self c.write_committed.new.parts (λ is. (c.reserve.ensures.there is).1)
      (not_refused c.reserve.result c.is_err.result c.is_err.ensures.value c.if-is_err.false c.reserve.ensures.room) c.write_committed.ensures.kept.buckets);
  stopped = search rules;
  drives = drives_given_up (Unit {0}) (g.M.Media.state c.args.media.now) (g.M.Media.state c.write_committed.new.media) c.give_up.result c.in-Err.error c.give_up.ensures.error c.in-Err.ensures.drives.flash;
  log_page = search rules;
}

pub returns-in-Ok-clause-in_room : goal.returns-in-Ok-clause-in_room
returns-in-Ok-clause-in_room g c = record {
  inside = λ room s holds.
      let k = c.reserve.ensures.holds (g.M.Media.state c.args.media.now).contents s holds in
      inside_from c.reserve.new.self.parts _ (g.M.Media.state c.write_committed.new.media).contents s (written_dirty c.args.lba c.args.block.now) (inl (room_left c.args.self.now c.reserve.new.self c.reserve.ensures.parts room))
      (left_of c.reserve.new.self.parts _ (g.M.Media.state c.write_committed.new.media).contents s (undo k.holds.waiting s) (written_dirty c.args.lba c.args.block.now)
      (left_committed c.reserve.new.self.parts _ (g.M.Media.state c.write_committed.new.media).contents s (undo k.holds.waiting s) c.args.lba (written_block c.args.lba c.args.block.now true)
      (settled_unready c.reserve.new.self _ (g.M.Media.state c.args.media.now).contents (g.M.Media.state c.write_committed.new.media).contents s k.holds refl c.in-Ok.ensures.agree c.write_committed.ensures.kept)
      c.in-Ok.ensures.nothing_waits (ap length c.clear.ensures) (c.in-Ok.ensures.lists s (undo k.holds.waiting s) k.holds.lists)));
  kept = λ room s holds.
      let k = c.reserve.ensures.holds (g.M.Media.state c.args.media.now).contents s holds in
      inside_from c.reserve.new.self.parts _ (g.M.Media.state c.write_committed.new.media).contents s (written_dirty c.args.lba c.args.block.now) (log_room_left c.args.self.now c.reserve.new.self c.reserve.ensures.parts c.reserve.ensures.entries room)
      (left_of c.reserve.new.self.parts _ (g.M.Media.state c.write_committed.new.media).contents s (undo k.holds.waiting s) (written_dirty c.args.lba c.args.block.now)
      (left_committed c.reserve.new.self.parts _ (g.M.Media.state c.write_committed.new.media).contents s (undo k.holds.waiting s) c.args.lba (written_block c.args.lba c.args.block.now true)
      (settled_unready c.reserve.new.self _ (g.M.Media.state c.args.media.now).contents (g.M.Media.state c.write_committed.new.media).contents s k.holds refl c.in-Ok.ensures.agree c.write_committed.ensures.kept)
      c.in-Ok.ensures.nothing_waits (ap length c.clear.ensures) (c.in-Ok.ensures.lists s (undo k.holds.waiting s) k.holds.lists)));
  kept_images = λ room s holds.
      let k = c.reserve.ensures.holds (g.M.Media.state c.args.media.now).contents s holds in
      images_kept c.args.self.now c.reserve.new.self (g.M.Media.state c.write_committed.new.media).contents (undo holds.waiting s) s (written_dirty c.args.lba c.args.block.now s) c.reserve.ensures.same
      (c.write_committed.ensures.leaves.kept (log_room_left c.args.self.now c.reserve.new.self c.reserve.ensures.parts c.reserve.ensures.entries room) s (undo holds.waiting s) (lists_beside c.reserve.new.self (g.M.Media.state c.args.media.now).contents s holds.waiting k));
}

pub returns-in-Err-clause-in_room : goal.returns-in-Err-clause-in_room
returns-in-Err-clause-in_room g c = record {
  inside = search rules;
  kept = search rules;
  kept_images = λ room s holds.
      let k = c.reserve.ensures.holds (g.M.Media.state c.args.media.now).contents s holds in
      images_kept c.args.self.now c.reserve.new.self (g.M.Media.state c.write_committed.new.media).contents (undo holds.waiting s) s (written_dirty c.args.lba c.args.block.now s) c.reserve.ensures.same
      (c.write_committed.ensures.leaves.kept (log_room_left c.args.self.now c.reserve.new.self c.reserve.ensures.parts c.reserve.ensures.entries room) s (undo holds.waiting s) (lists_beside c.reserve.new.self (g.M.Media.state c.args.media.now).contents s holds.waiting k));
}

pub returns-in-Ok-clause-costs : goal.returns-in-Ok-clause-costs
returns-in-Ok-clause-costs g c = record {
  two_programs = λ room left. c.in-Ok.ensures.two_programs (room_left c.args.self.now c.reserve.new.self c.reserve.ensures.parts room) (log_left c.args.self.now c.reserve.new.self c.reserve.ensures.parts left);
  programs = c.in-Ok.ensures.pages.programs;
}

pub returns-in-Err-clause-refused : goal.returns-in-Err-clause-refused
returns-in-Err-clause-refused g c = failed_refuses (Unit {0}) (Unit {0}) c.args.self.now c.give_up.new.self (g.M.Media.state c.args.media.now) (g.M.Media.state c.write_committed.new.media) c.give_up.result c.in-Err.error c.give_up.ensures.error c.in-Err.ensures.drives.memory
