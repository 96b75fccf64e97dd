use Rattle.ft_base.specs.PlainDisk.{BlockWrite, after_writes}
use Rattle.std.proofs.Common.{◌≡◌, Bool, cond, List, Ok, Err, refl, rules, sym, ◌∙◌, ap, subst, arith}
use Rattle.std.specs.FinMap.{get}
use Rattle.std.specs.Option.{is_some}
use Rattle.std.proofs.lemmas.Bool.{false≢true}
use Rattle.ft_base.specs.Contents.{Contents}
use Rattle.ft_base.specs.Count.{bumped}
use Rattle.ft_media.specs.declared.rig.Counts.{Counts}
use Rattle.ft_base.proofs.Images.{newest_image, with_newest}
use Rattle.ft_media.specs.declared.media.MediaError.{MediaError}
use Rattle.ft_volume.specs.Opening.{ImageIs}
use Rattle.ft_volume.specs.Volume.{Reads, dirty_lbas, misses}
use Rattle.ft_volume.specs.Standing.{StandFor}
use Rattle.ft_volume.specs.Volume as calls
use Rattle.ft_volume.specs.declared.volume.VolumeError.TheVariants as volume
use Rattle.cache_model.specs.Records.{Entries}
use Rattle.ssc.specs.CacheState.{entries_of}
use Rattle.ssc.specs.Errors.{ssc_failed, ssc_lost}
use Rattle.ssc.specs.declared.error.SscError.TheVariants.{OutOfMemory}
use Rattle.cached_disk.specs.declared.disk.CachedDisk.{CachedDisk}
use Rattle.cached_disk.specs.Kept.{state_in, told_of, waiting_in}
use Rattle.cached_disk.proofs.CallLemmas.{gives_up, goes_after, goes_down, goes_driven, missed_costs, none_up, refused_costs, same_up}
use Rattle.cached_disk.proofs.HeldLemmas.{found_absent, is_up, stopped_down}
use Rattle.cached_disk.proofs.OpenedLemmas.{reserved_tells}
use Rattle.cached_disk.proofs.ReadLemmas.{IsReserved, absent_held, cut_left, cut_stays, drove_held, on_ok_of, owes_held, put_dirty, put_held, put_left, put_stays, reserved_left, reserved_owes, reserved_stays, reserved_up, stays_after, still_up}
use Rattle.cached_disk.proofs.RefusedLemmas.{goes_refused}
use Rattle.cached_disk.proofs.disk.CachedDisk.read_missing.Goals as goal

-- there was no memory

pub returns-then-is_err-clause-serves : goal.returns-then-is_err-clause-serves
returns-then-is_err-clause-serves g c =
    let v = c.args.self.now in
    let k = c.reserve.new.self in
    let reserved : IsReserved v.cache k = record { geometry = c.reserve.ensures.same; holds = c.reserve.ensures.holds; pending = c.reserve.ensures.pending; stopped = c.reserve.ensures.stopped } in
    let old = (g.M.Media.state c.args.media.now).contents in
    record {
      left = reserved_left v k reserved old old refl c.requires.may.left;
      keeps = reserved_stays v k reserved old old refl;
      found = tt;
      goes = search rules;
      dirty = search rules;
      made = search rules;
      within = search rules;
    }

pub returns-then-is_err-clause-costs : goal.returns-then-is_err-clause-costs
returns-then-is_err-clause-costs g c = λ order.
    let v = c.args.self.now in
    let k = c.reserve.new.self in
    let u : CachedDisk = record v { cache = k } in
    let before = g.M.Media.state c.args.media.now in
    refused_costs (Reads c.args.lba c.args.block.now) (state_in order v) (state_in order u) (Unit {0}) before before volume.OutOfMemory
    (same_up (Reads c.args.lba c.args.block.now) (state_in order v) (state_in order u) (reserved_tells order v k c.reserve.ensures.parts c.reserve.ensures.entries c.reserve.ensures.stopped)) (omega arith) refl

-- the disk failed

pub returns-in-Err-clause-costs : goal.returns-in-Err-clause-costs
returns-in-Err-clause-costs g c = λ order.
    let v = c.args.self.now in
    let k = c.reserve.new.self in
    let u : CachedDisk = record v { cache = k } in
    let reads = ap (λ (x : Counts). x.disk_reads) c.in-Err.ensures.counts in
    refused_costs (Reads c.args.lba c.args.block.now) (state_in order v) (state_in order u) (Unit {0}) (g.M.Media.state c.args.media.now) (g.M.Media.state c.read_block.new.self) c.disk_error.result
    (same_up (Reads c.args.lba c.args.block.now) (state_in order v) (state_in order u) (reserved_tells order v k c.reserve.ensures.parts c.reserve.ensures.entries c.reserve.ensures.stopped)) (omega (arith, reads))
    (ap (λ (x : Counts). x.disk_writes) c.in-Err.ensures.counts)

pub returns-in-Err-clause-serves : goal.returns-in-Err-clause-serves
returns-in-Err-clause-serves g c =
    let v = c.args.self.now in
    let k = c.reserve.new.self in
    let reserved : IsReserved v.cache k = record { geometry = c.reserve.ensures.same; holds = c.reserve.ensures.holds; pending = c.reserve.ensures.pending; stopped = c.reserve.ensures.stopped } in
    let before = g.M.Media.state c.args.media.now in
    let mid = g.M.Media.state c.read_block.new.self in
    let u : CachedDisk = record v { cache = k } in
    record {
      left = reserved_left v k reserved before.contents mid.contents c.read_block.ensures.contents c.requires.may.left;
      keeps = reserved_stays v k reserved before.contents mid.contents c.read_block.ensures.contents;
      found = tt;
      goes = λ order.
          goes_refused before mid (state_in order v) (state_in order u) refl (reserved_up v k reserved c.requires.may.up) c.read_block.ensures.contents c.in-Err.error c.disk_error.result c.disk_error.ensures c.in-Err.ensures.cause
          (λ is. c.in-Err.ensures.memory (ap (λ (e : MediaError). Err e) is)) c.in-Err.ensures.power c.in-Err.ensures.passes;
      dirty = search rules;
      made = search rules;
      within = search rules;
    }

pub write_clean-requires-clause-up : goal.write_clean-requires-clause-up
write_clean-requires-clause-up g c =
    let v = c.args.self.now in
    let k = c.reserve.new.self in
    let reserved : IsReserved v.cache k = record { geometry = c.reserve.ensures.same; holds = c.reserve.ensures.holds; pending = c.reserve.ensures.pending; stopped = c.reserve.ensures.stopped } in
    let before = g.M.Media.state c.args.media.now in
    let mid = g.M.Media.state c.read_block.new.self in
    let up = reserved_up v k reserved c.requires.may.up in
    let left = reserved_left v k reserved before.contents mid.contents c.read_block.ensures.contents c.requires.may.left in
    let u : CachedDisk = record v { cache = k } in
    is_up u mid.contents left.held up (left.up up)

-- the cache holds the block

pub returns-in-Ok-clause-serves : goal.returns-in-Ok-clause-serves
returns-in-Ok-clause-serves g c =
    let v = c.args.self.now in
    let k = c.reserve.new.self in
    let reserved : IsReserved v.cache k = record { geometry = c.reserve.ensures.same; holds = c.reserve.ensures.holds; pending = c.reserve.ensures.pending; stopped = c.reserve.ensures.stopped } in
    let before = g.M.Media.state c.args.media.now in
    let mid = g.M.Media.state c.read_block.new.self in
    let up = reserved_up v k reserved c.requires.may.up in
    let left = reserved_left v k reserved before.contents mid.contents c.read_block.ensures.contents c.requires.may.left in
    let u : CachedDisk = record v { cache = k } in
    let after = g.M.Media.state c.write_clean.new.media in
    let put = c.write_clean.new.self in
    let s = left.held in
    let by = drove_held u put mid after (ssc_failed c.write_clean.result) (ssc_lost c.write_clean.result) left up c.write_clean.ensures.runs.geometry c.write_clean.ensures.runs.drives in
    let absent = absent_held k mid.contents s (left.up up).holds c.args.lba (ap (λ (m : Entries). get m c.args.lba) c.reserve.ensures.entries ∙ c.requires.absent) in
    let newest = c.in_default.ensures.found ∙ sym (ap (λ (x : Contents). (x.disk c.args.lba).newest) c.read_block.ensures.contents) in
    let h = c.in-Ok.ensures.done s by.is.holds in
    let w : CachedDisk = record v { cache = put } in
    let none_now = ap (λ (m : Entries). get m c.args.lba) c.reserve.ensures.entries ∙ c.requires.absent in
    record {
      left = put_left u put mid.contents after.contents s by c.args.lba c.read_block.new.block absent newest (c.in-Ok.ensures.at_absent s by.is.holds absent);
      keeps = stays_after v u w before.contents mid.contents after.contents (reserved_owes v k reserved before.contents mid.contents c.read_block.ensures.contents)
          (λ d stand. subst (λ (x : Contents). StandFor (ImageIs (told_of v)) x d) (sym c.read_block.ensures.contents) stand) refl
          (put_stays u put mid after (ssc_failed c.write_clean.result) (ssc_lost c.write_clean.result) left up c.write_clean.ensures.runs.geometry c.write_clean.ensures.runs.drives c.args.lba c.read_block.new.block none_now newest
          c.in-Ok.ensures.at_absent (still_up v put c.requires.may.up c.in-Ok.ensures.runs.stopped));
      found = λ owed owes base stand.
          let was = owes_held v before.contents owed c.requires.may.up owes in
          subst (λ (ws : List BlockWrite). c.read_block.new.block ≡ after_writes ws base c.args.lba) (sym was.2)
          (c.in_default.ensures.found ∙ found_absent v before.contents was.0 c.requires.may.left.own was.1 c.args.lba c.requires.lba (absent_held v.cache before.contents was.0 was.1.holds c.args.lba c.requires.absent) base stand);
      goes = λ order. goes_after before mid after c.read_block.ensures.contents (c.in_default.ensures.cause.none refl refl) c.in_default.ensures.passes (state_in order v) (state_in order w) (Ok tt)
          (goes_driven tt mid after (state_in order v) (state_in order w) refl (still_up v put c.requires.may.up c.in-Ok.ensures.runs.stopped) c.in-Ok.ensures.runs.drives);
      dirty = λ still. put_dirty u put mid.contents after.contents s by c.args.lba c.read_block.new.block absent newest h ∙ ap dirty_lbas c.reserve.ensures.entries;
      made = search rules;
      within = search rules;
    }

pub returns-in-Ok-clause-costs : goal.returns-in-Ok-clause-costs
returns-in-Ok-clause-costs g c = λ order.
    let v = c.args.self.now in
    let k = c.reserve.new.self in
    let reserved : IsReserved v.cache k = record { geometry = c.reserve.ensures.same; holds = c.reserve.ensures.holds; pending = c.reserve.ensures.pending; stopped = c.reserve.ensures.stopped } in
    let before = g.M.Media.state c.args.media.now in
    let mid = g.M.Media.state c.read_block.new.self in
    let up = reserved_up v k reserved c.requires.may.up in
    let left = reserved_left v k reserved before.contents mid.contents c.read_block.ensures.contents c.requires.may.left in
    let u : CachedDisk = record v { cache = k } in
    let after = g.M.Media.state c.write_clean.new.media in
    let put = c.write_clean.new.self in
    let s = left.held in
    let by = drove_held u put mid after (ssc_failed c.write_clean.result) (ssc_lost c.write_clean.result) left up c.write_clean.ensures.runs.geometry c.write_clean.ensures.runs.drives in
    let absent = absent_held k mid.contents s (left.up up).holds c.args.lba (ap (λ (m : Entries). get m c.args.lba) c.reserve.ensures.entries ∙ c.requires.absent) in
    let newest = c.in_default.ensures.found ∙ sym (ap (λ (x : Contents). (x.disk c.args.lba).newest) c.read_block.ensures.contents) in
    let h = c.in-Ok.ensures.done s by.is.holds in
    let w : CachedDisk = record v { cache = put } in
    missed_costs c.args.lba c.read_block.new.block (state_in order v) (state_in order w) before mid after (ap is_some c.requires.absent)
    (ap (waiting_in v.options.geometry.p order) (put_dirty u put mid.contents after.contents s by c.args.lba c.read_block.new.block absent newest h ∙ ap dirty_lbas c.reserve.ensures.entries))
    (subst (λ (m : Entries). calls.HoldsAfter (told_of v) (Reads c.args.lba c.read_block.new.block) (λ a. is_some (get m a)) (λ a. is_some (get (entries_of put) a))) c.reserve.ensures.entries
    (put_held u put mid.contents after.contents s by c.args.lba c.read_block.new.block absent newest h c.read_block.new.block))
    c.in_default.ensures.counts c.write_clean.ensures.runs.drives.disk_reads c.write_clean.ensures.runs.drives.disk_writes

-- the write failed or was cut

pub returns-in-Err-write_clean-clause-serves : goal.returns-in-Err-write_clean-clause-serves
returns-in-Err-write_clean-clause-serves g c =
    let v = c.args.self.now in
    let k = c.reserve.new.self in
    let reserved : IsReserved v.cache k = record { geometry = c.reserve.ensures.same; holds = c.reserve.ensures.holds; pending = c.reserve.ensures.pending; stopped = c.reserve.ensures.stopped } in
    let before = g.M.Media.state c.args.media.now in
    let mid = g.M.Media.state c.read_block.new.self in
    let up = reserved_up v k reserved c.requires.may.up in
    let left = reserved_left v k reserved before.contents mid.contents c.read_block.ensures.contents c.requires.may.left in
    let u : CachedDisk = record v { cache = k } in
    let after = g.M.Media.state c.write_clean.new.media in
    let put = c.write_clean.new.self in
    let s = left.held in
    let by = drove_held u put mid after (ssc_failed c.write_clean.result) (ssc_lost c.write_clean.result) left up c.write_clean.ensures.runs.geometry c.write_clean.ensures.runs.drives in
    let absent = absent_held k mid.contents s (left.up up).holds c.args.lba (ap (λ (m : Entries). get m c.args.lba) c.reserve.ensures.entries ∙ c.requires.absent) in
    let newest = c.in_default.ensures.found ∙ sym (ap (λ (x : Contents). (x.disk c.args.lba).newest) c.read_block.ensures.contents) in
    let memory : c.in-Err-write_clean.error ≡ OutOfMemory → ⊥ = λ is. false≢true (sym (c.in-Err-write_clean.ensures.refused.memory (ap Err is)).0 ∙ on_ok_of c.reserve.result (sym c.if-is_err.ensures.value) c.reserve.ensures.ready) in
    let down = stopped_down v put (c.in-Err-write_clean.ensures.runs.stopped ∙ gives_up c.in-Err-write_clean.error (search rules) memory) in
    let stands = c.write_clean.ensures.images s by.is.holds (with_newest after.contents) (newest_image after.contents) in
    let w : CachedDisk = record v { cache = put } in
    record {
      left = cut_left u put mid.contents after.contents s by c.args.lba c.read_block.new.block absent newest stands down;
      keeps = stays_after v u w before.contents mid.contents after.contents (reserved_owes v k reserved before.contents mid.contents c.read_block.ensures.contents)
          (λ d stand. subst (λ (x : Contents). StandFor (ImageIs (told_of v)) x d) (sym c.read_block.ensures.contents) stand) refl
          (cut_stays u put mid after (ssc_failed c.write_clean.result) (ssc_lost c.write_clean.result) left up c.write_clean.ensures.runs.geometry c.write_clean.ensures.runs.drives c.args.lba c.read_block.new.block
          (ap (λ (m : Entries). get m c.args.lba) c.reserve.ensures.entries ∙ c.requires.absent) newest (λ s h. c.write_clean.ensures.images s h (with_newest after.contents) (newest_image after.contents)) down);
      found = tt;
      goes = λ order. goes_after before mid after c.read_block.ensures.contents (c.in_default.ensures.cause.none refl refl) c.in_default.ensures.passes (state_in order v) (state_in order w) (Err c.cache_error.result)
          (goes_down mid after (state_in order v) (state_in order w) c.in-Err-write_clean.error c.cache_error.result refl down c.cache_error.ensures memory c.in-Err-write_clean.ensures.runs.drives);
      dirty = search rules;
      made = search rules;
      within = search rules;
    }

pub returns-in-Err-write_clean-clause-costs : goal.returns-in-Err-write_clean-clause-costs
returns-in-Err-write_clean-clause-costs g c = λ order.
    let v = c.args.self.now in
    let k = c.reserve.new.self in
    let put = c.write_clean.new.self in
    let w : CachedDisk = record v { cache = put } in
    let before = g.M.Media.state c.args.media.now in
    let mid = g.M.Media.state c.read_block.new.self in
    let after = g.M.Media.state c.write_clean.new.media in
    let memory : c.in-Err-write_clean.error ≡ OutOfMemory → ⊥ = λ is. false≢true (sym (c.in-Err-write_clean.ensures.refused.memory (ap Err is)).0 ∙ on_ok_of c.reserve.result (sym c.if-is_err.ensures.value) c.reserve.ensures.ready) in
    let down = stopped_down v put (c.in-Err-write_clean.ensures.runs.stopped ∙ gives_up c.in-Err-write_clean.error (search rules) memory) in
    let one : misses (Reads c.args.lba c.args.block.now) (state_in order v).held ≡ 1 = ap (λ (t : Bool). cond t 0 1) (ap is_some c.requires.absent) in
    let read : mid.counts.disk_reads ≡ bumped before.counts.disk_reads = ap (λ (x : Counts). x.disk_reads) c.in_default.ensures.counts in
    let same : mid.counts.disk_writes ≡ before.counts.disk_writes = ap (λ (x : Counts). x.disk_writes) c.in_default.ensures.counts in
    let still = c.write_clean.ensures.runs.drives.disk_reads in
    refused_costs (Reads c.args.lba c.args.block.now) (state_in order v) (state_in order w) (Unit {0}) before after c.cache_error.result
    (none_up (Reads c.args.lba c.args.block.now) (state_in order v) (state_in order w) down) (omega (arith, one, read, still)) (c.write_clean.ensures.runs.drives.disk_writes ∙ same)
