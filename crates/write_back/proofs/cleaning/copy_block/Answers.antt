use Rattle.std.proofs.Common.{◌<◌, ◌∙◌, true, Err, sym, subst, arith, ap}
use Rattle.ft_base.specs.declared.geometry.Geometry.{Geometry}
use Rattle.ft_base.specs.Contents.{Contents}
use Rattle.ft_media.specs.State.{State}
use Rattle.ft_media.specs.declared.rig.Counts.{Counts}
use Rattle.ft_volume.specs.declared.volume.VolumeError.{VolumeError}
use Rattle.ssc.specs.declared.cache.Ssc.{Ssc}
use Rattle.cached_disk.proofs.HeldLemmas.{is_up}
use Rattle.write_back.specs.Cleaning.{Proceeds}
use Rattle.write_back.proofs.CopyLemmas.{copied_here, copied_others, copy_done, copy_lacks, copy_unread, copy_unwritten, dirty_within}
use Rattle.write_back.proofs.cleaning.copy_block.Goals as goal

pub read-requires-clause-up : goal.read-requires-clause-up
read-requires-clause-up g c = is_up c.args.disk.now (g.M.Media.state c.args.media.now).contents c.requires.may.left.held c.requires.may.up (c.requires.may.left.up c.requires.may.up)

pub read-requires-clause-lba : goal.read-requires-clause-lba
read-requires-clause-lba g c =
    let left = c.requires.may.left in
    let within = dirty_within c.args.disk.now (g.M.Media.state c.args.media.now).contents left.held (left.up c.requires.may.up) left.own c.args.lba c.requires.dirty in
    subst (λ (x : Geometry). c.args.lba < x.size) (sym left.own) within

pub returns-in-Err-clause-proceeds : goal.returns-in-Err-clause-proceeds
returns-in-Err-clause-proceeds g c = copy_unread c.args.disk.now c.read.new.self c.read.ensures.same (g.M.Media.state c.args.media.now) (g.M.Media.state c.read.new.media)
    c.requires.may.left c.requires.may.up c.requires.settled c.in-Err.error c.cache_error.result c.cache_error.ensures (λ is. c.in-Err.ensures.memory (ap Err is)) c.in-Err.ensures.reads

pub write_block-requires : goal.write_block-requires
write_block-requires g c =
    let left = c.requires.may.left in
    let within = dirty_within c.args.disk.now (g.M.Media.state c.args.media.now).contents left.held (left.up c.requires.may.up) left.own c.args.lba c.requires.dirty in
    let fits = left.shape.size in
    subst (λ (x : Contents). c.args.lba < x.shape.size) (sym c.read.ensures.reads.contents) (omega (arith, within, fits))

pub returns-in-Ok-clause-proceeds : goal.returns-in-Ok-clause-proceeds
returns-in-Ok-clause-proceeds g c =
    let e = c.in-Ok.ensures in
    copy_done c.args.disk.now c.read.new.self c.read.ensures.same (g.M.Media.state c.args.media.now) (g.M.Media.state c.read.new.media) c.requires.may.left c.requires.may.up c.requires.settled c.in_default.ensures.reads
    (g.M.Media.state c.write_block.new.self) c.args.lba c.requires.dirty c.in_default.field-0 c.read.new.block c.in_default.ensures.found e.values e.ok
    (record { flash = e.flash; cause = e.cause; device = e.device; passes = e.passes }) e.counts

pub returns-in-Err-clause-flushes : goal.returns-in-Err-clause-flushes
returns-in-Err-clause-flushes g c = ap (λ (x : Counts). x.disk_flushes) c.read.ensures.reads.counts

pub returns-in-Ok-clause-flushes : goal.returns-in-Ok-clause-flushes
returns-in-Ok-clause-flushes g c = ap (λ (x : Counts). x.disk_flushes) c.in-Ok.ensures.counts ∙ ap (λ (x : Counts). x.disk_flushes) c.read.ensures.reads.counts

pub returns-in-OutOfMemory-clause-flushes : goal.returns-in-OutOfMemory-clause-flushes
returns-in-OutOfMemory-clause-flushes g c = ap (λ (s : State). s.counts.disk_flushes) (c.write_block.ensures.memory (c.in-Err-write_block.is ∙ ap Err c.in-OutOfMemory.is)) ∙ ap (λ (x : Counts). x.disk_flushes) c.read.ensures.reads.counts

pub returns-in-Ok-clause-copied : goal.returns-in-Ok-clause-copied
returns-in-Ok-clause-copied g c =
    let e = c.in-Ok.ensures in
    copied_here c.args.disk.now c.read.new.self c.read.ensures.same (g.M.Media.state c.args.media.now) (g.M.Media.state c.read.new.media) c.requires.may.left c.requires.may.up c.requires.settled c.in_default.ensures.reads
    (g.M.Media.state c.write_block.new.self) c.args.lba c.requires.dirty c.in_default.field-0 c.read.new.block c.in_default.ensures.found e.values e.ok
    (record { flash = e.flash; cause = e.cause; device = e.device; passes = e.passes })

pub returns-in-Ok-clause-others : goal.returns-in-Ok-clause-others
returns-in-Ok-clause-others g c =
    let e = c.in-Ok.ensures in
    copied_others c.args.disk.now c.read.new.self c.read.ensures.same (g.M.Media.state c.args.media.now) (g.M.Media.state c.read.new.media) c.requires.may.left c.requires.may.up c.requires.settled c.in_default.ensures.reads
    (g.M.Media.state c.write_block.new.self) c.args.lba c.requires.dirty c.in_default.field-0 c.read.new.block c.in_default.ensures.found e.values e.ok
    (record { flash = e.flash; cause = e.cause; device = e.device; passes = e.passes })

pub returns-in-OutOfMemory-clause-proceeds : goal.returns-in-OutOfMemory-clause-proceeds
returns-in-OutOfMemory-clause-proceeds g c = copy_lacks c.args.disk.now c.read.new.self c.read.ensures.same (g.M.Media.state c.args.media.now) (g.M.Media.state c.read.new.media)
    c.requires.may.left c.requires.may.up c.requires.settled c.in_default.ensures.reads (g.M.Media.state c.write_block.new.self) (c.write_block.ensures.memory (c.in-Err-write_block.is ∙ ap Err c.in-OutOfMemory.is))

pub returns-in_default-error : goal.returns-in_default-error
returns-in_default-error g c =
    let e = c.in-Err-write_block.ensures in
    record {
      proceeds = subst (λ (r : VolumeError). Proceeds 1 c.args.disk.now (record c.args.disk.now { cache = c.read.new.self; down = true }) (g.M.Media.state c.args.media.now) (g.M.Media.state c.write_block.new.self) (Err r)) (sym c.disk_error.ensures)
          (copy_unwritten c.args.disk.now c.read.new.self c.read.ensures.same (g.M.Media.state c.args.media.now) (g.M.Media.state c.read.new.media)
          c.requires.may.left c.requires.may.up c.requires.settled c.in_default.ensures.reads (g.M.Media.state c.write_block.new.self)
          c.args.lba c.requires.dirty c.in_default.field-0 c.read.new.block c.in_default.ensures.found e.values c.in-Err-write_block.error c.in_default-error.not-OutOfMemory
          (record { flash = e.flash; cause = e.cause; device = e.device; passes = e.passes }) e.counts);
      same = ap (λ (k : Ssc). record c.args.disk.now { cache = k; down = true }) c.read.ensures.same;
      copied = tt;
      others = tt;
      flushes = ap (λ (x : Counts). x.disk_flushes) e.counts ∙ ap (λ (x : Counts). x.disk_flushes) c.read.ensures.reads.counts;
    }
