use Rattle.std.proofs.Common.{◌≡◌, Err, [], ap, refl, ◌∙◌, rules}
use Rattle.ft_base.proofs.Images.{newest_image, with_newest}
use Rattle.cache_model.specs.Cache.{evicted}
use Rattle.ssc.specs.declared.error.SscError.TheVariants.{OutOfMemory}
use Rattle.ssc.specs.Errors.{ssc_failed, ssc_lost}
use Rattle.cached_disk.specs.Kept.{state_in}
use Rattle.cached_disk.proofs.CallLemmas.{gives_up, goes_down, goes_driven}
use Rattle.cached_disk.proofs.HeldLemmas.{is_up, stopped_down, through_none}
use Rattle.cached_disk.proofs.ReadLemmas.{done_keeps, done_left, drove_held, refused_keeps, refused_left, still_up}
use Rattle.write_through.proofs.TakeLemmas.{evict_shows, evicted_absent, evicted_held, evicted_keeps, evicted_may, evicted_shows}
use Rattle.write_through.proofs.volume.WriteThrough.take_out.Goals as goal

pub evict-requires-clause-up : goal.evict-requires-clause-up
evict-requires-clause-up g c =
    let left = c.requires.may.left.disk in
    is_up c.args.self.now.disk (g.M.Media.state c.args.media.now).contents left.held c.requires.may.up (left.up c.requires.may.up)

pub returns-in-Ok-clause-steps : goal.returns-in-Ok-clause-steps
returns-in-Ok-clause-steps g c =
    let v = c.args.self.now.disk in
    let k = c.evict.new.self in
    let lba = c.args.lba in
    let before = g.M.Media.state c.args.media.now in
    let after = g.M.Media.state c.evict.new.media in
    let left = c.requires.may.left.disk in
    let s = left.held in
    let is = left.up c.requires.may.up in
    let through = c.requires.may.left.mode in
    let by = drove_held v k before after (ssc_failed c.evict.result) (ssc_lost c.evict.result) left c.requires.may.up c.evict.ensures.runs.geometry c.evict.ensures.runs.drives in
    let may = evicted_may v before.contents s left.own is through lba k (c.in-Ok.ensures.held s is.holds) (λ none. (c.in-Ok.ensures.absent s is.holds none).0) in
    record {
      left = record {
        disk = done_left v k before.contents after.contents s by (evicted lba s) (evicted_shows v before.contents s left.own is through lba) (c.in-Ok.ensures.done s is.holds) (evicted_keeps v before.contents s left.own is through lba) may (through_none (record v { cache = k }) through may);
        mode = through;
      };
      goes = goes_driven tt before after (state_in [] v) (state_in [] (record v { cache = k })) refl (still_up v k c.requires.may.up c.in-Ok.ensures.runs.stopped) c.in-Ok.ensures.runs.drives;
      within = search rules;
    }

pub returns-in-Ok-clause-stands : goal.returns-in-Ok-clause-stands
returns-in-Ok-clause-stands g c =
    let v = c.args.self.now.disk in
    let k = c.evict.new.self in
    let lba = c.args.lba in
    let before = g.M.Media.state c.args.media.now in
    let after = g.M.Media.state c.evict.new.media in
    let left = c.requires.may.left.disk in
    let s = left.held in
    let is = left.up c.requires.may.up in
    let through = c.requires.may.left.mode in
    let by = drove_held v k before after (ssc_failed c.evict.result) (ssc_lost c.evict.result) left c.requires.may.up c.evict.ensures.runs.geometry c.evict.ensures.runs.drives in
    let may = evicted_may v before.contents s left.own is through lba k (c.in-Ok.ensures.held s is.holds) (λ none. (c.in-Ok.ensures.absent s is.holds none).0) in
    done_keeps v k before.contents after.contents s by (evicted lba s) (evicted_shows v before.contents s left.own is through lba) (c.in-Ok.ensures.done s is.holds) (evicted_keeps v before.contents s left.own is through lba) may
    (through_none (record v { cache = k }) through may) (through_none v through is.may_undo)

pub returns-in-Ok-clause-absent : goal.returns-in-Ok-clause-absent
returns-in-Ok-clause-absent g c =
    let left = c.requires.may.left.disk in
    evicted_absent c.args.self.now.disk.cache c.evict.new.self (g.M.Media.state c.args.media.now).contents (g.M.Media.state c.evict.new.media).contents left.held c.args.lba (c.in-Ok.ensures.done left.held (left.up c.requires.may.up).holds)

pub returns-in-Ok-clause-held : goal.returns-in-Ok-clause-held
returns-in-Ok-clause-held g c =
    let left = c.requires.may.left.disk in
    let holds = (left.up c.requires.may.up).holds in
    evicted_held c.args.self.now.disk.cache c.evict.new.self (g.M.Media.state c.args.media.now).contents (g.M.Media.state c.evict.new.media).contents left.held c.args.lba (c.in-Ok.ensures.done left.held holds) holds

pub returns-in-Err-clause-steps : goal.returns-in-Err-clause-steps
returns-in-Err-clause-steps g c =
    let v = c.args.self.now.disk in
    let k = c.evict.new.self in
    let before = g.M.Media.state c.args.media.now in
    let after = g.M.Media.state c.evict.new.media in
    let left = c.requires.may.left.disk in
    let s = left.held in
    let is = left.up c.requires.may.up in
    let through = c.requires.may.left.mode in
    let by = drove_held v k before after (ssc_failed c.evict.result) (ssc_lost c.evict.result) left c.requires.may.up c.evict.ensures.runs.geometry c.evict.ensures.runs.drives in
    let shown = evict_shows v before.contents s left.own is through c.args.lba after.contents.flash.page (c.evict.ensures.images s is.holds (with_newest after.contents) (newest_image after.contents)) in
    let memory : c.in-Err.error ≡ OutOfMemory → ⊥ = λ none. c.in-Err.ensures.runs.memory (ap Err none) in
    let down = stopped_down v k (c.in-Err.ensures.runs.stopped ∙ gives_up c.in-Err.error (λ n limit full. c.in-Err.ensures.runs.full n limit (ap Err full)) memory) in
    record {
      left = record {
        disk = refused_left v k before.contents after.contents s by shown down;
        mode = through;
      };
      goes = goes_down before after (state_in [] v) (state_in [] (record v { cache = k })) c.in-Err.error c.cache_error.result refl down c.cache_error.ensures memory c.in-Err.ensures.runs.drives;
      within = search rules;
    }

pub returns-in-Err-clause-stands : goal.returns-in-Err-clause-stands
returns-in-Err-clause-stands g c =
    let v = c.args.self.now.disk in
    let k = c.evict.new.self in
    let before = g.M.Media.state c.args.media.now in
    let after = g.M.Media.state c.evict.new.media in
    let left = c.requires.may.left.disk in
    let s = left.held in
    let is = left.up c.requires.may.up in
    let by = drove_held v k before after (ssc_failed c.evict.result) (ssc_lost c.evict.result) left c.requires.may.up c.evict.ensures.runs.geometry c.evict.ensures.runs.drives in
    let shown = evict_shows v before.contents s left.own is c.requires.may.left.mode c.args.lba after.contents.flash.page (c.evict.ensures.images s is.holds (with_newest after.contents) (newest_image after.contents)) in
    refused_keeps v k before.contents after.contents s by shown (through_none v c.requires.may.left.mode is.may_undo)

pub returns-in-Ok-clause-no_disk : goal.returns-in-Ok-clause-no_disk
returns-in-Ok-clause-no_disk g c = let drives = c.evict.ensures.runs.drives in record { disk_reads = drives.disk_reads; disk_writes = drives.disk_writes; disk_flushes = drives.disk_flushes }

pub returns-in-Err-clause-no_disk : goal.returns-in-Err-clause-no_disk
returns-in-Err-clause-no_disk g c = let drives = c.evict.ensures.runs.drives in record { disk_reads = drives.disk_reads; disk_writes = drives.disk_writes; disk_flushes = drives.disk_flushes }
