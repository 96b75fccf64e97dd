use Rattle.std.proofs.Common.{◌≡◌, [], Err, refl, ap, sym, ◌∙◌, rules}
use Rattle.std.specs.FinMap.{get}
use Rattle.std.specs.Option.{is_some}
use Rattle.std.proofs.lemmas.Bool.{false≢true}
use Rattle.ft_base.proofs.Images.{newest_image, with_newest}
use Rattle.ssc.specs.CacheState.{entries_of}
use Rattle.ssc.specs.declared.error.SscError.TheVariants.{OutOfMemory}
use Rattle.ssc.specs.Errors.{ssc_failed, ssc_lost}
use Rattle.cached_disk.specs.Kept.{state_in, told_of}
use Rattle.cached_disk.proofs.CallLemmas.{gives_up, goes_down, goes_driven}
use Rattle.cached_disk.proofs.HeldLemmas.{is_up, stopped_down, through_none}
use Rattle.cached_disk.proofs.ReadLemmas.{cut_left, cut_stands, drove_held, put_held, put_left, put_stands, still_up}
use Rattle.write_through.specs.Left.{state_of}
use Rattle.write_through.proofs.PutLemmas.{absent_of}
use Rattle.write_through.proofs.WriteLemmas.{held_as}
use Rattle.write_through.proofs.volume.WriteThrough.put_in_cache.Goals as goal

pub write_clean-requires-clause-up : goal.write_clean-requires-clause-up
write_clean-requires-clause-up g c =
    let left = c.requires.may.left.disk in
    is_up c.args.self.now.disk (g.M.Media.state c.args.media.now).contents left.held c.requires.may.up (left.up c.requires.may.up)

-- done

pub returns-in-Ok-clause-steps : goal.returns-in-Ok-clause-steps
returns-in-Ok-clause-steps g c =
    let v = c.args.self.now.disk in
    let k = c.write_clean.new.self in
    let before = g.M.Media.state c.args.media.now in
    let after = g.M.Media.state c.write_clean.new.media in
    let left = c.requires.may.left.disk in
    let s = left.held in
    let holds = (left.up c.requires.may.up).holds in
    let by = drove_held v k before after (ssc_failed c.write_clean.result) (ssc_lost c.write_clean.result) left c.requires.may.up c.write_clean.ensures.runs.geometry c.write_clean.ensures.runs.drives in
    let absent = absent_of v.cache before.contents s holds c.args.lba c.requires.absent in
    record {
      left = record {
        disk = put_left v k before.contents after.contents s by c.args.lba c.args.block.now absent c.requires.newest (c.in-Ok.ensures.at_absent s holds absent);
        mode = c.requires.may.left.mode;
      };
      goes = goes_driven tt before after (state_of c.args.self.now) (state_in [] (record v { cache = k })) refl (still_up v k c.requires.may.up c.in-Ok.ensures.runs.stopped) c.in-Ok.ensures.runs.drives;
      within = search rules;
    }

pub returns-in-Ok-clause-stands : goal.returns-in-Ok-clause-stands
returns-in-Ok-clause-stands g c =
    let v = c.args.self.now.disk in
    let k = c.write_clean.new.self in
    let before = g.M.Media.state c.args.media.now in
    let after = g.M.Media.state c.write_clean.new.media in
    let left = c.requires.may.left.disk in
    let s = left.held in
    let holds = (left.up c.requires.may.up).holds in
    let by = drove_held v k before after (ssc_failed c.write_clean.result) (ssc_lost c.write_clean.result) left c.requires.may.up c.write_clean.ensures.runs.geometry c.write_clean.ensures.runs.drives in
    let absent = absent_of v.cache before.contents s holds c.args.lba c.requires.absent in
    put_stands v k before.contents after.contents s by c.args.lba c.args.block.now absent c.requires.newest (c.in-Ok.ensures.at_absent s holds absent) (through_none v c.requires.may.left.mode by.is.may_undo)

pub returns-in-Ok-clause-held : goal.returns-in-Ok-clause-held
returns-in-Ok-clause-held g c =
    let v = c.args.self.now.disk in
    let k = c.write_clean.new.self in
    let lba = c.args.lba in
    let block = c.args.block.now in
    let before = g.M.Media.state c.args.media.now in
    let after = g.M.Media.state c.write_clean.new.media in
    let left = c.requires.may.left.disk in
    let s = left.held in
    let holds = (left.up c.requires.may.up).holds in
    let by = drove_held v k before after (ssc_failed c.write_clean.result) (ssc_lost c.write_clean.result) left c.requires.may.up c.write_clean.ensures.runs.geometry c.write_clean.ensures.runs.drives in
    let absent = absent_of v.cache before.contents s holds lba c.requires.absent in
    held_as (told_of v) lba block block (λ a. is_some (get (entries_of v.cache) a)) (λ a. is_some (get (entries_of k) a)) (put_held v k before.contents after.contents s by lba block absent c.requires.newest (c.in-Ok.ensures.done s holds) block)

-- the write failed or was cut

pub returns-in-Err-clause-steps : goal.returns-in-Err-clause-steps
returns-in-Err-clause-steps g c =
    let v = c.args.self.now.disk in
    let k = c.write_clean.new.self in
    let before = g.M.Media.state c.args.media.now in
    let after = g.M.Media.state c.write_clean.new.media in
    let left = c.requires.may.left.disk in
    let s = left.held in
    let holds = (left.up c.requires.may.up).holds in
    let by = drove_held v k before after (ssc_failed c.write_clean.result) (ssc_lost c.write_clean.result) left c.requires.may.up c.write_clean.ensures.runs.geometry c.write_clean.ensures.runs.drives in
    let absent = absent_of v.cache before.contents s holds c.args.lba c.requires.absent in
    let images = c.write_clean.ensures.images s by.is.holds (with_newest after.contents) (newest_image after.contents) in
    let memory : c.in-Err.error ≡ OutOfMemory → ⊥ = λ none. false≢true (sym (c.in-Err.ensures.refused.memory (ap Err none)).0 ∙ c.requires.ready) in
    let down = stopped_down v k (c.in-Err.ensures.runs.stopped ∙ gives_up c.in-Err.error (λ n limit full. c.in-Err.ensures.full n limit (ap Err full)) memory) in
    record {
      left = record {
        disk = cut_left v k before.contents after.contents s by c.args.lba c.args.block.now absent c.requires.newest images down;
        mode = c.requires.may.left.mode;
      };
      goes = goes_down before after (state_of c.args.self.now) (state_in [] (record v { cache = k })) c.in-Err.error c.cache_error.result refl down c.cache_error.ensures memory c.in-Err.ensures.runs.drives;
      within = search rules;
    }

pub returns-in-Err-clause-stands : goal.returns-in-Err-clause-stands
returns-in-Err-clause-stands g c =
    let v = c.args.self.now.disk in
    let k = c.write_clean.new.self in
    let before = g.M.Media.state c.args.media.now in
    let after = g.M.Media.state c.write_clean.new.media in
    let left = c.requires.may.left.disk in
    let s = left.held in
    let holds = (left.up c.requires.may.up).holds in
    let by = drove_held v k before after (ssc_failed c.write_clean.result) (ssc_lost c.write_clean.result) left c.requires.may.up c.write_clean.ensures.runs.geometry c.write_clean.ensures.runs.drives in
    let absent = absent_of v.cache before.contents s holds c.args.lba c.requires.absent in
    cut_stands v k before.contents after.contents s by c.args.lba c.args.block.now absent c.requires.newest (c.write_clean.ensures.images s by.is.holds (with_newest after.contents) (newest_image after.contents)) (through_none v c.requires.may.left.mode by.is.may_undo)

pub returns-in-Ok-clause-no_disk : goal.returns-in-Ok-clause-no_disk
returns-in-Ok-clause-no_disk g c = let drives = c.write_clean.ensures.runs.drives in record { disk_reads = drives.disk_reads; disk_writes = drives.disk_writes; disk_flushes = drives.disk_flushes }

pub returns-in-Err-clause-no_disk : goal.returns-in-Err-clause-no_disk
returns-in-Err-clause-no_disk g c = let drives = c.write_clean.ensures.runs.drives in record { disk_reads = drives.disk_reads; disk_writes = drives.disk_writes; disk_flushes = drives.disk_flushes }
