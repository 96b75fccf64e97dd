use Rattle.std.specs.List.{list_any}
use Rattle.cache_model.specs.Cache.{is_write}
use Rattle.std.proofs.Common.{◌≡◌, Ok, Err, refl, rules, sym, ◌∙◌, ap, arith}
use Rattle.ft_base.proofs.Images.{newest_image, with_newest}
use Rattle.ft_volume.specs.Volume.{Flushes}
use Rattle.ssc.specs.declared.error.SscError.TheVariants.{OutOfMemory}
use Rattle.ssc.specs.CacheState.{pending}
use Rattle.ssc.specs.Errors.{ssc_failed, ssc_lost}
use Rattle.cached_disk.specs.declared.disk.CachedDisk.{CachedDisk}
use Rattle.cached_disk.specs.Kept.{state_in, waiting_in, told_of}
use Rattle.cached_disk.proofs.AddressLemmas.{holds_held}
use Rattle.cached_disk.proofs.CallLemmas.{asks_none, gives_up, goes_down, goes_driven, none_up, refused_costs, same_costs}
use Rattle.cached_disk.proofs.HeldLemmas.{is_up, stopped_down}
use Rattle.cached_disk.proofs.ReadLemmas.{commit_shows, done_dirty, done_left, drove_held, may_none, refused_left, refused_stays, settled_stays, shows_itself, still_up}
use Rattle.cached_disk.proofs.disk.CachedDisk.flush.Goals as goal

pub commit-requires : goal.commit-requires
commit-requires g c = record { up = is_up c.args.self.now (g.M.Media.state c.args.media.now).contents c.requires.may.left.held c.requires.may.up (c.requires.may.left.up c.requires.may.up) }

pub returns-in-Ok-clause-serves : goal.returns-in-Ok-clause-serves
returns-in-Ok-clause-serves g c =
    let v = c.args.self.now in
    let old = (g.M.Media.state c.args.media.now).contents in
    let new = (g.M.Media.state c.commit.new.media).contents in
    let s = c.requires.may.left.held in
    let is = c.requires.may.left.up c.requires.may.up in
    let by = drove_held v c.commit.new.self (g.M.Media.state c.args.media.now) (g.M.Media.state c.commit.new.media) (ssc_failed c.commit.result) (ssc_lost c.commit.result) c.requires.may.left c.requires.may.up c.commit.ensures.runs.geometry c.commit.ensures.runs.drives in
    let w : CachedDisk = record v { cache = c.commit.new.self } in
    record {
      left = done_left v c.commit.new.self old new s by s (shows_itself v old s is) (c.in-Ok.ensures.done s is.holds) (λ a dirty. dirty) (may_none (told_of v) (pending c.commit.new.self) c.in-Ok.ensures.nothing_waits) (ap (list_any is_write) c.in-Ok.ensures.nothing_waits);
      keeps = settled_stays v c.commit.new.self (g.M.Media.state c.args.media.now) (g.M.Media.state c.commit.new.media) (ssc_failed c.commit.result) (ssc_lost c.commit.result) c.requires.may.left c.requires.may.up c.commit.ensures.runs.geometry c.commit.ensures.runs.drives c.in-Ok.ensures.done c.in-Ok.ensures.nothing_waits;
      found = λ owed owes base stand. tt;
      goes = λ order. goes_driven tt (g.M.Media.state c.args.media.now) (g.M.Media.state c.commit.new.media) (state_in order v) (state_in order w) refl
          (still_up v c.commit.new.self c.requires.may.up c.in-Ok.ensures.runs.stopped) c.in-Ok.ensures.runs.drives;
      dirty = λ still. done_dirty v c.commit.new.self old new s by s (shows_itself v old s is) (c.in-Ok.ensures.done s is.holds) (λ a dirty. dirty) (λ a dirty. dirty);
      made = search rules;
      within = search rules;
    }

pub returns-in-Ok-clause-costs : goal.returns-in-Ok-clause-costs
returns-in-Ok-clause-costs g c = λ order.
    let v = c.args.self.now in
    let old = (g.M.Media.state c.args.media.now).contents in
    let new = (g.M.Media.state c.commit.new.media).contents in
    let s = c.requires.may.left.held in
    let is = c.requires.may.left.up c.requires.may.up in
    let by = drove_held v c.commit.new.self (g.M.Media.state c.args.media.now) (g.M.Media.state c.commit.new.media) (ssc_failed c.commit.result) (ssc_lost c.commit.result) c.requires.may.left c.requires.may.up c.commit.ensures.runs.geometry c.commit.ensures.runs.drives in
    let holds = c.in-Ok.ensures.done s is.holds in
    let w : CachedDisk = record v { cache = c.commit.new.self } in
    same_costs tt Flushes (state_in order v) (state_in order w) (g.M.Media.state c.args.media.now) (g.M.Media.state c.commit.new.media) (λ a own. own) refl
    (ap (waiting_in v.options.geometry.p order) (done_dirty v c.commit.new.self old new s by s (shows_itself v old s is) holds (λ a dirty. dirty) (λ a dirty. dirty)))
    (λ a. holds_held c.commit.new.self new s holds a ∙ sym (holds_held v.cache old s is.holds a)) c.commit.ensures.runs.drives.disk_reads c.commit.ensures.runs.drives.disk_writes

pub returns-in-Ok-clause-held : goal.returns-in-Ok-clause-held
returns-in-Ok-clause-held g c = λ a.
    let v = c.args.self.now in
    let s = c.requires.may.left.held in
    let is = c.requires.may.left.up c.requires.may.up in
    holds_held c.commit.new.self (g.M.Media.state c.commit.new.media).contents s (c.in-Ok.ensures.done s is.holds) a ∙ sym (holds_held v.cache (g.M.Media.state c.args.media.now).contents s is.holds a)

pub returns-in-Ok-clause-asks : goal.returns-in-Ok-clause-asks
returns-in-Ok-clause-asks g c = λ order.
    let v = c.args.self.now in
    let w : CachedDisk = record v { cache = c.commit.new.self } in
    let same = c.commit.ensures.runs.drives.disk_flushes in
    asks_none Flushes (state_in order v) (state_in order w) (g.M.Media.state c.args.media.now) (g.M.Media.state c.commit.new.media) (Ok tt) (λ none. none) (λ finds none. none) (omega (arith, same))

pub returns-in-Err-clause-costs : goal.returns-in-Err-clause-costs
returns-in-Err-clause-costs g c = λ order.
    let v = c.args.self.now in
    let w : CachedDisk = record v { cache = c.commit.new.self } in
    let memory : c.in-Err.error ≡ OutOfMemory → ⊥ = λ none. c.in-Err.ensures.runs.memory (ap Err none) in
    let down = stopped_down v c.commit.new.self (c.in-Err.ensures.runs.stopped ∙ gives_up c.in-Err.error (λ n limit full. c.in-Err.ensures.runs.full n limit (ap Err full)) memory) in
    let reads = c.commit.ensures.runs.drives.disk_reads in
    refused_costs Flushes (state_in order v) (state_in order w) (Unit {0}) (g.M.Media.state c.args.media.now) (g.M.Media.state c.commit.new.media) c.cache_error.result
    (none_up Flushes (state_in order v) (state_in order w) down) (omega (arith, reads)) c.commit.ensures.runs.drives.disk_writes

pub returns-in-Err-clause-asks : goal.returns-in-Err-clause-asks
returns-in-Err-clause-asks g c = λ order.
    let v = c.args.self.now in
    let w : CachedDisk = record v { cache = c.commit.new.self } in
    let same = c.commit.ensures.runs.drives.disk_flushes in
    asks_none Flushes (state_in order v) (state_in order w) (g.M.Media.state c.args.media.now) (g.M.Media.state c.commit.new.media) (Err c.cache_error.result) (λ none. none) (λ finds none. none) (omega (arith, same))

pub returns-in-Err-clause-serves : goal.returns-in-Err-clause-serves
returns-in-Err-clause-serves g c =
    let v = c.args.self.now in
    let old = (g.M.Media.state c.args.media.now).contents in
    let new = (g.M.Media.state c.commit.new.media).contents in
    let s = c.requires.may.left.held in
    let is = c.requires.may.left.up c.requires.may.up in
    let by = drove_held v c.commit.new.self (g.M.Media.state c.args.media.now) (g.M.Media.state c.commit.new.media) (ssc_failed c.commit.result) (ssc_lost c.commit.result) c.requires.may.left c.requires.may.up c.commit.ensures.runs.geometry c.commit.ensures.runs.drives in
    let shown = commit_shows v old s c.requires.may.left.own is new.flash.page (c.commit.ensures.images s is.holds (with_newest new) (newest_image new)) in
    let w : CachedDisk = record v { cache = c.commit.new.self } in
    let memory : c.in-Err.error ≡ OutOfMemory → ⊥ = λ none. c.in-Err.ensures.runs.memory (ap Err none) in
    let down = stopped_down v c.commit.new.self (c.in-Err.ensures.runs.stopped ∙ gives_up c.in-Err.error (λ n limit full. c.in-Err.ensures.runs.full n limit (ap Err full)) memory) in
    record {
      left = refused_left v c.commit.new.self old new s by shown down;
      keeps = refused_stays v c.commit.new.self (g.M.Media.state c.args.media.now) (g.M.Media.state c.commit.new.media) (ssc_failed c.commit.result) (ssc_lost c.commit.result) c.requires.may.left c.requires.may.up c.commit.ensures.runs.geometry c.commit.ensures.runs.drives
          (λ t held. commit_shows v old t c.requires.may.left.own held new.flash.page (c.commit.ensures.images t held.holds (with_newest new) (newest_image new))) down;
      found = tt;
      goes = λ order. goes_down (g.M.Media.state c.args.media.now) (g.M.Media.state c.commit.new.media) (state_in order v) (state_in order w) c.in-Err.error c.cache_error.result refl down
          c.cache_error.ensures memory c.in-Err.ensures.runs.drives;
      dirty = search rules;
      made = search rules;
      within = search rules;
    }

pub returns-in-Ok-clause-no_disk : goal.returns-in-Ok-clause-no_disk
returns-in-Ok-clause-no_disk g c = let drives = c.commit.ensures.runs.drives in record { disk_reads = drives.disk_reads; disk_writes = drives.disk_writes; disk_flushes = drives.disk_flushes }

pub returns-in-Err-clause-no_disk : goal.returns-in-Err-clause-no_disk
returns-in-Err-clause-no_disk g c = let drives = c.commit.ensures.runs.drives in record { disk_reads = drives.disk_reads; disk_writes = drives.disk_writes; disk_flushes = drives.disk_flushes }
