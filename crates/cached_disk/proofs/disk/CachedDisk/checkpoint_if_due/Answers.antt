use Rattle.std.specs.List.{list_any}
use Rattle.cache_model.specs.Cache.{is_write}
use Rattle.std.proofs.Common.{◌≡◌, Ok, Err, ◌-◌, ◌*◌, ◌<◌, ◌≤◌, ◌^◌, length, refl, rules, sym, ◌∙◌, ap, arith}
use Rattle.std.proofs.lemmas.List.{length-map}
use Rattle.ft_base.proofs.Images.{newest_image, with_newest}
use Rattle.ft_base.specs.Layout.{log_pages}
use Rattle.ft_base.specs.declared.geometry.Geometry.{Geometry}
use Rattle.ft_volume.specs.Volume.{Idles}
use Rattle.ft_volume.specs.declared.volume.Idled.{Idled}
use Rattle.ft_volume.specs.declared.volume.Idled.TheVariants.{Checkpointed, Nothing}
use Rattle.ssc.specs.declared.error.SscError.TheVariants.{OutOfMemory}
use Rattle.ssc.specs.CacheState.{geometry_of, log_room, pending}
use Rattle.ssc.specs.Errors.{ssc_failed, ssc_lost}
use Rattle.cached_disk.specs.declared.disk.CachedDisk.{CachedDisk}
use Rattle.cached_disk.specs.Kept.{dirty_of, state_in, told_of, waiting_in}
use Rattle.cached_disk.proofs.AddressLemmas.{holds_held}
use Rattle.cached_disk.proofs.CallLemmas.{asks_none, gives_up, goes_down, goes_driven, idle_same, none_up, refused_costs, same_costs}
use Rattle.cached_disk.proofs.HeldLemmas.{is_up, stopped_down}
use Rattle.cached_disk.proofs.OpenLemmas.{less_none}
use Rattle.cached_disk.proofs.ReportLemmas.{goes_at}
use Rattle.cached_disk.proofs.ReadLemmas.{commit_shows, done_dirty, done_left, drove_held, due, may_none, not_due, refused_left, refused_stays, room_fits, settled_stays, shows_itself, stays_same, still_up}
use Rattle.cached_disk.proofs.disk.CachedDisk.checkpoint_if_due.Goals as goal

pub overflow_mul-log_room : goal.overflow_mul-log_room
overflow_mul-log_room g c =
    let v = c.args.self.now in
    let fits : 2 * c.log_room.result < 2 ^ 32 = room_fits (geometry_of v.cache) v.cache.parts.log.next c.log_room.result (c.log_room.ensures (g.M.Media.state c.args.media.now).contents c.requires.may.left.held (c.requires.may.left.up c.requires.may.up).holds) in
    search rules

pub returns-then-log_room-j-clause-idled : goal.returns-then-log_room-j-clause-idled
returns-then-log_room-j-clause-idled g c =
    let v = c.args.self.now in
    let more : c.j.result * c.p.result < 2 * c.log_room.result = search rules in
    not_due v.options.geometry (log_room v.cache) c.log_room.result c.j.result c.p.result (c.log_room.ensures (g.M.Media.state c.args.media.now).contents c.requires.may.left.held (c.requires.may.left.up c.requires.may.up).holds) c.j.ensures c.p.ensures more

pub returns-in-Ok-clause-idled : goal.returns-in-Ok-clause-idled
returns-in-Ok-clause-idled g c =
    let v = c.args.self.now in
    let few : 2 * c.log_room.result ≤ c.j.result * c.p.result = search rules in
    due v.options.geometry (log_room v.cache) c.log_room.result c.j.result c.p.result (c.log_room.ensures (g.M.Media.state c.args.media.now).contents c.requires.may.left.held (c.requires.may.left.up c.requires.may.up).holds) c.j.ensures c.p.ensures few

pub checkpoint-requires : goal.checkpoint-requires
checkpoint-requires g c = record { up = is_up c.args.self.now (g.M.Media.state c.args.media.now).contents c.requires.may.left.held c.requires.may.up (c.requires.may.left.up c.requires.may.up) }

pub returns-in-Ok-clause-serves : goal.returns-in-Ok-clause-serves
returns-in-Ok-clause-serves g c =
    let v = c.args.self.now in
    let old = (g.M.Media.state c.args.media.now).contents in
    let new = (g.M.Media.state c.checkpoint.new.media).contents in
    let s = c.requires.may.left.held in
    let is = c.requires.may.left.up c.requires.may.up in
    let by = drove_held v c.checkpoint.new.self (g.M.Media.state c.args.media.now) (g.M.Media.state c.checkpoint.new.media) (ssc_failed c.checkpoint.result) (ssc_lost c.checkpoint.result) c.requires.may.left c.requires.may.up c.checkpoint.ensures.runs.geometry c.checkpoint.ensures.runs.drives in
    let w : CachedDisk = record v { cache = c.checkpoint.new.self } in
    record {
      left = done_left v c.checkpoint.new.self old new s by s (shows_itself v old s is) (c.in-Ok.ensures.done s is.holds) (λ a dirty. dirty) (may_none (told_of v) (pending c.checkpoint.new.self) c.in-Ok.ensures.nothing_waits) (ap (list_any is_write) c.in-Ok.ensures.nothing_waits);
      keeps = settled_stays v c.checkpoint.new.self (g.M.Media.state c.args.media.now) (g.M.Media.state c.checkpoint.new.media) (ssc_failed c.checkpoint.result) (ssc_lost c.checkpoint.result) c.requires.may.left c.requires.may.up c.checkpoint.ensures.runs.geometry c.checkpoint.ensures.runs.drives c.in-Ok.ensures.done c.in-Ok.ensures.nothing_waits;
      found = λ owed owes base stand. tt;
      goes = λ order. goes_driven Checkpointed (g.M.Media.state c.args.media.now) (g.M.Media.state c.checkpoint.new.media) (state_in order v) (state_in order w) refl
          (still_up v c.checkpoint.new.self c.requires.may.up c.in-Ok.ensures.runs.stopped) c.in-Ok.ensures.runs.drives;
      dirty = λ still. done_dirty v c.checkpoint.new.self old new s by s (shows_itself v old s is) (c.in-Ok.ensures.done s is.holds) (λ a dirty. dirty) (λ a dirty. dirty);
      made = search rules;
      within = search rules;
    }

pub returns-in-Ok-clause-costs : goal.returns-in-Ok-clause-costs
returns-in-Ok-clause-costs g c = λ order none.
    let v = c.args.self.now in
    let old = (g.M.Media.state c.args.media.now).contents in
    let new = (g.M.Media.state c.checkpoint.new.media).contents in
    let s = c.requires.may.left.held in
    let is = c.requires.may.left.up c.requires.may.up in
    let by = drove_held v c.checkpoint.new.self (g.M.Media.state c.args.media.now) (g.M.Media.state c.checkpoint.new.media) (ssc_failed c.checkpoint.result) (ssc_lost c.checkpoint.result) c.requires.may.left c.requires.may.up c.checkpoint.ensures.runs.geometry c.checkpoint.ensures.runs.drives in
    let holds = c.in-Ok.ensures.done s is.holds in
    let w : CachedDisk = record v { cache = c.checkpoint.new.self } in
    let idle = idle_same (told_of v) (waiting_in v.options.geometry.p order (dirty_of v)) (length order) (length-map order _) none in
    same_costs Checkpointed Idles (state_in order v) (state_in order w) (g.M.Media.state c.args.media.now) (g.M.Media.state c.checkpoint.new.media) (λ a own. own) idle.1
    (ap (waiting_in v.options.geometry.p order) (done_dirty v c.checkpoint.new.self old new s by s (shows_itself v old s is) holds (λ a dirty. dirty) (λ a dirty. dirty)) ∙ sym idle.0)
    (λ a. holds_held c.checkpoint.new.self new s holds a ∙ sym (holds_held v.cache old s is.holds a)) c.checkpoint.ensures.runs.drives.disk_reads c.checkpoint.ensures.runs.drives.disk_writes

pub returns-then-log_room-j-clause-serves : goal.returns-then-log_room-j-clause-serves
returns-then-log_room-j-clause-serves g c =
    let v = c.args.self.now in
    let old = (g.M.Media.state c.args.media.now).contents in
    record {
      left = c.requires.may.left;
      keeps = stays_same v v old old refl refl;
      found = λ owed owes base stand. tt;
      goes = search rules;
      dirty = search rules;
      made = search rules;
      within = search rules;
    }

pub returns-then-log_room-j-clause-asks : goal.returns-then-log_room-j-clause-asks
returns-then-log_room-j-clause-asks g c = λ order.
    let v = c.args.self.now in
    asks_none Idles (state_in order v) (state_in order v) (g.M.Media.state c.args.media.now) (g.M.Media.state c.args.media.now) (Ok Nothing) (λ none. none) (λ finds none. none) (omega arith)

pub returns-then-log_room-j-clause-checkpoint : goal.returns-then-log_room-j-clause-checkpoint
returns-then-log_room-j-clause-checkpoint g c = λ order is. absurd (cc)

pub returns-in-Ok-clause-asks : goal.returns-in-Ok-clause-asks
returns-in-Ok-clause-asks g c = λ order.
    let v = c.args.self.now in
    let w : CachedDisk = record v { cache = c.checkpoint.new.self } in
    let same = c.checkpoint.ensures.runs.drives.disk_flushes in
    asks_none Idles (state_in order v) (state_in order w) (g.M.Media.state c.args.media.now) (g.M.Media.state c.checkpoint.new.media) (Ok Checkpointed) (λ none. none) (λ finds none. none) (omega (arith, same))

pub returns-in-Ok-clause-checkpoint : goal.returns-in-Ok-clause-checkpoint
returns-in-Ok-clause-checkpoint g c = λ order is.
    let v = c.args.self.now in
    let own : geometry_of c.checkpoint.new.self ≡ v.options.geometry = c.checkpoint.ensures.runs.geometry ∙ c.requires.may.left.own in
    record {
      log = ap (λ (k : Geometry). log_pages k - c.checkpoint.new.self.parts.log.next) own ∙ less_none (log_pages v.options.geometry) c.checkpoint.new.self.parts.log.next c.in-Ok.ensures.log;
      nothing = ap length c.in-Ok.ensures.nothing_waits;
    }

pub returns-in-Err-clause-costs : goal.returns-in-Err-clause-costs
returns-in-Err-clause-costs g c = λ order none.
    let v = c.args.self.now in
    let w : CachedDisk = record v { cache = c.checkpoint.new.self } in
    let memory : c.in-Err.error ≡ OutOfMemory → ⊥ = λ none. c.in-Err.ensures.runs.memory (ap Err none) in
    let down = stopped_down v c.checkpoint.new.self (c.in-Err.ensures.runs.stopped ∙ gives_up c.in-Err.error (λ n limit full. c.in-Err.ensures.runs.full n limit (ap Err full)) memory) in
    let reads = c.checkpoint.ensures.runs.drives.disk_reads in
    refused_costs Idles (state_in order v) (state_in order w) Idled (g.M.Media.state c.args.media.now) (g.M.Media.state c.checkpoint.new.media) c.cache_error.result
    (none_up Idles (state_in order v) (state_in order w) down) (omega (arith, reads)) c.checkpoint.ensures.runs.drives.disk_writes

pub returns-in-Err-clause-asks : goal.returns-in-Err-clause-asks
returns-in-Err-clause-asks g c = λ order.
    let v = c.args.self.now in
    let w : CachedDisk = record v { cache = c.checkpoint.new.self } in
    let same = c.checkpoint.ensures.runs.drives.disk_flushes in
    asks_none Idles (state_in order v) (state_in order w) (g.M.Media.state c.args.media.now) (g.M.Media.state c.checkpoint.new.media) (Err c.cache_error.result) (λ none. none) (λ finds none. none) (omega (arith, same))

pub returns-in-Err-clause-serves : goal.returns-in-Err-clause-serves
returns-in-Err-clause-serves g c =
    let v = c.args.self.now in
    let old = (g.M.Media.state c.args.media.now).contents in
    let new = (g.M.Media.state c.checkpoint.new.media).contents in
    let s = c.requires.may.left.held in
    let is = c.requires.may.left.up c.requires.may.up in
    let by = drove_held v c.checkpoint.new.self (g.M.Media.state c.args.media.now) (g.M.Media.state c.checkpoint.new.media) (ssc_failed c.checkpoint.result) (ssc_lost c.checkpoint.result) c.requires.may.left c.requires.may.up c.checkpoint.ensures.runs.geometry c.checkpoint.ensures.runs.drives in
    let shown = commit_shows v old s c.requires.may.left.own is new.flash.page (c.checkpoint.ensures.images s is.holds (with_newest new) (newest_image new)) in
    let w : CachedDisk = record v { cache = c.checkpoint.new.self } in
    let memory : c.in-Err.error ≡ OutOfMemory → ⊥ = λ none. c.in-Err.ensures.runs.memory (ap Err none) in
    let down = stopped_down v c.checkpoint.new.self (c.in-Err.ensures.runs.stopped ∙ gives_up c.in-Err.error (λ n limit full. c.in-Err.ensures.runs.full n limit (ap Err full)) memory) in
    record {
      left = refused_left v c.checkpoint.new.self old new s by shown down;
      keeps = refused_stays v c.checkpoint.new.self (g.M.Media.state c.args.media.now) (g.M.Media.state c.checkpoint.new.media) (ssc_failed c.checkpoint.result) (ssc_lost c.checkpoint.result) c.requires.may.left c.requires.may.up c.checkpoint.ensures.runs.geometry c.checkpoint.ensures.runs.drives
          (λ t held. commit_shows v old t c.requires.may.left.own held new.flash.page (c.checkpoint.ensures.images t held.holds (with_newest new) (newest_image new))) down;
      found = tt;
      goes = λ order. goes_at {S = Unit {0}} {T = Idled} (state_in order v) (state_in order w) (g.M.Media.state c.args.media.now) (g.M.Media.state c.checkpoint.new.media) c.cache_error.result
          (goes_down (g.M.Media.state c.args.media.now) (g.M.Media.state c.checkpoint.new.media) (state_in order v) (state_in order w) c.in-Err.error c.cache_error.result refl down
          c.cache_error.ensures memory c.in-Err.ensures.runs.drives);
      dirty = search rules;
      made = search rules;
      within = search rules;
    }
