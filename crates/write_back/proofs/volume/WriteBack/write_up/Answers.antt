use Rattle.std.proofs.Common.{◌≡◌, ◌≤◌, ◌+◌, ◌-◌, ◌/◌, ◌||◌, ℕ, length, inl, Result, Ok, Err, refl, sym, ap, ◌∙◌, subst, rules, arith}
use Rattle.std.proofs.lemmas.Result.{on_err_weaker}
use Rattle.std.specs.FinMap.{get}
use Rattle.std.specs.Option.{is_some}
use Rattle.std.proofs.lemmas.Bool.{false≢true}
use Rattle.ft_base.specs.Layout.{log_pages, page_records}
use Rattle.ft_base.specs.declared.geometry.Geometry.{Geometry}
use Rattle.ft_base.specs.Table.{is_full}
use Rattle.ft_base.specs.Told.{Told}
use Rattle.ft_media.specs.Media.{program_counted}
use Rattle.ft_media.specs.State.{State}
use Rattle.ft_volume.specs.Volume.{StaysUp, VolumeState, Writes, dirty_lbas}
use Rattle.ft_volume.specs.declared.volume.VolumeError.{VolumeError}
use Rattle.ft_volume.specs.declared.volume.VolumeError.TheVariants.{OutOfMemory}
use Rattle.cache_model.specs.Records.{Entries}
use Rattle.merge_engine.specs.declared.parts.Parts.{Parts}
use Rattle.ssc.specs.CacheState.{geometry_of, log_room, open_room, pending}
use Rattle.cached_disk.specs.Kept.{KeepsOwed, waiting_in, WritesDisk}
use Rattle.cached_disk.proofs.CallLemmas.{refused_costs, refused_kept, same_up}
use Rattle.cached_disk.proofs.ReadLemmas.{reserved_owes}
use Rattle.cached_disk.proofs.OpenedLemmas.{reserved_tells}
use Rattle.write_back.specs.declared.volume.WriteBack.{WriteBack}
use Rattle.write_back.specs.Left.{state_of}
use Rattle.write_back.specs.Writing.{backs_made, flushes_made, room_made}
use Rattle.ft_volume.proofs.UpLemmas.{goes_then, programs_then}
use Rattle.write_back.proofs.WriteLemmas.{costs_refused, costs_then, does_then, flushes_back, on_ok_if, reserved, reserved_left, room_up, stays_as}
use Rattle.write_back.proofs.volume.WriteBack.write_up.Goals as goal

pub make_room-requires-clause-left : goal.make_room-requires-clause-left
make_room-requires-clause-left g c =
    let old = (g.M.Media.state c.args.media.now).contents in
    let taken = c.reserve.ensures in
    reserved_left c.args.self.now c.reserve.new.self taken.entries taken.stopped old c.requires.may.left taken.holds taken.same taken.pending

-- its memory was refused

pub returns-then-is_err-clause-steps : goal.returns-then-is_err-clause-steps
returns-then-is_err-clause-steps g c =
    let old = (g.M.Media.state c.args.media.now).contents in
    let taken = c.reserve.ensures in
    record {
      left = reserved_left c.args.self.now c.reserve.new.self taken.entries taken.stopped old c.requires.may.left taken.holds taken.same taken.pending;
      goes = search rules;
      faulted = search rules;
      within = search rules;
    }

pub returns-then-is_err-clause-costs : goal.returns-then-is_err-clause-costs
returns-then-is_err-clause-costs g c =
    let v = c.args.self.now in
    let taken = c.reserve.ensures in
    let w = reserved v c.reserve.new.self taken.entries taken.stopped in
    let call = Writes c.args.lba c.args.block.now in
    refused_costs call (state_of v) (state_of w) (Unit {0}) (g.M.Media.state c.args.media.now) (g.M.Media.state c.args.media.now) OutOfMemory
    (same_up call (state_of v) (state_of w) (reserved_tells v.dirty.order v.disk c.reserve.new.self taken.parts taken.entries taken.stopped)) (omega arith) refl

pub returns-then-is_err-clause-does : goal.returns-then-is_err-clause-does
returns-then-is_err-clause-does g c = λ owed owes.
    let v = c.args.self.now in
    let old = (g.M.Media.state c.args.media.now).contents in
    let taken = c.reserve.ensures in
    let w = reserved v c.reserve.new.self taken.entries taken.stopped in
    let there = reserved_owes v.disk c.reserve.new.self (record { geometry = taken.same; holds = taken.holds; pending = taken.pending; stopped = taken.stopped }) old old refl owed owes in
    (owed, there, λ base stand. refused_kept (Writes c.args.lba c.args.block.now) (state_of v) (state_of w) old owed owed base (inl (refl, stand)) OutOfMemory (λ is. ap (λ b. v.disk.down || b) taken.stopped ∙ c.requires.may.up))

pub returns-then-is_err-clause-asks : goal.returns-then-is_err-clause-asks
returns-then-is_err-clause-asks g c = record { flushes = omega arith; found = λ none. absurd none; two_programs = tt; one_program = tt }

-- room was made

pub returns-in-Ok-clause-does : goal.returns-in-Ok-clause-does
returns-in-Ok-clause-does g c = λ owed owes.
    let v = c.args.self.now in
    let old = (g.M.Media.state c.args.media.now).contents in
    let taken = c.reserve.ensures in
    let there = reserved_owes v.disk c.reserve.new.self (record { geometry = taken.same; holds = taken.holds; pending = taken.pending; stopped = taken.stopped }) old old refl owed owes in
    let mid = c.make_room.new.self in
    let between = (g.M.Media.state c.make_room.new.media).contents in
    let new = c.put_dirty.new.self in
    let after = (g.M.Media.state c.put_dirty.new.media).contents in
    let first = c.make_room.ensures.keeps owed there in
    let then = c.put_dirty.ensures.does first.0 first.1 in
    (then.0, then.1, λ base stand. does_then c.args.lba c.args.block.now (state_of v) (state_of mid) (state_of new) between after c.put_dirty.result owed first.0 then.0 base c.make_room.ensures.steps.goes.told c.in-Ok.ensures.steps.goes.up (first.2 base stand) then.2)

pub returns-in-Ok-clause-steps : goal.returns-in-Ok-clause-steps
returns-in-Ok-clause-steps g c =
    let v = c.args.self.now in
    record {
      left = search rules;
      goes = goes_then (state_of v) (state_of (reserved v c.reserve.new.self c.reserve.ensures.entries c.reserve.ensures.stopped)) (state_of c.make_room.new.self) (state_of c.put_dirty.new.self)
          (g.M.Media.state c.args.media.now) (g.M.Media.state c.make_room.new.media) (g.M.Media.state c.put_dirty.new.media) c.put_dirty.result refl c.in-Ok.ensures.steps.goes c.put_dirty.ensures.steps.goes c.put_dirty.ensures.steps.faulted;
      faulted = search rules;
      within = search rules;
    }

pub returns-in-Ok-clause-costs : goal.returns-in-Ok-clause-costs
returns-in-Ok-clause-costs g c =
    let v = c.args.self.now in
    let n = v.disk.options.geometry in
    let taken = c.reserve.ensures in
    let now = state_of (reserved v c.reserve.new.self taken.entries taken.stopped) in
    let put = c.put_dirty.ensures in
    let room = c.in-Ok.ensures.table ∙ ap (λ (p : ℕ). room_made n.c (c.args.lba / p) now.table) c.p.ensures ∙ ap (λ (m : Entries). room_made n.c (c.args.lba / n.p) (waiting_in n.p v.dirty.order (dirty_lbas m))) taken.entries in
    let backs = subst (λ (m : Entries). WritesDisk (backs_made n.c (c.args.lba / n.p) (waiting_in n.p v.dirty.order (dirty_lbas m))) (g.M.Media.state c.args.media.now) (g.M.Media.state c.make_room.new.media) (Ok tt)) taken.entries
    (subst (λ (p : ℕ). WritesDisk (backs_made n.c (c.args.lba / p) now.table) (g.M.Media.state c.args.media.now) (g.M.Media.state c.make_room.new.media) (Ok tt)) c.p.ensures c.in-Ok.ensures.writes) in
    costs_then c.args.lba c.args.block.now (state_of v) (state_of c.make_room.new.self) (state_of c.put_dirty.new.self) (g.M.Media.state c.args.media.now) (g.M.Media.state c.make_room.new.media) (g.M.Media.state c.put_dirty.new.media) c.requires.may.left.mode c.make_room.ensures.steps.goes.told
    c.put_dirty.result room (λ a. c.make_room.ensures.held c.in-Ok.ensures.steps.goes.up a ∙ ap (λ (m : Entries). is_some (get m a)) taken.entries) backs put.table put.held put.no_disk
    (on_err_weaker c.put_dirty.result (λ same up. subst (λ (w : WriteBack). StaysUp (Writes c.args.lba c.args.block.now) (state_of v) (state_of w)) (sym (same up))
    (room_up c.args.lba c.args.block.now (state_of v) (state_of c.make_room.new.self) (state_of c.put_dirty.new.self) (g.M.Media.state c.args.media.now) (g.M.Media.state c.make_room.new.media) (g.M.Media.state c.put_dirty.new.media) c.requires.may.left.mode c.make_room.ensures.steps.goes.told room
    (λ a. c.make_room.ensures.held c.in-Ok.ensures.steps.goes.up a ∙ ap (λ (m : Entries). is_some (get m a)) taken.entries))) put.same)

pub returns-in-Ok-clause-asks : goal.returns-in-Ok-clause-asks
returns-in-Ok-clause-asks g c =
    let v = c.args.self.now in
    let n = v.disk.options.geometry in
    let taken = c.reserve.ensures in
    let now = state_of (reserved v c.reserve.new.self taken.entries taken.stopped) in
    let put = c.put_dirty.ensures in
    let full = ap (λ (p : ℕ). is_full n.c (c.args.lba / p) now.table) c.p.ensures ∙ ap (λ (m : Entries). is_full n.c (c.args.lba / n.p) (waiting_in n.p v.dirty.order (dirty_lbas m))) taken.entries in
    let most = c.make_room.ensures.flushes in
    let same = put.no_disk.disk_flushes in
    let made = ap (λ (p : ℕ). flushes_made n.c (c.args.lba / p) now.table) c.p.ensures ∙ ap (λ (m : Entries). flushes_made n.c (c.args.lba / n.p) (waiting_in n.p v.dirty.order (dirty_lbas m))) taken.entries
    ∙ flushes_back c.args.lba c.args.block.now (state_of v) (state_of v) (state_of v) (g.M.Media.state c.args.media.now) (g.M.Media.state c.args.media.now) (g.M.Media.state c.args.media.now) c.requires.may.left.mode refl in
    record {
      flushes = omega (arith, most, same, made);
      found = λ none. absurd none;
      two_programs = on_ok_if c.put_dirty.result (λ room. put.costs.two_programs (ap (λ (t : Told). t.ack) c.make_room.ensures.steps.goes.told ∙ room.ack)) (λ room two.
          let there = c.make_room.ensures.there (full ∙ room.room.table) in
          let block = ap (λ (w : WriteBack). open_room w.disk.cache) there.0 ∙ ap (λ (p : Parts). p.log_blocks.room) taken.parts in
          let log = ap (λ (w : WriteBack). log_room w.disk.cache) there.0 ∙ ap (λ (p : Parts). log_pages p.geometry - p.log.next) taken.parts in
          subst (λ (s : State). (g.M.Media.state c.put_dirty.new.media).counts ≡ program_counted (program_counted s.counts)) there.1
          (two (subst (λ (k : ℕ). 1 ≤ k) (sym block) room.room.block) (subst (λ (k : ℕ). 1 ≤ k) (sym log) room.log)));
      one_program = on_ok_if c.put_dirty.result (λ room. put.costs.one_program (ap (λ (t : Told). t.ack) c.make_room.ensures.steps.goes.told ∙ room.ack)) (λ room one.
          let there = c.make_room.ensures.there (full ∙ room.room.table) in
          let block = ap (λ (w : WriteBack). open_room w.disk.cache) there.0 ∙ ap (λ (p : Parts). p.log_blocks.room) taken.parts in
          let buffered = ap (λ (w : WriteBack). length (pending w.disk.cache)) there.0 ∙ ap length taken.pending in
          let own = ap (λ (w : WriteBack). geometry_of w.disk.cache) there.0 ∙ taken.same ∙ c.requires.may.left.disk.own in
          subst (λ (s : State). (g.M.Media.state c.put_dirty.new.media).counts ≡ program_counted s.counts) there.1
          (one (subst (λ (k : ℕ). 1 ≤ k) (sym block) room.room.block) (subst (λ (geo : Geometry). length (pending c.make_room.new.self.disk.cache) + 2 ≤ page_records geo) (sym own) (subst (λ (k : ℕ). k + 2 ≤ page_records n) (sym buffered) room.buffered))));
    }

pub returns-in-Ok-clause-programs : goal.returns-in-Ok-clause-programs
returns-in-Ok-clause-programs g c =
    let v = c.args.self.now in
    programs_then (g.M.Media.state c.args.media.now) (g.M.Media.state c.make_room.new.media) (g.M.Media.state c.put_dirty.new.media) c.put_dirty.result c.in-Ok.ensures.steps.goes.passes c.put_dirty.ensures.costs.programs

-- the write failed before the cache was asked

pub returns-in-Err-clause-does : goal.returns-in-Err-clause-does
returns-in-Err-clause-does g c = λ owed owes.
    let v = c.args.self.now in
    let old = (g.M.Media.state c.args.media.now).contents in
    let after = (g.M.Media.state c.make_room.new.media).contents in
    let taken = c.reserve.ensures in
    let there = reserved_owes v.disk c.reserve.new.self (record { geometry = taken.same; holds = taken.holds; pending = taken.pending; stopped = taken.stopped }) old old refl owed owes in
    let mid = state_of c.make_room.new.self in
    let first = c.make_room.ensures.keeps owed there in
    let goes = c.in-Err.ensures.steps.goes in (
      first.0,
      first.1,
      λ base stand. refused_kept (Writes c.args.lba c.args.block.now) (state_of v) mid after owed first.0 base
          (subst (λ (t : Told). KeepsOwed t after mid.down owed first.0 base) (sym goes.told) (first.2 base stand)) c.in-Err.error (λ is. goes.memory (ap Err is) (ap (λ b. v.disk.down || b) taken.stopped ∙ c.requires.may.up)),
    )

pub returns-in-Err-clause-costs : goal.returns-in-Err-clause-costs
returns-in-Err-clause-costs g c =
    let v = c.args.self.now in
    let n = v.disk.options.geometry in
    let taken = c.reserve.ensures in
    let now = state_of (reserved v c.reserve.new.self taken.entries taken.stopped) in
    let before = g.M.Media.state c.args.media.now in
    let after = g.M.Media.state c.make_room.new.media in
    let call = Writes c.args.lba c.args.block.now in
    let w = c.make_room.new.self in
    let refused : Result (Unit {0}) VolumeError = Err c.in-Err.error in
    let backs = subst (λ (m : Entries). WritesDisk (backs_made n.c (c.args.lba / n.p) (waiting_in n.p v.dirty.order (dirty_lbas m))) before after refused) taken.entries
    (subst (λ (p : ℕ). WritesDisk (backs_made n.c (c.args.lba / p) now.table) before after refused) c.p.ensures c.in-Err.ensures.writes) in
    costs_refused c.args.lba c.args.block.now (state_of v) (state_of v) (state_of w) before before after c.requires.may.left.mode refl c.in-Err.error backs
    (λ up. subst (λ (x : VolumeState). StaysUp call x (state_of w)) (reserved_tells v.dirty.order v.disk c.reserve.new.self taken.parts taken.entries taken.stopped)
    (stays_as call (reserved v c.reserve.new.self taken.entries taken.stopped) w c.in-Err.ensures.steps.goes.told (c.in-Err.ensures.same up) (c.in-Err.ensures.held up) (λ no. absurd (false≢true (sym no)))))

pub returns-in-Err-clause-asks : goal.returns-in-Err-clause-asks
returns-in-Err-clause-asks g c =
    let v = c.args.self.now in
    let n = v.disk.options.geometry in
    let taken = c.reserve.ensures in
    let now = state_of (reserved v c.reserve.new.self taken.entries taken.stopped) in
    let most = c.make_room.ensures.flushes in
    let made = ap (λ (p : ℕ). flushes_made n.c (c.args.lba / p) now.table) c.p.ensures ∙ ap (λ (m : Entries). flushes_made n.c (c.args.lba / n.p) (waiting_in n.p v.dirty.order (dirty_lbas m))) taken.entries
    ∙ flushes_back c.args.lba c.args.block.now (state_of v) (state_of v) (state_of v) (g.M.Media.state c.args.media.now) (g.M.Media.state c.args.media.now) (g.M.Media.state c.args.media.now) c.requires.may.left.mode refl in
    record { flushes = omega (arith, most, made); found = λ none. absurd none; two_programs = tt; one_program = tt }
