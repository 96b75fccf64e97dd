use Rattle.std.proofs.Common.{Err, inl, refl, ap, ◌∙◌, rules}
use Rattle.ft_volume.specs.Volume.{Writes}
use Rattle.ft_volume.specs.declared.volume.VolumeError.TheVariants.{OutOfMemory}
use Rattle.std.proofs.lemmas.Bool.{both_ways}
use Rattle.cached_disk.specs.Kept.{is_down, state_in}
use Rattle.cached_disk.proofs.CallLemmas.{goes_down, goes_driven, not_memory, refused_kept}
use Rattle.cached_disk.proofs.HeldLemmas.{is_up}
use Rattle.cached_disk.proofs.ReadLemmas.{still_up}
use Rattle.write_back.specs.Left.{state_of}
use Rattle.write_back.proofs.WriteLemmas.{has_room, is_held, noted_as, put_does, put_holds, put_left, put_table, refused_does, refused_down, refused_left}
use Rattle.write_back.proofs.volume.WriteBack.put_dirty.Goals as goal

pub write_cached-requires-clause-up : goal.write_cached-requires-clause-up
write_cached-requires-clause-up g c =
    let v = c.args.self.now in
    let old = (g.M.Media.state c.args.media.now).contents in
    is_up v.disk old c.requires.may.left.disk.held c.requires.may.up (is_held v old c.requires.may.left c.requires.may.up)

pub cache_error-requires : goal.cache_error-requires
cache_error-requires g c =
    let v = c.args.self.now in
    let old = (g.M.Media.state c.args.media.now).contents in
    let left = c.requires.may.left in
    has_room v old left c.requires.may.up c.args.lba c.requires.room c.in-Err.error (c.in-Err.ensures.full left.disk.held (is_held v old left c.requires.may.up).holds)

-- done

pub returns-in-Ok-clause-steps : goal.returns-in-Ok-clause-steps
returns-in-Ok-clause-steps g c =
    let v = c.args.self.now in
    let old = g.M.Media.state c.args.media.now in
    let left = c.requires.may.left in
    let noted = noted_as v.dirty.order v.dirty.limit c.args.lba c.p.result v.disk.options.geometry.p c.touch.new.self c.touch.result c.if-is_err.ensures.value c.p.ensures c.touch.ensures.ok in
    record {
      left = put_left v c.args.lba c.write_cached.new.cache c.touch.new.self noted old (g.M.Media.state c.write_cached.new.media) left c.requires.may.up c.args.block.now c.write_cached.ensures.runs.geometry c.write_cached.ensures.runs.drives
          (λ write. c.in-Ok.ensures.at_write (c.ack-ack.ensures ∙ write)) c.in-Ok.ensures.done;
      goes = goes_driven tt old (g.M.Media.state c.write_cached.new.media) (state_of v) (state_in c.touch.new.self.order (record v.disk { cache = c.write_cached.new.cache })) refl (still_up v.disk c.write_cached.new.cache c.requires.may.up c.in-Ok.ensures.runs.stopped) c.in-Ok.ensures.runs.drives;
      faulted = search rules;
      within = search rules;
    }

pub returns-in-Ok-clause-does : goal.returns-in-Ok-clause-does
returns-in-Ok-clause-does g c =
    let v = c.args.self.now in
    let old = g.M.Media.state c.args.media.now in
    let left = c.requires.may.left in
    let noted = noted_as v.dirty.order v.dirty.limit c.args.lba c.p.result v.disk.options.geometry.p c.touch.new.self c.touch.result c.if-is_err.ensures.value c.p.ensures c.touch.ensures.ok in
    put_does v c.args.lba c.write_cached.new.cache c.touch.new.self noted old (g.M.Media.state c.write_cached.new.media) left c.requires.may.up c.args.block.now c.write_cached.ensures.runs.geometry c.write_cached.ensures.runs.drives
    (λ write. c.in-Ok.ensures.at_write (c.ack-ack.ensures ∙ write)) c.in-Ok.ensures.done (still_up v.disk c.write_cached.new.cache c.requires.may.up c.in-Ok.ensures.runs.stopped)

pub returns-in-Ok-clause-table : goal.returns-in-Ok-clause-table
returns-in-Ok-clause-table g c =
    let v = c.args.self.now in
    let old = g.M.Media.state c.args.media.now in
    let left = c.requires.may.left in
    let noted = noted_as v.dirty.order v.dirty.limit c.args.lba c.p.result v.disk.options.geometry.p c.touch.new.self c.touch.result c.if-is_err.ensures.value c.p.ensures c.touch.ensures.ok in
    put_table v c.args.lba c.write_cached.new.cache c.touch.new.self noted old (g.M.Media.state c.write_cached.new.media) left c.requires.may.up c.args.block.now c.write_cached.ensures.runs.geometry c.write_cached.ensures.runs.drives
    (λ write. c.in-Ok.ensures.at_write (c.ack-ack.ensures ∙ write)) c.in-Ok.ensures.done

pub returns-in-Ok-clause-held : goal.returns-in-Ok-clause-held
returns-in-Ok-clause-held g c =
    let v = c.args.self.now in
    let old = g.M.Media.state c.args.media.now in
    let left = c.requires.may.left in
    let noted = noted_as v.dirty.order v.dirty.limit c.args.lba c.p.result v.disk.options.geometry.p c.touch.new.self c.touch.result c.if-is_err.ensures.value c.p.ensures c.touch.ensures.ok in
    put_holds v c.args.lba c.write_cached.new.cache c.touch.new.self noted old (g.M.Media.state c.write_cached.new.media) left c.requires.may.up c.args.block.now c.write_cached.ensures.runs.geometry c.write_cached.ensures.runs.drives
    (λ write. c.in-Ok.ensures.at_write (c.ack-ack.ensures ∙ write)) c.in-Ok.ensures.done

-- the write failed or was cut

pub returns-in-Err-clause-steps : goal.returns-in-Err-clause-steps
returns-in-Err-clause-steps g c =
    let v = c.args.self.now in
    let old = g.M.Media.state c.args.media.now in
    let left = c.requires.may.left in
    let holds = (is_held v old.contents left c.requires.may.up).holds in
    let noted = noted_as v.dirty.order v.dirty.limit c.args.lba c.p.result v.disk.options.geometry.p c.touch.new.self c.touch.result c.if-is_err.ensures.value c.p.ensures c.touch.ensures.ok in
    let down = refused_down v old.contents left c.requires.may.up c.args.lba c.requires.room c.requires.ready c.write_cached.new.cache c.in-Err.error (c.in-Err.ensures.full left.disk.held holds) (λ same. (c.in-Err.ensures.refused.memory (ap Err same)).0) c.in-Err.ensures.runs.stopped in
    record {
      left = refused_left v c.args.lba c.write_cached.new.cache c.touch.new.self noted old (g.M.Media.state c.write_cached.new.media) left c.requires.may.up c.args.block.now c.write_cached.ensures.runs.geometry c.write_cached.ensures.runs.drives
          c.write_cached.ensures.images down;
      goes = goes_down old (g.M.Media.state c.write_cached.new.media) (state_of v) (state_in c.touch.new.self.order (record v.disk { cache = c.write_cached.new.cache })) c.in-Err.error c.cache_error.result refl down c.cache_error.ensures
          (λ same. both_ways v.disk.cache.ready (c.in-Err.ensures.refused.memory (ap Err same)).0 c.requires.ready) c.in-Err.ensures.runs.drives;
      faulted = search rules;
      within = search rules;
    }

pub returns-in-Err-clause-does : goal.returns-in-Err-clause-does
returns-in-Err-clause-does g c =
    let v = c.args.self.now in
    let old = g.M.Media.state c.args.media.now in
    let left = c.requires.may.left in
    let holds = (is_held v old.contents left c.requires.may.up).holds in
    let noted = noted_as v.dirty.order v.dirty.limit c.args.lba c.p.result v.disk.options.geometry.p c.touch.new.self c.touch.result c.if-is_err.ensures.value c.p.ensures c.touch.ensures.ok in
    let down = refused_down v old.contents left c.requires.may.up c.args.lba c.requires.room c.requires.ready c.write_cached.new.cache c.in-Err.error (c.in-Err.ensures.full left.disk.held holds) (λ same. (c.in-Err.ensures.refused.memory (ap Err same)).0) c.in-Err.ensures.runs.stopped in
    refused_does v c.args.lba c.write_cached.new.cache c.touch.new.self noted old (g.M.Media.state c.write_cached.new.media) left c.requires.may.up c.args.block.now c.write_cached.ensures.runs.geometry c.write_cached.ensures.runs.drives
    c.write_cached.ensures.images down c.cache_error.result
    (not_memory c.in-Err.error c.cache_error.result c.cache_error.ensures (λ same. both_ways v.disk.cache.ready (c.in-Err.ensures.refused.memory (ap Err same)).0 c.requires.ready))

pub returns-in-Err-clause-same : goal.returns-in-Err-clause-same
returns-in-Err-clause-same g c = λ up.
    let v = c.args.self.now in
    let old = g.M.Media.state c.args.media.now in
    let left = c.requires.may.left in
    let holds = (is_held v old.contents left c.requires.may.up).holds in
    let down = refused_down v old.contents left c.requires.may.up c.args.lba c.requires.room c.requires.ready c.write_cached.new.cache c.in-Err.error (c.in-Err.ensures.full left.disk.held holds) (λ same. (c.in-Err.ensures.refused.memory (ap Err same)).0) c.in-Err.ensures.runs.stopped in
    absurd (both_ways (is_down (record v.disk { cache = c.write_cached.new.cache })) up down)

pub returns-in-Ok-clause-no_disk : goal.returns-in-Ok-clause-no_disk
returns-in-Ok-clause-no_disk g c = let drives = c.write_cached.ensures.runs.drives in record { disk_reads = drives.disk_reads; disk_writes = drives.disk_writes; disk_flushes = drives.disk_flushes }

pub returns-in-Err-clause-no_disk : goal.returns-in-Err-clause-no_disk
returns-in-Err-clause-no_disk g c = let drives = c.write_cached.ensures.runs.drives in record { disk_reads = drives.disk_reads; disk_writes = drives.disk_writes; disk_flushes = drives.disk_flushes }

pub returns-in-Ok-clause-costs : goal.returns-in-Ok-clause-costs
returns-in-Ok-clause-costs g c = record {
  two_programs = λ write. c.in-Ok.ensures.costs.two_programs (c.ack-ack.ensures ∙ write);
  one_program = λ later. c.in-Ok.ensures.costs.one_program (c.ack-ack.ensures ∙ later);
  programs = c.in-Ok.ensures.costs.programs;
}

pub returns-in-Err-clause-costs : goal.returns-in-Err-clause-costs
returns-in-Err-clause-costs g c = record { two_programs = λ write. tt; one_program = λ later. tt; programs = tt }

pub returns-then-is_err-clause-costs : goal.returns-then-is_err-clause-costs
returns-then-is_err-clause-costs g c = record { two_programs = λ write. tt; one_program = λ later. tt; programs = tt }

pub returns-then-is_err-clause-does : goal.returns-then-is_err-clause-does
returns-then-is_err-clause-does g c = λ owed owes. (owed, owes, λ base stand. refused_kept (Writes c.args.lba c.args.block.now) (state_of c.args.self.now) (state_of (record c.args.self.now { dirty = c.touch.new.self })) (g.M.Media.state c.args.media.now).contents owed owed base (inl (refl, stand)) OutOfMemory (λ is. c.requires.may.up))
