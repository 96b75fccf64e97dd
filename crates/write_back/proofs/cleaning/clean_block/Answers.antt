use Rattle.std.proofs.Common.{◌<◌, Err, sym, subst, ap}
use Rattle.ft_base.specs.declared.geometry.Geometry.{Geometry}
use Rattle.cached_disk.proofs.HeldLemmas.{is_up}
use Rattle.write_back.proofs.CleaningLemmas.{none_cleaned_waits, once_clean, once_cleaned, once_flushed, once_on_disk, once_refused, once_stopped}
use Rattle.write_back.proofs.cleaning.clean_block.Goals as goal

pub clean-requires-clause-up : goal.clean-requires-clause-up
clean-requires-clause-up g c = is_up c.args.disk.now (g.M.Media.state c.args.media.now).contents c.requires.may.left.held c.requires.may.up (c.requires.may.left.up c.requires.may.up)

pub clean-requires-clause-lba : goal.clean-requires-clause-lba
clean-requires-clause-lba g c = subst (λ (x : Geometry). c.args.lba < x.size) (sym c.requires.may.left.own) c.requires.lba

pub returns-in-Ok-clause-proceeds : goal.returns-in-Ok-clause-proceeds
returns-in-Ok-clause-proceeds g c =
    let e = c.in-Ok.ensures in
    once_clean c.args.disk.now c.clean.new.self (g.M.Media.state c.args.media.now) (g.M.Media.state c.clean.new.media) c.args.lba c.requires.may.left c.requires.may.up c.requires.settled c.requires.back c.requires.flushed c.requires.copied e.runs.geometry e.runs.ready e.runs.drives e.done
    (none_cleaned_waits c.args.disk.now c.clean.new.self (g.M.Media.state c.args.media.now) (g.M.Media.state c.clean.new.media) c.args.lba c.requires.may.left c.requires.may.up c.requires.settled e.of_dirty e.of_other) e.runs.stopped

pub returns-in-Ok-clause-cleaned : goal.returns-in-Ok-clause-cleaned
returns-in-Ok-clause-cleaned g c =
    let e = c.in-Ok.ensures in
    once_cleaned c.args.disk.now c.clean.new.self (g.M.Media.state c.args.media.now) (g.M.Media.state c.clean.new.media) c.args.lba c.requires.may.left c.requires.may.up c.requires.settled c.requires.back c.requires.flushed c.requires.copied e.runs.geometry e.runs.ready e.runs.drives e.done
    (none_cleaned_waits c.args.disk.now c.clean.new.self (g.M.Media.state c.args.media.now) (g.M.Media.state c.clean.new.media) c.args.lba c.requires.may.left c.requires.may.up c.requires.settled e.of_dirty e.of_other)

pub returns-in-Ok-clause-flushed : goal.returns-in-Ok-clause-flushed
returns-in-Ok-clause-flushed g c =
    let e = c.in-Ok.ensures in
    once_flushed c.args.disk.now c.clean.new.self (g.M.Media.state c.args.media.now) (g.M.Media.state c.clean.new.media) c.args.lba c.requires.may.left c.requires.may.up c.requires.settled c.requires.back c.requires.flushed c.requires.copied e.runs.geometry e.runs.ready e.runs.drives e.done
    (none_cleaned_waits c.args.disk.now c.clean.new.self (g.M.Media.state c.args.media.now) (g.M.Media.state c.clean.new.media) c.args.lba c.requires.may.left c.requires.may.up c.requires.settled e.of_dirty e.of_other)

pub returns-in-Ok-clause-copied : goal.returns-in-Ok-clause-copied
returns-in-Ok-clause-copied g c =
    let e = c.in-Ok.ensures in
    once_on_disk c.args.disk.now c.clean.new.self (g.M.Media.state c.args.media.now) (g.M.Media.state c.clean.new.media) c.args.lba c.requires.may.left c.requires.may.up c.requires.settled c.requires.back c.requires.flushed c.requires.copied e.runs.geometry e.runs.ready e.runs.drives e.done
    (none_cleaned_waits c.args.disk.now c.clean.new.self (g.M.Media.state c.args.media.now) (g.M.Media.state c.clean.new.media) c.args.lba c.requires.may.left c.requires.may.up c.requires.settled e.of_dirty e.of_other)

pub returns-in-Err-clause-proceeds : goal.returns-in-Err-clause-proceeds
returns-in-Err-clause-proceeds g c =
    let e = c.in-Err.ensures in
    once_refused c.args.disk.now c.clean.new.self (g.M.Media.state c.args.media.now) (g.M.Media.state c.clean.new.media) c.args.lba c.requires.may.left c.requires.may.up c.requires.settled c.requires.back c.requires.flushed c.requires.copied e.runs.geometry e.runs.ready
    c.in-Err.error c.cache_error.result c.cache_error.ensures (λ n limit is. e.runs.full n limit (ap Err is)) (λ is. e.runs.memory (ap Err is)) e.runs.stopped e.runs.drives e.images

pub returns-in-Err-clause-refused : goal.returns-in-Err-clause-refused
returns-in-Err-clause-refused g c =
    let e = c.in-Err.ensures in
    once_stopped c.args.disk.now c.clean.new.self c.in-Err.error (λ n limit is. e.runs.full n limit (ap Err is)) (λ is. e.runs.memory (ap Err is)) e.runs.stopped
