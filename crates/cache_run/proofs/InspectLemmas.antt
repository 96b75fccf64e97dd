-- A run that prints nothing, with a report after it, and the same over a new volume.
use Rattle.std.proofs.Common.{◌≡◌, ◌≢◌, ◌≤◌, inl, inr, ℕ, zero, suc, ◌+◌, ◌-◌, min, Bool, true, List, [], ◌∷◌, ◌++◌, length, drop, Option, Some, None, Result, Ok, Err, OnOk, IfErr, IsErrOf, refl, sym, ap, ◌∙◌, subst, arith}
use Rattle.std.specs.Io.KnownBytes.{Appends, Keeps}
use Rattle.std.proofs.lemmas.List.{append_assoc, drop-drop, length-drop}
use Rattle.ft_base.specs.Contents.{Contents, Image}
use Rattle.ft_base.specs.Count.{Rose, last_count}
use Rattle.ft_base.specs.PlainDisk.{BlockWrite, PlainDisk}
use Rattle.ft_base.specs.StreamState.{SinkState, SourceState}
use Rattle.ft_base.specs.Told.{Told}
use Rattle.ft_base.specs.declared.block.Page.{Page}
use Rattle.ft_base.specs.declared.block.Place.{Place}
use Rattle.ft_base.specs.declared.geometry.Geometry.{Geometry}
use Rattle.ft_base.specs.declared.told.Ack.{Ack}
use Rattle.ft_base.specs.declared.told.Ack.TheVariants as ack
use Rattle.ft_base.specs.declared.told.Mode.{Mode}
use Rattle.cache_model.specs.Records.{Entries}
use Rattle.cache_model.specs.Stands.{ImageStandsFor}
use Rattle.ft_media.specs.Fitted.{KeepsReady}
use Rattle.ft_media.specs.State.{State}
use Rattle.ft_volume.proofs.MediaLemmas.{image_stands}
use Rattle.ft_volume.specs.Opening.{ImageIs}
use Rattle.ft_volume.specs.Volume.{VolumeState, told_for}
use Rattle.ft_volume.specs.Standing.{StandFor}
use Rattle.ft_volume.specs.declared.options.Options.{Options}
use Rattle.trace_model.specs.declared.answer.Answer.{Answer}
use Rattle.trace_model.specs.declared.ran.Ran.{Ran}
use Rattle.trace_model.specs.Backs.{ReadsFew, WritesBack, WritesNone}
use Rattle.trace_model.specs.Fits.{FitsEnd, armed_after}
use Rattle.trace_model.specs.Readings.{Reading, Reads}
use Rattle.trace_model.specs.Run.{cuts_in, disk_without, end_answers, end_of, lines_of, lost_told, stopped}
use Rattle.trace_model.specs.Text.{text}
use Rattle.trace_model.proofs.RunLemmas.{disk_without-none}
use Rattle.trace_replay.specs.declared.ended.Ended.{Ended}
use Rattle.trace_replay.specs.declared.ended.Ended.TheVariants as ended
use Rattle.trace_replay.specs.Before.{IsBefore}
use Rattle.trace_replay.specs.Commands.{TellsRefusal, TellsRefusalPart}
use Rattle.trace_replay.specs.Said.{IsDevice, NoneFailed, RoseAtLeast, Takes, TellsStops, TookPart, stops_in}
use Rattle.trace_replay.specs.Theorem.{EndsEarly, EndsPart, LeavesRig, RunsWhole, spent_by}
use Rattle.trace_replay.specs.Went.{Keeps as KeepsDisk}
use Rattle.trace_replay.proofs.FromLemmas.{before_itself, leaves_from, part_from, refused_from, unread_from}
use Rattle.cache_run.specs.Begun.{IsNewVolume}
use Rattle.cache_run.specs.Fitted.{fitted_for}
use Rattle.cache_run.specs.Inspected.{Asks, EndsInspected, EndsInspecting, Inspects, LoadsAs, PrintsFront, PrintsReport, TellsInspectPart}
use Rattle.cache_run.proofs.SilentLemmas.{front_silent, kept_none, kept_then, none_stopped}
use Rattle.cache_run.proofs.UncutLemmas.{disk_after-uncut, uncut_none}
use Rattle.trace_replay.proofs.EndingLemmas.{failed_by}
use Rattle.trace_replay.proofs.CutsLemmas.{counts_then, failed_then, long_stopped, stops_all, stops_then as stops_add}

-- ---- how it ended

-- what was taken if the sink didn't fail
takes_other : (e : Ended) (says : List Answer → Type 0) (short : List Answer → Option Answer → Type 0) (front rest : List Answer) → e ≢ ended.Sink → says front → Takes e says short front rest
takes_other ended.Sink says short front rest other said = absurd (other refl)
takes_other ended.Trace says short front rest other said = said
takes_other ended.Source says short front rest other said = said
takes_other ended.Flash says short front rest other said = said
takes_other ended.Disk says short front rest other said = said
takes_other ended.Memory says short front rest other said = said

-- behind the last line all lines count for the calls of the disk
spent_none : (a : Ack) (run : List Ran) → spent_by a run [] ≡ run
spent_none ack.Write run = refl
spent_none ack.Flush run = refl

-- lost block writes tell no stop
stops_lost : (n : ℕ) → stops_in (lost_told n) ≡ 0
stops_lost zero = refl
stops_lost (suc n) = refl

-- there is a last answer
some_last : (xs : List Answer) (y : Answer) → xs ++ y ∷ [] ≡ [] → ⊥
some_last [] y is = cc
some_last (x ∷ xs) y is = cc

took_front : (e : Ended) (says : List Answer → Type 0) (short : List Answer → Option Answer → Type 0) (front rest : List Answer) → Takes e says short front rest → e ≢ ended.Sink → says front
took_front ended.Sink says short front rest taken other = absurd (other refl)
took_front ended.Trace says short front rest taken other = taken
took_front ended.Source says short front rest taken other = taken
took_front ended.Flash says short front rest taken other = taken
took_front ended.Disk says short front rest taken other = taken
took_front ended.Memory says short front rest taken other = taken

-- ---- within a line

widen : (g : Geometry) (loads : (Place → Page) → Entries → Type 0) (now : State) (x y : SinkState) (run : List Ran) (answers : List Answer) (next : Option Answer) → TellsRefusalPart x y run answers next → TellsInspectPart g loads now x y run answers next
widen g loads now x y run answers None part = part
widen g loads now x y run answers (Some next) part = inl part

pub inspecting_line : (o : Told) (reads : ℕ → List Reading → Bool → Type 0) (loads : (Place → Page) → Entries → Type 0) (stands : Image → PlainDisk → Type 0) (x y : SinkState) (first now : State) (e : Ended)
    → EndsPart o reads (TellsRefusal x y) (TellsRefusalPart x y) stands first now e → EndsInspecting o reads loads x y stands first now e
inspecting_line o reads loads stands x y first now e ends =
    let none = front_silent o ends.whole ends.run ends.left ends.part.front ends.part.rest ends.due ends.may ends.part.both ends.proper in
    record {
      part = part_from o reads reads (TellsRefusal x y) (TellsRefusal x y) stands stands first first now
          (λ lines all whole known. known) (λ run answers said. said) (λ image d stood. stood) (before_itself first)
          (TellsRefusalPart x y) (TellsInspectPart o.geometry loads now x y) (widen o.geometry loads now x y) e ends;
      silent = λ other. subst (λ (r : List Answer). Appends x.taken y.taken (text r)) none (took_front e (TellsRefusal x y ends.run) (TellsRefusalPart x y ends.run) ends.part.front ends.part.rest ends.part.taken other).0;
    }

-- and within its report, if it was no refusal and no fault of the source
pub inspected_then : {o : Told} {reads : ℕ → List Reading → Bool → Type 0} {loads : (Place → Page) → Entries → Type 0} {x y : SinkState} {stands : Image → PlainDisk → Type 0} {first now : State} (e : Ended)
    → (e ≡ ended.Trace → ⊥) → (e ≡ ended.Source → ⊥) → EndsInspecting o reads loads x y stands first now e → EndsInspected o reads loads x y stands first now (Err e)
inspected_then ended.Trace not_trace not_source ends = absurd (not_trace refl)
inspected_then ended.Source not_trace not_source ends = absurd (not_source refl)
inspected_then ended.Sink not_trace not_source ends = ends
inspected_then ended.Flash not_trace not_source ends = ends
inspected_then ended.Disk not_trace not_source ends = ends
inspected_then ended.Memory not_trace not_source ends = ends

-- a result that blames a device
device_at : {T : Type 0} (e device : Ended) → IsErrOf {T = T} (Err e) device → IsDevice device → IsDevice e
device_at e device is is_device = let same : e ≡ device = cc in subst IsDevice (sym same) is_device

-- ---- a report after all lines

-- all lines were run, and then a report was asked for, again after so many cuts
module _ (o : Told) (reads : ℕ → List Reading → Bool → Type 0) (stands after : Image → PlainDisk → Type 0) (loads : (Place → Page) → Entries → Type 0) (x y z : SinkState) (first mid now : State)
    (quiet : RunsWhole o reads (TellsRefusal x y) stands first mid) (silent : Keeps x.taken y.taken) (n : ℕ) (asks : Asks n mid now) (kept : KeepsDisk stands after mid.contents now.contents) where
  rig_then : LeavesRig o first now quiet.run quiet.run
  rig_then = record {
    on = asks.on;
    shape = asks.shape ∙ quiet.leaves.rig.shape;
    counts = counts_then first.counts mid.counts now.counts quiet.leaves.rig.counts asks.counts;
    programs = λ below. let later = asks.counts.programs in let rose = quiet.leaves.rig.programs (omega arith) in omega arith;
    reads = subst (λ k. ReadsFew o quiet.run quiet.run first.counts.disk_reads k) (sym asks.disk_reads) quiet.leaves.rig.reads;
    writes = subst (λ k. WritesNone o quiet.run quiet.run first.counts.disk_writes k) (sym asks.disk_writes) quiet.leaves.rig.writes;
  }

  few_then : quiet.cuts + n ≤ length (armed_after quiet.run)
  few_then =
      let left : length mid.power.stops ≡ length (armed_after quiet.run) - quiet.cuts = ap length quiet.leaves.stops ∙ length-drop quiet.cuts (armed_after quiet.run) in
      let few = quiet.leaves.fits.few in
      let more = asks.few in
      omega arith

  stops_then : now.power.stops ≡ drop (quiet.cuts + n) (armed_after quiet.run)
  stops_then = asks.stops ∙ ap (drop n) quiet.leaves.stops ∙ drop-drop n quiet.cuts (armed_after quiet.run)

  risen_then : RoseAtLeast (cuts_in quiet.run + (quiet.cuts + n)) first.faults.cuts now.faults.cuts
  risen_then = λ below. let two = asks.risen below in let later = asks.later in let one = quiet.leaves.risen (omega arith) in omega arith

  fits_then : FitsEnd o.ack quiet.run (quiet.cuts + n) quiet.lost
  fits_then = record { few = few_then; cut = λ none. quiet.leaves.fits.cut (omega (arith, none)); losses = quiet.leaves.fits.losses }

  disk_then : StandFor after now.contents (disk_without quiet.lost quiet.run)
  disk_then = kept (disk_without quiet.lost quiet.run) quiet.leaves.disk

  -- the report was printed
  pub whole_then : NoneFailed mid now → (n ≡ 0 → KeepsReady mid now) → PrintsReport o.geometry loads now y z → Inspects o reads loads x z after first now
  whole_then sound ready prints = record {
    report = prints.report;
    is = prints.is;
    whole = record {
      all = quiet.all;
      run = quiet.run;
      cuts = quiet.cuts + n;
      lost = quiet.lost;
      trace = quiet.trace;
      lines = quiet.lines;
      printed = kept_then x.taken y.taken z.taken _ silent prints.printed;
      leaves = record {
        rig = rig_then;
        fits = fits_then;
        disk = disk_then;
        stops = stops_then;
        risen = risen_then;
        none_failed = failed_then first mid now quiet.leaves.none_failed sound;
        ready = λ none b was. ready (omega (arith, none)) b (quiet.leaves.ready (omega (arith, none)) b was);
      };
      backs = subst (λ k. WritesBack o quiet.run first.counts.disk_writes k) (sym asks.disk_writes) quiet.backs;
    };
    uncut = λ calm.
        let none = uncut_none o.ack quiet.run (quiet.cuts + n) first.faults.cuts now.faults.cuts quiet.lines.fits few_then risen_then calm in
        subst (λ (d : PlainDisk). StandFor after now.contents d) (disk_without-none quiet.lost quiet.run (fits_then.cut none.1) ∙ disk_after-uncut o.ack quiet.run quiet.lines.fits none.0) disk_then;
  }

  -- it ended before all of it was printed
  abbrev Part : Ended → Type 0
  Part e = TookPart e (TellsRefusal x z quiet.run) (TellsInspectPart o.geometry loads now x z quiet.run) (end_answers quiet.run (quiet.cuts + n) quiet.lost)

  ends_then : (e : Ended) (part : Part e) → (part.rest ≡ [] → ⊥) → TellsStops e part.front (cuts_in quiet.run) first now (armed_after quiet.run) → (e ≢ ended.Sink → Appends x.taken z.taken []) → EndsInspecting o reads loads x z after first now e
  ends_then e part some stops nothing = record {
    part = record {
      all = quiet.all;
      whole = true;
      run = quiet.run;
      left = [];
      due = end_answers quiet.run (quiet.cuts + n) quiet.lost;
      given = length (lines_of quiet.run);
      after = omega arith;
      next = omega arith;
      trace = quiet.trace;
      lines = quiet.lines;
      may = record { cuts = quiet.cuts + n; lost = quiet.lost; fits = fits_then; told = refl };
      part = part;
      proper = λ empty. absurd (some empty);
      stops = stops;
      media = λ image here. (quiet.lost, 0, record { blocks = omega arith; none = quiet.leaves.fits.losses.none; since = quiet.leaves.fits.losses.since; front = λ one. refl }, disk_then image here);
      rig = subst (λ (rs : List Ran). LeavesRig o first now rs quiet.run) (sym (spent_none o.ack quiet.run)) rig_then;
    };
    silent = nothing;
  }

  -- as the sink failed, within the report
  inspecting_sink : NoneFailed mid now → PrintsFront o.geometry loads now y z → EndsInspecting o reads loads x z after first now ended.Sink
  inspecting_sink sound part =
      let k = quiet.cuts + n in
      let said = stopped k ++ lost_told quiet.lost in
      let all : stops_in said ≡ k + 0 = stops_add (stopped k) (lost_told quiet.lost) ∙ ap (λ i. i + stops_in (lost_told quiet.lost)) (stops_all k) ∙ ap (λ i. k + i) (stops_lost quiet.lost) in
      ends_then ended.Sink (record {
        front = said;
        rest = end_of quiet.lost quiet.run ∷ [];
        both = sym (append_assoc (stopped k) (lost_told quiet.lost) (end_of quiet.lost quiet.run ∷ []));
        taken = inr (refl, record { report = part.report; is = part.is; count = part.count; short = part.short; printed = kept_then x.taken y.taken z.taken _ silent part.printed });
      }) (λ empty. absurd (let some : end_of quiet.lost quiet.run ∷ [] ≡ [] = empty in cc)) (record {
        risen = λ below. let rose = risen_then below in omega arith;
        none_failed = λ _. failed_then first mid now quiet.leaves.none_failed sound;
        only = λ device. absurd device;
        queue = λ device. absurd device;
        fell = (k, omega arith, omega arith, stops_then);
      }) (λ other. absurd (other refl))

  -- and in any other way, when nothing of it was printed
  inspecting_other : (e : Ended) → e ≢ ended.Sink → ((IsDevice e → ⊥) → NoneFailed mid now) → z ≡ y → EndsInspecting o reads loads x z after first now e
  inspecting_other e other sound same =
      let k = quiet.cuts + n in
      let all = stops_all k in
      let long = long_stopped k in
      let nothing : Appends x.taken z.taken [] = subst (λ (s : SinkState). Appends x.taken s.taken []) (sym same) (kept_none x.taken y.taken silent) in
      ends_then e (record {
        front = stopped k;
        rest = lost_told quiet.lost ++ end_of quiet.lost quiet.run ∷ [];
        both = refl;
        taken = takes_other e (TellsRefusal x z quiet.run) (TellsInspectPart o.geometry loads now x z quiet.run) (stopped k) (lost_told quiet.lost ++ end_of quiet.lost quiet.run ∷ []) other
            (subst (λ (r : List Answer). Appends x.taken z.taken (text r)) (sym (none_stopped k)) nothing, ap (λ (s : SinkState). s.faults) same ∙ quiet.printed.1);
      }) (some_last (lost_told quiet.lost) (end_of quiet.lost quiet.run)) (record {
        risen = λ below. let rose = risen_then below in omega arith;
        none_failed = λ calm. failed_then first mid now quiet.leaves.none_failed (sound calm);
        only = λ device. ap stopped (sym long);
        queue = λ device. stops_then ∙ ap (λ i. drop i (armed_after quiet.run)) (sym long);
        fell = (k, omega arith, omega arith, stops_then);
      }) (λ still. nothing)

  pub inspecting_then : (e : Ended) → ((IsDevice e → ⊥) → NoneFailed mid now) → (e ≡ ended.Sink → PrintsFront o.geometry loads now y z) → (e ≢ ended.Sink → z ≡ y) → EndsInspecting o reads loads x z after first now e
  inspecting_then ended.Sink sound short same = inspecting_sink (sound (λ device. device)) (short refl)
  inspecting_then ended.Trace sound short same = inspecting_other ended.Trace (λ is. cc) sound (same (λ is. cc))
  inspecting_then ended.Source sound short same = inspecting_other ended.Source (λ is. cc) sound (same (λ is. cc))
  inspecting_then ended.Flash sound short same = inspecting_other ended.Flash (λ is. cc) sound (same (λ is. cc))
  inspecting_then ended.Disk sound short same = inspecting_other ended.Disk (λ is. cc) sound (same (λ is. cc))
  inspecting_then ended.Memory sound short same = inspecting_other ended.Memory (λ is. cc) sound (same (λ is. cc))

  -- by what the report answered
  pub inspected_by : (r : Result (Unit {0}) Ended) → OnOk r (n ≡ 0 → KeepsReady mid now) → OnOk r (PrintsReport o.geometry loads now y z) → (IsErrOf r ended.Sink → PrintsFront o.geometry loads now y z)
      → IfErr r (λ e. e ≢ ended.Sink → z ≡ y) → ((IsErrOf r ended.Flash → ⊥) → (IsErrOf r ended.Disk → ⊥) → NoneFailed mid now) → (IsErrOf r ended.Trace → ⊥) → (IsErrOf r ended.Source → ⊥) → EndsInspected o reads loads x z after first now r
  inspected_by (Ok done) ready prints short same sound not_trace not_source = whole_then (sound (λ is. cc) (λ is. cc)) ready prints
  inspected_by (Err e) ready prints short same sound not_trace not_source = inspected_then e (λ is. not_trace (ap failed_by is)) (λ is. not_source (ap failed_by is)) (inspecting_then e (λ calm. sound (λ is. calm (device_at e ended.Flash is tt)) (λ is. calm (device_at e ended.Disk is tt))) (λ is. short (ap failed_by is)) same)

-- ---- from an earlier state, for another reading of the images and of the flash

module _ (o : Told) (reads other : ℕ → List Reading → Bool → Type 0) (loads : (Place → Page) → Entries → Type 0) (x y : SinkState) (stands images : Image → PlainDisk → Type 0) (earlier first now : State)
    (read : (lines : ℕ) (all : List Reading) (whole : Bool) → reads lines all whole → other lines all whole)
    (stood : (image : Image) (d : PlainDisk) → stands image d → images image d)
    (before : IsBefore earlier first) where
  rose_since : Rose first.faults.cuts now.faults.cuts → Rose earlier.faults.cuts now.faults.cuts
  rose_since rose =
      let later = before.none_failed.later in
      let since : min (first.faults.cuts + 1) last_count ≤ now.faults.cuts = rose in
      omega (arith, since)

  pub inspects_from : Inspects o reads loads x y stands first now → Inspects o other loads x y images earlier now
  inspects_from ends = record {
    report = ends.report;
    is = ends.is;
    whole = record {
      all = ends.whole.all;
      run = ends.whole.run;
      cuts = ends.whole.cuts;
      lost = ends.whole.lost;
      trace = read _ ends.whole.all true ends.whole.trace;
      lines = ends.whole.lines;
      printed = ends.whole.printed;
      leaves = leaves_from o stands images earlier first now stood before ends.whole.run ends.whole.cuts ends.whole.lost ends.whole.leaves;
      backs = subst (λ n. WritesBack o ends.whole.run n now.counts.disk_writes) before.disk_writes ends.whole.backs;
    };
    uncut = λ calm. λ image here. stood image _ (ends.uncut (elim calm [ inl uncut ↦ inl uncut | inr stayed ↦ inr (λ rose. stayed (rose_since rose)) ]) image here);
  }

  pub inspecting_from : (e : Ended) → EndsInspecting o reads loads x y stands first now e → EndsInspecting o other loads x y images earlier now e
  inspecting_from e ends = record {
    part = part_from o reads other (TellsRefusal x y) (TellsRefusal x y) stands images earlier first now read (λ run answers said. said) stood before
        (TellsInspectPart o.geometry loads now x y) (TellsInspectPart o.geometry loads now x y) (λ run answers next shown. shown) e ends.part;
    silent = ends.silent;
  }

  pub inspected_from : (r : Result (Unit {0}) Ended) → EndsInspected o reads loads x y stands first now r → EndsInspected o other loads x y images earlier now r
  inspected_from (Ok done) ends = inspects_from ends
  inspected_from (Err ended.Trace) ends = refused_from o reads other (TellsRefusal x y) (TellsRefusal x y) stands images earlier first now read (λ run answers says. says) stood before ends
  inspected_from (Err ended.Source) ends = unread_from o reads other (TellsRefusal x y) (TellsRefusal x y) stands images earlier first now read (λ run answers says. says) stood before ends
  inspected_from (Err ended.Sink) ends = inspecting_from ended.Sink ends
  inspected_from (Err ended.Flash) ends = inspecting_from ended.Flash ends
  inspected_from (Err ended.Disk) ends = inspecting_from ended.Disk ends
  inspected_from (Err ended.Memory) ends = inspecting_from ended.Memory ends

-- an inspection that ended within its lines ended as the run over them
pub inspected_lines : (o : Told) (reads : ℕ → List Reading → Bool → Type 0) (loads : (Place → Page) → Entries → Type 0) (stands : Image → PlainDisk → Type 0) (x y : SinkState) (first now : State) (e : Ended)
    → EndsEarly o reads (TellsRefusal x y) (TellsRefusalPart x y) stands first now e → EndsInspected o reads loads x y stands first now (Err e)
inspected_lines o reads loads stands x y first now ended.Trace ends = ends
inspected_lines o reads loads stands x y first now ended.Source ends = ends
inspected_lines o reads loads stands x y first now ended.Sink ends = inspecting_line o reads loads stands x y first now ended.Sink ends
inspected_lines o reads loads stands x y first now ended.Flash ends = inspecting_line o reads loads stands x y first now ended.Flash ends
inspected_lines o reads loads stands x y first now ended.Disk ends = inspecting_line o reads loads stands x y first now ended.Disk ends
inspected_lines o reads loads stands x y first now ended.Memory ends = inspecting_line o reads loads stands x y first now ended.Memory ends

-- a run that ended early left power on
pub early_on : (o : Told) (reads : ℕ → List Reading → Bool → Type 0) (says : List Ran → List Answer → Type 0) (short : List Ran → List Answer → Option Answer → Type 0) (stands : Image → PlainDisk → Type 0) (first now : State) (e : Ended)
    → EndsEarly o reads says short stands first now e → now.power.on ≡ true
early_on o reads says short stands first now ended.Trace ends = ends.leaves.rig.on
early_on o reads says short stands first now ended.Source ends = ends.leaves.rig.on
early_on o reads says short stands first now ended.Sink ends = ends.rig.on
early_on o reads says short stands first now ended.Flash ends = ends.rig.on
early_on o reads says short stands first now ended.Disk ends = ends.rig.on
early_on o reads says short stands first now ended.Memory ends = ends.rig.on

-- ---- over a new volume

module _ (mode kind : Mode) (options : Options) (is : mode ≡ kind) {owns : Contents → Type 0} {owes : Contents → List BlockWrite → Type 0} {v : VolumeState} {old begun : State} (new : IsNewVolume (told_for kind options) owns owes v old begun)
    (u : Told) (stays : u ≡ v.told) (a z : SourceState) (x y : SinkState) (now : State) where
  same : v.told ≡ told_for mode options
  same = new.told ∙ ap (λ (m : Mode). told_for m options) (sym is)

  pub inspected_new : (r : Result (Unit {0}) Ended) → EndsInspected v.told (Reads v.told.geometry.size a z) (LoadsAs v.told.geometry) x y (ImageIs u) begun now r
      → EndsInspected (told_for mode options) (Reads options.geometry.size a z) (LoadsAs options.geometry) x y (ImageStandsFor options.geometry) (fitted_for options.geometry old) now r
  inspected_new r ends =
      inspected_from (told_for mode options) (Reads options.geometry.size a z) (Reads options.geometry.size a z) (LoadsAs options.geometry) x y (ImageIs (told_for mode options)) (ImageStandsFor options.geometry) (fitted_for options.geometry old) begun now
      (λ lines all w reads. reads) (image_stands (told_for mode options)) new.before r
      (subst (λ (k : Told). EndsInspected k (Reads k.geometry.size a z) (LoadsAs k.geometry) x y (ImageIs k) begun now r) same (subst (λ (k : Told). EndsInspected v.told (Reads v.told.geometry.size a z) (LoadsAs v.told.geometry) x y (ImageIs k) begun now r) stays ends))
