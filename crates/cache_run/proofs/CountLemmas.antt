-- The device writes of a run in which power is not cut.
use Rattle.std.proofs.Common.{◌≡◌, ◌==◌, ◌⊎◌, inl, inr, ◌<◌, ℕ, ◌+◌, Bool, true, List, [], ◌∷◌, ◌++◌, All, map, length, Option, Result, Ok, Err, IsErrOf, refl, sym, ap, ◌∙◌, subst, arith, if◌then◌else◌}
use Rattle.std.proofs.lemmas.List.Elements.{recursion_from_All}
use Rattle.std.proofs.lemmas.List.Sums.{sum_by_push}
use Rattle.std.proofs.lemmas.List.{append-nil}
use Rattle.std.specs.List.{AllByRecursion}
use Rattle.std.specs.Result.{IsErrAnd}
use Rattle.ft_base.specs.Contents.{Contents, Image}
use Rattle.ft_base.specs.Count.{Rose, last_count}
use Rattle.ft_base.specs.PlainDisk.{BlockWrite, PlainDisk}
use Rattle.ft_base.specs.StreamState.{SinkState}
use Rattle.ft_base.specs.Told.{Told}
use Rattle.ft_base.specs.declared.told.Ack.{Ack}
use Rattle.ft_base.specs.declared.told.Mode.{Mode}
use Rattle.ft_media.specs.Passes.{device_writes}
use Rattle.ft_media.specs.State.{State}
use Rattle.ft_volume.proofs.MediaLemmas.{image_stands}
use Rattle.ft_volume.specs.Volume.{VolumeState, told_for}
use Rattle.ft_volume.specs.declared.options.Options.{Options}
use Rattle.trace_model.specs.Backs.{AreUncut, IsUncut, wrote_in}
use Rattle.trace_model.specs.Fits.{FitsRun, armed_after, block_count}
use Rattle.trace_model.specs.Readings.{Reading, accepted}
use Rattle.trace_model.specs.Run.{lines_of}
use Rattle.trace_model.specs.declared.answer.Answer.{Answer}
use Rattle.trace_model.specs.declared.line.Line.{Line}
use Rattle.trace_model.specs.declared.line.Line.TheVariants as line
use Rattle.trace_model.specs.declared.ran.Ran.{Ran}
use Rattle.trace_replay.specs.declared.ended.Ended.{Ended}
use Rattle.trace_replay.specs.declared.ended.Ended.TheVariants as ended
use Rattle.trace_replay.specs.Causes.{EndHasCauseUntraced, KeepsStreamsUntraced}
use Rattle.trace_replay.specs.Commands.{Gives}
use Rattle.trace_replay.specs.Held.{stops_held}
use Rattle.trace_replay.specs.Theorem.{EndsAs, RunsWhole}
use Rattle.trace_replay.proofs.CutsLemmas.{counts_then}
use Rattle.cache_run.specs.Begun.{Begins, IsNewVolume}
use Rattle.cache_run.specs.Counted.{CountsFrom, CountsWrites, IsMadeOn, RigGoesOn, blocks_written}
use Rattle.cache_run.proofs.InspectLemmas.{early_on}
use Rattle.cache_run.proofs.UncutLemmas.{uncut_lines}

-- ---- the blocks that are written

-- all lines of such a run leave power alone
recursion_push : (xs : List Line) (y : Line) → AllByRecursion IsUncut (xs ++ y ∷ []) → AllByRecursion IsUncut xs × IsUncut y
recursion_push [] y all = (tt, all.0)
recursion_push (x ∷ xs) y all = let rest = recursion_push xs y all.1 in ((all.0, rest.0), rest.1)

uncut_of : (run : List Ran) → AllByRecursion IsUncut (lines_of run) → AreUncut run
uncut_of [] all = tt
uncut_of (ran ∷ earlier) all = let both = recursion_push (lines_of earlier) ran.line all in (both.1, uncut_of earlier both.0)

-- no write of it was cut
wrote_all : (ack : Ack) (run : List Ran) → FitsRun ack run → AreUncut run → wrote_in run ≡ blocks_written (lines_of run)
wrote_all ack [] fits uncut = refl
wrote_all ack (ran ∷ earlier) fits uncut =
    let before = wrote_all ack earlier fits.1 uncut.1 in
    let long : length (armed_after earlier) ≡ 0 = ap length (uncut_lines ack earlier fits.1 uncut.1).0 in
    let few = fits.0.few in
    let none : ran.cuts ≡ 0 = omega (arith, long, few) in
    ap (λ (k : ℕ). wrote_in earlier + (if k == 0 then block_count ran.line else 0)) none
    ∙ ap (λ (k : ℕ). k + block_count ran.line) before
    ∙ sym (sum_by_push block_count (lines_of earlier) ran.line)

-- the lines that were run are those that were given
same_lines : (xs ys : List Line) → map accepted xs ≡ map accepted ys → xs ≡ ys
same_lines [] [] is = refl
same_lines [] (y ∷ ys) is = absurd (cc)
same_lines (x ∷ xs) [] is = absurd (cc)
same_lines (x ∷ xs) (y ∷ ys) is =
    let first : x ≡ y = cc in
    let rest : map accepted xs ≡ map accepted ys = cc in
    ap (λ (l : Line). l ∷ xs) first ∙ ap (λ (ls : List Line). y ∷ ls) (same_lines xs ys rest)

-- and none of them arms a stop
none_held : (lines : List Line) → AllByRecursion IsUncut lines → stops_held lines ≡ 0
none_held [] all = refl
none_held (line.Stop after outcome ∷ lines) all = absurd all.0
none_held (line.Cut outcome ∷ lines) all = absurd all.0
none_held (line.Write lba count tag ∷ lines) all = none_held lines all.1
none_held (line.Read lba count ∷ lines) all = none_held lines all.1
none_held (line.Flush ∷ lines) all = none_held lines all.1
none_held (line.Idle ∷ lines) all = none_held lines all.1
none_held (line.Nothing ∷ lines) all = none_held lines all.1

pub unarmed_lines : (lines : List Line) → All IsUncut lines → stops_held lines ≡ 0
unarmed_lines lines all = none_held lines (recursion_from_All IsUncut lines all)

-- ---- a run that was counted

pub counts_whole : {o : Told} {lines : List Line} {says : List Ran → List Answer → Type 0} {stands : Image → PlainDisk → Type 0} {first now : State} (count : ℕ)
    → All IsUncut lines → RunsWhole o (Gives lines) says stands first now → device_writes now.counts ≡ device_writes first.counts + count → now.counts.programs < last_count
    → CountsFrom o lines count first now
counts_whole {lines = lines} {first = first} {now = now} count uncut ran exact below =
    let given : lines_of ran.run ≡ lines = same_lines (lines_of ran.run) lines (sym (append-nil (map accepted (lines_of ran.run))) ∙ sym ran.lines.lines ∙ ran.trace.0) in
    let all : AllByRecursion IsUncut (lines_of ran.run) = subst (AllByRecursion IsUncut) (sym given) (recursion_from_All IsUncut lines uncut) in
    let are : AreUncut ran.run = uncut_of ran.run all in
    let wrote : wrote_in ran.run ≡ blocks_written lines = wrote_all _ ran.run ran.lines.fits are ∙ ap blocks_written given in
    let never = ran.leaves.rig.counts in
    let programs = ran.leaves.rig.programs below in
    let risen = ran.leaves.risen in
    record {
      counts = never;
      exact = exact;
      least =
          let erases = never.erases in
          let writes = never.disk_writes in
          let flushes = never.disk_flushes in
          omega (arith, exact, wrote, programs, erases, writes, flushes);
      run = ran.run;
      given = given;
      backs = ran.backs.exact are;
      cuts = λ low. (let rose = risen low in omega (arith, rose));
    }

-- ---- over a new volume

pub made_new : (mode kind : Mode) (options : Options) → mode ≡ kind → {owns : Contents → Type 0} {owes : Contents → List BlockWrite → Type 0} {v : VolumeState} {old made : State} → IsNewVolume (told_for kind options) owns owes v old made
    → IsMadeOn (told_for mode options) old made
made_new mode kind options is {old = old} {made = made} new = subst (λ (m : Mode). IsMadeOn (told_for m options) old made) (sym is) (record {
  empty = λ x here. image_stands (told_for kind options) x _ (new.empty x here);
  on = new.on;
  unarmed = new.unarmed;
  before = new.before;
})

pub counted_new : (mode kind : Mode) (options : Options) (is : mode ≡ kind) {owns : Contents → Type 0} {owes : Contents → List BlockWrite → Type 0} {v : VolumeState} {old made now : State} {lines : List Line} {count : ℕ}
    → IsNewVolume (told_for kind options) owns owes v old made → CountsFrom v.told lines count made now → CountsWrites (told_for mode options) lines count old now
counted_new mode kind options is {made = made} {now = now} {lines = lines} {count = count} new from = record {
  made = made;
  new = made_new mode kind options is new;
  from = subst (λ (o : Told). CountsFrom o lines count made now) (new.told ∙ ap (λ (m : Mode). told_for m options) (sym is)) from;
}

-- ---- whatever it answers

pub rig_goes : {x y : SinkState} {old now : State} → KeepsStreamsUntraced x y old now → RigGoesOn old now
rig_goes goes = record { counts = goes.counts; flash_later = goes.flash_later; disk_later = goes.disk_later; lent = goes.lent.rig_lent }

pub rig_goes_later : {V : Type 0} {made : Result V Ended} {old begun now : State} → Begins made old begun → RigGoesOn begun now → RigGoesOn old now
rig_goes_later {old = old} {begun = begun} {now = now} begins goes = record {
  counts = counts_then old.counts begun.counts now.counts begins.counts goes.counts;
  flash_later = (let first = begins.flash_later in let next = goes.flash_later in omega (arith, first, next));
  disk_later = (let first = begins.disk_later in let next = goes.disk_later in omega (arith, first, next));
  lent = goes.lent ∙ begins.lent;
}

pub rig_begun : {V : Type 0} {made : Result V Ended} {old now : State} → Begins made old now → RigGoesOn old now
rig_begun begins = record { counts = begins.counts; flash_later = begins.flash_later; disk_later = begins.disk_later; lent = begins.lent }

pub ends_on : (o : Told) (reads : ℕ → List Reading → Bool → Type 0) (says : List Ran → List Answer → Type 0) (short : List Ran → List Answer → Option Answer → Type 0) (stands : Image → PlainDisk → Type 0) (first now : State) (r : Result (Unit {0}) Ended)
    → EndsAs o reads says short stands first now r → now.power.on ≡ true
ends_on o reads says short stands first now (Ok done) ran = ran.leaves.rig.on
ends_on o reads says short stands first now (Err e) ends = early_on o reads says short stands first now e ends

-- a run ends at the flash or the disk, or for want of memory, if neither a line nor the source nor the sink can end it
pub only_rig : {A : Type 0} (e : Ended) {x y : SinkState} {old now : State} → EndHasCauseUntraced {T = Unit {0}} (Err e) x y old now → (Rose x.faults y.faults → ⊥)
    → IsErrOf {T = A} (Err e) ended.Flash ⊎ IsErrOf {T = A} (Err e) ended.Disk ⊎ IsErrOf {T = A} (Err e) ended.Memory
only_rig ended.Trace causes calm = absurd (causes.not_trace refl)
only_rig ended.Source causes calm = absurd (causes.not_source refl)
only_rig ended.Sink causes calm = absurd (calm (causes.sink refl))
only_rig ended.Flash causes calm = inl refl
only_rig ended.Disk causes calm = inr (inl refl)
only_rig ended.Memory causes calm = inr (inr refl)

pub none_rose : Rose 0 0 → ⊥
unfolding last_count
none_rose rose = omega (arith, rose)

-- ---- how the making of a volume ended

-- the error that `?` gives back is the error of the call
pub exit_same : {T U : Type 0} (r : Result T Ended) (from k : Ended) → IsErrAnd r (λ e. e ≡ from) → IsErrOf {T = U} (Err from) k → IsErrOf r k
exit_same (Ok value) from k is same = absurd is
exit_same (Err e) from k is same = let one : from ≡ k = cc in ap Err (is ∙ one)

pub exit_back : {T U : Type 0} (r : Result T Ended) (from k : Ended) → IsErrAnd r (λ e. e ≡ from) → IsErrOf r k → IsErrOf {T = U} (Err from) k
exit_back (Ok value) from k is same = absurd is
exit_back (Err e) from k is same = let one : e ≡ k = cc in ap Err (sym is ∙ one)

-- out of memory before a volume was made
pub memory_at : (old now : State) → (now ≡ old) ⊎ ((now.power.on ≡ true) × (now.power.stops ≡ [])) → (now ≡ old) ⊎ (now.power.on ≡ true)
memory_at old now (inl same) = inl same
memory_at old now (inr on) = inr on.0
