-- What is told of a run's cost, from what its lines left.
use Rattle.std.proofs.Common.{◌≡◌, ◌⊎◌, inl, inr, ◌<◌, ℕ, Bool, List, [], length, take, Option, Some, None, Result, Ok, Err, OnOk, OnErr, IsErrOf, refl, sym, ap, ◌∙◌, subst}
use Rattle.std.proofs.lemmas.List.{append-nil}
use Rattle.std.specs.Io.KnownBytes.{Appends, Keeps}
use Rattle.ft_base.specs.Contents.{Contents, Image}
use Rattle.ft_base.specs.PlainDisk.{BlockWrite, PlainDisk}
use Rattle.ft_base.specs.StreamState.{SinkState, SourceState}
use Rattle.ft_base.specs.Told.{Told}
use Rattle.ft_base.specs.declared.told.Mode.{Mode}
use Rattle.cache_model.specs.Stands.{ImageStandsFor}
use Rattle.ft_media.specs.State.{State}
use Rattle.ft_volume.proofs.MediaLemmas.{image_stands}
use Rattle.ft_volume.specs.Opening.{ImageIs}
use Rattle.ft_volume.specs.Volume.{VolumeState, told_for}
use Rattle.ft_volume.specs.declared.options.Options.{Options}
use Rattle.trace_model.specs.declared.answer.Answer.{Answer}
use Rattle.trace_model.specs.declared.ran.Ran.{Ran}
use Rattle.trace_model.specs.Readings.{Reading}
use Rattle.trace_replay.specs.declared.ended.Ended.{Ended}
use Rattle.trace_replay.specs.declared.ended.Ended.TheVariants as ended
use Rattle.trace_replay.specs.Asked.{RunsLines}
use Rattle.trace_replay.specs.Causes.{EndHasCause}
use Rattle.trace_replay.specs.Commands.{TellsRefusal, TellsRefusalPart}
use Rattle.trace_replay.specs.Forms.{Form, ReadsBy}
use Rattle.trace_replay.proofs.AskedLemmas.{runs_from}
use Rattle.trace_replay.proofs.FromLemmas.{before_itself, ends_from}
use Rattle.cache_run.specs.declared.costing.Cost.{Cost}
use Rattle.cache_run.specs.Begun.{Begins, IsNewVolume}
use Rattle.cache_run.specs.Costed.{EndsCost, EndsCosted, IsCostOf, TellsCost, TellsCostPart, cost_text}
use Rattle.cache_run.proofs.CountLemmas.{made_new}
use Rattle.cache_run.proofs.SilentLemmas.{kept_then}

-- ---- what was printed

kept_said : (a b : Option (List ℕ)) → Appends a b [] → Keeps a b
kept_said None b said = tt
kept_said (Some xs) None said = absurd said
kept_said (Some xs) (Some ys) said = said ∙ append-nil xs

-- an end has the same cause, whatever would have been answered
pub err_as : {A B : Type 0} (e x : Ended) → IsErrOf {T = A} (Err e) x → IsErrOf {T = B} (Err e) x
err_as e x is = let same : e ≡ x = cc in ap Err same

pub cause_as : {A B : Type 0} (e : Ended) (a b : SourceState) (x y : SinkState) (old new : State) → EndHasCause {T = A} (Err e) a b x y old new → EndHasCause {T = B} (Err e) a b x y old new
cause_as e a b x y old new causes = record {
  source = λ is. causes.source (err_as e ended.Source is);
  sink = λ is. causes.sink (err_as e ended.Sink is);
  flash = λ is. causes.flash (err_as e ended.Flash is);
  disk = λ is. causes.disk (err_as e ended.Disk is);
  source_stays = λ not. causes.source_stays (λ is. not (err_as e ended.Source is));
  sink_stays = λ not. causes.sink_stays (λ is. not (err_as e ended.Sink is));
  none_failed = λ flash disk. causes.none_failed (λ is. flash (err_as e ended.Flash is)) (λ is. disk (err_as e ended.Disk is));
}

-- of one that printed, the ends are two
pub printed_only : (r : Result (Unit {0}) Ended) (e : Ended) → (ended.Sink ≡ e → ⊥) → (ended.Memory ≡ e → ⊥) → OnErr r (IsErrOf r ended.Sink ⊎ IsErrOf r ended.Memory) → IsErrOf r e → ⊥
printed_only (Ok done) e not_sink not_memory only is = absurd (cc)
printed_only (Err k) e not_sink not_memory (inl sink) is = not_sink (let same : ended.Sink ≡ e = cc (sink, is) in same)
printed_only (Err k) e not_sink not_memory (inr memory) is = not_memory (let same : ended.Memory ≡ e = cc (memory, is) in same)

-- ---- over what else was read, for another reading of the images

module _ (o : Told) (reads more : ℕ → List Reading → Bool → Type 0) (stands images : Image → PlainDisk → Type 0) (first now : State) (known : (lines : ℕ) (all : List Reading) (whole : Bool) → reads lines all whole → more lines all whole)
    (stood : (x : Image) (d : PlainDisk) → stands x d → images x d) where
  pub cost_from : (x y : SinkState) (r : Result (Unit {0}) Ended) → EndsCost o reads x y stands first now r → EndsCost o more x y images first now r
  cost_from x y (Ok done) runs = runs_from o reads more stands images first now known stood (λ run answers. TellsCost x y first now run) (λ run answers. TellsCost x y first now run) runs runs.printed
  cost_from x y (Err e) (inl early) = inl (ends_from o reads more (TellsRefusal x y) (TellsRefusal x y) stands images first first now known (λ run answers said. said) stood (before_itself first) (TellsRefusalPart x y) (TellsRefusalPart x y) (λ run answers next shown. shown) (Err e) early)
  cost_from x y (Err e) (inr runs) = inr (runs_from o reads more stands images first now known stood (λ run answers. TellsCostPart e x y first now run) (λ run answers. TellsCostPart e x y first now run) runs runs.printed)

-- ---- every line was run, and then its cost was printed

module _ (o : Told) (reads : ℕ → List Reading → Bool → Type 0) (stands : Image → PlainDisk → Type 0) (x y z : SinkState) (first now : State) (runs : RunsLines o reads (TellsRefusal x y) stands first now) where
  with_text : (tells : List Ran → List Answer → Type 0) → tells runs.run [] → RunsLines o reads tells stands first now
  with_text tells printed = runs_from o reads reads stands stands first now (λ lines all whole known. known) (λ i d stood. stood) (TellsRefusal x y) tells runs printed

  -- it is more than a number can say
  pub cost_unsaid : z.taken ≡ y.taken → EndsCost o reads x z stands first now (Err ended.Memory)
  cost_unsaid silent = inr (with_text (λ run answers. TellsCostPart ended.Memory x z first now run) (subst (λ (t : Option (List ℕ)). Appends x.taken t []) (sym silent) runs.printed.0))

  pub cost_told : (cost : Cost) → IsCostOf runs.run first.counts now.counts cost → (r : Result (Unit {0}) Ended) → OnOk r (Appends y.taken z.taken (cost_text cost))
      → (IsErrOf r ended.Sink → (n : ℕ) × (n < length (cost_text cost)) × Appends y.taken z.taken (take n (cost_text cost))) → (IsErrOf r ended.Memory → z.taken ≡ y.taken) → OnErr r (IsErrOf r ended.Sink ⊎ IsErrOf r ended.Memory)
      → EndsCost o reads x z stands first now r
  cost_told cost is (Ok done) printed short silent only = with_text (λ run answers. TellsCost x z first now run) (record { cost = cost; is = is; printed = kept_then x.taken y.taken z.taken (cost_text cost) (kept_said x.taken y.taken runs.printed.0) printed })
  cost_told cost is (Err ended.Sink) printed short silent only =
      let front = short refl in
      inr (with_text (λ run answers. TellsCostPart ended.Sink x z first now run) (record { cost = cost; is = is; count = front.0; short = front.1; printed = kept_then x.taken y.taken z.taken (take front.0 (cost_text cost)) (kept_said x.taken y.taken runs.printed.0) front.2 }))
  cost_told cost is (Err ended.Memory) printed short silent only = cost_unsaid (silent refl)
  cost_told cost is (Err ended.Trace) printed short silent (inl other) = absurd (cc)
  cost_told cost is (Err ended.Trace) printed short silent (inr other) = absurd (cc)
  cost_told cost is (Err ended.Source) printed short silent (inl other) = absurd (cc)
  cost_told cost is (Err ended.Source) printed short silent (inr other) = absurd (cc)
  cost_told cost is (Err ended.Flash) printed short silent (inl other) = absurd (cc)
  cost_told cost is (Err ended.Flash) printed short silent (inr other) = absurd (cc)
  cost_told cost is (Err ended.Disk) printed short silent (inl other) = absurd (cc)
  cost_told cost is (Err ended.Disk) printed short silent (inr other) = absurd (cc)

-- ---- over a new volume

module _ (mode kind : Mode) (options : Options) (is : mode ≡ kind) {owns : Contents → Type 0} {owes : Contents → List BlockWrite → Type 0} {v : VolumeState} {old begun : State} (new : IsNewVolume (told_for kind options) owns owes v old begun)
    (u : Told) (stays : u ≡ v.told) (form : Form) (a b : SourceState) (x y : SinkState) (now : State) where
  told_made : v.told ≡ told_for mode options
  told_made = new.told ∙ ap (λ (m : Mode). told_for m options) (sym is)

  pub costed_new : {V : Type 0} {volume : Result V Ended} → Begins volume old begun → (r : Result (Unit {0}) Ended) → EndsCost v.told (ReadsBy (form v.told.geometry.size) a b) x y (ImageIs u) begun now r
      → EndsCosted (told_for mode options) (ReadsBy (form options.geometry.size) a b) x y (ImageStandsFor options.geometry) old now r
  costed_new begins r ends = record {
    made = begun;
    new = made_new mode kind options is new;
    unread = begins.disk_reads;
    unwritten = begins.disk_writes;
    ends = cost_from (told_for mode options) (ReadsBy (form options.geometry.size) a b) (ReadsBy (form options.geometry.size) a b) (ImageIs (told_for mode options)) (ImageStandsFor options.geometry) begun now
        (λ lines all whole reads. reads) (image_stands (told_for mode options)) x y r
        (subst (λ (k : Told). EndsCost k (ReadsBy (form k.geometry.size) a b) x y (ImageIs k) begun now r) told_made (subst (λ (k : Told). EndsCost v.told (ReadsBy (form v.told.geometry.size) a b) x y (ImageIs k) begun now r) stays ends));
  }
