-- One more line that was run, and what may become of the next one.
use Rattle.std.proofs.Common.{◌≡◌, ◌≢◌, inl, inr, ◌≤◌, ◌<◌, ◌+◌, ◌-◌, ◌==◌, ◌∷◌, ◌++◌, [], ℕ, Bool, true, false, cond, if◌then◌else◌, nat_le, List, Option, Some, None, drop, length, refl, sym, ap, ◌∙◌, subst, eqb-true, arith}
use Rattle.std.proofs.lemmas.Bool.{cases_Bool}
use Rattle.std.proofs.lemmas.Bool.Decides.{nat_tests}
use Rattle.std.proofs.lemmas.List.{length_push}
use Rattle.ft_base.specs.Contents.{Image}
use Rattle.ft_base.specs.PlainDisk.{BlockWrite, PlainDisk, empty}
use Rattle.ft_base.specs.StreamState.{SinkState, SourceState}
use Rattle.ft_base.specs.Told.{Told}
use Rattle.ft_base.specs.declared.power.Stop.{Stop}
use Rattle.ft_base.specs.declared.told.Ack.{Ack}
use Rattle.ft_base.specs.declared.told.Ack.TheVariants as ack
use Rattle.ft_media.specs.State.{State, Power}
use Rattle.ft_volume.specs.Volume.{VolumeState}
use Rattle.ft_volume.specs.Standing.{StandFor}
use Rattle.trace_model.specs.declared.line.Line.{Line}
use Rattle.trace_model.specs.declared.line.Line.TheVariants as line
use Rattle.trace_model.specs.declared.line.LineError.TheVariants.{TooManyStops}
use Rattle.trace_model.specs.declared.ran.Ran.{Ran}
use Rattle.trace_model.specs.Backs.{IsUncut, wrote_in}
use Rattle.trace_model.proofs.FitLemmas.{lost_none}
use Rattle.trace_model.specs.Fits.{FitsLine, FitsLost, FitsNext, FitsWrite, IsAtMost, armed_after, arming, block_count, may_still, may_write}
use Rattle.trace_model.specs.Readings.{Reading}
use Rattle.trace_model.specs.Run.{after_line, cut_count, cuts_in, disk_after, disk_without, lines_of, writes_after, read_count, reads_in, touching, write_count, writes_in}
use Rattle.trace_model.specs.SoFar.{as_ran, is_stop, refusal_of, refusal_when}
use Rattle.trace_model.proofs.RunLemmas.{disk_after-line, disk_without-none}
use Rattle.trace_replay.specs.declared.recent.Recent.{Recent}
use Rattle.trace_replay.specs.declared.tally.Tally.{Tally}
use Rattle.trace_replay.specs.Ends.{BeginsRest, CanBecome, RunsLine}
use Rattle.trace_replay.specs.Events.{Event, ScriptState}
use Rattle.trace_replay.specs.Owing.{CanBecomeOwing, IsClear, Owing, OwesRun}
use Rattle.trace_replay.proofs.LaterLemmas.{owes_nothing}
use Rattle.trace_replay.proofs.OwingLemmas.{clear_owing}
use Rattle.trace_replay.specs.Ran.{RunKeepsFrame, IsTallied, IsTallyOf, RanSoFar, RestWithin}
use Rattle.trace_replay.specs.Said.{RoseAtLeast}
use Rattle.trace_replay.specs.Spends.{IsQuiet, Spent, steps_of}
use Rattle.trace_replay.specs.Went.{KeepsFrame}
use Rattle.trace_replay.proofs.CutsLemmas.{counts_none, counts_then, failed_then, none_failed}
use Rattle.trace_replay.proofs.SpendsLemmas.{run_more, spent_fresh}

-- ---- how many device writes may still be made

falls_to : (before after count most : ℕ) → after + count ≤ before → before ≤ most → after ≤ most - count
falls_to before after count most less within = omega arith

falls : (before after most : ℕ) → after + 0 ≤ before → before ≤ most → after ≤ most
falls before after most less within = omega arith

below_first : (rest after : ℕ) → rest < after → rest ≤ after - 1
below_first rest after below = omega arith

some_stop : (stops : List Stop) (stop : Stop) → (stops ++ stop ∷ []) ≢ []
some_stop [] stop none = cc
some_stop (first ∷ stops) stop none = cc

rest_same : (stops new : List Stop) (before after : ℕ) (may : Option ℕ) → new ≡ stops → (stops ≢ [] → after + 0 ≤ before) → RestWithin may stops before → RestWithin may new after
rest_same stops new before after None same less rest = tt
rest_same stops new before after (Some n) same less rest = ((λ none. rest.0 (sym same ∙ none)), falls before after n (less rest.0) rest.1)

rest_by : (l : Line) (stops new : List Stop) (before after : ℕ) (may : Option ℕ) → new ≡ arming l stops → (stops ≢ [] → after + block_count l ≤ before) → BeginsRest l stops after → RestWithin may stops before → RestWithin (may_still l stops may) new after
rest_by (line.Stop k outcome) [] new before after may is less begins rest = ((λ none. some_stop [] _ (sym is ∙ none)), below_first after k begins)
rest_by (line.Stop k outcome) (stop ∷ stops) new before after None is less begins rest = tt
rest_by (line.Stop k outcome) (stop ∷ stops) new before after (Some n) is less begins rest = ((λ none. some_stop (stop ∷ stops) _ (sym is ∙ none)), falls before after n (less rest.0) rest.1)
rest_by (line.Write lba count tag) stops new before after None is less begins rest = tt
rest_by (line.Write lba count tag) stops new before after (Some n) is less begins rest = ((λ none. rest.0 (sym is ∙ none)), falls_to before after count n (less rest.0) rest.1)
rest_by (line.Read lba count) stops new before after may is less begins rest = rest_same stops new before after may is less rest
rest_by line.Flush stops new before after may is less begins rest = rest_same stops new before after may is less rest
rest_by line.Idle stops new before after may is less begins rest = rest_same stops new before after may is less rest
rest_by (line.Cut outcome) stops new before after may is less begins rest = rest_same stops new before after may is less rest
rest_by line.Nothing stops new before after may is less begins rest = rest_same stops new before after may is less rest

rest_more : (run : List Ran) (l : Line) (cuts kept lost : ℕ) (a b : State) → a.power.stops ≡ armed_after run → RunsLine l cuts a b → RestWithin (may_write run) a.power.stops a.power.rest → RestWithin (may_write (as_ran l cuts kept lost ∷ run)) b.power.stops b.power.rest
rest_more run l cuts kept lost a b armed runs rest = elim (cases_Bool (cuts == 0)) [
  | inl none ↦
      let zero_cuts : cuts ≡ 0 = eqb-true cuts 0 none in
      subst (λ t. RestWithin (cond t (may_still l (armed_after run) (may_write run)) None) b.power.stops b.power.rest) (sym none)
      (rest_by l (armed_after run) b.power.stops a.power.rest b.power.rest (may_write run)
      (runs.stops ∙ ap (λ n. arming l (drop n a.power.stops)) zero_cuts ∙ ap (arming l) armed)
      (λ some. runs.rest zero_cuts (λ none. some (sym armed ∙ none)))
      (subst (λ (q : List Stop). BeginsRest l q b.power.rest) armed runs.begins)
      (subst (λ (q : List Stop). RestWithin (may_write run) q a.power.rest) armed rest))
  | inr some ↦ subst (λ t. RestWithin (cond t (may_still l (armed_after run) (may_write run)) None) b.power.stops b.power.rest) (sym some) tt
]

-- ---- cuts

risen_more : (m n a b c : ℕ) → RoseAtLeast m a b → RoseAtLeast n b c → RoseAtLeast (m + n) a c
risen_more m n a b c first next = λ below. let two = next below in let one = first (omega arith) in omega arith

-- the blocks that a line wrote, each of which was programmed
wrote_line : (l : Line) (cuts : ℕ) (a b : State) → RunsLine l cuts a b → RoseAtLeast (if cuts == 0 then block_count l else 0) a.counts.programs b.counts.programs
wrote_line l cuts a b runs = elim (cases_Bool (cuts == 0)) [
  | inl none ↦ subst (λ (t : Bool). RoseAtLeast (if t then block_count l else 0) a.counts.programs b.counts.programs) (sym none) (runs.programs (eqb-true cuts 0 none))
  | inr some ↦ subst (λ (t : Bool). RoseAtLeast (if t then block_count l else 0) a.counts.programs b.counts.programs) (sym some) (λ below. let later = runs.counts.programs in omega arith)
]

-- ---- refusals

refused_by : (many : Bool) → many ≡ false → cond many (Some TooManyStops) None ≡ None
refused_by true is = absurd (cc)
refused_by false is = refl

-- a stop that can be armed is not refused, and no other line is refused
pub admitted : (armed : ℕ) (l : Line) → (is_stop l ≡ true → armed < 16) → refusal_when armed l ≡ None
admitted armed (line.Stop after outcome) few =
    let less = few refl in
    refused_by (nat_le 16 armed) (grind (arith, nat_tests))
admitted armed (line.Write lba count tag) few = refl
admitted armed (line.Read lba count) few = refl
admitted armed line.Flush few = refl
admitted armed line.Idle few = refl
admitted armed (line.Cut outcome) few = refl
admitted armed line.Nothing few = refl

-- ---- how many lines were counted

few_writes : (l : Line) → write_count l ≤ 1
few_writes (line.Write lba count tag) = omega arith
few_writes (line.Read lba count) = omega arith
few_writes line.Flush = omega arith
few_writes line.Idle = omega arith
few_writes (line.Stop after outcome) = omega arith
few_writes (line.Cut outcome) = omega arith
few_writes line.Nothing = omega arith

few_reads : (l : Line) → read_count l ≤ 1
few_reads (line.Write lba count tag) = omega arith
few_reads (line.Read lba count) = omega arith
few_reads line.Flush = omega arith
few_reads line.Idle = omega arith
few_reads (line.Stop after outcome) = omega arith
few_reads (line.Cut outcome) = omega arith
few_reads line.Nothing = omega arith

writes_few : (run : List Ran) → writes_in run ≤ length (lines_of run)
writes_few [] = omega arith
writes_few (ran ∷ run) =
    let rest = writes_few run in
    let one = few_writes ran.line in
    let long = length_push (lines_of run) ran.line in
    omega arith

reads_few : (run : List Ran) → reads_in run ≤ length (lines_of run)
reads_few [] = omega arith
reads_few (ran ∷ run) =
    let rest = reads_few run in
    let one = few_reads ran.line in
    let long = length_push (lines_of run) ran.line in
    omega arith

-- ---- the lines that were run

pub so_far_none : (o : Told) (owes : List BlockWrite → Type 0) (stands : Image → PlainDisk → Type 0) (s : State) (counted : Tally) (v : VolumeState) → v.told ≡ o → IsQuiet v s → v.table ≡ [] → ((a : ℕ) → v.held a ≡ false)
    → o.dirty ≤ o.geometry.c → owes [] → StandFor stands s.contents empty → IsTallyOf [] counted → (recent : List Recent) → recent ≡ [] → RanSoFar o owes stands s s counted recent v []
so_far_none o owes stands s counted v told quiet table held dirty none stood tally recent fresh = record {
  accepted = tt;
  fits = tt;
  on = quiet.on;
  shape = refl;
  owed = subst (λ (l : List Recent). OwesRun owes stands s.contents l []) (sym fresh) (owes_nothing owes stands s.contents [] none stood);
  none = λ _. fresh;
  stops = quiet.unarmed;
  rest = tt;
  risen = λ below. omega arith;
  none_failed = none_failed s;
  counts = counts_none s.counts;
  programs = λ below. omega arith;
  ready = λ none block ready. ready;
  tally = tally;
  spent = λ uncut. spent_fresh o v s told quiet table held;
  dirty = dirty;
}

-- what fits if each write is on the media when it answers fits in any case
fits_any : (k : Ack) (l : Line) (cuts kept : ℕ) (d : PlainDisk) → FitsLine ack.Write l cuts kept 0 d → FitsLine k l cuts kept 0 d
fits_any k (line.Write lba count tag) cuts kept d fits = fits
fits_any k (line.Read lba count) cuts kept d fits = fits
fits_any k line.Flush cuts kept d fits = fits
fits_any k line.Idle cuts kept d fits = λ _. fits refl
fits_any k (line.Cut outcome) cuts kept d fits = λ _. fits refl
fits_any k (line.Stop after outcome) cuts kept d fits = fits
fits_any k line.Nothing cuts kept d fits = fits

module _ (o : Told) {owes : List BlockWrite → Type 0} (stands : Image → PlainDisk → Type 0) (first a : State) (counted : Tally) {recent : List Recent} (v : VolumeState) (run : List Ran) (so_far : RanSoFar o owes stands first a counted recent v run) where
  -- a tally of a run counts its lines
  pub writes_counted : counted.writes ≤ counted.lines
  writes_counted =
      let few = writes_few run in
      let writes = so_far.tally.writes in
      let lines = so_far.tally.lines in
      omega arith

  pub reads_counted : counted.reads ≤ counted.lines
  reads_counted =
      let few = reads_few run in
      let reads = so_far.tally.reads in
      let lines = so_far.tally.lines in
      omega arith

  -- the next line is not refused
  pub accepts : (l : Line) → (is_stop l ≡ true → length a.power.stops < 16) → refusal_of run l ≡ None
  accepts l few = admitted (length (armed_after run)) l (λ stop. subst (λ (q : List Stop). length q < 16) so_far.stops (few stop))

  within_may : (l : Line) (may : Option ℕ) → RestWithin may a.power.stops a.power.rest → (a.power.stops ≢ [] → block_count l ≤ a.power.rest) → IsAtMost (block_count l) may
  within_may l None known spends = tt
  within_may l (Some n) known spends = at_most (block_count l) a.power.rest n (spends known.0) known.1
    where
      at_most : (x y z : ℕ) → x ≤ y → y ≤ z → x ≤ z
      at_most x y z one two = omega arith

  -- whatever can become of a line fits
  pub can_next : (l : Line) (cuts kept : ℕ) → CanBecome l cuts kept a.power (disk_after run) → FitsNext o.ack (as_ran l cuts kept 0) run
  can_next l cuts kept can = record {
    few = subst (λ (q : List Stop). cuts ≤ length q) so_far.stops can.few;
    allowed = λ none. within_may l (may_write run) so_far.rest (can.spends none);
    line = subst (λ (d : PlainDisk). FitsLine o.ack l cuts kept 0 d) (sym (disk_without-none 0 run refl)) (fits_any o.ack l cuts kept (disk_after run) can.fits);
    cut = λ _ _. refl;
    losses = lost_none o.ack run 0 refl;
  }

  pub can_next_owing : (l : Line) (cuts kept lost : ℕ) → o.ack ≡ ack.Flush → CanBecomeOwing l cuts kept lost a.power run → FitsNext o.ack (as_ran l cuts kept lost) run
  can_next_owing l cuts kept lost acked can = record {
    few = subst (λ (q : List Stop). cuts ≤ length q) so_far.stops can.few;
    allowed = λ none. within_may l (may_write run) so_far.rest (can.spends none);
    line = subst (λ (k : Ack). FitsLine k l cuts kept lost (disk_without lost run)) (sym acked) can.fits;
    cut = can.cut;
    losses = subst (λ (k : Ack). FitsLost k run lost) (sym acked) can.losses;
  }

  -- if each write is on the media when it answers, nothing is owed
  pub clear_now : o.ack ≡ ack.Write → IsClear owes stands a.contents
  clear_now acked =
      let none : length recent ≡ 0 = ap (λ (l : List Recent). length l) (so_far.none acked) in
      let clear = clear_owing owes stands a.contents (writes_after run) (subst (λ n. Owing owes stands a.contents n (writes_after run)) none so_far.owed.owing) in
      record { nothing_owed = clear.0; disk = disk_after run; media = clear.1 }

  pub disk_now : o.ack ≡ ack.Write → StandFor stands a.contents (disk_after run)
  disk_now acked =
      let none : length recent ≡ 0 = ap (λ (l : List Recent). length l) (so_far.none acked) in
      (clear_owing owes stands a.contents (writes_after run) (subst (λ n. Owing owes stands a.contents n (writes_after run)) none so_far.owed.owing)).1

  -- one more line was run
  pub so_far_more : (owe : List BlockWrite → Type 0) (more : Image → PlainDisk → Type 0) (l : Line) (cuts kept lost : ℕ) (b : State) (new : Tally) (kept_now : List Recent) (w : VolumeState) → (o.ack ≡ ack.Write → kept_now ≡ []) → refusal_of run l ≡ None → IsTallied l counted new
      → b.power.on ≡ true → b.contents.shape ≡ a.contents.shape → (IsQuiet v a → IsUncut l → Spent (steps_of l) v w a b) → RunsLine l cuts a b → FitsNext o.ack (as_ran l cuts kept lost) run
      → OwesRun owe more b.contents kept_now (as_ran l cuts kept lost ∷ run) → RanSoFar o owe more first b new kept_now w (as_ran l cuts kept lost ∷ run)
  so_far_more owe more l cuts kept lost b new kept_now w empty none one on shape spent runs fits owed = record {
    accepted = (none, so_far.accepted);
    fits = (fits, so_far.fits);
    on = on;
    shape = shape ∙ so_far.shape;
    owed = owed;
    none = empty;
    stops = runs.stops ∙ ap (λ (q : List Stop). arming l (drop cuts q)) so_far.stops;
    rest = rest_more run l cuts kept lost a b so_far.stops runs so_far.rest;
    risen = risen_more (cuts_in run) (cuts + cut_count l) first.faults.cuts a.faults.cuts b.faults.cuts so_far.risen runs.risen;
    none_failed = failed_then first a b so_far.none_failed runs.none_failed;
    counts = counts_then first.counts a.counts b.counts so_far.counts runs.counts;
    programs = risen_more (wrote_in run) (if cuts == 0 then block_count l else 0) first.counts.programs a.counts.programs b.counts.programs so_far.programs (wrote_line l cuts a b runs);
    ready = λ none block ready. runs.ready (omega arith) block (so_far.ready (omega arith) block ready);
    tally = record {
      lines = one.lines ∙ ap (λ n. n + 1) so_far.tally.lines ∙ sym (length_push (lines_of run) l);
      writes = one.writes ∙ ap (λ n. n + write_count l) so_far.tally.writes;
      reads = one.reads ∙ ap (λ n. n + read_count l) so_far.tally.reads;
      touched = one.touched ∙ ap (λ (xs : List ℕ). touching l xs) so_far.tally.touched;
    };
    spent = run_more o first a v run so_far.spent (as_ran l cuts kept lost) w b spent;
    dirty = so_far.dirty;
  }

  -- if each write is on the media when it answers
  pub so_far_now : (owe : List BlockWrite → Type 0) (more : Image → PlainDisk → Type 0) (l : Line) (cuts kept : ℕ) (b : State) (new : Tally) (w : VolumeState) → o.ack ≡ ack.Write → refusal_of run l ≡ None → IsTallied l counted new
      → b.power.on ≡ true → b.contents.shape ≡ a.contents.shape → (IsQuiet v a → IsUncut l → Spent (steps_of l) v w a b) → RunsLine l cuts a b → FitsLine ack.Write l cuts kept 0 (disk_after run)
      → owe [] → StandFor more b.contents (after_line l kept (disk_after run)) → RanSoFar o owe more first b new recent w (as_ran l cuts kept 0 ∷ run)
  so_far_now owe more l cuts kept b new w acked none one on shape spent runs fits nothing stood =
      let one_more : Ran = as_ran l cuts kept 0 in
      so_far_more owe more l cuts kept 0 b new recent w so_far.none none one on shape spent runs
      (can_next l cuts kept (record { few = runs.few; spends = λ none some. let rest = runs.rest none some in omega arith; fits = fits }))
      (subst (λ (k : List Recent). OwesRun owe more b.contents k (one_more ∷ run)) (sym (so_far.none acked))
      (owes_nothing owe more b.contents (one_more ∷ run) nothing (subst (λ (d : PlainDisk). StandFor more b.contents d) (sym (disk_after-line one_more run refl)) stood)))

-- the same for a volume with the same settings
pub so_far_told : (o k : Told) {owes : List BlockWrite → Type 0} (stands : Image → PlainDisk → Type 0) (first a : State) (counted : Tally) {recent : List Recent} (v : VolumeState) (run : List Ran) → o ≡ k → RanSoFar o owes stands first a counted recent v run → RanSoFar k owes stands first a counted recent v run
so_far_told o k {owes} stands first a counted {recent} v run same so_far = subst (λ (j : Told). RanSoFar j owes stands first a counted recent v run) same so_far

-- the lines that were counted, after one more
pub lines_more : (run : List Ran) (one : Ran) (before after : ℕ) → before ≡ length (lines_of run) → after ≡ length (lines_of (one ∷ run)) → after ≡ before + 1
lines_more run one before after before_is after_is = after_is ∙ length_push (lines_of run) one.line ∙ sym (ap (λ n. n + 1) before_is)

-- ---- how a run goes on

module _ {P : Type 0} (tells : P → ScriptState) where
  pub on_then : (x y z : P) (a b c : State) → RunKeepsFrame tells x y a b → RunKeepsFrame tells y z b c → RunKeepsFrame tells x z a c
  on_then x y z a b c first next =
      let f1 = first.flash in let f2 = next.flash in
      let d1 = first.disk in let d2 = next.disk in
      let o1 = first.source in let o2 = next.source in
      let s1 = first.sink in let s2 = next.sink in
      let t1 = first.turns in let t2 = next.turns in
      record {
        on = next.on;
        shape = next.shape ∙ first.shape;
        lent = next.lent ∙ first.lent;
        counts = counts_then a.counts b.counts c.counts first.counts next.counts;
        flash = omega arith;
        disk = omega arith;
        source = omega arith;
        sink = omega arith;
        script_lent = next.script_lent ∙ first.script_lent;
        size = next.size ∙ first.size;
        turns = omega arith;
      }

  -- a call of the script alone keeps the frame
  pub on_script : (x y : P) (a : State) → a.power.on ≡ true → (tells x).source_faults ≤ (tells y).source_faults → (tells x).sink_faults ≤ (tells y).sink_faults → (tells y).lent ≡ (tells x).lent → (tells y).size ≡ (tells x).size → (tells y).turns ≤ (tells x).turns → RunKeepsFrame tells x y a a
  on_script x y a on source sink lent size turns = record { on = on; shape = refl; lent = refl; counts = counts_none a.counts; flash = omega arith; disk = omega arith; source = source; sink = sink; script_lent = lent; size = size; turns = turns }

-- and then a call of the volume and the script keeps it
pub on_frame : {P : Type 0} (tells : P → ScriptState) (came : SourceState → SinkState → List Event → P → Type 0) (broke : SourceState → SinkState → List Event → Event → P → Type 0) (knows : SourceState → P → ℕ → List Reading → Bool → Type 0)
    (x y z : P) (a b c : State) → RunKeepsFrame tells x y a b → KeepsFrame tells came broke knows y z b c → RunKeepsFrame tells x z a c
on_frame tells came broke knows x y z a b c first next = on_then tells x y z a b c first (record {
  on = next.on;
  shape = next.shape;
  lent = next.lent;
  counts = next.counts;
  flash = next.flash;
  disk = next.disk;
  source = (let same = next.source in omega (arith, same));
  sink = next.sink;
  script_lent = next.script_lent;
  size = next.size;
  turns = next.turns;
})

-- ---- what may become of the next line

whole_fit : (lba tag count cuts : ℕ) (d : PlainDisk) → FitsWrite lba count tag cuts count 0 d
whole_fit lba tag count cuts d = record { whole = λ _. refl; most = omega arith; first_old = λ _ less. absurd (omega arith); lost_all = λ some. absurd (omega arith) }

none_fit : (power : Power) (l : Line) (d : PlainDisk) → block_count l ≡ 0 → FitsLine ack.Write l 0 0 0 d → CanBecome l 0 0 power d
none_fit power l d none fits = record { few = omega arith; spends = λ _ _. omega arith; fits = fits }

-- something can become of each line
pub can_some : (power : Power) (d : PlainDisk) (l : Line) (stops : List Stop) → power.stops ≡ stops → (cuts : ℕ) × (kept : ℕ) × CanBecome l cuts kept power d
can_some power d (line.Write lba count tag) [] is = (0, count, record { few = omega arith; spends = λ none some. absurd (some is); fits = whole_fit lba tag count 0 d })
can_some power d (line.Write lba count tag) (stop ∷ stops) is = (1, count, record { few = (let long : length power.stops ≡ length (stop ∷ stops) = ap (λ (q : List Stop). length q) is in omega (arith, long)); spends = λ none. absurd (omega arith); fits = whole_fit lba tag count 1 d })
can_some power d (line.Read lba count) stops is = (0, 0, none_fit power (line.Read lba count) d refl tt)
can_some power d line.Flush stops is = (0, 0, none_fit power line.Flush d refl tt)
can_some power d line.Idle stops is = (0, 0, none_fit power line.Idle d refl (λ _. omega arith))
can_some power d (line.Stop after outcome) stops is = (0, 0, none_fit power (line.Stop after outcome) d refl refl)
can_some power d (line.Cut outcome) stops is = (0, 0, none_fit power (line.Cut outcome) d refl (λ _. refl))
can_some power d line.Nothing stops is = (0, 0, none_fit power line.Nothing d refl refl)
