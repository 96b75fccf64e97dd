-- What becomes of a line, if writes are on the media only after a flush.
use Rattle.std.proofs.Common.{◌≡◌, refl, ℕ, zero, suc, ◌+◌, ◌-◌, ◌<◌, ◌≤◌, arith, Ok, All, Some, slice_get, Bool, false, List, [], ◌∷◌, ◌++◌, length, take, drop, reverse, ap, sym, ◌∙◌, subst, append_assoc}
use Rattle.std.proofs.Math.Path.{fun_ext}
use Rattle.std.proofs.lemmas.List.{drop-append-le, length-append, length-map, length-reverse, length-take, map-append, take-append-drop}
use Rattle.std.proofs.lemmas.List.Elements.{All-cons, All-nil, All-take}
use Rattle.std.proofs.lemmas.Option.{get_or_from_slice_get, slice_get_within}
use Rattle.ft_base.specs.Contents.{Contents, Image}
use Rattle.ft_base.specs.PlainDisk.{BlockWrite, PlainDisk}
use Rattle.ft_base.specs.declared.power.Outcome.TheVariants as outcome_kind
use Rattle.ft_base.specs.declared.told.Ack.TheVariants as ack
use Rattle.ft_volume.specs.Standing.{StandFor}
use Rattle.ft_base.specs.StreamState.{SinkState, SourceState}
use Rattle.trace_model.specs.declared.answer.Answer.TheVariants as answer
use Rattle.trace_model.specs.Readings.{Reading}
use Rattle.trace_model.specs.declared.line.Line.{Line}
use Rattle.trace_model.specs.declared.line.Line.TheVariants as line
use Rattle.trace_model.specs.declared.ran.Ran.{Ran}
use Rattle.trace_model.specs.Fits.{FitsLine, FitsLost, FitsNext, armed_after, is_cut, kept_since_flush}
use Rattle.trace_model.specs.Run.{lost_told, disk_after, disk_without, disk_written, with_blocks, with_line, writes_after}
use Rattle.trace_model.specs.SoFar.{as_ran}
use Rattle.trace_model.proofs.FitLemmas.{lost_none}
use Rattle.trace_model.proofs.LossLemmas.{disk_is, fits_is}
use Rattle.trace_replay.specs.declared.recent.Recent.{Recent}
use Rattle.trace_replay.specs.Events.{Event, ScriptState}
use Rattle.trace_replay.specs.Saying as saying
use Rattle.trace_replay.proofs.EventsLemmas.{says_none}
use Rattle.trace_replay.specs.Owing.{BecameOwing, IsReadBack, Owing, OwesRun, most_lost, with_recent, written}
use Rattle.trace_replay.proofs.BackLemmas.{blocks_over, written_with}
use Rattle.trace_replay.proofs.OwingLemmas.{clear_owing, owing_clear, owing_less}

length_with : (lba tag n : ℕ) (r : List Recent) → length (with_recent lba tag n r) ≡ n + length r
length_with lba tag zero r = omega arith
length_with lba tag (suc n) r = let rest = length_with lba tag n r in omega arith

length_blocks : (lba tag n : ℕ) (ws : List BlockWrite) → length (with_blocks lba tag n ws) ≡ n + length ws
length_blocks lba tag zero ws = omega arith
length_blocks lba tag (suc n) ws = let rest = length_blocks lba tag n ws in omega arith

-- the numbers that are read back
back_kept : (count kept lost : ℕ) → kept ≤ count → (1 ≤ lost → kept ≡ 0) → count - (count - kept + lost) ≡ kept
back_kept count kept zero most front = omega arith
back_kept count kept (suc lost) most front = let none = front (omega arith) in omega arith

back_lost : (count kept lost : ℕ) → kept ≤ count → (1 ≤ lost → kept ≡ 0) → count - kept + lost - count ≡ lost
back_lost count kept zero most front = omega arith
back_lost count kept (suc lost) most front = let none = front (omega arith) in omega arith

-- ---- a cut

module _ (run : List Ran) (recent : List Recent) (older : List BlockWrite) (all : writes_after run ≡ written recent ++ older) (few : length recent ≤ most_lost) (since : length recent ≤ kept_since_flush run)
    (lba count tag cuts truth kept lost : ℕ) (disk : PlainDisk) (some : 1 ≤ cuts) (armed : cuts ≤ length (armed_after run)) (within : truth ≤ length recent + count)
    (is : disk ≡ disk_written (drop truth (with_blocks lba tag count (writes_after run)))) (back : IsReadBack lba count tag recent disk kept lost) where
  abbrev found : ℕ
  found = count - kept + lost

  long : length (written recent) ≡ length recent
  long = length-map recent _

  seen : (a : ℕ) → disk a ≡ disk_written (drop truth (with_blocks lba tag count (written recent)) ++ older) a
  seen a =
      let same = length_blocks lba tag count (written recent) in
      let is_long = long in
      ap (λ (d : PlainDisk). d a) is
      ∙ ap (λ (l : List BlockWrite). disk_written l a)
      (ap (λ (l : List BlockWrite). drop truth (with_blocks lba tag count l)) all ∙ ap (drop truth) (sym (blocks_over lba tag count (written recent) older)) ∙ drop-append-le truth (with_blocks lba tag count (written recent)) older (omega arith))

  kept_is : count - found ≡ kept
  kept_is = back_kept count kept lost back.most back.front

  lost_is : found - count ≡ lost
  lost_is = back_lost count kept lost back.most back.front

  abbrev one : Ran
  one = as_ran (line.Write lba count tag) cuts kept lost

  same_one : as_ran (line.Write lba count tag) cuts (count - found) (found - count) ≡ one
  same_one = ap (λ k. as_ran (line.Write lba count tag) cuts k (found - count)) kept_is ∙ ap (λ k. as_ran (line.Write lba count tag) cuts kept k) lost_is

  pub cut_fits : FitsNext ack.Flush one run
  cut_fits = subst (λ (r : Ran). FitsNext ack.Flush r run) same_one
      (fits_is lba count tag cuts run (written recent) older disk truth found some armed all (let is_long = long in omega arith) (let is_long = long in omega arith) (let is_long = long in omega arith) seen back.least)

  pub cut_disk : disk ≡ disk_after (one ∷ run)
  cut_disk =
      fun_ext (disk_is lba count tag cuts run (written recent) older disk truth found some armed all (let is_long = long in omega arith) (let is_long = long in omega arith) (let is_long = long in omega arith) seen back.least)
      ∙ ap (λ (r : Ran). disk_after (r ∷ run)) same_one

-- a line that writes nothing: what is lost before it, and the disk
module _ (run : List Ran) (recent : List Recent) (older : List BlockWrite) (all : writes_after run ≡ written recent ++ older) (few : length recent ≤ most_lost) (since : length recent ≤ kept_since_flush run)
    (truth kept lost : ℕ) (disk : PlainDisk) (within : truth ≤ length recent) (is : disk ≡ disk_written (drop truth (writes_after run))) (back : IsReadBack 0 0 0 recent disk kept lost) where
  -- the same lines, with a stop that is armed
  abbrev stop : Ran
  stop = as_ran (line.Stop 1 outcome_kind.Whole) 0 0 0

  armed_stop : 1 ≤ length (armed_after (stop ∷ run))
  armed_stop = let sum = length-append (armed_after run) ((record { after = 1; outcome = outcome_kind.Whole }) ∷ []) in omega arith

  fits_stop : FitsNext ack.Flush (as_ran (line.Write 0 0 0) 1 kept lost) (stop ∷ run)
  fits_stop = cut_fits (stop ∷ run) recent older all few (omega arith) 0 0 0 1 truth kept lost disk (omega arith) armed_stop (omega arith) is back

  pub lost_fits : FitsLost ack.Flush run lost
  lost_fits =
      let losses = fits_stop.losses in
      let least = losses.since in
      record { none = λ at_write. absurd (cc); few = losses.few; since = omega arith; first = losses.first }

  pub lost_disk : disk ≡ disk_without lost run
  lost_disk =
      let none : kept ≡ 0 = (let most = back.most in omega arith) in
      cut_disk (stop ∷ run) recent older all few (omega arith) 0 0 0 1 truth kept lost disk (omega arith) armed_stop (omega arith) is back
      ∙ ap (λ k. disk_written (with_blocks 0 0 k (drop lost (writes_after run)))) none

-- ---- what a line leaves

module _ (owes : List BlockWrite → Type 0) (stands : Image → PlainDisk → Type 0) (contents : Contents) where
  -- nothing is owed after these lines
  pub owes_nothing : (run : List Ran) → owes [] → StandFor stands contents (disk_after run) → OwesRun owes stands contents [] run
  owes_nothing run none stood = record {
    older = writes_after run;
    all = refl;
    few = omega arith;
    since = omega arith;
    owing = owing_clear owes stands contents 0 (writes_after run) none stood;
  }

  -- as much is owed as before, after a line that writes nothing
  pub owes_same : (recent : List Recent) (run : List Ran) (one : Ran) → writes_after (one ∷ run) ≡ writes_after run → kept_since_flush run ≤ kept_since_flush (one ∷ run) → (older : List BlockWrite) → writes_after run ≡ written recent ++ older → length recent ≤ most_lost
      → length recent ≤ kept_since_flush run → Owing owes stands contents (length recent) (writes_after run) → OwesRun owes stands contents recent (one ∷ run)
  owes_same recent run one same more older all few since owing = record {
    older = older;
    all = same ∙ all;
    few = few;
    since = omega arith;
    owing = subst (λ (l : List BlockWrite). Owing owes stands contents (length recent) l) (sym same) owing;
  }

  -- the blocks of a write are owed too
  pub owes_more : (recent : List Recent) (run : List Ran) (lba count tag : ℕ) (older : List BlockWrite) → writes_after run ≡ written recent ++ older → length recent ≤ kept_since_flush run
      → (o : Owing owes stands contents (length recent + count) (with_blocks lba tag count (writes_after run))) → length (reverse o.recent) ≤ most_lost
      → OwesRun owes stands contents (take most_lost (with_recent lba tag count recent)) (as_ran (line.Write lba count tag) 0 count 0 ∷ run)
  owes_more recent run lba count tag older all since o few =
      let whole = with_recent lba tag count recent in
      let long = length_with lba tag count recent in
      let taken = length-take most_lost whole in
      let back = length-reverse o.recent in
      let least = o.few in
      record {
        older = written (drop most_lost whole) ++ older;
        all = ap (with_blocks lba tag count) all ∙ sym (blocks_over lba tag count (written recent) older) ∙ ap (λ (l : List BlockWrite). l ++ older) (sym (written_with lba tag count recent) ∙ ap written (sym (take-append-drop most_lost whole)) ∙ map-append _ (take most_lost whole) (drop most_lost whole))
            ∙ append_assoc (written (take most_lost whole)) (written (drop most_lost whole)) older;
        few = omega arith;
        since = omega arith;
        owing = owing_less owes stands contents (length recent + count) (length (take most_lost whole)) (with_blocks lba tag count (writes_after run)) o (omega arith);
      }

-- ---- a line that was run

module _ (owes : List BlockWrite → Type 0) (stands : Image → PlainDisk → Type 0) (contents : Contents) (run : List Ran) (recent : List Recent) (older : List BlockWrite) (all : writes_after run ≡ written recent ++ older) (few : length recent ≤ most_lost) (since : length recent ≤ kept_since_flush run) where
  -- no stop cut the write
  pub write_became : (lba count tag : ℕ) (now : List Recent) → now ≡ take most_lost (with_recent lba tag count recent) → (o : Owing owes stands contents (length recent + count) (with_blocks lba tag count (writes_after run))) → length (reverse o.recent) ≤ most_lost
      → BecameOwing owes stands contents now (line.Write lba count tag) 0 count 0 run
  write_became lba count tag now is o least = record {
    fits = record { whole = λ _. refl; most = omega arith; first_old = λ _ less. absurd (omega arith); lost_all = λ some. absurd (omega arith) };
    cut = λ _ _. refl;
    losses = lost_none ack.Flush run 0 refl;
    owed = subst (λ (l : List Recent). OwesRun owes stands contents l (as_ran (line.Write lba count tag) 0 count 0 ∷ run)) (sym is) (owes_more owes stands contents recent run lba count tag older all since o least);
  }

  -- no stop cut the line, which writes nothing
  pub line_became : (l : Line) (now : List Recent) → now ≡ recent → ((k : ℕ) (ws : List BlockWrite) → with_line l k ws ≡ ws) → kept_since_flush run ≤ kept_since_flush (as_ran l 0 0 0 ∷ run) → FitsLine ack.Flush l 0 0 0 (disk_without 0 run) → Owing owes stands contents (length recent) (writes_after run)
      → BecameOwing owes stands contents now l 0 0 0 run
  line_became l now same none more fits owing = record {
    fits = fits;
    cut = λ _ _. refl;
    losses = lost_none ack.Flush run 0 refl;
    owed = subst (λ (k : List Recent). OwesRun owes stands contents k (as_ran l 0 0 0 ∷ run)) (sym same) (owes_same owes stands contents recent run (as_ran l 0 0 0) (none 0 (drop 0 (writes_after run))) more older all few since owing);
  }

  module _ (truth cuts kept lost : ℕ) (disk : PlainDisk) (none : owes []) (stood : StandFor stands contents disk) (now : List Recent) (empty : now ≡ []) where
    -- a stop cut the write
    pub write_cut : (lba count tag : ℕ) → 1 ≤ cuts → cuts ≤ length (armed_after run) → truth ≤ length recent + count → disk ≡ disk_written (drop truth (with_blocks lba tag count (writes_after run))) → IsReadBack lba count tag recent disk kept lost
        → BecameOwing owes stands contents now (line.Write lba count tag) cuts kept lost run
    write_cut lba count tag some armed within is back =
        let fits = cut_fits run recent older all few since lba count tag cuts truth kept lost disk some armed within is back in
        let same = cut_disk run recent older all few since lba count tag cuts truth kept lost disk some armed within is back in
        record {
          fits = fits.line;
          cut = fits.cut;
          losses = fits.losses;
          owed = subst (λ (k : List Recent). OwesRun owes stands contents k (as_ran (line.Write lba count tag) cuts kept lost ∷ run)) (sym empty)
              (owes_nothing owes stands contents (as_ran (line.Write lba count tag) cuts kept lost ∷ run) none (subst (λ (d : PlainDisk). StandFor stands contents d) same stood));
        }

    -- power was cut within or at a line that writes nothing
    pub line_cut : (l : Line) → ((k : ℕ) (ws : List BlockWrite) → with_line l k ws ≡ ws) → FitsLine ack.Flush l cuts 0 lost (disk_without lost run) → (is_cut l ≡ false → cuts ≡ 0 → lost ≡ 0) → truth ≤ length recent → disk ≡ disk_written (drop truth (writes_after run)) → IsReadBack 0 0 0 recent disk kept lost
        → BecameOwing owes stands contents now l cuts 0 lost run
    line_cut l same fits cut within is back =
        let disk_is = lost_disk run recent older all few since truth kept lost disk within is back in
        record {
          fits = fits;
          cut = cut;
          losses = lost_fits run recent older all few since truth kept lost disk within is back;
          owed = subst (λ (k : List Recent). OwesRun owes stands contents k (as_ran l cuts 0 lost ∷ run)) (sym empty)
              (owes_nothing owes stands contents (as_ran l cuts 0 lost ∷ run) none (subst (λ (d : PlainDisk). StandFor stands contents d) (disk_is ∙ ap disk_written (sym (same 0 (drop lost (writes_after run))))) stood));
        }

-- the blocks of a request lie in the volume, and so do all that are kept
pub all_noted : (size lba tag count : ℕ) (old now : List Recent) → lba + count ≤ size → All (λ (r : Recent). r.lba < size) old → now ≡ take most_lost (with_recent lba tag count old) → All (λ (r : Recent). r.lba < size) now
all_noted size lba tag count old now within all is = subst (λ (l : List Recent). All (λ (r : Recent). r.lba < size) l) (sym is) (All-take (λ (r : Recent). r.lba < size) most_lost (with_recent lba tag count old) (each count within))
  where
    each : (n : ℕ) → lba + n ≤ size → All (λ (r : Recent). r.lba < size) (with_recent lba tag n old)
    each zero le = all
    each (suc n) le = All-cons (λ (r : Recent). r.lba < size) (record { lba = lba + n; tag = tag }) (with_recent lba tag n old) (omega arith) (each n (omega arith))

-- the address of one of them lies in the volume
pub one_within : (size place : ℕ) (l : List Recent) (r : Recent) → All (λ (k : Recent). k.lba < size) l → slice_get l place ≡ Some r → r.lba < size
one_within size place l r all is = subst (λ (k : Recent). k.lba < size) (get_or_from_slice_get l place r r is) (all place r (slice_get_within l place r is))

-- a flush that no stop cut
pub line_flushed : (owes : List BlockWrite → Type 0) (stands : Image → PlainDisk → Type 0) (contents : Contents) (run : List Ran) (now : List Recent) → now ≡ [] → Owing owes stands contents 0 (writes_after run) → BecameOwing owes stands contents now line.Flush 0 0 0 run
line_flushed owes stands contents run now empty owing =
    let clear = clear_owing owes stands contents (writes_after run) owing in
    record {
      fits = tt;
      cut = λ _ _. refl;
      losses = lost_none ack.Flush run 0 refl;
      owed = subst (λ (k : List Recent). OwesRun owes stands contents k (as_ran line.Flush 0 0 0 ∷ run)) (sym empty) (owes_nothing owes stands contents (as_ran line.Flush 0 0 0 ∷ run) clear.0 clear.1);
    }

-- ---- what is said

pub lost_said : (lost : ℕ) → (lost ≡ 0 → ⊥) → lost_told lost ≡ answer.Lost lost ∷ []
lost_said zero some = absurd (some refl)
lost_said (suc n) some = refl

module _ {P : Type 0} (tells : P → ScriptState) (came : SourceState → SinkState → List Event → P → Type 0) (broke : SourceState → SinkState → List Event → Event → P → Type 0) (knows : SourceState → P → ℕ → List Reading → Bool → Type 0) where
  pub same_script : (x : P) → saying.GoesScript tells came broke knows x x
  same_script x = record { source = omega arith; sink = omega arith; lent = refl; size = refl; turns = omega arith; knew = λ s lines all whole known. known }

  pub none_said : (x : P) → saying.SaysSo tells came broke knows x x [] (Ok tt)
  none_said x = record { goes = same_script x; done = says_none came x; ended = tt }

pub all_none : (size : ℕ) (l : List Recent) → l ≡ [] → All (λ (r : Recent). r.lba < size) l
all_none size l none = subst (λ (k : List Recent). All (λ (r : Recent). r.lba < size) k) (sym none) (All-nil (λ (r : Recent). r.lba < size))

-- the media stand for the disk without the lost block writes, after a flush
pub flush_stands : (owes : List BlockWrite → Type 0) (stands : Image → PlainDisk → Type 0) (contents : Contents) (now : List Recent) {cuts kept lost : ℕ} (run : List Ran) → BecameOwing owes stands contents now line.Flush cuts kept lost run → now ≡ [] → StandFor stands contents (disk_without lost run)
flush_stands owes stands contents now {cuts} {kept} {lost} run became empty =
    let none : length now ≡ 0 = ap (λ (l : List Recent). length l) empty in
    (clear_owing owes stands contents (drop lost (writes_after run)) (subst (λ n. Owing owes stands contents n (drop lost (writes_after run))) none became.owed.owing)).1
