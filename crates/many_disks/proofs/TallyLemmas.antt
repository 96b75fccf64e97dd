-- What is counted of each disk, line by line and block by block.
use Rattle.std.proofs.Common.{OnOk, Result, Ok, Err, ◌≡◌, ◌≢◌, ◌≤◌, ◌<◌, ◌+◌, ◌-◌, ◌*◌, ◌/◌, ◌++◌, ◌∷◌, ◌==◌, [], ℕ, zero, suc, add-one, Bool, true, false, if◌then◌else◌, cond, List, length, flat_map, sum_by, get_or, slice_set, refl, sym, ap, ◌∙◌, subst, append_assoc, arith}
use Rattle.std.proofs.lemmas.Bool.Decides.{nat_tests}
use Rattle.std.proofs.lemmas.List.{append-nil, length-append}
use Rattle.std.proofs.lemmas.List.Concat.{flat_map-append}
use Rattle.std.proofs.lemmas.List.Elements.{filter-append}
use Rattle.std.proofs.lemmas.List.Sums.{sum_by-append}
use Rattle.std.proofs.lemmas.Nat.{div-mul-add}
use Rattle.std.specs.Int.{w64, to_be_bytes}
use Rattle.std.specs.List.{range_with_len}
use Rattle.sha2.specs.Hashers.{Holds256}
use Rattle.sha2.specs.Sha256.{sha256}
use Rattle.ft_base.specs.PlainDisk.{BlockWrite}
use Rattle.trace_model.specs.declared.answer.Answer.{Answer}
use Rattle.trace_model.specs.declared.answer.Answer.TheVariants as answer
use Rattle.trace_model.specs.declared.line.Line.{Line}
use Rattle.trace_model.specs.declared.line.Line.TheVariants as line
use Rattle.trace_model.specs.Lines.{IsRunnable}
use Rattle.trace_model.specs.Run.{read_count, write_count}
use Rattle.trace_model.specs.Text.{text_of}
use Rattle.many_disks.specs.declared.tally.Tally.{Tally}
use Rattle.many_disks.specs.Lines.{shifted}
use Rattle.many_disks.specs.Tally.{AreTalliesOf, CountAtMost, IsTallyOf, IsUncounted, end_by, end_printed, ends_by, own_blocks, own_bytes, own_given}
use Rattle.many_disks.specs.Told.{printed_text, printed_text_of}
use Rattle.many_disks.specs.Told.Printed.{Chose}
use Rattle.many_disks.proofs.OwnLemmas.{own_given-append}

-- ---- one of the disks

pub tally_at : (share k : ℕ) (ls : List Line) (bs : List BlockWrite) (ts : List Tally) (i : ℕ) (any : Tally) → i < length ts → AreTalliesOf share k ls bs ts → IsTallyOf share (k + i) ls bs (get_or ts i any)
tally_at share k ls bs [] i any within are = absurd (omega arith)
tally_at share k ls bs (t ∷ ts) zero any within are = let here : k ≡ k + 0 = omega arith in subst (λ d. IsTallyOf share d ls bs t) here are.0
tally_at share k ls bs (t ∷ ts) (suc i) any within are = let here : (k + 1) + i ≡ k + suc i = omega arith in subst (λ d. IsTallyOf share d ls bs (get_or ts i any)) here (tally_at share (k + 1) ls bs ts i any (omega arith) are.1)

pub count_at : (n : ℕ) (ts : List Tally) (i : ℕ) (any : Tally) → i < length ts → CountAtMost n ts → (get_or ts i any).writes + (get_or ts i any).reads ≤ n
count_at n [] i any within are = absurd (omega arith)
count_at n (t ∷ ts) zero any within are = are.0
count_at n (t ∷ ts) (suc i) any within are = count_at n ts i any (omega arith) are.1

pub count_more : (n m : ℕ) (ts : List Tally) → n ≤ m → CountAtMost n ts → CountAtMost m ts
count_more n m [] le are = tt
count_more n m (t ∷ ts) le are = (let here = are.0 in omega arith, count_more n m ts le are.1)

pub count_set : (n m : ℕ) (ts : List Tally) (i : ℕ) (t : Tally) → n ≤ m → t.writes + t.reads ≤ m → CountAtMost n ts → CountAtMost m (slice_set ts i t)
count_set n m [] i t le few are = tt
count_set n m (u ∷ ts) zero t le few are = (few, count_more n m ts le are.1)
count_set n m (u ∷ ts) (suc i) t le few are = (let here = are.0 in omega arith, count_set n m ts i t le few are.1)

-- what the tallies say for each disk by its number
pub tallies_from : (share k : ℕ) (ls : List Line) (bs : List BlockWrite) (ts : List Tally) → ((i : ℕ) (any : Tally) → i < length ts → IsTallyOf share (k + i) ls bs (get_or ts i any)) → AreTalliesOf share k ls bs ts
tallies_from share k ls bs [] each = tt
tallies_from share k ls bs (t ∷ ts) each = (
  let here : k + 0 ≡ k = omega arith in subst (λ d. IsTallyOf share d ls bs t) here (each 0 t (omega arith)),
  tallies_from share (k + 1) ls bs ts (λ i any within. let there : k + suc i ≡ (k + 1) + i = omega arith in subst (λ d. IsTallyOf share d ls bs (get_or ts i any)) there (each (suc i) any (omega arith))),
)

pub counts_from : (n : ℕ) (ts : List Tally) → ((i : ℕ) (any : Tally) → i < length ts → (get_or ts i any).writes + (get_or ts i any).reads ≤ n) → CountAtMost n ts
counts_from n [] each = tt
counts_from n (t ∷ ts) each = (each 0 t (omega arith), counts_from n ts (λ i any within. each (suc i) any (omega arith)))

-- ---- after a line or a block more

module _ (share : ℕ) (ls ms : List Line) (bs cs : List BlockWrite) where
  -- a line or block of no disk from this one on
  pub tallies_same : (k : ℕ) (ts : List Tally) → ((d : ℕ) (t : Tally) → k ≤ d → d < k + length ts → IsTallyOf share d ls bs t → IsTallyOf share d ms cs t) → AreTalliesOf share k ls bs ts → AreTalliesOf share k ms cs ts
  tallies_same k [] same are = tt
  tallies_same k (t ∷ ts) same are = (same k t (omega arith) (omega arith) are.0, tallies_same (k + 1) ts (λ d u least most. same d u (omega arith) (omega arith)) are.1)

  -- a line or block of this disk
  pub tallies_set : (k : ℕ) (ts : List Tally) (i : ℕ) (t : Tally) → ((d : ℕ) (u : Tally) → d ≢ k + i → IsTallyOf share d ls bs u → IsTallyOf share d ms cs u) → IsTallyOf share (k + i) ms cs t → AreTalliesOf share k ls bs ts → AreTalliesOf share k ms cs (slice_set ts i t)
  tallies_set k [] i t others here are = tt
  tallies_set k (u ∷ ts) zero t others here are = (
    let same : k + 0 ≡ k = omega arith in subst (λ d. IsTallyOf share d ms cs t) same here,
    tallies_same (k + 1) ts (λ d v least most. others d v (λ is. absurd (omega arith))) are.1,
  )
  tallies_set k (u ∷ ts) (suc i) t others here are = (
    others k u (λ is. absurd (omega arith)) are.0,
    tallies_set (k + 1) ts i t (λ d v other. others d v (λ is. other (omega arith))) (let same : k + suc i ≡ (k + 1) + i = omega arith in subst (λ d. IsTallyOf share d ms cs t) same here) are.1,
  )

-- ---- a line

-- the disk on which a shifted line lies
disk_is : (share chosen lba count : ℕ) → (1 ≤ count) × (lba + count ≤ share) → (chosen * share + lba) / share ≡ chosen
disk_is share chosen lba count runnable = let some = runnable.0 in let within = runnable.1 in div-mul-add chosen share lba (omega arith)

module _ (share chosen disk : ℕ) where
  beside_own : (a : ℕ) → a ≡ chosen → disk ≡ chosen → (if a == disk then false else true) ≡ false
  beside_own a is own = let test : (a == disk) ≡ true = grind (arith, nat_tests) in ap (λ (t : Bool). if t then false else true) test

  beside_other : (a : ℕ) → a ≡ chosen → disk ≢ chosen → (if a == disk then false else true) ≡ true
  beside_other a is other = let test : (a == disk) ≡ false = grind (arith, nat_tests, other) in ap (λ (t : Bool). if t then false else true) test

  -- a line of the chosen disk
  own_one : (l : Line) → IsRunnable share l → disk ≡ chosen → own_given share disk (shifted (chosen * share) l ∷ []) ≡ shifted (chosen * share) l ∷ []
  own_one (line.Write lba count tag) runnable own = ap (λ (t : Bool). if t then [] else line.Write (chosen * share + lba) count tag ∷ []) (beside_own ((chosen * share + lba) / share) (disk_is share chosen lba count runnable) own)
  own_one (line.Read lba count) runnable own = ap (λ (t : Bool). if t then [] else line.Read (chosen * share + lba) count ∷ []) (beside_own ((chosen * share + lba) / share) (disk_is share chosen lba count runnable) own)
  own_one line.Flush runnable own = refl
  own_one line.Idle runnable own = refl
  own_one (line.Stop after outcome) runnable own = refl
  own_one (line.Cut outcome) runnable own = refl
  own_one line.Nothing runnable own = refl

  -- a line of another disk counts for nothing
  other_one : (l : Line) → IsRunnable share l → disk ≢ chosen → (sum_by write_count (own_given share disk (shifted (chosen * share) l ∷ [])) ≡ 0) × (sum_by read_count (own_given share disk (shifted (chosen * share) l ∷ [])) ≡ 0)
  other_one (line.Write lba count tag) runnable other =
      let none : own_given share disk (line.Write (chosen * share + lba) count tag ∷ []) ≡ [] = ap (λ (t : Bool). if t then [] else line.Write (chosen * share + lba) count tag ∷ []) (beside_other ((chosen * share + lba) / share) (disk_is share chosen lba count runnable) other) in
      (ap (sum_by write_count) none, ap (sum_by read_count) none)
  other_one (line.Read lba count) runnable other =
      let none : own_given share disk (line.Read (chosen * share + lba) count ∷ []) ≡ [] = ap (λ (t : Bool). if t then [] else line.Read (chosen * share + lba) count ∷ []) (beside_other ((chosen * share + lba) / share) (disk_is share chosen lba count runnable) other) in
      (ap (sum_by write_count) none, ap (sum_by read_count) none)
  other_one line.Flush runnable other = (refl, refl)
  other_one line.Idle runnable other = (refl, refl)
  other_one (line.Stop after outcome) runnable other = (refl, refl)
  other_one (line.Cut outcome) runnable other = (refl, refl)
  other_one line.Nothing runnable other = (refl, refl)

write_shifted : (by : ℕ) (l : Line) → sum_by write_count (shifted by l ∷ []) ≡ write_count l
write_shifted by (line.Write lba count tag) = refl
write_shifted by (line.Read lba count) = refl
write_shifted by line.Flush = refl
write_shifted by line.Idle = refl
write_shifted by (line.Stop after outcome) = refl
write_shifted by (line.Cut outcome) = refl
write_shifted by line.Nothing = refl

read_shifted : (by : ℕ) (l : Line) → sum_by read_count (shifted by l ∷ []) ≡ read_count l
read_shifted by (line.Write lba count tag) = refl
read_shifted by (line.Read lba count) = refl
read_shifted by line.Flush = refl
read_shifted by line.Idle = refl
read_shifted by (line.Stop after outcome) = refl
read_shifted by (line.Cut outcome) = refl
read_shifted by line.Nothing = refl

own_sum : (f : Line → ℕ) (share disk : ℕ) (ls : List Line) (l : Line) → sum_by f (own_given share disk (ls ++ l ∷ [])) ≡ sum_by f (own_given share disk ls) + sum_by f (own_given share disk (l ∷ []))
own_sum f share disk ls l = ap (sum_by f) (own_given-append share disk ls (l ∷ [])) ∙ sum_by-append f (own_given share disk ls) (own_given share disk (l ∷ []))

module _ (share chosen : ℕ) (ls : List Line) (bs : List BlockWrite) (l : Line) (runnable : IsRunnable share l) where
  pub counted_own : (t u : Tally) → u.writes ≡ t.writes + write_count l → u.reads ≡ t.reads + read_count l → u.touched ≡ t.touched → u.hasher ≡ t.hasher → IsTallyOf share chosen ls bs t → IsTallyOf share chosen (ls ++ shifted (chosen * share) l ∷ []) bs u
  counted_own t u writes reads touched hasher is = record {
    writes =
        let was = is.writes in
        let one = ap (sum_by write_count) (own_one share chosen chosen l runnable refl) ∙ write_shifted (chosen * share) l in
        let sum = own_sum write_count share chosen ls (shifted (chosen * share) l) in
        omega arith;
    reads =
        let was = is.reads in
        let one = ap (sum_by read_count) (own_one share chosen chosen l runnable refl) ∙ read_shifted (chosen * share) l in
        let sum = own_sum read_count share chosen ls (shifted (chosen * share) l) in
        omega arith;
    touched = touched ∙ is.touched;
    holds = subst (λ h. Holds256 h (own_bytes (chosen * share) (own_blocks share chosen bs))) (sym hasher) is.holds;
  }

  pub counted_other : (disk : ℕ) (t : Tally) → disk ≢ chosen → IsTallyOf share disk ls bs t → IsTallyOf share disk (ls ++ shifted (chosen * share) l ∷ []) bs t
  counted_other disk t other is =
      let none = other_one share chosen disk l runnable other in
      record {
        writes = let was = is.writes in let one = none.0 in let sum = own_sum write_count share disk ls (shifted (chosen * share) l) in omega arith;
        reads = let was = is.reads in let one = none.1 in let sum = own_sum read_count share disk ls (shifted (chosen * share) l) in omega arith;
        touched = is.touched;
        holds = is.holds;
      }

-- ---- a block

own_blocks-append : (share disk : ℕ) (xs ys : List BlockWrite) → own_blocks share disk (xs ++ ys) ≡ own_blocks share disk xs ++ own_blocks share disk ys
own_blocks-append share disk xs ys = filter-append (λ (w : BlockWrite). (w.lba / share) == disk) xs ys

module _ (share : ℕ) (ls : List Line) (bs : List BlockWrite) (w : BlockWrite) where
  block_own : (disk : ℕ) → w.lba / share ≡ disk → own_blocks share disk (bs ++ w ∷ []) ≡ own_blocks share disk bs ++ w ∷ []
  block_own disk own =
      let test : ((w.lba / share) == disk) ≡ true = grind (arith, nat_tests) in
      own_blocks-append share disk bs (w ∷ []) ∙ ap (λ (t : Bool). own_blocks share disk bs ++ cond t (w ∷ []) []) test

  block_other : (disk : ℕ) → w.lba / share ≢ disk → own_blocks share disk (bs ++ w ∷ []) ≡ own_blocks share disk bs
  block_other disk other =
      let test : ((w.lba / share) == disk) ≡ false = grind (arith, nat_tests, other) in
      own_blocks-append share disk bs (w ∷ []) ∙ ap (λ (t : Bool). own_blocks share disk bs ++ cond t (w ∷ []) []) test ∙ append-nil (own_blocks share disk bs)

  pub took_own : (disk : ℕ) (t u : Tally) → w.lba / share ≡ disk → u.writes ≡ t.writes → u.reads ≡ t.reads → u.touched ≡ t.touched + 1
      → ((bytes : List ℕ) → Holds256 t.hasher bytes → Holds256 u.hasher (bytes ++ (to_be_bytes w64 (w.lba - disk * share) ++ w.block.0)))
      → IsTallyOf share disk ls bs t → IsTallyOf share disk ls (bs ++ w ∷ []) u
  took_own disk t u own writes reads touched holds is =
      let start = disk * share in
      let blocks = block_own disk own in
      record {
        writes = writes ∙ is.writes;
        reads = reads ∙ is.reads;
        touched = let was = is.touched in let more = ap length blocks ∙ length-append (own_blocks share disk bs) (w ∷ []) in omega arith;
        holds = subst (Holds256 u.hasher)
            (ap (λ (ys : List ℕ). own_bytes start (own_blocks share disk bs) ++ ys) (sym (append-nil (to_be_bytes w64 (w.lba - start) ++ w.block.0)))
            ∙ sym (flat_map-append (λ (x : BlockWrite). to_be_bytes w64 (x.lba - start) ++ x.block.0) (own_blocks share disk bs) (w ∷ []))
            ∙ ap (own_bytes start) (sym blocks))
            (holds (own_bytes start (own_blocks share disk bs)) is.holds);
      }

  pub took_other : (disk : ℕ) (t : Tally) → w.lba / share ≢ disk → IsTallyOf share disk ls bs t → IsTallyOf share disk ls (bs ++ w ∷ []) t
  took_other disk t other is =
      let blocks = block_other disk other in
      record {
        writes = is.writes;
        reads = is.reads;
        touched = is.touched ∙ ap length (sym blocks);
        holds = subst (λ (ws : List BlockWrite). Holds256 t.hasher (own_bytes (disk * share) ws)) (sym blocks) is.holds;
      }

-- one line more was counted at most
pub counted_more : (n : ℕ) (t u : Tally) (l : Line) → u.writes ≡ t.writes + write_count l → u.reads ≡ t.reads + read_count l → t.writes + t.reads ≤ n → u.writes + u.reads ≤ n + 1
counted_more n t u (line.Write lba count tag) writes reads few = omega arith
counted_more n t u (line.Read lba count) writes reads few = omega arith
counted_more n t u line.Flush writes reads few = omega arith
counted_more n t u line.Idle writes reads few = omega arith
counted_more n t u (line.Stop after outcome) writes reads few = omega arith
counted_more n t u (line.Cut outcome) writes reads few = omega arith
counted_more n t u line.Nothing writes reads few = omega arith

-- ---- all disks

-- a line was counted of this disk
pub counted_each : (share : ℕ) (ls : List Line) (bs : List BlockWrite) (l : Line) (ts : List Tally) (i : ℕ) (any u : Tally) → IsRunnable share l → i < length ts
    → u ≡ (record (get_or ts i any) { writes = (get_or ts i any).writes + write_count l; reads = (get_or ts i any).reads + read_count l })
    → AreTalliesOf share 0 ls bs ts → AreTalliesOf share 0 (ls ++ shifted (i * share) l ∷ []) bs (slice_set ts i u)
counted_each share ls bs l ts i any u runnable within is are =
    let here : 0 + i ≡ i = omega arith in
    let was = subst (λ d. IsTallyOf share d ls bs (get_or ts i any)) here (tally_at share 0 ls bs ts i any within are) in
    tallies_set share ls (ls ++ shifted (i * share) l ∷ []) bs bs 0 ts i u
    (λ d t other so. counted_other share i ls bs l runnable d t (λ same. other (omega arith)) so)
    (subst (λ d. IsTallyOf share d (ls ++ shifted (i * share) l ∷ []) bs u) (sym here)
    (counted_own share i ls bs l runnable (get_or ts i any) u (ap (λ (t : Tally). t.writes) is) (ap (λ (t : Tally). t.reads) is) (ap (λ (t : Tally). t.touched) is) (ap (λ (t : Tally). t.hasher) is) was))
    are

pub counted_few : (n : ℕ) (l : Line) (ts : List Tally) (i : ℕ) (any u : Tally) → i < length ts
    → u ≡ (record (get_or ts i any) { writes = (get_or ts i any).writes + write_count l; reads = (get_or ts i any).reads + read_count l })
    → CountAtMost n ts → CountAtMost (n + 1) (slice_set ts i u)
counted_few n l ts i any u within is are =
    count_set n (n + 1) ts i u (omega arith) (counted_more n (get_or ts i any) u l (ap (λ (t : Tally). t.writes) is) (ap (λ (t : Tally). t.reads) is) (count_at n ts i any within are)) are

-- a block was taken for this disk
pub took_each : (share : ℕ) (ls : List Line) (bs : List BlockWrite) (w : BlockWrite) (ts : List Tally) (i : ℕ) (any u : Tally) → i < length ts → w.lba / share ≡ i
    → u.writes ≡ (get_or ts i any).writes → u.reads ≡ (get_or ts i any).reads → u.touched ≡ (get_or ts i any).touched + 1
    → ((bytes : List ℕ) → Holds256 (get_or ts i any).hasher bytes → Holds256 u.hasher (bytes ++ (to_be_bytes w64 (w.lba - i * share) ++ w.block.0)))
    → AreTalliesOf share 0 ls bs ts → AreTalliesOf share 0 ls (bs ++ w ∷ []) (slice_set ts i u)
took_each share ls bs w ts i any u within own writes reads touched holds are =
    let here : 0 + i ≡ i = omega arith in
    let was = subst (λ d. IsTallyOf share d ls bs (get_or ts i any)) here (tally_at share 0 ls bs ts i any within are) in
    tallies_set share ls ls bs (bs ++ w ∷ []) 0 ts i u
    (λ d t other so. took_other share ls bs w d t (λ same. other (sym same ∙ own ∙ sym here)) so)
    (subst (λ d. IsTallyOf share d ls (bs ++ w ∷ []) u) (sym here) (took_own share ls bs w i (get_or ts i any) u own writes reads touched holds was))
    are

pub took_few : (n : ℕ) (ts : List Tally) (i : ℕ) (any u : Tally) → i < length ts → u.writes ≡ (get_or ts i any).writes → u.reads ≡ (get_or ts i any).reads → CountAtMost n ts → CountAtMost n (slice_set ts i u)
took_few n ts i any u within writes reads are = let was = count_at n ts i any within are in count_set n n ts i u (omega arith) (omega arith) are

-- a block was taken for no disk
pub took_none : (share : ℕ) (ls : List Line) (bs : List BlockWrite) (w : BlockWrite) (ts : List Tally) → length ts ≤ w.lba / share → AreTalliesOf share 0 ls bs ts → AreTalliesOf share 0 ls (bs ++ w ∷ []) ts
took_none share ls bs w ts beyond are = tallies_same share ls ls bs (bs ++ w ∷ []) 0 ts (λ d t least most so. took_other share ls bs w d t (λ same. absurd (omega arith)) so) are

-- what both facts of a call that went well say
pub if_took : {T E : Type 0} (r : Result T E) (p q z : Type 0) → (p → q → z) → OnOk r p → OnOk r q → OnOk r z
if_took (Ok value) p q z both first next = both first next
if_took (Err e) p q z both first next = tt

-- nothing was counted
pub uncounted : (share disk : ℕ) (t : Tally) → IsUncounted t → IsTallyOf share disk [] [] t
uncounted share disk t none = record { writes = none.writes; reads = none.reads; touched = none.touched; holds = none.holds }

pub uncounted_few : (t : Tally) → IsUncounted t → t.writes + t.reads ≤ 0
uncounted_few t none = let writes = none.writes in let reads = none.reads in omega arith

-- ---- the end of each disk

range_more : (a n : ℕ) → range_with_len a (suc n) ≡ range_with_len a n ++ (a + n) ∷ []
range_more a zero = ap (λ k. k ∷ []) (let here : a ≡ a + 0 = omega arith in here)
range_more a (suc n) = ap (λ (ks : List ℕ). a ∷ ks) (range_more (a + 1) n) ∙ ap (λ k. a ∷ (range_with_len (a + 1) n ++ k ∷ [])) (let here : (a + 1) + n ≡ a + suc n = omega arith in here)

pub ends_more : (share n : ℕ) (ls : List Line) (bs : List BlockWrite) → printed_text (ends_by share (n + 1) ls bs) ≡ printed_text (ends_by share n ls bs) ++ printed_text (end_printed share n ls bs)
ends_more share n ls bs =
    let each = λ (d : ℕ). end_printed share d ls bs in
    ap (λ k. printed_text (ends_by share k ls bs)) (add-one n)
    ∙ ap (λ (ks : List ℕ). printed_text (flat_map each ks)) (range_more 0 n ∙ ap (λ k. range_with_len 0 n ++ k ∷ []) (let here : 0 + n ≡ n = omega arith in here))
    ∙ ap printed_text (flat_map-append each (range_with_len 0 n) (n ∷ []))
    ∙ flat_map-append printed_text_of (ends_by share n ls bs) (end_printed share n ls bs)

pub end_is : (share : ℕ) (ls : List Line) (bs : List BlockWrite) (ts : List Tally) (i : ℕ) (any : Tally) (end : Answer) → i < length ts
    → ((bytes : List ℕ) → Holds256 (get_or ts i any).hasher bytes → end ≡ answer.End (get_or ts i any).writes (get_or ts i any).reads (get_or ts i any).touched (sha256 bytes))
    → AreTalliesOf share 0 ls bs ts → end ≡ end_by share i ls bs
end_is share ls bs ts i any end within says are =
    let here : 0 + i ≡ i = omega arith in
    let so = subst (λ d. IsTallyOf share d ls bs (get_or ts i any)) here (tally_at share 0 ls bs ts i any within are) in
    let digest = sha256 (own_bytes (i * share) (own_blocks share i bs)) in
    says (own_bytes (i * share) (own_blocks share i bs)) so.holds
    ∙ ap (λ n. answer.End n (get_or ts i any).reads (get_or ts i any).touched digest) so.writes
    ∙ ap (λ n. answer.End (sum_by write_count (own_given share i ls)) n (get_or ts i any).touched digest) so.reads
    ∙ ap (λ n. answer.End (sum_by write_count (own_given share i ls)) (sum_by read_count (own_given share i ls)) n digest) so.touched

pub put_both : (out mid new : List ℕ) (share disk : ℕ) (ls : List Line) (bs : List BlockWrite) (end : Answer) → mid ≡ out ++ printed_text_of (Chose disk) → new ≡ mid ++ text_of end → end ≡ end_by share disk ls bs → new ≡ out ++ printed_text (end_printed share disk ls bs)
put_both out mid new share disk ls bs end first next is =
    next
    ∙ ap (λ (xs : List ℕ). xs ++ text_of end) first
    ∙ append_assoc out (printed_text_of (Chose disk)) (text_of end)
    ∙ ap (λ (e : Answer). out ++ (printed_text_of (Chose disk) ++ text_of e)) is
    ∙ ap (λ (xs : List ℕ). out ++ (printed_text_of (Chose disk) ++ xs)) (sym (append-nil (text_of (end_by share disk ls bs))))

-- ---- a line that does nothing

nothing_counts : (f : Line → ℕ) (share disk : ℕ) (ls : List Line) → f line.Nothing ≡ 0 → sum_by f (own_given share disk (ls ++ line.Nothing ∷ [])) ≡ sum_by f (own_given share disk ls)
nothing_counts f share disk ls none =
    let sum = own_sum f share disk ls line.Nothing in
    let one : sum_by f (own_given share disk (line.Nothing ∷ [])) ≡ f line.Nothing = (let zero_first : 0 + f line.Nothing ≡ f line.Nothing = omega arith in zero_first) in
    omega arith

pub counted_nothing : (share : ℕ) (ls : List Line) (bs : List BlockWrite) (ts : List Tally) → AreTalliesOf share 0 ls bs ts → AreTalliesOf share 0 (ls ++ line.Nothing ∷ []) bs ts
counted_nothing share ls bs ts are = tallies_same share ls (ls ++ line.Nothing ∷ []) bs bs 0 ts
    (λ d t least most so. record {
      writes = so.writes ∙ sym (nothing_counts write_count share d ls refl);
      reads = so.reads ∙ sym (nothing_counts read_count share d ls refl);
      touched = so.touched;
      holds = so.holds;
    }) are
