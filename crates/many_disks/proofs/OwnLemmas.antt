-- What came of each disk alone: its lines, its addresses and its blocks.
use Rattle.std.proofs.Common.{◌≡◌, ◌≤◌, ◌<◌, ◌+◌, ◌-◌, ◌*◌, ◌/◌, ◌++◌, ◌∷◌, ◌==◌, [], ℕ, zero, suc, Bool, true, false, if◌then◌else◌, cond, inl, inr, List, length, filter, flat_map, sum_by, refl, sym, ap, ◌∙◌, subst, arith}
use Rattle.std.proofs.lemmas.Bool.{cases_Bool, cases_lt}
use Rattle.std.proofs.lemmas.List.{append-nil, length-map}
use Rattle.std.proofs.lemmas.List.Sums.{sum_by-append}
use Rattle.std.specs.BTreeSet.{insert_key}
use Rattle.std.specs.Cmp.{nat_cmp_is}
use Rattle.std.specs.Int.{w64, to_be_bytes}
use Rattle.std.specs.List.{range_with_len}
use Rattle.std.specs.Ordering.{match_ordering, nat_cmp}
use Rattle.std.specs.declared.cmp.Ordering.{Ordering}
use Rattle.std.specs.declared.cmp.Ordering.TheVariants.{Equal, Greater, Less}
use Rattle.sha2.specs.Sha256.{sha256}
use Rattle.ft_base.specs.PlainDisk.{BlockWrite, PlainDisk}
use Rattle.trace_model.specs.declared.answer.Answer.{Answer}
use Rattle.trace_model.specs.declared.answer.Answer.TheVariants as answer
use Rattle.trace_model.specs.declared.line.Line.{Line}
use Rattle.trace_model.specs.declared.line.Line.TheVariants as line
use Rattle.trace_model.specs.declared.ran.Ran.{Ran}
use Rattle.trace_model.specs.Run.{disk_without, lines_of, read_count, reads_in, touched_after, touching, with_each, write_count, writes_in}
use Rattle.trace_replay.specs.Events.{blocks_of}
use Rattle.many_disks.specs.Tally.{AreOnOneDisk, IsOnOneDisk, end_by, ends_by, own_blocks, own_bytes, own_given}
use Rattle.many_disks.specs.Told.{Printed, ends_printed, is_beside, own_end, own_lines}
use Rattle.many_disks.specs.Told.Printed.{Chose, Told}

-- ---- numbers in order

insert_below : (x k : ℕ) (xs : List ℕ) → k < x → insert_key nat_cmp (x ∷ xs) k ≡ k ∷ x ∷ xs
insert_below x k xs less = ap (λ (o : Ordering). match_ordering o (k ∷ x ∷ xs) (x ∷ xs) (x ∷ insert_key nat_cmp xs k)) (sym (nat_cmp_is k x Less less))

insert_same : (x k : ℕ) (xs : List ℕ) → k ≡ x → insert_key nat_cmp (x ∷ xs) k ≡ x ∷ xs
insert_same x k xs same = ap (λ (o : Ordering). match_ordering o (k ∷ x ∷ xs) (x ∷ xs) (x ∷ insert_key nat_cmp xs k)) (sym (nat_cmp_is k x Equal same))

insert_above : (x k : ℕ) (xs : List ℕ) → x < k → insert_key nat_cmp (x ∷ xs) k ≡ x ∷ insert_key nat_cmp xs k
insert_above x k xs more = ap (λ (o : Ordering). match_ordering o (k ∷ x ∷ xs) (x ∷ xs) (x ∷ insert_key nat_cmp xs k)) (sym (nat_cmp_is k x Greater more))

-- numbers from this one on, each above the one before
abbrev Ascends : ℕ → List ℕ → Type 0
Ascends low [] = Unit {0}
Ascends low (x ∷ xs) = (low ≤ x) × Ascends (x + 1) xs

ascends_lower : (low high : ℕ) (xs : List ℕ) → low ≤ high → Ascends high xs → Ascends low xs
ascends_lower low high [] le above = tt
ascends_lower low high (x ∷ xs) le above = (let first = above.0 in omega arith, above.1)

ascends_insert : (low k : ℕ) (xs : List ℕ) → low ≤ k → Ascends low xs → Ascends low (insert_key nat_cmp xs k)
ascends_insert low k [] le above = (le, tt)
ascends_insert low k (x ∷ xs) le above = elim (cases_lt k x) [
  | inl less ↦ subst (Ascends low) (sym (insert_below x k xs less)) (le, (omega arith, above.1))
  | inr at_least ↦ elim (cases_lt x k) [
    | inl more ↦ subst (Ascends low) (sym (insert_above x k xs more)) (above.0, ascends_insert (x + 1) k xs (omega arith) above.1)
    | inr at_most ↦ subst (Ascends low) (sym (insert_same x k xs (omega arith))) above
  ]
]

-- a number below all others is the first
insert_first : (k : ℕ) (xs : List ℕ) → Ascends (k + 1) xs → insert_key nat_cmp xs k ≡ k ∷ xs
insert_first k [] above = refl
insert_first k (x ∷ xs) above = let less = above.0 in insert_below x k xs (omega arith)

ascends_each : (lba n : ℕ) (xs : List ℕ) → Ascends 0 xs → Ascends 0 (with_each lba n xs)
ascends_each lba zero xs above = above
ascends_each lba (suc n) xs above = ascends_insert 0 (lba + n) (with_each lba n xs) (omega arith) (ascends_each lba n xs above)

ascends_touching : (l : Line) (xs : List ℕ) → Ascends 0 xs → Ascends 0 (touching l xs)
ascends_touching (line.Write lba count tag) xs above = ascends_each lba count xs above
ascends_touching (line.Read lba count) xs above = ascends_each lba count xs above
ascends_touching line.Flush xs above = above
ascends_touching line.Idle xs above = above
ascends_touching (line.Stop after outcome) xs above = above
ascends_touching (line.Cut outcome) xs above = above
ascends_touching line.Nothing xs above = above

ascends_run : (run : List Ran) → Ascends 0 (touched_after run)
ascends_run [] = tt
ascends_run (ran ∷ earlier) = ascends_touching ran.line (touched_after earlier) (ascends_run earlier)

-- ---- numbers that pass a test

module _ (p : ℕ → Bool) where
  passes : (x : ℕ) (xs : List ℕ) → p x ≡ true → filter p (x ∷ xs) ≡ x ∷ filter p xs
  passes x xs is = ap (λ (t : Bool). cond t (x ∷ filter p xs) (filter p xs)) is

  fails : (x : ℕ) (xs : List ℕ) → p x ≡ false → filter p (x ∷ xs) ≡ filter p xs
  fails x xs is = ap (λ (t : Bool). cond t (x ∷ filter p xs) (filter p xs)) is

  ascends_filter : (low : ℕ) (xs : List ℕ) → Ascends low xs → Ascends low (filter p xs)
  ascends_filter low [] above = tt
  ascends_filter low (x ∷ xs) above = elim (cases_Bool (p x)) [
    | inl is ↦ subst (Ascends low) (sym (passes x xs is)) (above.0, ascends_filter (x + 1) xs above.1)
    | inr is ↦ subst (Ascends low) (sym (fails x xs is)) (let first = above.0 in ascends_lower low (x + 1) (filter p xs) (omega arith) (ascends_filter (x + 1) xs above.1))
  ]

  filter-insert : (low k : ℕ) (xs : List ℕ) → p k ≡ true → Ascends low xs → filter p (insert_key nat_cmp xs k) ≡ insert_key nat_cmp (filter p xs) k
  filter-insert low k [] is above = passes k [] is
  filter-insert low k (x ∷ xs) is above = elim (cases_lt k x) [
    | inl less ↦
        ap (filter p) (insert_below x k xs less)
        ∙ passes k (x ∷ xs) is
        ∙ sym (insert_first k (filter p (x ∷ xs)) (ascends_filter (k + 1) (x ∷ xs) (omega arith, above.1)))
    | inr at_least ↦ elim (cases_lt x k) [
      | inl more ↦ elim (cases_Bool (p x)) [
        | inl too ↦
            ap (filter p) (insert_above x k xs more)
            ∙ passes x (insert_key nat_cmp xs k) too
            ∙ ap (λ (ys : List ℕ). x ∷ ys) (filter-insert (x + 1) k xs is above.1)
            ∙ sym (insert_above x k (filter p xs) more)
            ∙ ap (λ (ys : List ℕ). insert_key nat_cmp ys k) (sym (passes x xs too))
        | inr not ↦
            ap (filter p) (insert_above x k xs more)
            ∙ fails x (insert_key nat_cmp xs k) not
            ∙ filter-insert (x + 1) k xs is above.1
            ∙ ap (λ (ys : List ℕ). insert_key nat_cmp ys k) (sym (fails x xs not))
      ]
      | inr at_most ↦
          let same : k ≡ x = omega arith in
          let too : p x ≡ true = sym (ap p same) ∙ is in
          ap (filter p) (insert_same x k xs same)
          ∙ passes x xs too
          ∙ sym (insert_same x k (filter p xs) same)
          ∙ ap (λ (ys : List ℕ). insert_key nat_cmp ys k) (sym (passes x xs too))
    ]
  ]

  filter-insert_other : (k : ℕ) (xs : List ℕ) → p k ≡ false → filter p (insert_key nat_cmp xs k) ≡ filter p xs
  filter-insert_other k [] is = fails k [] is
  filter-insert_other k (x ∷ xs) is = elim (cases_lt k x) [
    | inl less ↦ ap (filter p) (insert_below x k xs less) ∙ fails k (x ∷ xs) is
    | inr at_least ↦ elim (cases_lt x k) [
      | inl more ↦
          ap (filter p) (insert_above x k xs more)
          ∙ ap (λ (ys : List ℕ). cond (p x) (x ∷ ys) ys) (filter-insert_other k xs is)
      | inr at_most ↦ ap (filter p) (insert_same x k xs (omega arith))
    ]
  ]

  filter-each : (lba n : ℕ) (xs : List ℕ) → ((j : ℕ) → j + 1 ≤ n → p (lba + j) ≡ true) → Ascends 0 xs → filter p (with_each lba n xs) ≡ with_each lba n (filter p xs)
  filter-each lba zero xs all above = refl
  filter-each lba (suc n) xs all above =
      filter-insert 0 (lba + n) (with_each lba n xs) (all n (omega arith)) (ascends_each lba n xs above)
      ∙ ap (λ (ys : List ℕ). insert_key nat_cmp ys (lba + n)) (filter-each lba n xs (λ j less. all j (omega arith)) above)

  filter-each_other : (lba n : ℕ) (xs : List ℕ) → ((j : ℕ) → j + 1 ≤ n → p (lba + j) ≡ false) → filter p (with_each lba n xs) ≡ filter p xs
  filter-each_other lba zero xs none = refl
  filter-each_other lba (suc n) xs none =
      filter-insert_other (lba + n) (with_each lba n xs) (none n (omega arith))
      ∙ filter-each_other lba n xs (λ j less. none j (omega arith))

-- ---- the lines of one disk

pub on_one-append : (share : ℕ) (xs ys : List Line) → AreOnOneDisk share (xs ++ ys) → AreOnOneDisk share xs × AreOnOneDisk share ys
on_one-append share [] ys are = (tt, are)
on_one-append share (x ∷ xs) ys are = let rest = on_one-append share xs ys are.1 in ((are.0, rest.0), rest.1)

pub on_one-then : (share : ℕ) (xs ys : List Line) → AreOnOneDisk share xs → AreOnOneDisk share ys → AreOnOneDisk share (xs ++ ys)
on_one-then share [] ys first next = next
on_one-then share (x ∷ xs) ys first next = (first.0, on_one-then share xs ys first.1 next)

module _ (share disk : ℕ) where
  given_beside : (x : Line) (xs : List Line) → is_beside share disk x ≡ true → own_given share disk (x ∷ xs) ≡ own_given share disk xs
  given_beside x xs is = ap (λ (t : Bool). if t then own_given share disk xs else x ∷ own_given share disk xs) is

  given_own : (x : Line) (xs : List Line) → is_beside share disk x ≡ false → own_given share disk (x ∷ xs) ≡ x ∷ own_given share disk xs
  given_own x xs is = ap (λ (t : Bool). if t then own_given share disk xs else x ∷ own_given share disk xs) is

  pub own_given-append : (xs ys : List Line) → own_given share disk (xs ++ ys) ≡ own_given share disk xs ++ own_given share disk ys
  own_given-append [] ys = refl
  own_given-append (x ∷ xs) ys = elim (cases_Bool (is_beside share disk x)) [
    | inl is ↦ given_beside x (xs ++ ys) is ∙ own_given-append xs ys ∙ ap (λ (ls : List Line). ls ++ own_given share disk ys) (sym (given_beside x xs is))
    | inr is ↦ given_own x (xs ++ ys) is ∙ ap (λ (ls : List Line). x ∷ ls) (own_given-append xs ys) ∙ ap (λ (ls : List Line). ls ++ own_given share disk ys) (sym (given_own x xs is))
  ]

  lines_beside : (ran : Ran) (run : List Ran) → is_beside share disk ran.line ≡ true → own_lines share disk (ran ∷ run) ≡ own_lines share disk run
  lines_beside ran run is = ap (λ (t : Bool). if t then own_lines share disk run else ran ∷ own_lines share disk run) is

  lines_own : (ran : Ran) (run : List Ran) → is_beside share disk ran.line ≡ false → own_lines share disk (ran ∷ run) ≡ ran ∷ own_lines share disk run
  lines_own ran run is = ap (λ (t : Bool). if t then own_lines share disk run else ran ∷ own_lines share disk run) is

  own_lines_of : (run : List Ran) → own_given share disk (lines_of run) ≡ lines_of (own_lines share disk run)
  own_lines_of [] = refl
  own_lines_of (ran ∷ earlier) = elim (cases_Bool (is_beside share disk ran.line)) [
    | inl is ↦
        own_given-append (lines_of earlier) (ran.line ∷ [])
        ∙ ap (λ (ls : List Line). own_given share disk (lines_of earlier) ++ ls) (given_beside ran.line [] is)
        ∙ append-nil (own_given share disk (lines_of earlier))
        ∙ own_lines_of earlier
        ∙ ap lines_of (sym (lines_beside ran earlier is))
    | inr is ↦
        own_given-append (lines_of earlier) (ran.line ∷ [])
        ∙ ap (λ (ls : List Line). own_given share disk (lines_of earlier) ++ ls) (given_own ran.line [] is)
        ∙ ap (λ (ls : List Line). ls ++ ran.line ∷ []) (own_lines_of earlier)
        ∙ ap lines_of (sym (lines_own ran earlier is))
  ]

-- ---- their numbers

sum-one : (f : Line → ℕ) (xs : List Line) (x : Line) → sum_by f (xs ++ x ∷ []) ≡ sum_by f xs + f x
sum-one f xs x = sum_by-append f xs (x ∷ []) ∙ ap (λ n. sum_by f xs + n) (let one : 0 + f x ≡ f x = omega arith in one)

writes_counted : (run : List Ran) → sum_by write_count (lines_of run) ≡ writes_in run
writes_counted [] = refl
writes_counted (ran ∷ earlier) = sum-one write_count (lines_of earlier) ran.line ∙ ap (λ n. n + write_count ran.line) (writes_counted earlier)

reads_counted : (run : List Ran) → sum_by read_count (lines_of run) ≡ reads_in run
reads_counted [] = refl
reads_counted (ran ∷ earlier) = sum-one read_count (lines_of earlier) ran.line ∙ ap (λ n. n + read_count ran.line) (reads_counted earlier)

-- ---- their addresses

module _ (share disk : ℕ) where
  abbrev lies_here : ℕ → Bool
  lies_here a = (a / share) == disk

  tested : (t : Bool) → (if t then false else true) ≡ false → t ≡ true
  tested true is = refl
  tested false is = absurd (cc)

  tested_not : (t : Bool) → (if t then false else true) ≡ true → t ≡ false
  tested_not true is = absurd (cc)
  tested_not false is = refl

  line_here : (l : Line) (xs : List ℕ) → IsOnOneDisk share l → is_beside share disk l ≡ false → Ascends 0 xs → filter lies_here (touching l xs) ≡ touching l (filter lies_here xs)
  line_here (line.Write lba count tag) xs on is above = filter-each lies_here lba count xs (λ j less. ap (λ d. d == disk) (on j less) ∙ tested (lies_here lba) is) above
  line_here (line.Read lba count) xs on is above = filter-each lies_here lba count xs (λ j less. ap (λ d. d == disk) (on j less) ∙ tested (lies_here lba) is) above
  line_here line.Flush xs on is above = refl
  line_here line.Idle xs on is above = refl
  line_here (line.Stop after outcome) xs on is above = refl
  line_here (line.Cut outcome) xs on is above = refl
  line_here line.Nothing xs on is above = refl

  line_beside : (l : Line) (xs : List ℕ) → IsOnOneDisk share l → is_beside share disk l ≡ true → filter lies_here (touching l xs) ≡ filter lies_here xs
  line_beside (line.Write lba count tag) xs on is = filter-each_other lies_here lba count xs (λ j less. ap (λ d. d == disk) (on j less) ∙ tested_not (lies_here lba) is)
  line_beside (line.Read lba count) xs on is = filter-each_other lies_here lba count xs (λ j less. ap (λ d. d == disk) (on j less) ∙ tested_not (lies_here lba) is)
  line_beside line.Flush xs on is = absurd (cc)
  line_beside line.Idle xs on is = absurd (cc)
  line_beside (line.Stop after outcome) xs on is = absurd (cc)
  line_beside (line.Cut outcome) xs on is = absurd (cc)
  line_beside line.Nothing xs on is = absurd (cc)

  own_touched : (run : List Ran) → AreOnOneDisk share (lines_of run) → filter lies_here (touched_after run) ≡ touched_after (own_lines share disk run)
  own_touched [] on = refl
  own_touched (ran ∷ earlier) on =
      let both = on_one-append share (lines_of earlier) (ran.line ∷ []) on in
      elim (cases_Bool (is_beside share disk ran.line)) [
        | inl is ↦ line_beside ran.line (touched_after earlier) both.1.0 is ∙ own_touched earlier both.0 ∙ ap touched_after (sym (lines_beside share disk ran earlier is))
        | inr is ↦ line_here ran.line (touched_after earlier) both.1.0 is (ascends_run earlier) ∙ ap (touching ran.line) (own_touched earlier both.0) ∙ ap touched_after (sym (lines_own share disk ran earlier is))
      ]

  -- ---- their blocks

  own_blocks-of : (d : PlainDisk) (xs : List ℕ) → own_blocks share disk (blocks_of d xs) ≡ blocks_of d (filter lies_here xs)
  own_blocks-of d [] = refl
  own_blocks-of d (x ∷ xs) =
      let w : BlockWrite = record { lba = x; block = d x } in
      elim (cases_Bool (lies_here x)) [
        | inl is ↦ ap (λ (t : Bool). cond t (w ∷ own_blocks share disk (blocks_of d xs)) (own_blocks share disk (blocks_of d xs))) is ∙ ap (λ (ws : List BlockWrite). w ∷ ws) (own_blocks-of d xs) ∙ ap (blocks_of d) (sym (passes lies_here x xs is))
        | inr is ↦ ap (λ (t : Bool). cond t (w ∷ own_blocks share disk (blocks_of d xs)) (own_blocks share disk (blocks_of d xs))) is ∙ own_blocks-of d xs ∙ ap (blocks_of d) (sym (fails lies_here x xs is))
      ]

own_bytes-of : (start : ℕ) (d : PlainDisk) (xs : List ℕ) → own_bytes start (blocks_of d xs) ≡ flat_map (λ a. to_be_bytes w64 (a - start) ++ (d a).0) xs
own_bytes-of start d [] = refl
own_bytes-of start d (x ∷ xs) = ap (λ (bs : List ℕ). (to_be_bytes w64 (x - start) ++ (d x).0) ++ bs) (own_bytes-of start d xs)

-- ---- the end of each disk

module _ (share lost : ℕ) (run : List Ran) (on : AreOnOneDisk share (lines_of run)) where
  end_here : (disk : ℕ) → end_by share disk (lines_of run) (blocks_of (disk_without lost run) (touched_after run)) ≡ own_end (disk * share) (own_lines share disk run) (disk_without lost run)
  end_here disk =
      let d = disk_without lost run in
      let own = own_lines share disk run in
      let start = disk * share in
      let lines = own_lines_of share disk run in
      let blocks : own_blocks share disk (blocks_of d (touched_after run)) ≡ blocks_of d (touched_after own) = own_blocks-of share disk d (touched_after run) ∙ ap (blocks_of d) (own_touched share disk run on) in
      ap (λ (ls : List Line). answer.End (sum_by write_count ls) (sum_by read_count ls) (length (own_blocks share disk (blocks_of d (touched_after run)))) (sha256 (own_bytes start (own_blocks share disk (blocks_of d (touched_after run)))))) lines
      ∙ ap (λ (ws : List BlockWrite). answer.End (sum_by write_count (lines_of own)) (sum_by read_count (lines_of own)) (length ws) (sha256 (own_bytes start ws))) blocks
      ∙ ap (λ n. answer.End n (sum_by read_count (lines_of own)) (length (blocks_of d (touched_after own))) (sha256 (own_bytes start (blocks_of d (touched_after own))))) (writes_counted own)
      ∙ ap (λ n. answer.End (writes_in own) n (length (blocks_of d (touched_after own))) (sha256 (own_bytes start (blocks_of d (touched_after own))))) (reads_counted own)
      ∙ ap (λ n. answer.End (writes_in own) (reads_in own) n (sha256 (own_bytes start (blocks_of d (touched_after own))))) (length-map (touched_after own) (λ a. record { lba = a; block = d a }))
      ∙ ap (λ (bs : List ℕ). answer.End (writes_in own) (reads_in own) (length (touched_after own)) (sha256 bs)) (own_bytes-of start d (touched_after own))

  ends_each : (numbers : List ℕ) → flat_map (λ disk. Chose disk ∷ Told (end_by share disk (lines_of run) (blocks_of (disk_without lost run) (touched_after run))) ∷ []) numbers
      ≡ flat_map (λ disk. Chose disk ∷ Told (own_end (disk * share) (own_lines share disk run) (disk_without lost run)) ∷ []) numbers
  ends_each [] = refl
  ends_each (n ∷ numbers) =
      ap (λ (e : Answer). Chose n ∷ Told e ∷ flat_map (λ disk. Chose disk ∷ Told (end_by share disk (lines_of run) (blocks_of (disk_without lost run) (touched_after run))) ∷ []) numbers) (end_here n)
      ∙ ap (λ (ps : List Printed). Chose n ∷ Told (own_end (n * share) (own_lines share n run) (disk_without lost run)) ∷ ps) (ends_each numbers)

  pub ends_by-run : (disks : ℕ) → ends_by share disks (lines_of run) (blocks_of (disk_without lost run) (touched_after run)) ≡ ends_printed share disks lost run
  ends_by-run disks = ends_each (range_with_len 0 disks)
