-- A write line that was cut fits with the numbers that reading back finds, and the disk is the plain disk after it.
use Rattle.std.proofs.Common.{◌≡◌, ◌≢◌, ◌⊎◌, refl, ℕ, zero, suc, ◌+◌, ◌-◌, ◌<◌, ◌≤◌, ◌==◌, arith, inl, inr, false, cond, List, ◌∷◌, ◌++◌, length, drop, ap, sym, ◌∙◌, subst}
use Rattle.std.proofs.lemmas.Bool.Decides.{nat_tests}
use Rattle.ft_base.specs.PlainDisk.{BlockWrite, PlainDisk}
use Rattle.ft_base.specs.Pattern.{pat}
use Rattle.ft_base.specs.declared.told.Ack.TheVariants as ack_kind
use Rattle.trace_model.specs.declared.line.Line.TheVariants as line
use Rattle.trace_model.specs.declared.ran.Ran.{Ran}
use Rattle.trace_model.specs.Run.{disk_after, disk_without, disk_written, with_blocks, writes_after}
use Rattle.trace_model.specs.Fits.{FitsNext, WasNew, armed_after, kept_since_flush}
use Rattle.trace_model.specs.SoFar.{as_ran}
use Rattle.trace_model.specs.Lost.{IsLeastLost}
use Rattle.trace_model.proofs.LostLemmas.{drop_front, first_is_new, least_is}

-- ---- the block writes of a request, the newest first

pub length_blocks : (lba tag n : ℕ) (ws : List BlockWrite) → length (with_blocks lba tag n ws) ≡ n + length ws
length_blocks lba tag zero ws = omega arith
length_blocks lba tag (suc n) ws = let rest = length_blocks lba tag n ws in omega arith

blocks_over : (lba tag n : ℕ) (ws older : List BlockWrite) → with_blocks lba tag n ws ++ older ≡ with_blocks lba tag n (ws ++ older)
blocks_over lba tag zero ws older = refl
blocks_over lba tag (suc n) ws older = ap (λ (l : List BlockWrite). (record { lba = lba + n; block = pat (lba + n) tag }) ∷ l) (blocks_over lba tag n ws older)

-- without the newest, some of the request are left, or none are and some before it are gone
pub drop_own : (x lba tag n : ℕ) (ws : List BlockWrite) → x ≤ n → drop x (with_blocks lba tag n ws) ≡ with_blocks lba tag (n - x) ws
drop_own zero lba tag n ws within = let all : n ≡ n - 0 = omega arith in ap (λ k. with_blocks lba tag k ws) all
drop_own (suc x) lba tag zero ws within = absurd (omega arith)
drop_own (suc x) lba tag (suc n) ws within = let same : n - x ≡ suc n - suc x = omega arith in drop_own x lba tag n ws (omega arith) ∙ ap (λ k. with_blocks lba tag k ws) same

pub drop_past : (x lba tag n : ℕ) (ws : List BlockWrite) → n ≤ x → drop x (with_blocks lba tag n ws) ≡ drop (x - n) ws
drop_past x lba tag zero ws past = let all : x ≡ x - 0 = omega arith in ap (λ k. drop k ws) all
drop_past zero lba tag (suc n) ws past = absurd (omega arith)
drop_past (suc x) lba tag (suc n) ws past = let same : x - n ≡ suc x - suc n = omega arith in drop_past x lba tag n ws (omega arith) ∙ ap (λ k. drop k ws) same

-- they are not to the next address
blocks_behind : (lba tag j n : ℕ) (ws : List BlockWrite) → j ≤ n → disk_written (with_blocks lba tag j ws) (lba + n) ≡ disk_written ws (lba + n)
blocks_behind lba tag zero n ws le = refl
blocks_behind lba tag (suc j) n ws le =
    let other : (lba + j == lba + n) ≡ false = grind (arith, nat_tests) in
    ap (λ b. cond b (pat (lba + j) tag) (disk_written (with_blocks lba tag j ws) (lba + n))) other ∙ blocks_behind lba tag j n ws (omega arith)

-- ---- a write line that was cut

module _ (lba count tag cuts : ℕ) (earlier : List Ran) (recent older : List BlockWrite) (disk : PlainDisk) (truth found : ℕ)
    (some : 1 ≤ cuts) (armed : cuts ≤ length (armed_after earlier))
    (all : writes_after earlier ≡ recent ++ older) (few : length recent ≤ 126) (since : length recent ≤ kept_since_flush earlier)
    (within : truth ≤ count + length recent)
    (is : (a : ℕ) → disk a ≡ disk_written (drop truth (with_blocks lba tag count recent) ++ older) a)
    (least : IsLeastLost (with_blocks lba tag count recent) disk found) where
  abbrev pub kept : ℕ
  kept = count - found

  abbrev pub lost : ℕ
  lost = found - count

  seen : (found ≤ truth) × ((a : ℕ) → disk a ≡ disk_written (drop found (with_blocks lba tag count recent) ++ older) a)
  seen = least_is (with_blocks lba tag count recent) older disk truth found is least

  -- the block writes that are left
  left_of : (x : ℕ) → x ≤ count + length recent → drop x (with_blocks lba tag count recent) ++ older ≡ with_blocks lba tag (count - x) (drop (x - count) (recent ++ older))
  left_of x le = by (order x count)
    where
      order : (x y : ℕ) → (x ≤ y) ⊎ (y ≤ x)
      order zero y = inl (omega arith)
      order (suc x) zero = inr (omega arith)
      order (suc x) (suc y) = elim (order x y) [ inl l ↦ inl (omega arith) | inr l ↦ inr (omega arith) ]

      by : (x ≤ count) ⊎ (count ≤ x) → drop x (with_blocks lba tag count recent) ++ older ≡ with_blocks lba tag (count - x) (drop (x - count) (recent ++ older))
      by (inl own) =
          let none : x - count ≡ 0 = omega arith in
          ap (λ (l : List BlockWrite). l ++ older) (drop_own x lba tag count recent own)
          ∙ blocks_over lba tag (count - x) recent older
          ∙ ap (λ n. with_blocks lba tag (count - x) (drop n (recent ++ older))) (sym none)
      by (inr past) =
          let none : count - x ≡ 0 = omega arith in
          ap (λ (l : List BlockWrite). l ++ older) (drop_past x lba tag count recent past)
          ∙ sym (drop_front (x - count) recent older (omega arith))
          ∙ ap (λ n. with_blocks lba tag n (drop (x - count) (recent ++ older))) (sym none)

  -- the disk is the plain disk after this line
  pub disk_is : (a : ℕ) → disk a ≡ disk_after (as_ran (line.Write lba count tag) cuts kept lost ∷ earlier) a
  disk_is a =
      let few_found : found ≤ count + length recent = let le = seen.0 in omega arith in
      seen.1 a ∙ ap (λ (l : List BlockWrite). disk_written l a) (left_of found few_found ∙ ap (λ (l : List BlockWrite). with_blocks lba tag kept (drop lost l)) (sym all))

  -- the first of the lost block writes was new
  new_first : 1 ≤ found → WasNew (with_blocks lba tag (count - (found - 1)) (drop ((found - 1) - count) (writes_after earlier)))
  new_first one =
      let le = seen.0 in
      let length_is = length_blocks lba tag count recent in
      let before : suc (found - 1) ≡ found = omega arith in
      subst WasNew
      (blocks_apart ∙ left_of (found - 1) (omega arith) ∙ ap (λ (l : List BlockWrite). with_blocks lba tag (count - (found - 1)) (drop ((found - 1) - count) l)) (sym all))
      (first_is_new (with_blocks lba tag count recent) older disk (found - 1)
      (λ a. seen.1 a ∙ ap (λ n. disk_written (drop n (with_blocks lba tag count recent) ++ older) a) (sym before))
      (omega arith) (subst (IsLeastLost (with_blocks lba tag count recent) disk) (sym before) least))
    where
      blocks_apart : drop (found - 1) (with_blocks lba tag count recent ++ older) ≡ drop (found - 1) (with_blocks lba tag count recent) ++ older
      blocks_apart = let le = seen.0 in let length_is = length_blocks lba tag count recent in drop_front (found - 1) (with_blocks lba tag count recent) older (omega arith)

  -- no block of the request counts if some before it were lost; else the first that doesn't count was not there
  first_old : lost ≡ 0 → kept < count → disk_without lost earlier (lba + kept) ≢ pat (lba + kept) tag
  first_old none less =
      let one : 1 ≤ found = omega arith in
      let more : count - (found - 1) ≡ suc kept = omega arith in
      let before : (found - 1) - count ≡ 0 = omega arith in
      let new : WasNew (with_blocks lba tag (suc kept) (writes_after earlier)) =
      subst WasNew (ap (λ n. with_blocks lba tag n (drop ((found - 1) - count) (writes_after earlier))) more ∙ ap (λ n. with_blocks lba tag (suc kept) (drop n (writes_after earlier))) before) (new_first one) in
      λ had. new (blocks_behind lba tag kept kept (writes_after earlier) (omega arith) ∙ ap (λ n. disk_without n earlier (lba + kept)) (sym none) ∙ had)

  first_lost : 1 ≤ lost → WasNew (drop (lost - 1) (writes_after earlier))
  first_lost one =
      let some_found : 1 ≤ found = omega arith in
      let own : count - (found - 1) ≡ 0 = omega arith in
      let before : (found - 1) - count ≡ lost - 1 = omega arith in
      subst WasNew (ap (λ n. with_blocks lba tag n (drop ((found - 1) - count) (writes_after earlier))) own ∙ ap (λ n. drop n (writes_after earlier)) before) (new_first some_found)

  pub fits_is : FitsNext ack_kind.Flush (as_ran (line.Write lba count tag) cuts kept lost) earlier
  fits_is =
      let le = seen.0 in
      record {
        few = armed;
        allowed = λ uncut. absurd (omega arith);
        line = record { whole = λ uncut. absurd (omega arith); most = omega arith; first_old = first_old; lost_all = λ one. omega arith };
        cut = λ other uncut. absurd (omega arith);
        losses = record { none = λ at_write. absurd (cc); few = omega arith; since = omega arith; first = first_lost };
      }
