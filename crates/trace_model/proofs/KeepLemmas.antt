-- The block writes that a plain program keeps, one by one.
use Rattle.std.proofs.Common.{◌≡◌, ◌≢◌, ◌↔◌, not, refl, ℕ, ◌+◌, ◌-◌, ◌<◌, ◌≤◌, ◌==◌, arith, Bool, true, false, cond, ne_eqb, List, [], ◌∷◌, length, map, get_or, drop, ap, sym, subst, ◌∙◌}
use Rattle.std.proofs.lemmas.List.{drop-drop, drop-map, drop_all, drop_more}
use Rattle.std.specs.Bool.{IsTrue}
use Rattle.std.proofs.lemmas.Bool.{false≢true}
use Rattle.std.proofs.lemmas.Bool.Decides.{nat_tests}
use Rattle.ft_base.specs.Contents.{zero_block}
use Rattle.ft_base.specs.Pattern.{pat}
use Rattle.ft_base.specs.PlainDisk.{BlockWrite}
use Rattle.ft_base.specs.declared.block.Block.{Block}
use Rattle.trace_model.specs.declared.writes.PatternWrite.{PatternWrite}
use Rattle.trace_model.specs.Fits.{WasNew}
use Rattle.trace_model.specs.Plain.{block_write}
use Rattle.trace_model.specs.Run.{disk_written}

-- one more of the newest is gone
pub lost-more : (old now before : List PatternWrite) (i : ℕ) → map block_write before ≡ drop i (map block_write old) → now ≡ drop 1 before → map block_write now ≡ drop (i + 1) (map block_write old)
lost-more old now before i so_far popped =
    ap (map block_write) popped
    ∙ sym (drop-map block_write 1 before)
    ∙ ap (drop 1) so_far
    ∙ drop-drop 1 i (map block_write old)

none_left : (n : ℕ) (ws : List BlockWrite) → length ws ≡ 0 → drop n ws ≡ []
none_left n ws none = drop_all n ws (omega arith)

-- the read goes on behind a write to another address
pub read-more : (ws : List PatternWrite) (at a : ℕ) (any : PatternWrite) → at < length ws → (get_or ws at any).lba ≢ a → disk_written (drop at (map block_write ws)) a ≡ disk_written (drop (at + 1) (map block_write ws)) a
read-more ws at a any within other =
    let here = get_or ws at any in
    ap (λ (l : List BlockWrite). disk_written l a) (drop-map block_write at ws ∙ ap (map block_write) (drop_more ws at any within))
    ∙ ap (λ b. cond b (pat here.lba here.tag) (disk_written (map block_write (drop (at + 1) ws)) a)) (ne_eqb here.lba a other)
    ∙ ap (λ (l : List BlockWrite). disk_written l a) (sym (drop-map block_write (at + 1) ws))

-- and ends at the newest one to this address
pub read-here : (ws : List PatternWrite) (at a : ℕ) (any : PatternWrite) (block : Block) → at < length ws → (get_or ws at any).lba ≡ a → block ≡ pat (get_or ws at any).lba (get_or ws at any).tag → disk_written (drop at (map block_write ws)) a ≡ block
read-here ws at a any block within same is =
    let here = get_or ws at any in
    let found : (here.lba == a) ≡ true = grind (arith, nat_tests) in
    ap (λ (l : List BlockWrite). disk_written l a) (drop-map block_write at ws ∙ ap (map block_write) (drop_more ws at any within))
    ∙ ap (λ b. cond b (pat here.lba here.tag) (disk_written (map block_write (drop (at + 1) ws)) a)) found
    ∙ sym is

-- or at none
pub read-none : (ws : List PatternWrite) (at a : ℕ) → length ws ≤ at → disk_written (drop at (map block_write ws)) a ≡ zero_block
read-none ws at a past = ap (λ (l : List BlockWrite). disk_written l a) (drop-map block_write at ws ∙ ap (map block_write) (drop_all at ws past))

-- ---- whether the first of the lost block writes changed the disk

module _ (ws : List PatternWrite) (lost : ℕ) (any : PatternWrite) (read block : Block) (some : 1 ≤ lost) (within : lost - 1 < length ws)
    (read_is : read ≡ disk_written (drop lost (map block_write ws)) (get_or ws (lost - 1) any).lba) (block_is : block ≡ pat (get_or ws (lost - 1) any).lba (get_or ws (lost - 1) any).tag) where
  first_is : drop (lost - 1) (map block_write ws) ≡ block_write (get_or ws (lost - 1) any) ∷ drop lost (map block_write ws)
  first_is =
      let more : (lost - 1) + 1 ≡ lost = omega arith in
      drop-map block_write (lost - 1) ws
      ∙ ap (map block_write) (drop_more ws (lost - 1) any within)
      ∙ ap (λ (l : List BlockWrite). block_write (get_or ws (lost - 1) any) ∷ l) (sym (drop-map block_write ((lost - 1) + 1) ws) ∙ ap (λ n. drop n (map block_write ws)) more)

  pub new_from : read ≢ block → WasNew (drop (lost - 1) (map block_write ws))
  new_from other = subst WasNew (sym first_is) (λ had. other (read_is ∙ had ∙ sym block_is))

  pub new_is : WasNew (drop (lost - 1) (map block_write ws)) → read ≢ block
  new_is new = λ same. subst WasNew first_is new (sym read_is ∙ same ∙ block_is)

pub new_past : (ws : List PatternWrite) (first : ℕ) → length ws ≤ first → WasNew (drop first (map block_write ws))
new_past ws first past = subst WasNew (sym (drop-map block_write first ws ∙ ap (map block_write) (drop_all first ws past))) tt

pub differ : (b : Bool) (A : Type 0) → (IsTrue b ↔ A) → IsTrue (not b) ↔ (A → ⊥)
differ true A is = (λ t. absurd (false≢true t), λ no. absurd (no (is.0 refl)))
differ false A is = (λ t a. false≢true (is.1 a), λ no. refl)
