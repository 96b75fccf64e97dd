-- Erase blocks after one of them was changed.
use Rattle.std.proofs.Common.{◌≡◌, ℕ, zero, suc, ◌<◌, Some, List, [], ◌∷◌, ◌++◌, length, get_or, slice_get, inl, inr, refl, sym, ◌∙◌, ap, arith, cond, ◌==◌, ◌&&◌, Bool, true, false}
use Rattle.std.proofs.Math.ListN.{set as put}
use Rattle.std.proofs.lemmas.Bool.{cases_eq}
use Rattle.std.proofs.lemmas.Bool.Decides.{nat_tests}
use Rattle.ft_base.specs.declared.block.Place.{Place}
use Rattle.ft_base.specs.declared.block.Page.{Page}
use Rattle.ft_base.specs.Contents.{set, set_page}
use Rattle.nand_model.specs.declared.erase_block.EraseBlock.{EraseBlock}
use Rattle.nand_model.specs.Pages.{block_page}
use Rattle.nand_model.specs.Blocks.{page_of_block, page_at, pages_at, next_at}

-- the block at an index after it was put there
pub get_put : (blocks : List EraseBlock) (i j : ℕ) (new : EraseBlock) → i < length blocks → slice_get (put blocks i new) j ≡ cond (i == j) (Some new) (slice_get blocks j)
get_put [] i j new within = absurd (omega arith)
get_put (b ∷ blocks) zero zero new within = grind (arith, nat_tests)
get_put (b ∷ blocks) zero (suc j) new within = grind (arith, nat_tests)
get_put (b ∷ blocks) (suc i) zero new within = grind (arith, nat_tests)
get_put (b ∷ blocks) (suc i) (suc j) new within = get_put blocks i j new (omega arith) ∙ ap (λ t. cond t (Some new) (slice_get blocks j)) (same_test i j)
  where
    same_test : (m n : ℕ) → m == n ≡ (suc m == suc n)
    same_test m n = grind (arith, nat_tests)

-- a block that is ready, or has a page, is there
pub ready_there : (blocks : List EraseBlock) (b n : ℕ) → next_at blocks b ≡ Some n → b < length blocks
ready_there [] b n ready = cc
ready_there (x ∷ blocks) zero n ready = omega arith
ready_there (x ∷ blocks) (suc b) n ready = omega (arith, ready_there blocks b n ready)

pub paged_there : (blocks : List EraseBlock) (b n : ℕ) → n < pages_at blocks b → b < length blocks
paged_there [] b n has = absurd (omega arith)
paged_there (x ∷ blocks) zero n has = omega arith
paged_there (x ∷ blocks) (suc b) n has = omega (arith, paged_there blocks b n has)

-- the block at a number is the block that a borrow of it shows
pub block_there : (blocks : List EraseBlock) (b : ℕ) (x : EraseBlock) → b < length blocks → x ≡ get_or blocks b x → slice_get blocks b ≡ Some x
block_there [] b x within is = absurd (omega arith)
block_there (y ∷ blocks) zero x within is = ap Some (sym is)
block_there (y ∷ blocks) (suc b) x within is = block_there blocks b x (omega arith) is

-- one block more
pub get_push : (blocks : List EraseBlock) (x : EraseBlock) (i : ℕ) → slice_get (blocks ++ x ∷ []) i ≡ cond (i == length blocks) (Some x) (slice_get blocks i)
get_push [] x zero = refl
get_push [] x (suc i) = grind (arith, nat_tests)
get_push (y ∷ blocks) x zero = grind (arith, nat_tests)
get_push (y ∷ blocks) x (suc i) = get_push blocks x i ∙ ap (λ b. cond b (Some x) (slice_get blocks i)) (same_test i (length blocks))
  where
    same_test : (m n : ℕ) → m == n ≡ (suc m == suc n)
    same_test m n = grind (arith, nat_tests)

module _ (blocks : List EraseBlock) (b : ℕ) (e new : EraseBlock) (within : b < length blocks) (is : e ≡ get_or blocks b e) where
  at_put : (q : Place) → b ≡ q.block → page_at (put blocks b new) q ≡ block_page new q.page
  at_put q same =
      let test : b == q.block ≡ true = grind (arith, nat_tests) in
      ap (λ o. page_of_block o q.page) (get_put blocks b q.block new within ∙ ap (λ t. cond t (Some new) (slice_get blocks q.block)) test)

  at_old : (q : Place) → b ≡ q.block → page_at blocks q ≡ block_page e q.page
  at_old q same = ap (λ o. page_of_block o q.page) (ap (slice_get blocks) (sym same) ∙ block_there blocks b e within is)

  elsewhere : (q : Place) → (b ≡ q.block → ⊥) → page_at (put blocks b new) q ≡ page_at blocks q
  elsewhere q apart =
      let test : b == q.block ≡ false = grind (arith, nat_tests) in
      ap (λ o. page_of_block o q.page) (get_put blocks b q.block new within ∙ ap (λ t. cond t (Some new) (slice_get blocks q.block)) test)

  -- each page of the block was changed
  pub changed_block : (left : ℕ → Page → Page) → ((p : ℕ) → block_page new p ≡ left p (block_page e p)) → (q : Place) → page_at (put blocks b new) q ≡ cond (q.block == b) (left q.page (page_at blocks q)) (page_at blocks q)
  changed_block left changed q = elim (cases_eq b q.block) [
    | inl same ↦
        let here : page_at (put blocks b new) q ≡ left q.page (page_at blocks q) = at_put q same ∙ changed q.page ∙ ap (left q.page) (sym (at_old q same)) in
        let test : q.block == b ≡ true = grind (arith, nat_tests) in
        here ∙ sym (ap (λ t. cond t (left q.page (page_at blocks q)) (page_at blocks q)) test)
    | inr apart ↦
        let test : q.block == b ≡ false = grind (arith, nat_tests) in
        elsewhere q apart ∙ sym (ap (λ t. cond t (left q.page (page_at blocks q)) (page_at blocks q)) test)
  ]

-- one page of a block was changed
pub changed_page : (blocks : List EraseBlock) (at : Place) (e new : EraseBlock) (value : Page) → at.block < length blocks → e ≡ get_or blocks at.block e
    → ((p : ℕ) → block_page new p ≡ set (block_page e) at.page value p) → (q : Place) → page_at (put blocks at.block new) q ≡ set_page (page_at blocks) at value q
changed_page blocks at e new value within is changed q =
    changed_block blocks at.block e new within is (λ p before. cond (at.page == p) value before) changed q ∙ by_tests (at.block == q.block) (q.block == at.block) (at.page == q.page) (grind (arith, nat_tests))
  where
    by_tests : (t u v : Bool) → t ≡ u → cond u (cond v value (page_at blocks q)) (page_at blocks q) ≡ cond (t && v) value (page_at blocks q)
    by_tests true true v same = refl
    by_tests false false v same = refl
    by_tests true false v same = cc
    by_tests false true v same = cc

-- for calls that read or change one block
pub ruleset one_changed = (get_put, block_there, paged_there, ready_there)
