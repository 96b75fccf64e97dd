-- The exclusive or of pages: a page that is left out of it comes back.
use Rattle.std.proofs.Common.{◌≡◌, ◌≢◌, ◌<◌, ◌+◌, ℕ, zero, suc, true, List, [], ◌∷◌, length, replicate, bit_xor, refl, sym, ◌∙◌, ap, subst, arith, add-one}
use Rattle.std.proofs.lemmas.Simd.{length-zip2, length-replicate}
use lib.Bits.{xor_assoc, xor_comm, xor_self, xor_zero_l}
use Rattle.lanes.specs.Kernels.{xor_of}
use Rattle.ft_base.specs.declared.block.Block.{Block}
use Rattle.ft_base.specs.declared.block.Spare.{Spare}
use Rattle.ft_base.specs.declared.block.Page.{Page}
use Rattle.ft_base.specs.declared.block.Page.TheVariants as page
use Rattle.ft_base.specs.Contents.{zero_block}
use Rattle.ft_media.specs.declared.media.PageRead.{PageRead}
use Rattle.ft_media.specs.declared.media.PageRead.TheVariants as read
use Rattle.ft_media.specs.Media.{Found}
use Rattle.parity_media.specs.Xor.{zero_spare, xor_whole, xor_page, xor_of_pages, block_bytes, spare_bytes, is_whole, IsFull, JoinsBut}

-- two numbers that are joined to a third can be joined in either order
number_swap : (a b c : ℕ) → bit_xor (bit_xor a b) c ≡ bit_xor (bit_xor a c) b
number_swap a b c = xor_assoc a b c ∙ ap (bit_xor a) (xor_comm b c) ∙ sym (xor_assoc a c b)

number_back : (a b : ℕ) → bit_xor a (bit_xor a b) ≡ b
number_back a b = sym (xor_assoc a a b) ∙ ap (λ n. bit_xor n b) (xor_self a) ∙ xor_zero_l b

list_swap : (a b c : List ℕ) → xor_of (xor_of a b) c ≡ xor_of (xor_of a c) b
list_swap [] b c = refl
list_swap (x ∷ xs) [] [] = refl
list_swap (x ∷ xs) [] (z ∷ zs) = refl
list_swap (x ∷ xs) (y ∷ ys) [] = refl
list_swap (x ∷ xs) (y ∷ ys) (z ∷ zs) = λ i. number_swap x y z i ∷ list_swap xs ys zs i

list_back : (a b : List ℕ) → length a ≡ length b → xor_of a (xor_of a b) ≡ b
list_back [] [] same = refl
list_back [] (y ∷ ys) same = absurd (omega arith)
list_back (x ∷ xs) [] same = absurd (omega arith)
list_back (x ∷ xs) (y ∷ ys) same = λ i. number_back x y i ∷ list_back xs ys (omega arith) i

-- the same of pages
page_swap : (block : Block) (spare : Spare) (p q : Page) → xor_page (xor_whole block spare p) q ≡ xor_page (xor_whole block spare q) p
page_swap block spare page.Blank page.Blank = refl
page_swap block spare page.Blank (page.Whole c t) = refl
page_swap block spare page.Blank page.Torn = refl
page_swap block spare (page.Whole b s) page.Blank = refl
page_swap block spare (page.Whole b s) (page.Whole c t) = λ i. page.Whole (record { 0 = list_swap block.0 b.0 c.0 i }) (record { 0 = list_swap spare.0 s.0 t.0 i })
page_swap block spare (page.Whole b s) page.Torn = refl
page_swap block spare page.Torn page.Blank = refl
page_swap block spare page.Torn (page.Whole c t) = refl
page_swap block spare page.Torn page.Torn = refl

page_back : (block : Block) (spare : Spare) (p : Page) → length block.0 ≡ 4096 → length spare.0 ≡ 32 → IsFull p → xor_whole block spare (xor_whole block spare p) ≡ p
page_back block spare page.Blank lb ls full = let none : 0 ≡ 4096 = full.block in absurd (omega (arith, none))
page_back block spare (page.Whole b s) lb ls full =
    let bytes : length b.0 ≡ 4096 = full.block in
    let spares : length s.0 ≡ 32 = full.spare in
    λ i. page.Whole (record { 0 = list_back block.0 b.0 (lb ∙ sym bytes) i }) (record { 0 = list_back spare.0 s.0 (ls ∙ sym spares) i })
page_back block spare page.Torn lb ls full = let none : 0 ≡ 4096 = full.block in absurd (omega (arith, none))

-- a page that was read is the page, where that is whole
pub read_whole : (p : Page) (found : PageRead) (block : Block) (spare : Spare) → Found p found block spare → is_whole p ≡ true → p ≡ page.Whole block spare
read_whole page.Blank found block spare is whole = cc
read_whole (page.Whole b s) found block spare is whole = sym (λ i. page.Whole (is.1 i) (is.2 i))
read_whole page.Torn found block spare is whole = cc

pub full_is_whole : (p : Page) → IsFull p → is_whole p ≡ true
full_is_whole page.Blank full = let none : 0 ≡ 4096 = full.block in absurd (omega (arith, none))
full_is_whole (page.Whole b s) full = refl
full_is_whole page.Torn full = let none : 0 ≡ 4096 = full.block in absurd (omega (arith, none))

-- a page with these bytes is found whole
pub found_whole : (p : Page) (block : Block) (spare : Spare) → page.Whole block spare ≡ p → Found p read.Whole block spare
found_whole p block spare is = subst (λ q. Found q read.Whole block spare) is (refl, refl, refl)

-- one page more, and the first of all
pub sum_more : (found : ℕ → Page) (n : ℕ) → xor_of_pages found (n + 1) ≡ xor_page (xor_of_pages found n) (found n)
sum_more found n = ap (xor_of_pages found) (add-one n)

pub sum_alike : (f g : ℕ → Page) (n : ℕ) → ((k : ℕ) → k < n → g k ≡ f k) → xor_of_pages g n ≡ xor_of_pages f n
sum_alike f g zero alike = refl
sum_alike f g (suc n) alike = λ i. xor_page (sum_alike f g n (λ k less. alike k (omega arith)) i) (alike n (omega arith) i)

zero_long : (n : ℕ) → length {A = ℕ} (replicate n 0) ≡ n
zero_long n = length-replicate n 0

block_zeros : length zero_block.0 ≡ 4096
unfolding zero_block
block_zeros = zero_long 4096

spare_zeros : length zero_spare.0 ≡ 32
unfolding zero_spare
spare_zeros = zero_long 32

pub but_none : (found : ℕ → Page) (out : ℕ) (block : Block) (spare : Spare) → block ≡ zero_block → spare ≡ zero_spare → JoinsBut found out 0 block spare
but_none found out block spare is_block is_spare = record {
  block_long = ap (λ (b : Block). length b.0) is_block ∙ block_zeros;
  spare_long = ap (λ (s : Spare). length s.0) is_spare ∙ spare_zeros;
  before = λ early. λ i. page.Whole (is_block i) (is_spare i);
  after = λ late. absurd (omega arith);
}

-- the page that is left out
pub but_skip : (found : ℕ → Page) (out n : ℕ) (block later : Block) (spare more : Spare) → n ≡ out → later ≡ block → more ≡ spare → JoinsBut found out n block spare → JoinsBut found out (n + 1) later more
but_skip found out n block later spare more is is_block is_spare joins =
    let same : JoinsBut found out n later more = subst (λ b. JoinsBut found out n b more) (sym is_block) (subst (λ s. JoinsBut found out n block s) (sym is_spare) joins) in
    record {
      block_long = same.block_long;
      spare_long = same.spare_long;
      before = λ early. absurd (omega (arith, is, early));
      after = λ late.
          ap (xor_whole later more) (ap found (sym is)) ∙ ap (λ p. xor_page p (found n)) (same.before (omega (arith, is))) ∙ sym (sum_more found n);
    }

-- another page
whole_long : (block : Block) (spare : Spare) (p : Page) → IsFull p → length block.0 ≡ 4096 → length spare.0 ≡ 32 → (length (block_bytes (xor_whole block spare p)) ≡ 4096) × (length (spare_bytes (xor_whole block spare p)) ≡ 32)
whole_long block spare page.Blank full lb ls = let none : 0 ≡ 4096 = full.block in absurd (omega (arith, none))
whole_long block spare (page.Whole b s) full lb ls =
    let bytes : length b.0 ≡ 4096 = full.block in
    let spares : length s.0 ≡ 32 = full.spare in
    (length-zip2 bit_xor block.0 b.0 (lb ∙ sym bytes) ∙ lb, length-zip2 bit_xor spare.0 s.0 (ls ∙ sym spares) ∙ ls)
whole_long block spare page.Torn full lb ls = let none : 0 ≡ 4096 = full.block in absurd (omega (arith, none))

pub but_join : (found : ℕ → Page) (out n : ℕ) (block later : Block) (spare more : Spare) → n ≢ out → IsFull (found n) → page.Whole later more ≡ xor_whole block spare (found n)
    → JoinsBut found out n block spare → JoinsBut found out (n + 1) later more
but_join found out n block later spare more other full joined joins =
    let long = whole_long block spare (found n) full joins.block_long joins.spare_long in
    record {
      block_long = ap (λ p. length (block_bytes p)) joined ∙ long.0;
      spare_long = ap (λ p. length (spare_bytes p)) joined ∙ long.1;
      before = λ early. joined ∙ ap (λ p. xor_page p (found n)) (joins.before (omega arith)) ∙ sym (sum_more found n);
      after = λ late.
          ap (λ p. xor_page p (found out)) joined
          ∙ page_swap block spare (found n) (found out)
          ∙ ap (λ p. xor_page p (found n)) (joins.after (omega (arith, other, late)))
          ∙ sym (sum_more found n);
    }

-- the parity page is whole where one page is left out of it
pub parity_whole : (found : ℕ → Page) (out n : ℕ) (block : Block) (spare : Spare) → out < n → IsFull (found out) → found n ≡ xor_of_pages found n → JoinsBut found out n block spare → is_whole (found n) ≡ true
parity_whole found out n block spare late full parity joins =
    ap is_whole (parity ∙ sym (joins.after late)) ∙ joined (found out) (full_is_whole (found out) full)
  where
    joined : (p : Page) → is_whole p ≡ true → is_whole (xor_whole block spare p) ≡ true
    joined page.Blank whole = cc
    joined (page.Whole b s) whole = refl
    joined page.Torn whole = cc

-- what is left out comes back
pub but_back : (found : ℕ → Page) (out n : ℕ) (block : Block) (spare : Spare) (later : Block) (more : Spare) → out < n → IsFull (found out)
    → found n ≡ xor_of_pages found n → JoinsBut found out n block spare → page.Whole later more ≡ xor_whole block spare (found n) → page.Whole later more ≡ found out
but_back found out n block spare later more late full parity joins joined =
    joined ∙ ap (xor_whole block spare) (parity ∙ sym (joins.after late)) ∙ page_back block spare (found out) joins.block_long joins.spare_long full
