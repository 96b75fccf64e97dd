-- What is kept of a block, while its pages are programmed and erased.
use Rattle.std.proofs.Common.{◌≡◌, ◌≢◌, ◌<◌, ◌+◌, ◌==◌, ◌⊎◌, ℕ, Bool, true, false, nat_lt, length, inl, inr, refl, sym, ◌∙◌, ap, subst, arith, cond}
use Rattle.std.specs.Prelude.{Option, Some, None, Result, Ok, Err, OnOk, IsErrOf}
use Rattle.std.proofs.lemmas.Bool.{cases_eq, cases_lt}
use Rattle.std.proofs.lemmas.Bool.Decides.{nat_tests}
use Rattle.ft_base.specs.declared.block.Block.{Block}
use Rattle.ft_base.specs.declared.block.Spare.{Spare}
use Rattle.ft_base.specs.declared.block.Place.{Place}
use Rattle.ft_base.specs.declared.block.Page.{Page}
use Rattle.ft_base.specs.declared.block.Page.TheVariants as page
use Rattle.ft_base.specs.Contents.{Contents, Shape, Flash, same_place, set_page, set, none_ready}
use Rattle.ft_media.specs.declared.media.MediaError.{MediaError}
use Rattle.ft_media.specs.declared.media.MediaError.TheVariants as error
use Rattle.ft_media.specs.State.{lost}
use Rattle.ft_media.specs.Media.{LeavesPage, PagesErased, FlashStays, Crashed, IsBlankAhead, after_erase}
use Rattle.parity_media.specs.declared.parities.Parities.{Parities}
use Rattle.parity_media.specs.declared.parities.Parity.{Parity}
use Rattle.parity_media.specs.Xor.{xor_page, xor_whole, block_bytes, IsFull, pages_of}
use Rattle.parity_media.specs.Kept.{parity_blocks, parity_pages, parity_of, new_parity, joined_parity, completed}
use Rattle.parity_media.specs.Shown.{shown_pages, shown_next, next_within}
use Rattle.parity_media.specs.Tied.{Joins, HasParity, BlockTied, Tied}
use Rattle.parity_media.proofs.XorLemmas.{sum_more, sum_alike}

-- ---- places and blocks that are not the one

pub other_block : (at q : Place) → q.block ≢ at.block → same_place at q ≡ false
other_block at q apart = grind (arith, nat_tests, apart)

pub other_page : (at q : Place) → q.page ≢ at.page → same_place at q ≡ false
other_page at q apart = grind (arith, nat_tests, apart)

pub one_place : (at : Place) → same_place at at ≡ true
one_place at = grind (arith, nat_tests)

pub set_else : {V : Type 0} (f : ℕ → V) (b q : ℕ) (v : V) → q ≢ b → set f b v q ≡ f q
set_else f b q v apart =
    let test : b == q ≡ false = grind (arith, nat_tests, apart) in
    ap (λ t. cond t v (f q)) test

pub set_there : {V : Type 0} (f : ℕ → V) (b : ℕ) (v : V) → set f b v b ≡ v
set_there f b v =
    let test : b == b ≡ true = grind (arith, nat_tests) in
    ap (λ t. cond t v (f b)) test

pub put_else : (f : Place → Page) (at q : Place) (v : Page) → same_place at q ≡ false → set_page f at v q ≡ f q
put_else f at q v test = ap (λ t. cond t v (f q)) test

pub put_there : (f : Place → Page) (at : Place) (v : Page) → set_page f at v at ≡ v
put_there f at v = ap (λ t. cond t v (f at)) (one_place at)

-- a program leaves the other pages
pub leaves_else : (old new : Flash) (at : Place) (block : Block) (spare : Spare) → LeavesPage old new at block spare → (q : Place) → same_place at q ≡ false → new.page q ≡ old.page q
leaves_else old new at block spare (inl same) q test = ap (λ (f : Place → Page). f q) same
leaves_else old new at block spare (inr (inl done)) q test = ap (λ (f : Place → Page). f q) done ∙ put_else old.page at q (page.Whole block spare) test
leaves_else old new at block spare (inr (inr torn)) q test = ap (λ (f : Place → Page). f q) torn ∙ put_else old.page at q page.Torn test

-- an erase leaves the other blocks
pub erase_else : (old new : Flash) (block : ℕ) → PagesErased old new block → (q : Place) → q.block ≢ block → new.page q ≡ old.page q
erase_else old new block leaves q apart = by_page (leaves q)
  where
    by_page : (new.page q ≡ old.page q) ⊎ ((q.block ≡ block) × ((new.page q ≡ page.Blank) ⊎ (new.page q ≡ page.Torn))) → new.page q ≡ old.page q
    by_page (inl same) = same
    by_page (inr bad) = absurd (apart bad.0)

-- after a call that was refused the block isn't ready, and of the others none is that was not
pub gone : {T : Type 0} (old new : ℕ → Option ℕ) (number : ℕ) (r : Result T MediaError) (e : MediaError) → r ≡ Err e → (IsErrOf r error.Failed → new ≡ set old number None)
    → (IsErrOf r error.OutOfMemory → ⊥) → (lost r ≡ true → new ≡ none_ready) → (q : ℕ) → (new q ≡ None) ⊎ ((q ≢ number) × (new q ≡ old q))
gone old new number r error.Failed is not_ready memory crash q = elim (cases_eq q number) [
  | inl same ↦ inl (ap (λ (f : ℕ → Option ℕ). f q) (not_ready is) ∙ ap (set old number None) same ∙ set_there old number None)
  | inr apart ↦ inr (apart, ap (λ (f : ℕ → Option ℕ). f q) (not_ready is) ∙ set_else old number q None apart)
]
gone old new number r error.PowerLost is not_ready memory crash q = inl (ap (λ (f : ℕ → Option ℕ). f q) (crash (ap lost is)))
gone old new number r error.OutOfMemory is not_ready memory crash q = absurd (memory is)

pub gone_here : (old new : ℕ → Option ℕ) (number k : ℕ) → (new number ≡ None) ⊎ ((number ≢ number) × (new number ≡ old number)) → new number ≡ Some k → ⊥
gone_here old new number k (inl none) is = cc
gone_here old new number k (inr kept) is = kept.0 refl

pub gone_else : (old new : ℕ → Option ℕ) (number q k : ℕ) → (new q ≡ None) ⊎ ((q ≢ number) × (new q ≡ old q)) → new q ≡ Some k → old q ≡ Some k
gone_else old new number q k (inl none) is = cc
gone_else old new number q k (inr kept) is = sym kept.1 ∙ is

-- ---- one block

pub moved : (pages : ℕ) (f g : ℕ → Page) (m n : Option ℕ) (p q : Parity) → ((k : ℕ) → g k ≡ f k) → ((k : ℕ) → n ≡ Some k → m ≡ Some k) → q ≡ p → BlockTied pages f m p → BlockTied pages g n q
moved pages f g m n p q alike later same tied =
    let path : f ≡ g = λ i k. sym (alike k) i in
    let here : BlockTied pages f n p = record {
      filled = λ k is less. tied.filled k (later k is) less;
      ready = λ k is past some. tied.ready k (later k is) past some;
      complete = tied.complete;
    } in
    subst (λ r. BlockTied pages g n r) (sym same) (subst (λ h. BlockTied pages h n p) path here)

-- a block that isn't ready, and not complete
pub dead : (pages : ℕ) (f : ℕ → Page) (n : Option ℕ) (p : Parity) → ((k : ℕ) → n ≡ Some k → ⊥) → (p.complete ≡ true → ⊥) → BlockTied pages f n p
dead pages f n p gone not = record {
  filled = λ k is less. absurd (gone k is);
  ready = λ k is past some. absurd (gone k is);
  complete = λ yes. absurd (not yes);
}

-- after an erase that was done the block begins anew, and after another it isn't ready
pub erased : {T : Type 0} (a b : Flash) (number pages : ℕ) (r : Result T MediaError) (p : Parity) → p ≡ new_parity → OnOk r (b ≡ after_erase a number) → (IsErrOf r error.Failed → b.next ≡ set a.next number None)
    → (IsErrOf r error.OutOfMemory → ⊥) → (lost r ≡ true → b.next ≡ none_ready) → ((q k : ℕ) → q ≢ number → b.next q ≡ Some k → a.next q ≡ Some k) × BlockTied pages (pages_of b.page number) (b.next number) p
erased a b number pages (Ok v) p anew done not_ready memory crash =
    let next : b.next ≡ set a.next number (Some 0) = ap (λ (f : Flash). f.next) done in
    let here : b.next number ≡ Some 0 = ap (λ (f : ℕ → Option ℕ). f number) next ∙ set_there a.next number (Some 0) in (
      (λ q k apart is. sym (set_else a.next number q (Some 0) apart) ∙ sym (ap (λ (f : ℕ → Option ℕ). f q) next) ∙ is),
      record {
        filled = λ k at small. let none : 0 ≡ k = cc in subst (λ n. Joins (pages_of b.page number) n p) none (record {
          full = λ j less. absurd (omega arith);
          sum = λ i. page.Whole ((sym anew) i).block ((sym anew) i).spare;
        });
        ready = λ k at past some. let none : 0 ≡ k = cc in absurd (omega (arith, none, past, some));
        complete = λ marked. let other : false ≡ true = sym (ap (λ (q : Parity). q.complete) anew) ∙ marked in cc;
      },
    )
erased a b number pages (Err e) p anew done not_ready memory crash =
    let left = gone a.next b.next number (Err e) e refl not_ready memory crash in (
      (λ q k apart is. gone_else a.next b.next number q k (left q) is),
      dead pages (pages_of b.page number) (b.next number) p (λ k is. gone_here a.next b.next number k (left number) is)
          (λ marked. let other : false ≡ true = sym (ap (λ (q : Parity). q.complete) anew) ∙ marked in cc),
    )

-- a block with a page that is blank isn't complete
pub incomplete : (pages k : ℕ) (f : ℕ → Page) (n : Option ℕ) (p : Parity) → BlockTied pages f n p → k < pages → f k ≡ page.Blank → p.complete ≡ true → ⊥
incomplete pages k f n p tied less blank marked =
    let full = (tied.complete marked).full k less in
    let none : 0 ≡ 4096 = sym (ap (λ q. length (block_bytes q)) blank) ∙ full.block in
    omega (arith, none)

-- the next page is joined
pub joins_more : (f g : ℕ → Page) (n : ℕ) (p : Parity) (block : Block) (spare : Spare) → ((k : ℕ) → k ≢ n → g k ≡ f k) → g n ≡ page.Whole block spare → length block.0 ≡ 4096 → length spare.0 ≡ 32
    → Joins f n p → Joins g (n + 1) (joined_parity p block spare)
joins_more f g n p block spare alike whole lb ls joins = record {
  full = λ k less. elim (cases_lt k n) [
    | inl before ↦ subst IsFull (sym (alike k (omega (arith, before)))) (joins.full k before)
    | inr past ↦
        let same : k ≡ n = omega (arith, less, past) in
        subst IsFull (sym (ap g same ∙ whole)) (record { block = lb; spare = ls })
  ];
  sum = sum_more g n ∙ ap (λ q. xor_page q (g n)) (sum_alike f g n (λ k less. alike k (omega (arith, less))) ∙ joins.sum) ∙ ap (xor_whole p.block p.spare) whole;
}

pub filled_more : (pages : ℕ) (g : ℕ → Page) (n : ℕ) (next : Option ℕ) (p : Parity) → next ≡ Some (n + 1) → n + 1 < pages → (p.complete ≡ true → ⊥) → Joins g (n + 1) p → BlockTied pages g next p
filled_more pages g n next p is less not joins = record {
  filled = λ k at small. let same : n + 1 ≡ k = cc in subst (λ m. Joins g m p) same joins;
  ready = λ k at past some. let same : n + 1 ≡ k = cc in absurd (omega (arith, same, past, less));
  complete = λ yes. absurd (not yes);
}

-- the parity page is programmed
pub completes : (pages : ℕ) (g h : ℕ → Page) (next : Option ℕ) (p : Parity) → next ≡ Some (pages + 1) → ((k : ℕ) → k ≢ pages → h k ≡ g k) → h pages ≡ page.Whole p.block p.spare → Joins g pages p
    → BlockTied pages h next (completed p)
completes pages g h next p is alike whole joins = record {
  filled = λ k at small. let same : pages + 1 ≡ k = cc in absurd (omega (arith, same, small));
  ready = λ k at past some. refl;
  complete = λ yes. record {
    full = λ k less. subst IsFull (sym (alike k (omega (arith, less)))) (joins.full k less);
    sum = whole ∙ sym joins.sum ∙ sym (sum_alike g h pages (λ k less. alike k (omega (arith, less))));
  };
}

-- ---- all blocks, of which one has changed

pub tied_one : (a b : Contents) (pa pb : Parities) (number : ℕ) → Tied a pa → b.shape ≡ a.shape → parity_blocks pb ≡ parity_blocks pa → parity_pages pb ≡ parity_pages pa
    → ((q : Place) → q.block ≢ number → b.flash.page q ≡ a.flash.page q) → ((q k : ℕ) → q ≢ number → b.flash.next q ≡ Some k → a.flash.next q ≡ Some k)
    → ((q : ℕ) → q ≢ number → parity_of pb q ≡ parity_of pa q) → BlockTied (parity_pages pa) (pages_of b.flash.page number) (b.flash.next number) (parity_of pb number) → Tied b pb
tied_one a b pa pb number tied shape blocks pages page_else next_else parity_else here = record {
  blocks = λ some. ap (λ (s : Shape). s.blocks) shape ∙ tied.blocks (omega (arith, blocks, some)) ∙ sym blocks;
  pages = λ some. ap (λ (s : Shape). s.pages) shape ∙ tied.pages (omega (arith, blocks, some)) ∙ sym (ap (λ n. n + 1) pages);
  each = λ q inside. subst (λ n. BlockTied n (pages_of b.flash.page q) (b.flash.next q) (parity_of pb q)) (sym pages) (elim (cases_eq q number) [
    | inl same ↦ subst (λ n. BlockTied (parity_pages pa) (pages_of b.flash.page n) (b.flash.next n) (parity_of pb n)) (sym same) here
    | inr apart ↦ moved (parity_pages pa) (pages_of a.flash.page q) (pages_of b.flash.page q) (a.flash.next q) (b.flash.next q) (parity_of pa q) (parity_of pb q)
        (λ k. page_else (record { block = q; page = k }) apart) (λ k is. next_else q k apart is) (parity_else q apart) (tied.each q (omega (arith, blocks, inside)))
  ]);
}

-- nothing is programmed, and nothing made ready
pub tied_kept : (a b : Contents) (parities : Parities) → Tied a parities → b.shape ≡ a.shape → b.flash.page ≡ a.flash.page → ((q k : ℕ) → b.flash.next q ≡ Some k → a.flash.next q ≡ Some k) → Tied b parities
tied_kept a b parities tied shape pages next = record {
  blocks = λ some. ap (λ (s : Shape). s.blocks) shape ∙ tied.blocks some;
  pages = λ some. ap (λ (s : Shape). s.pages) shape ∙ tied.pages some;
  each = λ q inside. moved (parity_pages parities) (pages_of a.flash.page q) (pages_of b.flash.page q) (a.flash.next q) (b.flash.next q) (parity_of parities q) (parity_of parities q)
      (λ k. ap (λ (f : Place → Page). f (record { block = q; page = k })) pages) (λ k is. next q k is) refl (tied.each q inside);
}

-- a call of the disk
pub tied_stays : (a b : Contents) (l : Bool) (parities : Parities) → Tied a parities → b.shape ≡ a.shape → FlashStays a b l → (l ≡ true → Crashed b) → Tied b parities
tied_stays a b l parities tied shape stays crash = tied_kept a b parities tied shape stays.page (by_test l stays.stays crash)
  where
    by_test : (l : Bool) → (l ≡ false → b.flash ≡ a.flash) → (l ≡ true → Crashed b) → (q k : ℕ) → b.flash.next q ≡ Some k → a.flash.next q ≡ Some k
    by_test true same crash q k is = let none : b.flash.next q ≡ None = ap (λ (f : ℕ → Option ℕ). f q) (crash refl).next in cc
    by_test false same crash q k is = ap (λ (f : Flash). f.next q) (sym (same refl)) ∙ is

-- in a block that is ready and whose last page isn't blank, the parity page is right
pub full_parity : (blocks pages : ℕ) (a : Contents) (parities : Parities) → parity_blocks parities ≡ blocks → parity_pages parities ≡ pages → Tied a parities → IsBlankAhead a → (b last : ℕ) → pages ≡ last + 1
    → shown_next blocks pages a.flash.next b ≢ None → shown_pages pages a.flash.page (record { block = b; page = last }) ≢ page.Blank → HasParity (pages_of a.flash.page b) pages
full_parity blocks pages a parities is_blocks is_pages tied blank b last many ready written = by_tests (nat_lt b blocks) (nat_lt last pages) (a.flash.next b) refl refl refl ready written
  where
    by_tests : (t s : Bool) (o : Option ℕ) → nat_lt b blocks ≡ t → nat_lt last pages ≡ s → a.flash.next b ≡ o → cond t (next_within pages o) None ≢ None
        → cond s (a.flash.page (record { block = b; page = last })) page.Blank ≢ page.Blank → HasParity (pages_of a.flash.page b) pages
    by_tests false s o inside within is ready written = absurd (ready refl)
    by_tests true false o inside within is ready written = absurd (written refl)
    by_tests true true None inside within is ready written = absurd (ready refl)
    by_tests true true (Some n) inside within is ready written =
        let here : b < parity_blocks parities = grind (arith, nat_tests, inside, is_blocks) in
        let block = tied.each b here in
        elim (cases_lt last n) [
          | inl past ↦ subst (λ m. HasParity (pages_of a.flash.page b) m) is_pages
              (block.complete (block.ready n is (omega (arith, past, many, is_pages)) (omega (arith, many, is_pages))))
          | inr ahead ↦ absurd (written (blank (record { block = b; page = last }) n is ahead))
        ]
