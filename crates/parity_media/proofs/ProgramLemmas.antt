-- A program of a page, and of the parity page after the last.
use Rattle.std.proofs.Common.{◌≡◌, ◌≢◌, ◌<◌, ◌≤◌, ◌+◌, ◌==◌, ℕ, min, Bool, true, false, length, inl, inr, refl, sym, ◌∙◌, ap, subst, arith, cond}
use Rattle.std.specs.Prelude.{Option, Some, None, Result, Ok, Err, OnOk, OnErr, IsErrOf}
use Rattle.std.proofs.lemmas.Bool.{cases_eq}
use Rattle.ft_base.specs.declared.block.Block.{Block}
use Rattle.ft_base.specs.declared.block.Spare.{Spare}
use Rattle.ft_base.specs.declared.block.Place.{Place}
use Rattle.ft_base.specs.declared.block.Page.TheVariants as page
use Rattle.ft_base.specs.Contents.{Contents, Flash, same_place, set_page, set, none_ready}
use Rattle.ft_media.specs.declared.media.MediaError.{MediaError}
use Rattle.ft_media.specs.declared.media.MediaError.TheVariants as error
use Rattle.ft_media.specs.State.{lost}
use Rattle.ft_media.specs.Media.{LeavesPage, IsNextPage, IsBlankAhead, after_program}
use Rattle.parity_media.specs.declared.parities.Parities.{Parities}
use Rattle.parity_media.specs.declared.parities.Parity.{Parity}
use Rattle.parity_media.specs.Xor.{pages_of}
use Rattle.parity_media.specs.Kept.{parity_blocks, parity_pages, parity_of, joined_parity, completed, OneChanged}
use Rattle.parity_media.specs.Shown.{shown_next, shown_flash}
use Rattle.parity_media.specs.Tied.{Joins, BlockTied, Tied}
use Rattle.parity_media.proofs.KeptLemmas.{one_here, one_else}
use Rattle.parity_media.proofs.TiedLemmas.{other_block, other_page, set_else, set_there, put_else, put_there, leaves_else, gone, gone_here, gone_else, dead, incomplete, joins_more, filled_more, completes, tied_one}
use Rattle.parity_media.proofs.ShownLemmas.{shown_put, shown_next_put}

-- what is put twice
set_twice : (f : ℕ → Option ℕ) (b : ℕ) (v w : Option ℕ) (q : ℕ) → set (set f b v) b w q ≡ set f b w q
set_twice f b v w q = by_test (b == q)
  where
    by_test : (t : Bool) → cond t w (cond t v (f q)) ≡ cond t w (f q)
    by_test true = refl
    by_test false = refl

-- a page that is joined leaves each mark
marks_joined : (pa pb : Parities) (number : ℕ) (block : Block) (spare : Spare) → OneChanged pa pb number (joined_parity (parity_of pa number) block spare) → (q : ℕ) → (parity_of pb q).complete ≡ (parity_of pa q).complete
marks_joined pa pb number block spare changed q = elim (cases_eq q number) [
  | inl same ↦
      ap (λ n. (parity_of pb n).complete) same
      ∙ ap (λ (p : Parity). p.complete) (one_here pa pb number (joined_parity (parity_of pa number) block spare) changed)
      ∙ ap (λ n. (parity_of pa n).complete) (sym same)
  | inr apart ↦ ap (λ (p : Parity). p.complete) (one_else pa pb number (joined_parity (parity_of pa number) block spare) changed q apart)
]

marks_completed : (pa pb : Parities) (number : ℕ) (parity : Parity) → OneChanged pa pb number (completed parity) → (q : ℕ) → (parity_of pa q).complete ≡ true → (parity_of pb q).complete ≡ true
marks_completed pa pb number parity changed q marked = elim (cases_eq q number) [
  | inl same ↦ ap (λ n. (parity_of pb n).complete) same ∙ ap (λ (p : Parity). p.complete) (one_here pa pb number (completed parity) changed)
  | inr apart ↦ ap (λ (p : Parity). p.complete) (one_else pa pb number (completed parity) changed q apart) ∙ marked
]

module _ (a : Contents) (pa : Parities) (at : Place) (block : Block) (spare : Spare) (tied : Tied a pa) (blank : IsBlankAhead a) (ready : IsNextPage at a.flash)
    (inside : at.block < parity_blocks pa) (small : at.page < parity_pages pa) where
  not_complete : (parity_of pa at.block).complete ≡ true → ⊥
  not_complete = incomplete (parity_pages pa) at.page (pages_of a.flash.page at.block) (a.flash.next at.block) (parity_of pa at.block) (tied.each at.block inside) small (blank at at.page ready (omega arith))

  -- the program was refused
  pub tied_refused : {T : Type 0} (b : Contents) (r : Result T MediaError) (e : MediaError) → r ≡ Err e → b.shape ≡ a.shape → LeavesPage a.flash b.flash at block spare
      → (IsErrOf r error.Failed → b.flash.next ≡ set a.flash.next at.block None) → (IsErrOf r error.OutOfMemory → ⊥) → (lost r ≡ true → b.flash.next ≡ none_ready) → Tied b pa
  tied_refused b r e is shape leaves not_ready memory crash =
      let left = gone a.flash.next b.flash.next at.block r e is not_ready memory crash in
      tied_one a b pa pa at.block tied shape refl refl
      (λ q apart. leaves_else a.flash b.flash at block spare leaves q (other_block at q apart))
      (λ q k apart is. gone_else a.flash.next b.flash.next at.block q k (left q) is)
      (λ q apart. refl)
      (dead (parity_pages pa) (pages_of b.flash.page at.block) (b.flash.next at.block) (parity_of pa at.block) (λ k is. gone_here a.flash.next b.flash.next at.block k (left at.block) is) not_complete)

  -- the program was done, and the page is joined
  module _ (b : Contents) (pb : Parities) (block_long : length block.0 ≡ 4096) (spare_long : length spare.0 ≡ 32) (shape : b.shape ≡ a.shape) (done : b.flash ≡ after_program a.flash at block spare)
      (changed : OneChanged pa pb at.block (joined_parity (parity_of pa at.block) block spare)) where
    page_is : (q : Place) → b.flash.page q ≡ set_page a.flash.page at (page.Whole block spare) q
    page_is q = ap (λ (f : Flash). f.page q) done

    next_is : (q : ℕ) → b.flash.next q ≡ set a.flash.next at.block (Some (at.page + 1)) q
    next_is q = ap (λ (f : Flash). f.next q) done

    now : parity_of pb at.block ≡ joined_parity (parity_of pa at.block) block spare
    now = one_here pa pb at.block (joined_parity (parity_of pa at.block) block spare) changed

    joins : Joins (pages_of b.flash.page at.block) (at.page + 1) (parity_of pb at.block)
    joins = subst (λ p. Joins (pages_of b.flash.page at.block) (at.page + 1) p) (sym now)
        (joins_more (pages_of a.flash.page at.block) (pages_of b.flash.page at.block) at.page (parity_of pa at.block) block spare
        (λ k apart. page_is (record { block = at.block; page = k }) ∙ put_else a.flash.page at (record { block = at.block; page = k }) (page.Whole block spare) (other_page at (record { block = at.block; page = k }) apart))
        (page_is at ∙ put_there a.flash.page at (page.Whole block spare)) block_long spare_long ((tied.each at.block inside).filled at.page ready small))

    still : (parity_of pb at.block).complete ≡ true → ⊥
    still marked = not_complete (sym (ap (λ (p : Parity). p.complete) now) ∙ marked)

    page_else : (q : Place) → q.block ≢ at.block → b.flash.page q ≡ a.flash.page q
    page_else q apart = page_is q ∙ put_else a.flash.page at q (page.Whole block spare) (other_block at q apart)

    next_else : (q : ℕ) → q ≢ at.block → b.flash.next q ≡ a.flash.next q
    next_else q apart = next_is q ∙ set_else a.flash.next at.block q (Some (at.page + 1)) apart

    parity_else : (q : ℕ) → q ≢ at.block → parity_of pb q ≡ parity_of pa q
    parity_else = one_else pa pb at.block (joined_parity (parity_of pa at.block) block spare) changed

    pub tied_once : at.page + 1 < parity_pages pa → Tied b pb
    tied_once more = tied_one a b pa pb at.block tied shape changed.blocks changed.pages page_else (λ q k apart is. sym (next_else q apart) ∙ is) parity_else
        (filled_more (parity_pages pa) (pages_of b.flash.page at.block) at.page (b.flash.next at.block) (parity_of pb at.block) (next_is at.block ∙ set_there a.flash.next at.block (Some (at.page + 1))) more still joins)

    pub shown_once : shown_flash (parity_blocks pa) (parity_pages pa) b.flash ≡ after_program (shown_flash (parity_blocks pa) (parity_pages pa) a.flash) at block spare
    shown_once =
        let pages = shown_put (parity_pages pa) a.flash.page b.flash.page at (page.Whole block spare) small (λ q within. page_is q) in
        let next = shown_next_put (parity_blocks pa) (parity_pages pa) a.flash.next b.flash.next at.block (Some (at.page + 1)) inside next_is in
        let least : min (at.page + 1) (parity_pages pa) ≡ at.page + 1 = omega (arith, small) in
        λ i. record { page = pages i; next = (next ∙ ap (λ n. set (shown_next (parity_blocks pa) (parity_pages pa) a.flash.next) at.block (Some n)) least) i }

    pub marks_once : (q : ℕ) → (parity_of pa q).complete ≡ true → (parity_of pb q).complete ≡ true
    marks_once q marked = marks_joined pa pb at.block block spare changed q ∙ marked

    -- it was the last, and the parity page is programmed after it
    module _ (last : parity_pages pa ≤ at.page + 1) (c : Contents) (pc : Parities) where
      all : at.page + 1 ≡ parity_pages pa
      all = omega (arith, last, small)

      abbrev pub parity_at : Place
      parity_at = record { block = at.block; page = parity_pages pb }

      apart_of : (q : Place) → q.page < parity_pages pa → same_place parity_at q ≡ false
      apart_of q within = let same = changed.pages in other_page parity_at q (omega (arith, within, same))

      shown_page : LeavesPage b.flash c.flash parity_at (parity_of pb at.block).block (parity_of pb at.block).spare → (q : Place) → q.page < parity_pages pa → c.flash.page q ≡ set_page a.flash.page at (page.Whole block spare) q
      shown_page leaves q within = leaves_else b.flash c.flash parity_at (parity_of pb at.block).block (parity_of pb at.block).spare leaves q (apart_of q within) ∙ page_is q

      -- whatever is answered, the page is whole
      pub leaves_full : LeavesPage b.flash c.flash parity_at (parity_of pb at.block).block (parity_of pb at.block).spare
          → LeavesPage (shown_flash (parity_blocks pa) (parity_pages pa) a.flash) (shown_flash (parity_blocks pa) (parity_pages pa) c.flash) at block spare
      leaves_full leaves = inr (inl (shown_put (parity_pages pa) a.flash.page c.flash.page at (page.Whole block spare) small (shown_page leaves)))

      pub not_ready_full : c.flash.next ≡ set b.flash.next at.block None
          → shown_next (parity_blocks pa) (parity_pages pa) c.flash.next ≡ set (shown_next (parity_blocks pa) (parity_pages pa) a.flash.next) at.block None
      not_ready_full is = shown_next_put (parity_blocks pa) (parity_pages pa) a.flash.next c.flash.next at.block None inside
          (λ q. ap (λ (f : ℕ → Option ℕ). f q) is ∙ ap (λ (f : Flash). set f.next at.block None q) done ∙ set_twice a.flash.next at.block (Some (at.page + 1)) None q)

      module _ {T : Type 0} (r : Result T MediaError) (leaves : LeavesPage b.flash c.flash parity_at (parity_of pb at.block).block (parity_of pb at.block).spare)
          (marked : OnOk r (OneChanged pb pc at.block (completed (parity_of pb at.block)))) where
        pub shown_full : OnOk r (c.flash ≡ after_program b.flash parity_at (parity_of pb at.block).block (parity_of pb at.block).spare)
            → OnOk r (shown_flash (parity_blocks pa) (parity_pages pa) c.flash ≡ after_program (shown_flash (parity_blocks pa) (parity_pages pa) a.flash) at block spare)
        shown_full ok = by_result r ok
          where
            by_result : (r : Result T MediaError) → OnOk r (c.flash ≡ after_program b.flash parity_at (parity_of pb at.block).block (parity_of pb at.block).spare)
                → OnOk r (shown_flash (parity_blocks pa) (parity_pages pa) c.flash ≡ after_program (shown_flash (parity_blocks pa) (parity_pages pa) a.flash) at block spare)
            by_result (Ok v) is =
                let pages = shown_put (parity_pages pa) a.flash.page c.flash.page at (page.Whole block spare) small (shown_page leaves) in
                let next = shown_next_put (parity_blocks pa) (parity_pages pa) a.flash.next c.flash.next at.block (Some (parity_pages pb + 1)) inside
                (λ q. ap (λ (f : Flash). f.next q) is ∙ ap (λ (f : Flash). set f.next at.block (Some (parity_pages pb + 1)) q) done ∙ set_twice a.flash.next at.block (Some (at.page + 1)) (Some (parity_pages pb + 1)) q) in
                let same = changed.pages in
                let every = all in
                let least : min (parity_pages pb + 1) (parity_pages pa) ≡ at.page + 1 = omega (arith, same, every) in
                λ i. record { page = pages i; next = (next ∙ ap (λ n. set (shown_next (parity_blocks pa) (parity_pages pa) a.flash.next) at.block (Some n)) least) i }
            by_result (Err e) is = tt

        pub marked_full : OnOk r (at.page + 1 ≡ parity_pages pa → (parity_of pc at.block).complete ≡ true)
        marked_full = by_result r marked
          where
            by_result : (r : Result T MediaError) → OnOk r (OneChanged pb pc at.block (completed (parity_of pb at.block))) → OnOk r (at.page + 1 ≡ parity_pages pa → (parity_of pc at.block).complete ≡ true)
            by_result (Ok v) is = λ full. ap (λ (p : Parity). p.complete) (one_here pb pc at.block (completed (parity_of pb at.block)) is)
            by_result (Err e) is = tt

        module _ (stays : OnErr r (pc ≡ pb)) where
          pub marks_full : (q : ℕ) → (parity_of pa q).complete ≡ true → (parity_of pc q).complete ≡ true
          marks_full q was = by_result r marked stays
            where
              by_result : (r : Result T MediaError) → OnOk r (OneChanged pb pc at.block (completed (parity_of pb at.block))) → OnErr r (pc ≡ pb) → (parity_of pc q).complete ≡ true
              by_result (Ok v) is same = marks_completed pb pc at.block (parity_of pb at.block) is q (marks_once q was)
              by_result (Err e) is same = ap (λ p. (parity_of p q).complete) same ∙ marks_once q was

          pub blocks_full : parity_blocks pc ≡ parity_blocks pa
          blocks_full = by_result r marked stays
            where
              by_result : (r : Result T MediaError) → OnOk r (OneChanged pb pc at.block (completed (parity_of pb at.block))) → OnErr r (pc ≡ pb) → parity_blocks pc ≡ parity_blocks pa
              by_result (Ok v) is same = is.blocks ∙ changed.blocks
              by_result (Err e) is same = ap parity_blocks same ∙ changed.blocks

          pub pages_full : parity_pages pc ≡ parity_pages pa
          pages_full = by_result r marked stays
            where
              by_result : (r : Result T MediaError) → OnOk r (OneChanged pb pc at.block (completed (parity_of pb at.block))) → OnErr r (pc ≡ pb) → parity_pages pc ≡ parity_pages pa
              by_result (Ok v) is same = is.pages ∙ changed.pages
              by_result (Err e) is same = ap parity_pages same ∙ changed.pages

          pub tied_full : c.shape ≡ b.shape → OnOk r (c.flash ≡ after_program b.flash parity_at (parity_of pb at.block).block (parity_of pb at.block).spare)
              → (IsErrOf r error.Failed → c.flash.next ≡ set b.flash.next at.block None) → (IsErrOf r error.OutOfMemory → ⊥) → (lost r ≡ true → c.flash.next ≡ none_ready) → Tied c pc
          tied_full later ok not_ready memory crash = by_result r refl ok marked stays
            where
              outside : (q : Place) → q.block ≢ at.block → c.flash.page q ≡ a.flash.page q
              outside q apart = leaves_else b.flash c.flash parity_at (parity_of pb at.block).block (parity_of pb at.block).spare leaves q (other_block parity_at q apart) ∙ page_else q apart

              by_result : (s : Result T MediaError) → r ≡ s → OnOk s (c.flash ≡ after_program b.flash parity_at (parity_of pb at.block).block (parity_of pb at.block).spare)
                  → OnOk s (OneChanged pb pc at.block (completed (parity_of pb at.block))) → OnErr s (pc ≡ pb) → Tied c pc
              by_result (Ok v) which is new same =
                  let next : (q : ℕ) → c.flash.next q ≡ set b.flash.next at.block (Some (parity_pages pb + 1)) q = λ q. ap (λ (f : Flash). f.next q) is in
                  let page_now : (q : Place) → c.flash.page q ≡ set_page b.flash.page parity_at (page.Whole (parity_of pb at.block).block (parity_of pb at.block).spare) q = λ q. ap (λ (f : Flash). f.page q) is in
                  let pages_same = changed.pages in
                  let here = completes (parity_pages pb) (pages_of b.flash.page at.block) (pages_of c.flash.page at.block) (c.flash.next at.block) (parity_of pb at.block)
                  (next at.block ∙ set_there b.flash.next at.block (Some (parity_pages pb + 1)))
                  (λ k apart. page_now (record { block = at.block; page = k }) ∙ put_else b.flash.page parity_at (record { block = at.block; page = k }) (page.Whole (parity_of pb at.block).block (parity_of pb at.block).spare) (other_page parity_at (record { block = at.block; page = k }) apart))
                  (page_now parity_at ∙ put_there b.flash.page parity_at (page.Whole (parity_of pb at.block).block (parity_of pb at.block).spare))
                  (subst (λ n. Joins (pages_of b.flash.page at.block) n (parity_of pb at.block)) (all ∙ sym pages_same) joins) in
                  tied_one a c pa pc at.block tied (later ∙ shape) (new.blocks ∙ changed.blocks) (new.pages ∙ changed.pages) outside
                  (λ q k apart at_k. sym (next_else q apart) ∙ sym (set_else b.flash.next at.block q (Some (parity_pages pb + 1)) apart) ∙ sym (next q) ∙ at_k)
                  (λ q apart. one_else pb pc at.block (completed (parity_of pb at.block)) new q apart ∙ parity_else q apart)
                  (subst (λ p. BlockTied (parity_pages pa) (pages_of c.flash.page at.block) (c.flash.next at.block) p) (sym (one_here pb pc at.block (completed (parity_of pb at.block)) new))
                  (subst (λ n. BlockTied n (pages_of c.flash.page at.block) (c.flash.next at.block) (completed (parity_of pb at.block))) pages_same here))
              by_result (Err e) which is new same =
                  let left = gone b.flash.next c.flash.next at.block r e which not_ready memory crash in
                  tied_one a c pa pc at.block tied (later ∙ shape) (ap parity_blocks same ∙ changed.blocks) (ap parity_pages same ∙ changed.pages) outside
                  (λ q k apart at_k. sym (next_else q apart) ∙ gone_else b.flash.next c.flash.next at.block q k (left q) at_k)
                  (λ q apart. ap (λ p. parity_of p q) same ∙ parity_else q apart)
                  (dead (parity_pages pa) (pages_of c.flash.page at.block) (c.flash.next at.block) (parity_of pc at.block) (λ k at_k. gone_here b.flash.next c.flash.next at.block k (left at.block) at_k)
                  (λ yes_marked. still (sym (ap (λ p. (parity_of p at.block).complete) same) ∙ yes_marked)))
