-- The map pages of a checkpoint, programmed one after another.
use Rattle.std.proofs.Common.{◌≡◌, ◌⊎◌, ℕ, ◌+◌, ◌*◌, ◌/◌, ◌%◌, ◌<◌, ◌≤◌, Bool, true, false, cond, Option, List, Some, refl, sym, ◌∙◌, ap, subst, arith, inl, inr, eq-eqb}
use Rattle.std.proofs.lemmas.Bool.{cases_eq, cases_lt}
use Rattle.std.proofs.lemmas.Nat.{div-add-mod', mod_below}
use Rattle.std.proofs.Math.Nat.{add_left_cancel}
use Rattle.ft_base.specs.declared.geometry.Geometry.{Geometry}
use Rattle.ft_base.specs.declared.block.Place.{Place}
use Rattle.ft_base.specs.declared.block.Page.{Page}
use Rattle.ft_base.specs.declared.block.Page.TheVariants.{Torn}
use Rattle.ft_base.specs.declared.record.Record.{Record}
use Rattle.ft_base.specs.Contents.{Flash, set, set_page, same_place}
use Rattle.ft_base.specs.Layout.{k, page_from, checkpoint_at, checkpoint_pages}
use Rattle.ft_base.proofs.Images.{set_other}
use Rattle.cache_model.specs.Laws.{IsMapOrLost}
use Rattle.cache_model.proofs.LoadLemmas.{set_page-other}
use Rattle.ft_media.specs.Media.{IsNextPage}
use Rattle.checkpoint.specs.Regions.{InCheckpoint, AreBlank, IsBare, IsMapPage, Programmed, LeavesOne, MapsWritten, LeavesMaps, part}
use Rattle.checkpoint.proofs.PlacesLemmas.{product, checkpoint_within, checkpoint_apart}
use Rattle.checkpoint.proofs.ErasingLemmas.{map_or_lost}
use Rattle.checkpoint.proofs.ProgramLemmas.{map_page_bare}
use Rattle.cache_model.proofs.LogLemmas.{set_page-here}

-- ---- the page after one

pub set-here : (f : ℕ → Option ℕ) (i j : ℕ) (v : Option ℕ) → i ≡ j → set f i v j ≡ v
set-here f i j v same = ap (λ b. cond b v (f j)) (eq-eqb i j same)

-- of two pages the later one is the next, or the first of an erase block. In the same erase block it is the next, and
-- in another erase block it is the first
same_row : (p i j : ℕ) → i < j → (j ≡ i + 1) ⊎ (j % p ≡ 0) → i / p ≡ j / p → i % p + 1 ≡ j % p
same_row p i j lt which row =
    let here = div-add-mod' i p in
    let there = div-add-mod' j p in
    let products : i / p * p ≡ j / p * p = ap (λ n. n * p) row in
    elim which [ inl next ↦ omega arith | inr first ↦ absurd (omega arith) ]

other_row : (p i j : ℕ) → 0 < p → i < j → (j ≡ i + 1) ⊎ (j % p ≡ 0) → (i / p ≡ j / p → ⊥) → j % p ≡ 0
other_row p i j some lt which row = elim which [
  | inr first ↦ first
  | inl next ↦
      let here = div-add-mod' i p in
      let there = div-add-mod' j p in
      let low = mod_below i p some in
      let low' = mod_below j p some in
      elim (cases_lt (i / p) (j / p)) [
        | inl up ↦ let step : (i / p + 1) * p ≤ j / p * p = product (i / p + 1) (j / p) p (omega arith) in let one : (i / p + 1) * p ≡ i / p * p + p = omega arith in omega arith
        | inr down ↦ let step : (j / p + 1) * p ≤ i / p * p = product (j / p + 1) (i / p) p (omega arith) in let one : (j / p + 1) * p ≡ j / p * p + p = omega arith in absurd (omega arith)
      ]
]

-- the pages that are ready after a program of page i of a region
pub ready_after : (g : Geometry) (base i j : ℕ) (next : ℕ → Option ℕ) → i < j → (j ≡ i + 1) ⊎ ((page_from g base j).page ≡ 0)
    → ((page_from g base j).page ≡ 0 → next (page_from g base j).block ≡ Some (page_from g base j).page)
    → set next (page_from g base i).block (Some ((page_from g base i).page + 1)) (page_from g base j).block ≡ Some (page_from g base j).page
ready_after g base i j next lt which was = elim (cases_eq (i / g.p) (j / g.p)) [
  | inl row ↦ set-here next _ _ _ (ap (λ n. base + n) row) ∙ ap Some (same_row g.p i j lt which row)
  | inr apart ↦ set_other next _ _ _ (λ e. apart (add_left_cancel base e)) ∙ was (other_row g.p i j (omega (arith, g.in_range.p_low)) lt which apart)
]

-- ---- one more page

pub outside : (g : Geometry) (region i : ℕ) (at : Place) → i < checkpoint_pages g → (InCheckpoint g region at.block → ⊥) → at ≡ checkpoint_at g region i → ⊥
outside g region i at within out same = out (subst (λ (p : Place). InCheckpoint g region p.block) (sym same) (checkpoint_within g region i within))

pub bare_put : (g : Geometry) (region : ℕ) (page : Place → Page) (at : Place) (v : Page) → IsBare g region page → IsMapOrLost v → IsBare g region (set_page page at v)
bare_put g region page at v bare is = record { pages = λ i within. either (same_place at (checkpoint_at g region i)) (page (checkpoint_at g region i)) (bare.pages i within) }
  where
    either : (b : Bool) (q : Page) → IsMapOrLost q → IsMapOrLost (cond b v q)
    either true q was = is
    either false q was = was

module _ (g : Geometry) (region era : ℕ) (rs : List Record) where
  pub maps_none : (flash : Flash) → AreBlank (region * k g) (k g) flash → MapsWritten g region era rs 0 flash flash
  maps_none flash blank = record {
    maps = λ i low. absurd (omega arith);
    blank = λ i low within. blank.page (checkpoint_at g region i) (checkpoint_within g region i within);
    ready = λ i low within which. blank.next (checkpoint_at g region i).block (checkpoint_within g region i within) ∙ ap Some (sym (first i which));
    beside = λ at out. refl;
    next = λ b out. refl;
  }
    where
      first : (i : ℕ) → (i ≡ 0) ⊎ ((checkpoint_at g region i).page ≡ 0) → (checkpoint_at g region i).page ≡ 0
      first i (inl zero') = let low = div-add-mod' i g.p in omega arith
      first i (inr there) = there

  module _ (n : ℕ) (old now : Flash) (so_far : MapsWritten g region era rs n old now) where
    pub maps_bare : LeavesMaps g region old.page now.page
    maps_bare = record {
      bare = record {
        pages = λ i within. elim (cases_lt i n) [
          | inl low ↦ map_page_bare g era i (part g rs i) _ (so_far.maps i low)
          | inr high ↦ map_or_lost _ (so_far.blank i high within)
        ];
      };
      beside = so_far.beside;
    }

    pub maps_ready : n < checkpoint_pages g → IsNextPage (checkpoint_at g region n) now
    maps_ready within = so_far.ready n (omega arith) within (inl refl)

    put_bare : (next : Flash) (v : Page) → n < checkpoint_pages g → IsMapOrLost v → next.page ≡ set_page now.page (checkpoint_at g region n) v → LeavesMaps g region old.page next.page
    put_bare next v within is pages = subst (λ (f : Place → Page). LeavesMaps g region old.page f) (sym pages) (record {
      bare = bare_put g region now.page (checkpoint_at g region n) v maps_bare.bare is;
      beside = λ at out. set_page-other now.page (checkpoint_at g region n) at v (outside g region n at within out) ∙ so_far.beside at out;
    })

    pub maps_left : (next : Flash) → n < checkpoint_pages g → LeavesOne (IsMapPage g era n (part g rs n)) (checkpoint_at g region n) now next → LeavesMaps g region old.page next.page
    maps_left next within (inl same) = subst (λ (f : Place → Page). LeavesMaps g region old.page f) (sym same) maps_bare
    maps_left next within (inr (inl torn)) = put_bare next Torn within tt torn
    maps_left next within (inr (inr whole)) = put_bare next whole.0 within (map_page_bare g era n (part g rs n) whole.0 whole.1) whole.2

    pub maps_more : (next : Flash) → n < checkpoint_pages g → Programmed (IsMapPage g era n (part g rs n)) (checkpoint_at g region n) now next → MapsWritten g region era rs (n + 1) old next
    maps_more next within done = record {
      maps = λ i low. elim (cases_eq i n) [
        | inl same ↦ subst (λ j. IsMapPage g era j (part g rs j) (next.page (checkpoint_at g region j))) (sym same)
            (subst (λ (q : Page). IsMapPage g era n (part g rs n) q) (sym (ap (λ (f : Place → Page). f (checkpoint_at g region n)) done.pages
            ∙ set_page-here now.page (checkpoint_at g region n) done.page)) done.is_kind)
        | inr other ↦ subst (λ (q : Page). IsMapPage g era i (part g rs i) q) (sym (else_where i other)) (so_far.maps i (omega arith))
      ];
      blank = λ i low within'. else_where i (λ e. absurd (omega arith)) ∙ so_far.blank i (omega arith) within';
      ready = λ i low within' which. ap (λ (f : ℕ → Option ℕ). f (checkpoint_at g region i).block) done.next ∙ ready_after g (region * k g) n i now.next (omega arith) which (λ first. so_far.ready i (omega arith) within' (inr first));
      beside = λ at out. ap (λ (f : Place → Page). f at) done.pages ∙ set_page-other now.page (checkpoint_at g region n) at done.page (outside g region n at within out) ∙ so_far.beside at out;
      next = λ b out. ap (λ (f : ℕ → Option ℕ). f b) done.next ∙ set_other now.next (checkpoint_at g region n).block b _ (λ e. out (subst (λ m. InCheckpoint g region m) e (checkpoint_within g region n within))) ∙ so_far.next b out;
    }
      where
        else_where : (i : ℕ) → (i ≡ n → ⊥) → next.page (checkpoint_at g region i) ≡ now.page (checkpoint_at g region i)
        else_where i other = ap (λ (f : Place → Page). f (checkpoint_at g region i)) done.pages ∙ set_page-other now.page (checkpoint_at g region n) (checkpoint_at g region i) done.page (λ e. other (checkpoint_apart g region i n e))
