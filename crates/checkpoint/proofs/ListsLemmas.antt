-- Lists of pages, and lists of records in parts.
use Rattle.std.proofs.Common.{◌≡◌, ℕ, zero, suc, ◌+◌, ◌-◌, ◌*◌, ◌<◌, ◌≤◌, Bool, true, min, List, [], ◌∷◌, ◌++◌, length, take, drop, Some, refl, sym, ◌∙◌, ap, ap₂, arith, inl, inr, take-append-drop}
use Rattle.std.specs.List.{list_all}
use Rattle.std.proofs.lemmas.Bool.{and_parts, and_from, cases_eq}
use Rattle.std.proofs.lemmas.List.{length-take, length-drop, drop_all, take_min}
use Rattle.ft_base.specs.declared.block.Place.{Place}
use Rattle.ft_base.specs.declared.block.Page.{Page}
use Rattle.ft_base.specs.declared.geometry.Geometry.{Geometry}
use Rattle.ft_base.specs.declared.record.Record.{Record}
use Rattle.cache_model.specs.declared.format.PageKind.{PageKind}
use Rattle.cache_model.specs.declared.format.Header.{Header}
use Rattle.cache_model.specs.Loading.{Stamp, pages_from, header_at}
use Rattle.cache_model.specs.Laws.{ArePages}
use Rattle.checkpoint.specs.Regions.{part}
use Rattle.ft_base.specs.Layout.{page_records}

-- ---- pages

-- the pages before a page, the page, and the pages behind it
pub pages_split : (page : Place → Page) (at : ℕ → Place) (i n most : ℕ) → n < most → pages_from page at i most ≡ pages_from page at i n ++ page (at (i + n)) ∷ pages_from page at (i + n + 1) (most - (n + 1))
pages_split page at i n zero low = absurd (omega arith)
pages_split page at i zero (suc most) low = ap₂ (λ a b. page (at a) ∷ pages_from page at (a + 1) b) (let e : i ≡ i + 0 = omega arith in e) (let e : most ≡ suc most - (0 + 1) = omega arith in e)
pages_split page at i (suc n) (suc most) low =
    ap (λ qs. page (at i) ∷ qs) (pages_split page at (i + 1) n most (omega arith)
    ∙ ap₂ (λ a b. pages_from page at (i + 1) n ++ page (at a) ∷ pages_from page at (a + 1) b) (let e : i + 1 + n ≡ i + suc n = omega arith in e) (let e : most - (n + 1) ≡ suc most - (suc n + 1) = omega arith in e))

pub take-pages : (page : Place → Page) (at : ℕ → Place) (i n most : ℕ) → n ≤ most → take n (pages_from page at i most) ≡ pages_from page at i n
take-pages page at i zero most low = refl
take-pages page at i (suc n) zero low = absurd (omega arith)
take-pages page at i (suc n) (suc most) low = ap (λ qs. page (at i) ∷ qs) (take-pages page at (i + 1) n most (omega arith))

-- one page after another is of a kind
pub are_pages : (kind : PageKind) (stamp : Stamp) (page : Place → Page) (at : ℕ → Place) (i n : ℕ) → ((j : ℕ) → i ≤ j → j < i + n → (h : Header) × (header_at kind stamp j (page (at j)) ≡ Some h)) → ArePages kind stamp i (pages_from page at i n)
are_pages kind stamp page at i zero each = tt
are_pages kind stamp page at i (suc n) each = (each i (omega arith) (omega arith), are_pages kind stamp page at (i + 1) n (λ j low high. each j (omega arith) (omega arith)))

pub each_page : (kind : PageKind) (stamp : Stamp) (page : Place → Page) (at : ℕ → Place) (i n : ℕ) → ArePages kind stamp i (pages_from page at i n) → (j : ℕ) → i ≤ j → j < i + n → (h : Header) × (header_at kind stamp j (page (at j)) ≡ Some h)
each_page kind stamp page at i zero are j low high = absurd (omega arith)
each_page kind stamp page at i (suc n) are j low high = elim (cases_eq j i) [
  | inl same ↦ (are.0.0, ap (λ k. header_at kind stamp k (page (at k))) same ∙ are.0.1)
  | inr other ↦ each_page kind stamp page at (i + 1) n are.1 j (omega arith) (omega arith)
]

-- ---- parts of a list of records

drop-more : (n m : ℕ) (rs : List Record) → drop m (drop n rs) ≡ drop (n + m) rs
drop-more zero m rs = ap (λ k. drop k rs) (let e : m ≡ zero + m = omega arith in e)
drop-more (suc n) m [] = drop_all m [] (omega arith) ∙ sym (drop_all (suc n + m) [] (omega arith))
drop-more (suc n) m (r ∷ rs) = drop-more n m rs ∙ ap (λ k. drop k (r ∷ rs)) (let e : suc (n + m) ≡ suc n + m = omega arith in e)

any_part : (n : ℕ) (rs : List Record) (i : ℕ) → drop (n * i) rs ≡ take n (drop (n * i) rs) ++ drop (n * (i + 1)) rs
any_part n rs i =
    sym (take-append-drop n (drop (n * i) rs))
    ∙ ap (λ qs. take n (drop (n * i) rs) ++ qs) (drop-more (n * i) n rs ∙ ap (λ k. drop k rs) (let e : n * i + n ≡ n * (i + 1) = omega arith in e))

pub part_and_rest : (g : Geometry) (rs : List Record) (i : ℕ) → drop (page_records g * i) rs ≡ part g rs i ++ drop (page_records g * (i + 1)) rs
unfolding part
part_and_rest g rs i = any_part (page_records g) rs i

any_length : (n : ℕ) (rs : List Record) (i : ℕ) → length (take n (drop (n * i) rs)) ≡ min n (length rs - n * i)
any_length n rs i = length-take n (drop (n * i) rs) ∙ ap (min n) (length-drop (n * i) rs)

pub length-part : (g : Geometry) (rs : List Record) (i : ℕ) → length (part g rs i) ≡ min (page_records g) (length rs - page_records g * i)
unfolding part
length-part g rs i = any_length (page_records g) rs i

least_is : (rs out : List Record) (most from count : ℕ) → count ≡ min most (length rs - from) → take count out ≡ take count (drop from rs) → take count out ≡ take most (drop from rs)
least_is rs out most from count few same =
    same ∙ ap (λ k. take k (drop from rs)) (few ∙ ap (min most) (sym (length-drop from rs))) ∙ take_min most (drop from rs)

pub part_is : (g : Geometry) (rs out : List Record) (count i : ℕ) → count ≡ min (page_records g) (length rs - page_records g * i) → take count out ≡ take count (drop (page_records g * i) rs) → take count out ≡ part g rs i
unfolding part
part_is g rs out count i few same = least_is rs out (page_records g) (page_records g * i) count few same

-- ---- facts that hold of each record

all-take : {A : Type 0} (test : A → Bool) (n : ℕ) (xs : List A) → list_all test xs ≡ true → list_all test (take n xs) ≡ true
all-take test zero xs all = refl
all-take test (suc n) [] all = refl
all-take test (suc n) (x ∷ xs) all = let p = and_parts (test x) (list_all test xs) all in and_from _ _ p.0 (all-take test n xs p.1)

all-drop : {A : Type 0} (test : A → Bool) (n : ℕ) (xs : List A) → list_all test xs ≡ true → list_all test (drop n xs) ≡ true
all-drop test zero xs all = all
all-drop test (suc n) [] all = refl
all-drop test (suc n) (x ∷ xs) all = all-drop test n xs (and_parts (test x) (list_all test xs) all).1

pub all-append : {A : Type 0} (test : A → Bool) (xs ys : List A) → list_all test xs ≡ true → list_all test ys ≡ true → list_all test (xs ++ ys) ≡ true
all-append test [] ys all all' = all'
all-append test (x ∷ xs) ys all all' = let p = and_parts (test x) (list_all test xs) all in and_from _ _ p.0 (all-append test xs ys p.1 all')

any_all : {A : Type 0} (test : A → Bool) (n k : ℕ) (xs : List A) → list_all test xs ≡ true → list_all test (take n (drop k xs)) ≡ true
any_all test n k xs all = all-take test n (drop k xs) (all-drop test k xs all)

pub all-part : (g : Geometry) (test : Record → Bool) (rs : List Record) (i : ℕ) → list_all test rs ≡ true → list_all test (part g rs i) ≡ true
unfolding part
all-part g test rs i all = any_all test (page_records g) (page_records g * i) rs all
