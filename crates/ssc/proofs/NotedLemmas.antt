-- The changes that wait, record by record; and the places that are kept, which are as many as the writes among them.
use Rattle.std.proofs.Common.{◌≡◌, ◌⊎◌, ℕ, suc, ◌+◌, ◌<◌, ◌≤◌, ◌==◌, nat_le, Bool, true, false, cond, List, [], ◌∷◌, ◌++◌, length, map, Option, None, refl, sym, ◌∙◌, ap, arith, inl, inr, length-append, count_by, eqb-true, le-leb}
use Rattle.std.specs.List.{list_all, list_any}
use Rattle.std.proofs.lemmas.Bool.{cases_Bool, false≢true, lt-leb, and_parts, and_from}
use Rattle.std.proofs.lemmas.List.{map-append, length-map}
use Rattle.std.proofs.lemmas.List.Sums.{sum_by_push}
use Rattle.ft_base.specs.declared.record.Record.{Record}
use Rattle.cache_model.specs.Cache.{Buffered, Inserted, Cleaned, Written, is_write}
use Rattle.ssc.specs.declared.earlier.Before.{Before}
use Rattle.ssc.specs.CacheState.{may_wait, shaped, waiting_as, waiting}
use Rattle.ssc.specs.Places.{places_kept, places_noted}

-- ---- record by record

pub length_waiting : (changes : List Record) → length (waiting changes) ≡ length changes
length_waiting [] = refl
length_waiting (change ∷ changes) = ap suc (length_waiting changes)

pub waiting-none : (changes : List Record) → waiting changes ≡ [] → changes ≡ []
waiting-none [] none = refl
waiting-none (change ∷ changes) none = absurd (cc)

pub waiting_push : (changes : List Record) (own : Record) → waiting (changes ++ own ∷ []) ≡ waiting changes ++ waiting_as own ∷ []
waiting_push [] own = refl
waiting_push (change ∷ changes) own = ap (λ l. waiting_as change ∷ l) (waiting_push changes own)

pub kinds_push : (changes : List Record) (own : Record) → may_wait own ≡ true → list_all may_wait changes ≡ true → list_all may_wait (changes ++ own ∷ []) ≡ true
kinds_push [] own may all = and_from _ _ may refl
kinds_push (change ∷ changes) own may all = let p = and_parts (may_wait change) (list_all may_wait changes) all in and_from _ _ p.0 (kinds_push changes own may p.1)

-- ---- by kind and address

pub shapes_push : (q : List Buffered) (b : Buffered) (changes : List Record) (own : Record) → map shaped q ≡ waiting changes → shaped b ≡ waiting_as own → map shaped (q ++ b ∷ []) ≡ waiting (changes ++ own ∷ [])
shapes_push q b changes own same is =
    map-append shaped q (b ∷ [])
    ∙ ap (λ (l : List Buffered). l ++ shaped b ∷ []) same
    ∙ ap (λ (x : Buffered). waiting changes ++ x ∷ []) is
    ∙ sym (waiting_push changes own)

pub length_shapes : (q : List Buffered) (changes : List Record) → map shaped q ≡ waiting changes → length q ≡ length changes
length_shapes q changes same = sym (length-map q shaped) ∙ ap length same ∙ length_waiting changes

-- no kinds, no changes
pub none_shaped : (q : List Buffered) → map shaped q ≡ [] → q ≡ []
none_shaped [] none = refl
none_shaped (b ∷ q) none = absurd (cc)

-- if no write waits, the kinds and addresses are the changes
pub shapes_tell : (q : List Buffered) → list_any is_write (map shaped q) ≡ false → q ≡ map shaped q
shapes_tell [] none = refl
shapes_tell (Inserted a ∷ q) none = ap (λ (l : List Buffered). Inserted a ∷ l) (shapes_tell q none)
shapes_tell (Cleaned a ∷ q) none = ap (λ (l : List Buffered). Cleaned a ∷ l) (shapes_tell q none)
shapes_tell (Written a old ∷ q) none = absurd (false≢true (sym none))

-- ---- how many are writes

abbrev pub writes_in : List Record → ℕ
writes_in changes = count_by is_write (waiting changes)

count_push : (changes : List Record) (own : Record) → writes_in (changes ++ own ∷ []) ≡ writes_in changes + cond (is_write (waiting_as own)) 1 0
count_push changes own = ap (count_by is_write) (waiting_push changes own) ∙ sum_by_push (λ (b : Buffered). cond (is_write b) 1 0) (waiting changes) (waiting_as own)

plus_none : (n : ℕ) → n + 0 ≡ n
plus_none n = omega arith

count_none : (changes : List Record) (own : Record) → is_write (waiting_as own) ≡ false → writes_in (changes ++ own ∷ []) ≡ writes_in changes
count_none changes own none = count_push changes own ∙ ap (λ (b : Bool). writes_in changes + cond b 1 0) none ∙ plus_none (writes_in changes)

count_one : (changes : List Record) (own : Record) → is_write (waiting_as own) ≡ true → writes_in (changes ++ own ∷ []) ≡ writes_in changes + 1
count_one changes own one = count_push changes own ∙ ap (λ (b : Bool). writes_in changes + cond b 1 0) one

-- ---- the places

kept_few : (n : ℕ) (places : List (Option Before)) → n ≤ 1 → places_kept n places ≡ []
kept_few n places few = ap (λ (b : Bool). cond b [] places) (le-leb n 1 few)

kept_more : (n : ℕ) (places : List (Option Before)) → 1 < n → places_kept n places ≡ places
kept_more n places more = ap (λ (b : Bool). cond b [] places) (lt-leb n 1 more)

noted_some : (n : ℕ) (before : Option Before) (places : List (Option Before)) → 1 ≤ n → places_noted n before places ≡ places_kept n places ++ before ∷ []
noted_some n before places some = elim (cases_Bool (n == 0)) [
  | inl t ↦ absurd (let none : n ≡ 0 = eqb-true n 0 t in omega arith)
  | inr f ↦ ap (λ (b : Bool). cond b [] (places_kept n places ++ before ∷ [])) f
]

-- one record came: behind the buffered ones; or alone, once they were committed; or it was committed with them
abbrev pub RecordsAfter : List Record → Record → List Record → Type 0
RecordsAfter buffered own now = (now ≡ buffered ++ own ∷ []) ⊎ (now ≡ own ∷ []) ⊎ (now ≡ [])

module _ (buffered now : List Record) (own : Record) (was places : List (Option Before)) (count : length was ≡ writes_in buffered) where
  longer : (x : Record) (xs : List Record) → buffered ≡ x ∷ xs → now ≡ buffered ++ own ∷ [] → 1 < length now
  longer x xs some behind = omega (arith, ap length behind, length-append buffered (own ∷ []), ap length some)

  alone_then : buffered ≡ [] → now ≡ buffered ++ own ∷ [] → now ≡ own ∷ []
  alone_then none behind = behind ∙ ap (λ (l : List Record). l ++ own ∷ []) none

  module _ (none : is_write (waiting_as own) ≡ false) (is : places ≡ places_kept (length now) was) where
    forgot_alone : now ≡ own ∷ [] → length places ≡ writes_in now
    forgot_alone alone =
        let one : length now ≤ 1 = omega (arith, ap length alone) in
        ap length (is ∙ kept_few (length now) was one) ∙ sym (ap writes_in alone ∙ count_none [] own none)

    forgot_behind : (b : List Record) → buffered ≡ b → now ≡ buffered ++ own ∷ [] → length places ≡ writes_in now
    forgot_behind [] same behind = forgot_alone (alone_then same behind)
    forgot_behind (x ∷ xs) same behind =
        ap length (is ∙ kept_more (length now) was (longer x xs same behind)) ∙ count ∙ sym (ap writes_in behind ∙ count_none buffered own none)

    -- a record that is no write
    pub places_forgot : RecordsAfter buffered own now → length places ≡ writes_in now
    places_forgot (inl behind) = forgot_behind buffered refl behind
    places_forgot (inr (inl alone)) = forgot_alone alone
    places_forgot (inr (inr nothing)) =
        let few : length now ≤ 1 = omega (arith, ap length nothing) in
        ap length (is ∙ kept_few (length now) was few) ∙ sym (ap writes_in nothing)

  module _ (one : is_write (waiting_as own) ≡ true) (before : Option Before) (is : places ≡ places_noted (length now) before was) where
    noted_alone : now ≡ own ∷ [] → length places ≡ writes_in now
    noted_alone alone =
        let at : places ≡ before ∷ [] = is ∙ ap (λ (l : List Record). places_noted (length l) before was) alone in
        ap length at ∙ sym (ap writes_in alone ∙ count_one [] own one)

    noted_behind : (b : List Record) → buffered ≡ b → now ≡ buffered ++ own ∷ [] → length places ≡ writes_in now
    noted_behind [] same behind = noted_alone (alone_then same behind)
    noted_behind (x ∷ xs) same behind =
        let more = longer x xs same behind in
        ap length (is ∙ noted_some (length now) before was (omega (arith, more)) ∙ ap (λ (l : List (Option Before)). l ++ before ∷ []) (kept_more (length now) was more))
        ∙ length-append was (before ∷ [])
        ∙ ap (λ n. n + 1) count
        ∙ sym (ap writes_in behind ∙ count_one buffered own one)

    -- a write
    pub places_noted_too : RecordsAfter buffered own now → length places ≡ writes_in now
    places_noted_too (inl behind) = noted_behind buffered refl behind
    places_noted_too (inr (inl alone)) = noted_alone alone
    places_noted_too (inr (inr nothing)) =
        let at : places ≡ [] = is ∙ ap (λ (l : List Record). places_noted (length l) before was) nothing in
        ap length at ∙ sym (ap writes_in nothing)
