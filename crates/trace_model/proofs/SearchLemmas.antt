-- The search for the least number of lost block writes, step by step.
use Rattle.std.proofs.Common.{◌≡◌, refl, ℕ, zero, suc, ◌+◌, ◌-◌, ◌<◌, ◌≤◌, ◌==◌, ◌||◌, ◌&&◌, Bool, true, false, cond, arith, List, [], ◌∷◌, length, drop, take, get_or, ap, sym, ◌∙◌}
use Rattle.std.specs.List.{list_any}
use Rattle.std.proofs.lemmas.List.{drop_all, drop_more, take_rest}
use Rattle.trace_model.specs.declared.lost.Looked.{Looked}
use Rattle.trace_model.specs.Lost.{first_right, look_right}

-- the addresses of the first `n` of these come before the named ones, the last of them first
abbrev pub with_lbas : ℕ → List Looked → List ℕ → List ℕ
with_lbas zero ls named = named
with_lbas (suc n) [] named = named
with_lbas (suc n) (l ∷ ls) named = with_lbas n ls (l.lba ∷ named)

either : (a b c : Bool) → (b || (a || c)) ≡ ((a || b) || c)
either true true c = refl
either true false c = refl
either false true c = refl
either false false c = refl

-- an address is one of them if one of these has it, or it was named
named_is : (ls : List Looked) (n : ℕ) (named : List ℕ) (a : ℕ) → list_any (λ k. k == a) (with_lbas n ls named) ≡ (list_any (λ l. l.lba == a) (take n ls) || list_any (λ k. k == a) named)
named_is ls zero named a = refl
named_is [] (suc n) named a = refl
named_is (l ∷ ls) (suc n) named a = named_is ls n (l.lba ∷ named) a ∙ either (l.lba == a) (list_any (λ x. x.lba == a) (take n ls)) (list_any (λ k. k == a) named)

none_left : (b : Bool) → (b || false) ≡ b
none_left true = refl
none_left false = refl

pub newer_is : (ls : List Looked) (n a : ℕ) → list_any (λ k. k == a) (with_lbas n ls []) ≡ list_any (λ l. l.lba == a) (take n ls)
newer_is ls n a = named_is ls n [] a ∙ none_left (list_any (λ l. l.lba == a) (take n ls))

-- one more address
lbas_suc : (ls : List Looked) (named : List ℕ) (i : ℕ) (any : Looked) → i < length ls → with_lbas (suc i) ls named ≡ (get_or ls i any).lba ∷ with_lbas i ls named
lbas_suc [] named i any within = absurd (omega arith)
lbas_suc (l ∷ ls) named zero any within = refl
lbas_suc (l ∷ ls) named (suc i) any within = lbas_suc ls (l.lba ∷ named) i any (omega arith)

pub lbas-more : (ls : List Looked) (named : List ℕ) (i : ℕ) (any : Looked) → i < length ls → with_lbas (i + 1) ls named ≡ (get_or ls i any).lba ∷ with_lbas i ls named
lbas-more ls named i any within = let more : i + 1 ≡ suc i = omega arith in ap (λ n. with_lbas n ls named) more ∙ lbas_suc ls named i any within

-- one more write looks right if its block is there, or a newer write named its address
pub right-more : (ls : List Looked) (i : ℕ) (any : Looked) (all : Bool) → i < length ls → all ≡ look_right (with_lbas i ls []) (drop i ls)
    → (list_any (λ l. l.lba == (get_or ls i any).lba) (take i ls) || (get_or ls i any).shows) ≡ true → all ≡ look_right (with_lbas (i + 1) ls []) (drop (i + 1) ls)
right-more ls i any all within so_far right =
    so_far
    ∙ ap (look_right (with_lbas i ls [])) (drop_more ls i any within)
    ∙ ap (λ b. b && look_right ((get_or ls i any).lba ∷ with_lbas i ls []) (drop (i + 1) ls)) (ap (λ b. b || (get_or ls i any).shows) (newer_is ls i (get_or ls i any).lba) ∙ right)
    ∙ ap (λ (named : List ℕ). look_right named (drop (i + 1) ls)) (sym (lbas-more ls [] i any within))

pub not_right : (ls : List Looked) (i : ℕ) (any : Looked) (all : Bool) → i < length ls → all ≡ look_right (with_lbas i ls []) (drop i ls)
    → (list_any (λ l. l.lba == (get_or ls i any).lba) (take i ls) || (get_or ls i any).shows) ≡ false → all ≡ false
not_right ls i any all within so_far wrong =
    so_far
    ∙ ap (look_right (with_lbas i ls [])) (drop_more ls i any within)
    ∙ ap (λ b. b && look_right ((get_or ls i any).lba ∷ with_lbas i ls []) (drop (i + 1) ls)) (ap (λ b. b || (get_or ls i any).shows) (newer_is ls i (get_or ls i any).lba) ∙ wrong)

pub right-none : (ls : List Looked) (i : ℕ) (all : Bool) → length ls ≤ i → all ≡ look_right (with_lbas i ls []) (drop i ls) → all ≡ true
right-none ls i all past so_far = so_far ∙ ap (look_right (with_lbas i ls [])) (drop_all i ls past)

-- what a slice to the end shows
pub rest_is : (ls : List Looked) (i : ℕ) (b : Bool) → b ≡ look_right [] (take (length ls - i) (drop i ls)) → look_right [] (drop i ls) ≡ b
rest_is ls i b is = sym (is ∙ ap (look_right []) (take_rest ls i))

-- the search goes on, or ends
pub first-more : (ls : List Looked) (i : ℕ) → i < length ls → first_right ls ≡ i + first_right (drop i ls) → look_right [] (drop i ls) ≡ false → first_right ls ≡ (i + 1) + first_right (drop (i + 1) ls)
first-more [] i within so_far wrong = absurd (omega arith)
first-more (l ∷ ls) i within so_far wrong =
    let front = drop_more (l ∷ ls) i l within in
    let here : first_right (drop i (l ∷ ls)) ≡ suc (first_right (drop (i + 1) (l ∷ ls))) =
    ap first_right front ∙ ap (λ b. cond b 0 (suc (first_right (drop (i + 1) (l ∷ ls))))) (ap (look_right []) (sym front) ∙ wrong) in
    omega (arith, so_far, here)

pub first-found : (ls : List Looked) (i : ℕ) → i < length ls → first_right ls ≡ i + first_right (drop i ls) → look_right [] (drop i ls) ≡ true → first_right ls ≡ i
first-found [] i within so_far right = absurd (omega arith)
first-found (l ∷ ls) i within so_far right =
    let front = drop_more (l ∷ ls) i l within in
    let here : first_right (drop i (l ∷ ls)) ≡ 0 =
    ap first_right front ∙ ap (λ b. cond b 0 (suc (first_right (drop (i + 1) (l ∷ ls))))) (ap (look_right []) (sym front) ∙ right) in
    omega (arith, so_far, here)

pub first-none : (ls : List Looked) (i : ℕ) → length ls ≤ i → i ≤ length ls → first_right ls ≡ i + first_right (drop i ls) → first_right ls ≡ length ls
first-none ls i past most so_far = let none : first_right (drop i ls) ≡ 0 = ap first_right (drop_all i ls past) in omega (arith, so_far, none)
