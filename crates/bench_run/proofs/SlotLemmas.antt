-- A split list, in which an element went from the end of the front to the start of the back.
use Rattle.std.proofs.Common.{◌≡◌, ℕ, ◌+◌, ◌-◌, ◌<◌, List, ◌++◌, length, get_or, set, sym, ap, ◌∙◌, arith}
use Rattle.std.proofs.Math.ListN.{get_or-append}
use Rattle.std.proofs.lemmas.List.{get_or_default, set-append_right}

pub copied_next : {X : Type 0} (slots front back : List X) (at : ℕ) (d e x : X) → slots ≡ front ++ back → length front ≡ at + 1 → x ≡ get_or front at d → front ++ set back 0 x ≡ set slots (at + 1) (get_or slots at e)
copied_next slots front back at d e x is long copied =
    let room : at < length front = omega arith in
    let same : get_or slots at e ≡ x = ap (λ l. get_or l at e) is ∙ get_or-append front back e at room ∙ get_or_default front at e d room ∙ sym copied in
    let none : at + 1 - (at + 1) ≡ 0 = omega arith in
    let put : set (front ++ back) (at + 1) x ≡ front ++ set back 0 x = set-append_right front back (at + 1) (at + 1) x long (omega arith) ∙ ap (λ n. front ++ set back n x) none in
    sym (ap (λ l. set l (at + 1) (get_or slots at e)) is ∙ ap (λ s. set (front ++ back) (at + 1) s) same ∙ put)
