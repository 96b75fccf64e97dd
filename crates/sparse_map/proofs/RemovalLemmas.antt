-- The walk of a removal by its definition, beside the walk of the code, which keeps the item that is removed at the
-- hole.
use Rattle.std.proofs.Common.{◌≡◌, ◌≢◌, ℕ, suc, ◌<◌, ◌≤◌, List, Option, Some, None, length, set, leb, true, sym, ap, ◌∙◌}
use Rattle.std.specs.Prelude.{is_some}
use Rattle.std.proofs.lemmas.List.{set-set}
use Rattle.std.proofs.lemmas.Bool.{le-leb, lt-leb, cond-true, cond-false}
use Rattle.sparse_map.specs.Home.{home, steps}
use Rattle.sparse_map.specs.Slots.{slot_at, key_at, exchanged}
use Rattle.sparse_map.specs.Removal.{leads_over, shifted_back}
use Rattle.sparse_map.proofs.RoundLemmas.{next}
use Rattle.sparse_map.proofs.SlotLemmas.{slot_at-set_other, slot_of_key, is_some-key_at}

module _ {V : Type 0} (n m hole at : ℕ) (s : List (Option (ℕ × V))) (apart : hole ≢ next n at) (inside : hole < length s) where
  same_there : slot_at (set s hole None) (next n at) ≡ slot_at s (next n at)
  same_there = slot_at-set_other s hole None inside (next n at) (λ e. apart (sym e))

  pub back_ends : key_at s (next n at) ≡ None → shifted_back n (suc m) hole at (set s hole None) ≡ set s hole None
  unfolding shifted_back
  back_ends free = cond-false (is_some (slot_at (set s hole None) (next n at))) _ _ (ap is_some same_there ∙ sym (is_some-key_at s (next n at)) ∙ ap is_some free)

  module _ (key : ℕ) (is : key_at s (next n at) ≡ Some key) where
    some_there : is_some (slot_at (set s hole None) (next n at)) ≡ true
    some_there = ap is_some same_there ∙ sym (is_some-key_at s (next n at)) ∙ ap is_some is

    leads : leads_over n hole (next n at) (slot_at (set s hole None) (next n at)) ≡ leb (steps n (home n key) hole) (steps n (home n key) (next n at))
    leads = let item = slot_of_key s (next n at) key is in ap (leads_over n hole (next n at)) (same_there ∙ item.1)

    pub back_stays : steps n (home n key) (next n at) < steps n (home n key) hole → shifted_back n (suc m) hole at (set s hole None) ≡ shifted_back n m hole (next n at) (set s hole None)
    unfolding shifted_back
    back_stays short =
        cond-true (is_some (slot_at (set s hole None) (next n at))) _ _ some_there
        ∙ cond-false (leads_over n hole (next n at) (slot_at (set s hole None) (next n at))) _ _ (leads ∙ lt-leb (steps n (home n key) hole) (steps n (home n key) (next n at)) short)

    pub back_moves : steps n (home n key) hole ≤ steps n (home n key) (next n at)
        → shifted_back n (suc m) hole at (set s hole None) ≡ shifted_back n m (next n at) (next n at) (set (exchanged s hole (next n at)) (next n at) None)
    unfolding shifted_back
    back_moves over =
        cond-true (is_some (slot_at (set s hole None) (next n at))) _ _ some_there
        ∙ cond-true (leads_over n hole (next n at) (slot_at (set s hole None) (next n at))) _ _ (leads ∙ le-leb (steps n (home n key) hole) (steps n (home n key) (next n at)) over)
        ∙ ap (λ t. shifted_back n m (next n at) (next n at) (set t (next n at) None)) (set-set s hole None (slot_at (set s hole None) (next n at)) ∙ ap (set s hole) same_there)
        ∙ ap (shifted_back n m (next n at) (next n at)) (sym (set-set (set s hole (slot_at s (next n at))) (next n at) (slot_at s hole) None))
