use Rattle.std.proofs.Common.{◌≡◌, ap, sym, ◌∙◌, ℕ, None, nat_cmp, ◌≤◌, ◌^◌, subst, arith}
use Rattle.std.specs.FinMap.{get, get-empty}
use Rattle.sparse_map.specs.Packed.{map_of}
use Rattle.mapping.proofs.PackedLemmas.{nothing_held}
use Rattle.mapping.proofs.SeekingLemmas.{none_some}
use Rattle.mapping.proofs.held.Held.new.Goals as goal

no_pages : (c : goal.After-new-2) (q : ℕ) → get (map_of c.new.result) q ≡ None
no_pages c q = ap (λ m. get m q) c.new.ensures.empty ∙ get-empty nat_cmp q

no_blocks : (c : goal.After-new-2) (q : ℕ) → get (map_of c.new-2.result) q ≡ None
no_blocks c q = ap (λ m. get m q) c.new-2.ensures.empty ∙ get-empty nat_cmp q

pub invariant_of-result : goal.invariant_of-result
invariant_of-result c = record {
  pages_sound = c.new.ensures.sound;
  blocks_sound = c.new-2.ensures.sound;
  are_blocks = record { sound = λ k b at. none_some b (sym (no_blocks c k) ∙ at); below = λ k b at. none_some b (sym (no_blocks c k) ∙ at) };
  apart = λ a x at. none_some x (sym (no_pages c a) ∙ at);
  few_pages = subst (λ n. n ≤ 2 ^ 32) (sym c.new.ensures.none) (omega arith);
  few_blocks = subst (λ n. n ≤ 2 ^ 32) (sym c.new-2.ensures.none) (omega arith);
}

pub returns-clause-entries : goal.returns-clause-entries
returns-clause-entries c = nothing_held c.args.geometry.now (map_of c.new.result) (map_of c.new-2.result) (no_pages c) (no_blocks c)
