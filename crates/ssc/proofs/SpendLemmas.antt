-- Device writes of calls that are made one after another.
use Rattle.std.proofs.Common.{◌≡◌, ℕ, ◌+◌, false, Result, Ok, Err, refl, sym, ◌∙◌, arith}
use Rattle.ft_media.specs.declared.media.MediaError.{MediaError}
use Rattle.ft_media.specs.State.{State, lost}
use Rattle.ft_media.specs.Passes.{Passes, Spends}
use Rattle.merge_engine.specs.declared.parts.Parts.{Parts}
use Rattle.ssc.specs.Steps.{PutsPages}

pub spends_both : (a b c : State) (m n : ℕ) → Passes a b false → Spends m a b → Spends n b c → Spends (m + n) a c
spends_both a b c m n passes first then = λ on armed.
    let s = passes.stayed on refl in
    let one = first on armed in
    let two = then s.on (λ none. armed (sym s.stops ∙ none)) in
    omega arith

-- calls after a call don't lower the device writes that are spent
pub spends_on : (a b c : State) (n : ℕ) → Passes a b false → Spends n a b → Passes b c false → Spends n a c
spends_on a b c n passes first later = λ on armed.
    let s = passes.stayed on refl in
    let one = first on armed in
    let t = later.stayed s.on refl in
    let two = t.falls (λ none. armed (sym s.stops ∙ none)) in
    omega arith

-- if two pages are programmed, at least one is
pub puts_one : (old new : Parts) (a b : State) → PutsPages 2 old new a b → PutsPages 1 old new a b
puts_one old new a b puts = record {
  programs = record { count = puts.programs.count; spends = λ on armed. let two = puts.programs.spends on armed in omega arith };
  log_page = puts.log_page;
}

pub passes_ok : {T : Type 0} (a b : State) (r : Result T MediaError) (v : T) → r ≡ Ok v → Passes a b (lost r) → Passes a b false
passes_ok a b (Ok w) v is p = p
passes_ok a b (Err e) v is p = absurd (cc)
