use Rattle.std.proofs.Common.{◌≡◌, ◌≤◌, ℕ, ◌+◌, ◌-◌, ◌<◌, false, true, length, inr, refl, sym, ◌∙◌, ap, subst, arith}
use Rattle.mapping.specs.MapValue.{MapValue}
use Rattle.mapping.specs.Numbers.{StandsNoneIn}
use Rattle.merge_engine.specs.declared.parts.Parts.{Parts}
use Rattle.merge_engine.proofs.GiveBackLemmas.{gave_back-more, one_fewer, fewer_given, fewer_passed, fewer_left, no_more_left}
use Rattle.merge_engine.proofs.HeldLogsLemmas.{held_first, held_given, held_passed, held_all}
use Rattle.merge_engine.proofs.appending.free_unheld.Goals as goal

pub loop-i-smaller-then-stands_none_in : goal.loop-i-smaller-then-stands_none_in
loop-i-smaller-then-stands_none_in c =
    let fewer = one_fewer c.loop-i.cache c.give_back.new.cache c.nth-block.result c.give_back.ensures.cache c.used.ensures.sound c.nth-block.ensures.in_use in
    less (length c.give_back.new.cache.log_blocks.used) (length c.loop-i.cache.log_blocks.used) c.loop-i.i fewer (omega (arith, c.used.ensures.used))
  where
    less : (new old i : ℕ) → new + 1 ≡ old → i < old → new - i < old - i
    less new old i is low = omega arith

pub loop-i-init : goal.loop-i-init
loop-i-init c = record {
  gave = record { cache = refl; of_one = c.requires.of_one; in_pool = c.requires.in_pool; agree = λ contents was. was };
  looked = inr (refl, λ k b low is unheld. absurd (omega arith));
  held = held_first c.args.cache.now.map.entries c.args.cache.now.log_blocks.used;
  erases = λ b. refl;
}

pub loop-i-preserved-then-stands_none_in : goal.loop-i-preserved-then-stands_none_in
loop-i-preserved-then-stands_none_in c = record {
  gave = gave_back-more c.args.cache.now c.loop-i.cache c.give_back.new.cache c.nth-block.result c.loop-i.invariant.gave c.give_back.ensures.cache c.give_back.ensures.of_one (c.if-stands_none_in.ensures.0 refl) c.give_back.ensures.agree;
  looked = fewer_given c.args.cache.now c.loop-i.cache c.give_back.new.cache c.loop-i.i
      (one_fewer c.loop-i.cache c.give_back.new.cache c.nth-block.result c.give_back.ensures.cache c.used.ensures.sound c.nth-block.ensures.in_use) c.loop-i.invariant.looked;
  held = held_given c.args.cache.now.map.entries c.args.cache.now.log_blocks.used c.loop-i.cache.log_blocks.used c.loop-i.i c.nth-block.result c.nth-block.ensures.nth c.loop-i.invariant.held
      c.give_back.new.cache.log_blocks.used (ap (λ (p : Parts). p.log_blocks.used) c.give_back.ensures.cache)
      (subst (λ (m : MapValue). StandsNoneIn m.entries c.nth-block.result) (ap (λ (p : Parts). p.map) c.loop-i.invariant.gave.cache) (c.if-stands_none_in.ensures.0 refl));
  erases = λ b. c.give_back.ensures.erases b ∙ c.loop-i.invariant.erases b;
}

pub loop-i-preserved : goal.loop-i-preserved
loop-i-preserved c = record {
  gave = c.loop-i.invariant.gave;
  looked = fewer_passed c.args.cache.now c.loop-i.cache c.loop-i.i c.nth-block.result (ap (λ (p : Parts). p.map) c.loop-i.invariant.gave.cache) c.nth-block.ensures.nth
      (λ unheld. let both : false ≡ true = c.if-stands_none_in.ensures.1 unheld in absurd (cc)) c.loop-i.invariant.looked;
  held = held_passed c.args.cache.now.map.entries c.args.cache.now.log_blocks.used c.loop-i.cache.log_blocks.used c.loop-i.i c.nth-block.result c.nth-block.ensures.nth c.loop-i.invariant.held
      (λ none. let unheld = subst (λ (m : MapValue). StandsNoneIn m.entries c.nth-block.result) (sym (ap (λ (p : Parts). p.map) c.loop-i.invariant.gave.cache)) none in
      let both : false ≡ true = c.if-stands_none_in.ensures.1 unheld in absurd (cc));
  erases = c.loop-i.invariant.erases;
}

pub returns-clause-no_more : goal.returns-clause-no_more
returns-clause-no_more c = no_more_left c.args.cache.now c.loop-i.cache c.loop-i.i c.loop-i.invariant.looked

pub returns-clause-fewer : goal.returns-clause-fewer
returns-clause-fewer c = fewer_left c.args.cache.now c.loop-i.cache c.loop-i.i (subst (λ n. n ≤ c.loop-i.i) c.used.ensures.used c.loop-i-test.false) c.loop-i.invariant.looked

pub returns-clause-held : goal.returns-clause-held
returns-clause-held c = held_all c.args.cache.now.map.entries c.args.cache.now.log_blocks.used c.loop-i.cache.log_blocks.used c.loop-i.i (subst (λ n. n ≤ c.loop-i.i) c.used.ensures.used c.loop-i-test.false) c.loop-i.invariant.held
