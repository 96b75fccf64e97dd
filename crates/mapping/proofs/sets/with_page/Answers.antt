use Rattle.std.proofs.Common.{◌≡◌, ℕ, suc, ◌+◌, ◌*◌, ◌%◌, ◌^◌, ◌<◌, ◌≤◌, refl, arith, rules}
use Rattle.std.proofs.Math.Nat.{mod-le, pow-suc, pow-le-pow_right}
use Rattle.mapping.proofs.sets.with_page.Goals as goal

-- a set of pages before this one, with this one, fits a word
one_more : (set page n limit : ℕ) → set < 2 ^ page → page < n → 2 ^ n ≡ limit → set + 1 * 2 ^ page % limit < limit
one_more set page n limit below within is =
    let least : 1 * 2 ^ page % limit ≤ 1 * 2 ^ page = mod-le (1 * 2 ^ page) limit in
    let next : 2 ^ suc page ≤ 2 ^ n = pow-le-pow_right (omega arith) (omega (arith, within)) in
    let twice : 2 ^ suc page ≡ 2 ^ page * 2 = pow-suc 2 page in
    omega (arith, least, next, twice, below, is)

pub overflow_add-result : goal.overflow_add-result
overflow_add-result c =
    let small : c.args.set + 1 * 2 ^ c.args.page % 2 ^ 128 < 2 ^ 128 = one_more c.args.set c.args.page 128 (2 ^ 128) c.requires.below c.requires.page refl in
    search rules
