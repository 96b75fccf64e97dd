-- The homes of some keys in 32 buckets, as the definition computes them.
use Rattle.std.proofs.Common.{◌≡◌, [], ◌∷◌, map, refl}
use Rattle.sparse_map.specs.Home.{home}

pub homes_in_32 : map (home 32) (0 ∷ 1 ∷ 2 ∷ 3 ∷ 4 ∷ 5 ∷ 8 ∷ 21 ∷ 55 ∷ 144 ∷ []) ≡ 0 ∷ 19 ∷ 7 ∷ 27 ∷ 15 ∷ 2 ∷ 30 ∷ 31 ∷ 31 ∷ 31 ∷ []
unfolding home
homes_in_32 = refl
