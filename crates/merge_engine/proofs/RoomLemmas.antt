-- A list that gave room.
use Rattle.std.proofs.Common.{◌≡◌, ℕ, ◌/◌, ◌≤◌, ◌==◌, ◌||◌, Bool, true, false, cond, ◌∷◌, map, length, Option, None, inl, inr, refl, sym, ◌∙◌, ap, subst, arith}
use Rattle.std.specs.FinMap.{get, entries}
use Rattle.std.proofs.lemmas.Bool.{cases_Bool, or_right}
use Rattle.ft_base.specs.declared.geometry.Geometry.{Geometry}
use Rattle.cache_model.specs.Entries.{each_once}
use Rattle.cache_model.specs.Cache.{IsWhollyClean, Vanish, groups, with_group}
use Rattle.cache_model.specs.CacheList.{CacheList, Held}
use Rattle.cache_model.proofs.CountLemmas.{member, each_once-le, member_once}
use Rattle.merge_engine.specs.Room.{GaveRoom, GivesRoom}

-- ---- one more group doesn't lower the count

with_group-more : (g : Geometry) (s : CacheList) (group : ℕ) → length (groups g s) ≤ length (with_group group (groups g s))
with_group-more g s group =
    let all = map (λ (x : ℕ × Held). x.0 / g.p) (entries s) in
    each_once-le all (group ∷ each_once all) (λ n there. or_right (group == n) (member n (each_once all)) (member_once n all ∙ there))

-- ---- the groups that gave room

pub gave_vanish : (g : Geometry) (s v : CacheList) (a : ℕ) → GivesRoom g s v → Vanish g s a v
gave_vanish g s v a (inl same) = record {
  gone = λ group. false;
  stays = λ x. ap (λ (l : CacheList). get l x) same;
  clean = λ group is. absurd (cc);
  for_room = λ group is. absurd (cc);
}
gave_vanish g s v a (inr gave) = record {
  gone = gave.gone;
  stays = gave.stays;
  clean = gave.clean;
  for_room = λ group is. let many = gave.too_many in let more = with_group-more g s (a / g.p) in (omega arith, gave.left);
}

-- ---- room that was given twice

gone_twice : (a b : Bool) (o : Option Held) → cond b None (cond a None o) ≡ cond (a || b) None o
gone_twice true true o = refl
gone_twice true false o = refl
gone_twice false b o = refl

-- a group that stayed is as clean as before
clean_before : (g : Geometry) (s v : CacheList) (group : ℕ) → ((x : ℕ) → x / g.p ≡ group → get v x ≡ get s x) → IsWhollyClean g v group → IsWhollyClean g s group
clean_before g s v group same clean = record {
  some = (clean.some.0, clean.some.1, sym (same clean.some.0 clean.some.3) ∙ clean.some.2, clean.some.3);
  clean = λ x h at in_group. clean.clean x h (same x in_group ∙ at) in_group;
}

gave_twice : (g : Geometry) (s v w : CacheList) → GaveRoom g s v → GaveRoom g v w → GaveRoom g s w
gave_twice g s v w first second = record {
  gone = λ group. first.gone group || second.gone group;
  stays = λ x. second.stays x ∙ ap (λ (o : Option Held). cond (second.gone (x / g.p)) None o) (first.stays x) ∙ gone_twice (first.gone (x / g.p)) (second.gone (x / g.p)) (get s x);
  clean = λ group is. elim (cases_Bool (first.gone group)) [
    | inl before ↦ first.clean group before
    | inr stayed ↦ clean_before g s v group
        (λ x in_group. first.stays x ∙ ap (λ b. cond b None (get s x)) (ap first.gone in_group ∙ stayed))
        (second.clean group (sym (ap (λ b. b || second.gone group) stayed) ∙ is))
  ];
  too_many = first.too_many;
  left = second.left;
}

pub gives_again : (g : Geometry) (s v w : CacheList) → GivesRoom g s v → GivesRoom g v w → GivesRoom g s w
gives_again g s v w (inl same) second = subst (λ (l : CacheList). GivesRoom g l w) same second
gives_again g s v w (inr first) (inl same) = inr (subst (λ (l : CacheList). GaveRoom g s l) (sym same) first)
gives_again g s v w (inr first) (inr second) = inr (gave_twice g s v w first second)
