-- The blocks that give way to a write.
use Rattle.std.proofs.Common.{◌≡◌, ◌⊎◌, ℕ, ◌/◌, true, false, cond, Option, Some, None, refl, sym, ◌∙◌, ap, inl, inr}
use Rattle.std.specs.FinMap.{get}
use Rattle.std.proofs.lemmas.Bool.{cases_Bool}
use Rattle.ft_base.specs.declared.geometry.Geometry.{Geometry}
use Rattle.cache_model.specs.Cache.{Vanish}
use Rattle.cache_model.specs.CacheList.{Held, CacheList}
use Rattle.cache_history.specs.declared.kind.Kind.{Kind}
use Rattle.cache_history.specs.declared.kind.Kind.TheVariants.{WriteDirty, WriteLater, WriteClean, Evict, Clean, Commit, Checkpoint}
use Rattle.cache_history.specs.History.{LeftByKind, is_write}

-- a block is held, clean
abbrev pub IsClean : Option Held → Type 0
IsClean o = (h : Held) × (o ≡ Some h) × (h.dirty ≡ false)

-- a write may drop a block that was clean
abbrev pub LostAt : Kind → Option Held → Option Held → Type 0
LostAt kind o left = IsClean o × (left ≡ None) × (is_write kind ≡ true)

pub vanished_at : (g : Geometry) (s : CacheList) (a : ℕ) (v : CacheList) → Vanish g s a v → (n : ℕ) → (get v n ≡ get s n) ⊎ (IsClean (get s n) × (get v n ≡ None))
vanished_at g s a v van n = elim (cases_Bool (van.gone (n / g.p))) [
  | inl t ↦ by (get s n) refl (van.stays n ∙ ap (λ b. cond b None (get s n)) t) t
  | inr f ↦ inl (van.stays n ∙ ap (λ b. cond b None (get s n)) f)
]
  where
    by : (o : Option Held) → get s n ≡ o → get v n ≡ None → van.gone (n / g.p) ≡ true → (get v n ≡ get s n) ⊎ (IsClean (get s n) × (get v n ≡ None))
    by None is none t = inl (none ∙ sym is)
    by (Some h) is none t = inr ((h, is, (van.clean (n / g.p) t).clean n h is refl), none)

pub left_at : (g : Geometry) (kind : Kind) (a : ℕ) (s v : CacheList) → LeftByKind g kind a s v → (n : ℕ) → (get v n ≡ get s n) ⊎ LostAt kind (get s n) (get v n)
left_at g WriteDirty a s v left n = elim (vanished_at g s a v left n) [ inl same ↦ inl same | inr gave ↦ inr (gave.0, gave.1, refl) ]
left_at g WriteLater a s v left n = elim (vanished_at g s a v left n) [ inl same ↦ inl same | inr gave ↦ inr (gave.0, gave.1, refl) ]
left_at g WriteClean a s v left n = elim (vanished_at g s a v left n) [ inl same ↦ inl same | inr gave ↦ inr (gave.0, gave.1, refl) ]
left_at g Evict a s v left n = inl (ap (λ (l : CacheList). get l n) left)
left_at g Clean a s v left n = inl (ap (λ (l : CacheList). get l n) left)
left_at g Commit a s v left n = inl (ap (λ (l : CacheList). get l n) left)
left_at g Checkpoint a s v left n = inl (ap (λ (l : CacheList). get l n) left)

-- nothing need give way
pub none_vanish : (g : Geometry) (s : CacheList) (a : ℕ) → Vanish g s a s
none_vanish g s a = record { gone = λ group. false; stays = λ n. refl; clean = λ group t. absurd (cc); for_room = λ group t. absurd (cc) }

pub left_whole : (g : Geometry) (kind : Kind) (a : ℕ) (s : CacheList) → LeftByKind g kind a s s
left_whole g WriteDirty a s = none_vanish g s a
left_whole g WriteLater a s = none_vanish g s a
left_whole g WriteClean a s = none_vanish g s a
left_whole g Evict a s = refl
left_whole g Clean a s = refl
left_whole g Commit a s = refl
left_whole g Checkpoint a s = refl

-- an absent address is absent in the list that is left
pub vanished_none : (g : Geometry) (s : CacheList) (a : ℕ) (v : CacheList) → Vanish g s a v → (n : ℕ) → get s n ≡ None → get v n ≡ None
vanished_none g s a v van n is = elim (vanished_at g s a v van n) [ inl same ↦ same ∙ is | inr gave ↦ gave.1 ]
