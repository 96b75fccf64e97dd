-- A log block without an entry is taken out of use.
use Rattle.std.proofs.Common.{◌≡◌, ℕ, ◌+◌, ◌<◌, List, [], ◌∷◌, ◌⊎◌, suc, length, slice_get, ◌≤◌, ◌==◌, not, Bool, true, false, cond, Some, None, inl, inr, refl, sym, ◌∙◌, ap, subst, arith, eqb-true, ne_eqb}
use Rattle.std.proofs.lemmas.Bool.{cases_Bool, cases_lt, or_cases, and_parts, and_from}
use Rattle.ft_base.specs.declared.geometry.Geometry.{Geometry}
use Rattle.ft_base.specs.Contents.{Contents, Flash}
use Rattle.cache_model.proofs.CountLemmas.{same_number}
use Rattle.mapping.specs.Numbers.{StandsNoneIn}
use Rattle.mapping.specs.MapValue.{MapValue}
use Rattle.block_pool.specs.Pool.{PoolValue, IsInPool, role_of}
use Rattle.block_pool.specs.declared.pool.Role.TheVariants.{Free, Data, Log}
use Rattle.log_blocks.specs.Logs.{LogBlocksValue, IsInUse, is_in, is_open, released, without_block}
use Rattle.log_blocks.specs.Logs as list
use Rattle.log_blocks.proofs.LogsLemmas.{is_in-at, is_in-without, length-without}
use Rattle.merge_engine.specs.declared.parts.Parts.{Parts}
use Rattle.merge_engine.specs.Agreement.{PartsAgree, AreOfOne, IsOpenBlock, RolesAgree}
use Rattle.merge_engine.specs.Steps.{CanBeginLog, HasUnheldLog}
use Rattle.merge_engine.proofs.BesideLemmas.{same_beside, agree_beside}

-- another block is still in use
pub still_in_use : (logs : LogBlocksValue) (block b : ℕ) → (b ≡ block → ⊥) → IsInUse logs b → IsInUse (released block logs) b
still_in_use logs block b differs used = is_in-without b block logs.used ∙ and_from (not (block == b)) (is_in b logs.used) (ap not (ne_eqb block b (λ same. differs (sym same)))) used

pub was_in_use : (logs : LogBlocksValue) (block b : ℕ) → IsInUse (released block logs) b → IsInUse logs b
was_in_use logs block b used = (and_parts (not (block == b)) (is_in b logs.used) (sym (is_in-without b block logs.used) ∙ used)).1

-- this block is not in use
pub not_in_use : (logs : LogBlocksValue) (block : ℕ) → IsInUse (released block logs) block → ⊥
not_in_use logs block used =
    let p = (and_parts (not (block == block)) (is_in block logs.used) (sym (is_in-without block block logs.used) ∙ used)).0 in
    let both : not true ≡ true = ap not (sym (same_number block)) ∙ p in
    cc

-- the open block is unchanged, or none is open
pub open_still : (logs : LogBlocksValue) (block : ℕ) (flash : Flash) → IsOpenBlock logs flash → IsOpenBlock (released block logs) flash
open_still logs block flash opened = by_case (is_open logs block) refl
  where
    by_case : (b : Bool) → is_open logs block ≡ b → IsOpenBlock (record logs { used = without_block block logs.used; open_block = cond (is_open logs block) None logs.open_block; room = cond (is_open logs block) 0 logs.room }) flash
    by_case true is = subst (λ b. IsOpenBlock (record logs { used = without_block block logs.used; open_block = cond b None logs.open_block; room = cond b 0 logs.room }) flash) (sym is) (λ some. absurd (omega arith))
    by_case false is = subst (λ b. IsOpenBlock (record logs { used = without_block block logs.used; open_block = cond b None logs.open_block; room = cond b 0 logs.room }) flash) (sym is) opened

module _ (parts : Parts) (block : ℕ) (in_pool : IsInPool parts.geometry block) (unheld : StandsNoneIn parts.map.entries block) (pool : PoolValue)
    (role : role_of pool block ≡ Free) (others : (b : ℕ) → IsInPool parts.geometry b → (b ≡ block → ⊥) → role_of pool b ≡ role_of parts.pool b) where
  pub roles_given : RolesAgree parts → RolesAgree (record parts { pool = pool; log_blocks = released block parts.log_blocks })
  roles_given roles = record {
    data_blocks = λ b here. elim (cases_Bool (b == block)) [
      | inl t ↦ let same = eqb-true b block t in (
        (λ is. let both : Free ≡ Data = sym role ∙ ap (role_of pool) (sym same) ∙ is in cc),
        (λ stands. absurd (unheld stands.0 stands.1 stands.2 (stands.4 ∙ same))),
      )
      | inr f ↦ let iff = roles.data_blocks b here in let same = others b here (apart b f) in ((λ is. iff.0 (sym same ∙ is)), (λ stands. same ∙ iff.1 stands))
    ];
    log_blocks = λ b here. elim (cases_Bool (b == block)) [
      | inl t ↦ let same = eqb-true b block t in (
        (λ is. let both : Free ≡ Log = sym role ∙ ap (role_of pool) (sym same) ∙ is in cc),
        (λ used. absurd (not_in_use parts.log_blocks block (subst (λ n. IsInUse (released block parts.log_blocks) n) same used))),
      )
      | inr f ↦
          let iff = roles.log_blocks b here in
          let same = others b here (apart b f) in
          ((λ is. still_in_use parts.log_blocks block b (apart b f) (iff.0 (sym same ∙ is))), (λ used. same ∙ iff.1 (was_in_use parts.log_blocks block b used)))
    ];
    in_pool = λ b used. roles.in_pool b (was_in_use parts.log_blocks block b used);
    page_mapped = λ a e is f. still_in_use parts.log_blocks block e.place.block (unheld a e is) (roles.page_mapped a e is f);
  }
    where
      apart : (b : ℕ) → (b == block) ≡ false → b ≡ block → ⊥
      apart b f same = let both : true ≡ false = sym (same_number block) ∙ ap (λ n. n == block) (sym same) ∙ f in cc

  pub agree_given : (contents : Contents) → PartsAgree parts contents → AreOfOne (record parts { pool = pool; log_blocks = released block parts.log_blocks }) → list.AreSoundLogs (released block parts.log_blocks)
      → PartsAgree (record parts { pool = pool; log_blocks = released block parts.log_blocks }) contents
  agree_given contents agree of_one sound =
      agree_beside parts contents contents agree (same_beside parts.geometry parts.map.entries agree.sound.current.durable contents.flash.page contents.flash.page refl) pool (released block parts.log_blocks) refl (λ b low. refl) of_one (roles_given agree.sound.roles) sound
      (open_still parts.log_blocks block contents.flash agree.sound.open_block)

-- ---- log blocks given back, one after another

-- only blocks of the pool went out of use
pub record GaveBack (old new : Parts) : Type 0 where
  pub cache : new ≡ record old { pool = new.pool; log_blocks = new.log_blocks }
  pub of_one : AreOfOne new
  pub in_pool : (b : ℕ) → IsInUse new.log_blocks b → IsInPool new.geometry b
  pub agree : (contents : Contents) → PartsAgree old contents → PartsAgree new contents

pub gave_back-more : (old mid new : Parts) (block : ℕ) → GaveBack old mid → new ≡ record mid { pool = new.pool; log_blocks = released block mid.log_blocks } → AreOfOne new → StandsNoneIn mid.map.entries block
    → ((contents : Contents) → PartsAgree mid contents → StandsNoneIn mid.map.entries block → PartsAgree new contents) → GaveBack old new
gave_back-more old mid new block gave is of_one unheld agree = record {
  cache = is ∙ ap (λ (p : Parts). record p { pool = new.pool; log_blocks = released block mid.log_blocks }) gave.cache ∙ ap (λ (l : LogBlocksValue). record old { pool = new.pool; log_blocks = l }) (sym (ap (λ (p : Parts). p.log_blocks) is));
  of_one = of_one;
  in_pool = λ b used. subst (λ (g : Geometry). IsInPool g b) (sym (ap (λ (p : Parts). p.geometry) is)) (gave.in_pool b (was_in_use mid.log_blocks block b (subst (λ (l : LogBlocksValue). IsInUse l b) (ap (λ (p : Parts). p.log_blocks) is) used)));
  agree = λ contents was. agree contents (gave.agree contents was) unheld;
}

-- each time one fewer is in use
pub one_fewer : (mid new : Parts) (block : ℕ) → new ≡ record mid { pool = new.pool; log_blocks = released block mid.log_blocks } → list.AreSoundLogs mid.log_blocks → IsInUse mid.log_blocks block → length new.log_blocks.used + 1 ≡ length mid.log_blocks.used
one_fewer mid new block is sound used = ap (λ (p : Parts). length p.log_blocks.used + 1) is ∙ length-without block mid.log_blocks.used sound.distinct used

-- fewer are in use; or all are still in use, and some entry stands in each of the first i
abbrev pub FewerOrHeld : Parts → Parts → ℕ → Type 0
FewerOrHeld old new i = (length new.log_blocks.used < length old.log_blocks.used) ⊎ ((new.log_blocks ≡ old.log_blocks) × ((k b : ℕ) → k < i → slice_get old.log_blocks.used k ≡ Some b → StandsNoneIn old.map.entries b → ⊥))

pub fewer_given : (old mid new : Parts) (i : ℕ) → length new.log_blocks.used + 1 ≡ length mid.log_blocks.used → FewerOrHeld old mid i → FewerOrHeld old new i
fewer_given old mid new i one (inl less) = inl (omega arith)
fewer_given old mid new i one (inr same) = let all = ap (λ (l : LogBlocksValue). length l.used) same.0 in inl (omega arith)

-- some entry stands in the next one too
pub fewer_passed : (old mid : Parts) (i block : ℕ) → mid.map ≡ old.map → Some block ≡ slice_get mid.log_blocks.used i → (StandsNoneIn mid.map.entries block → ⊥) → FewerOrHeld old mid i → FewerOrHeld old mid (i + 1)
fewer_passed old mid i block map_is at held (inl less) = inl less
fewer_passed old mid i block map_is at held (inr same) = inr (
  same.0,
  λ k b low is unheld. elim (cases_lt k i) [
    | inl before ↦ same.1 k b before is unheld
    | inr last ↦
        let number : k ≡ i = omega arith in
        let both : Some b ≡ Some block = sym is ∙ ap (λ (l : LogBlocksValue). slice_get l.used k) (sym same.0) ∙ ap (slice_get mid.log_blocks.used) number ∙ sym at in
        let one : b ≡ block = cc in
        held (subst (λ n. StandsNoneIn mid.map.entries n) one (subst (λ (m : MapValue). StandsNoneIn m.entries b) (sym map_is) unheld))
  ],
)

-- a block of a list has a place in it
pub in_place : (xs : List ℕ) (b : ℕ) → is_in b xs ≡ true → (k : ℕ) × (k < length xs) × (slice_get xs k ≡ Some b)
in_place [] b t = absurd (cc)
in_place (x ∷ xs) b t = elim (or_cases (b == x) (is_in b xs) t) [
  | inl here ↦ (0, omega arith, ap Some (sym (eqb-true b x here)))
  | inr later ↦ let at = in_place xs b later in (suc at.0, omega (arith, at.1), at.2)
]

pub no_more_left : (old new : Parts) (i : ℕ) → FewerOrHeld old new i → length new.log_blocks.used ≤ length old.log_blocks.used
no_more_left old new i (inl less) = omega arith
no_more_left old new i (inr same) = let all = ap (λ (l : LogBlocksValue). length l.used) same.0 in omega arith

-- all blocks were looked at
pub fewer_left : (old new : Parts) (i : ℕ) → length new.log_blocks.used ≤ i → FewerOrHeld old new i → HasUnheldLog old → length new.log_blocks.used < length old.log_blocks.used
fewer_left old new i past (inl less) some = less
fewer_left old new i past (inr same) some =
    let at = in_place old.log_blocks.used some.0 some.1 in
    let low = at.1 in
    let all = ap (λ (l : LogBlocksValue). length l.used) same.0 in
    absurd (same.1 at.0 some.0 (omega arith) at.2 some.2)

-- if one can be begun without a merge, fewer than L are left
pub few_left : (old mid : Parts) → list.AreSoundLogs old.log_blocks → old.log_blocks.geometry ≡ old.geometry → mid.geometry ≡ old.geometry → length mid.log_blocks.used ≤ length old.log_blocks.used
    → (HasUnheldLog old → length mid.log_blocks.used < length old.log_blocks.used) → CanBeginLog old → length mid.log_blocks.used < mid.geometry.l
few_left old mid sound own same no_more fewer (inl few) = let l = ap (λ (h : Geometry). h.l) same in omega arith
few_left old mid sound own same no_more fewer (inr some) =
    let less = fewer some in
    let most = sound.few in
    let l = ap (λ (h : Geometry). h.l) same in
    let l' = ap (λ (h : Geometry). h.l) own in
    omega arith

-- once the oldest is out of use there is room for one more
pub room_after : (logs new : LogBlocksValue) → list.AreSoundLogs logs → 1 ≤ length logs.used → ((oldest : ℕ) → slice_get logs.used 0 ≡ Some oldest → new ≡ released oldest logs) → length new.used < logs.geometry.l
room_after logs new sound some gone = by_case logs.used refl
  where
    by_case : (used : List ℕ) → logs.used ≡ used → length new.used < logs.geometry.l
    by_case [] is = absurd (omega (arith, ap length is))
    by_case (oldest ∷ rest) is =
        let first : slice_get logs.used 0 ≡ Some oldest = ap (λ (l : List ℕ). slice_get l 0) is in
        let shorter : length new.used + 1 ≡ length logs.used = ap (λ (l : LogBlocksValue). length l.used + 1) (gone oldest first) ∙ length-without oldest logs.used sound.distinct (is_in-at logs.used 0 oldest first) in
        let few = sound.few in
        omega arith
