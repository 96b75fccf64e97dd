-- A block that was written for its address still is.
use Rattle.std.proofs.Common.{◌≡◌, ◌↔◌, Result, Ok, Err, IfOk, ℕ, ◌==◌, Bool, true, false, List, [], ◌∷◌, Option, Some, None, refl, sym, ◌∙◌, ap, subst, inl, inr, eqb-true}
use Rattle.std.specs.FinMap.{get}
use Rattle.ft_base.specs.declared.block.Block.{Block}
use Rattle.ft_base.specs.declared.geometry.Geometry.{Geometry}
use Rattle.ft_base.specs.Contents.{Contents}
use Rattle.cache_model.specs.Spelling.{data_spare}
use Rattle.cache_model.specs.Cache.{AreOwn, written_block}
use Rattle.cache_model.specs.CacheList.{CacheList, Held}
use Rattle.ssc.specs.declared.cache.Ssc.{Ssc}
use Rattle.ssc.specs.declared.error.SscError.{SscError}
use Rattle.ssc.specs.declared.scrubbing.Scrub.{Scrub}
use Rattle.ssc.specs.CacheState.{Holds}
use Rattle.ssc.specs.Own.{HoldsOwn}
use Rattle.ssc.proofs.OwnLemmas.{IsOwnAt, own_as, own_marked, own_none}
use Rattle.cache_history.specs.declared.kind.Kind.{Kind}
use Rattle.cache_history.specs.declared.kind.Kind.TheVariants.{WriteDirty, WriteLater, WriteClean, Evict, Clean, Commit, Checkpoint}
use Rattle.cache_history.specs.History.{Given, CacheEvent, Answered, Refused, Crashed, TwoLists, AfterAnswer, AfterRefusal, LeftBy, LivedFrom, stepped}
use Rattle.cache_history.proofs.GoneLemmas.{left_at}
use Rattle.cache_history.proofs.StepLemmas.{get_stepped, step_at}

-- a write has spare bytes of its address, and no other command has new ones
step_own : (a lba : ℕ) (here : Bool) (kind : Kind) (block : Block) (o : Option Held) → (here ≡ true → a ≡ lba) → IsOwnAt a o → IsOwnAt a (step_at here kind lba block o)
step_own a lba false kind block o at own = own
step_own a lba true WriteDirty block o at own = λ h is. let same : written_block lba block true ≡ h = cc in sym (ap (λ (x : Held). x.spare) same) ∙ ap data_spare (sym (at refl))
step_own a lba true WriteLater block o at own = λ h is. let same : written_block lba block true ≡ h = cc in sym (ap (λ (x : Held). x.spare) same) ∙ ap data_spare (sym (at refl))
step_own a lba true WriteClean block o at own = λ h is. let same : written_block lba block false ≡ h = cc in sym (ap (λ (x : Held). x.spare) same) ∙ ap data_spare (sym (at refl))
step_own a lba true Evict block o at own = own_none a
step_own a lba true Clean block o at own = own_marked false a o own
step_own a lba true Commit block o at own = own
step_own a lba true Checkpoint block o at own = own

-- a scrub of a cache whose blocks were each written for their own address finds nothing strange
pub looked : (c d : Ssc) (old new : Contents) (r : Result Scrub SscError) → d ≡ c → new ≡ old → IfOk r (λ scrub. (s : CacheList) → Holds c old s → (scrub.strange ≡ None) ↔ AreOwn s)
    → HoldsOwn c old → IfOk r (λ scrub. scrub.strange ≡ None) × HoldsOwn d new
looked c d old new r same contents found own = (
  none_strange r found,
  subst (λ (k : Ssc). HoldsOwn k new) (sym same) (subst (λ (x : Contents). HoldsOwn c x) (sym contents) own),
)
  where
    none_strange : (r : Result Scrub SscError) → IfOk r (λ scrub. (s : CacheList) → Holds c old s → (scrub.strange ≡ None) ↔ AreOwn s) → IfOk r (λ scrub. scrub.strange ≡ None)
    none_strange (Ok scrub) found = (found own.list own.holds).1 own.own
    none_strange (Err e) found = tt

-- ---- lists

list_as : (s t : CacheList) → s ≡ t → AreOwn t → AreOwn s
list_as s t same own = subst AreOwn (sym same) own

left_own : (g : Geometry) (x : Given) (s v : CacheList) → LeftBy g x s v → AreOwn s → AreOwn v
left_own g x s v left own a = elim (left_at g x.kind x.address s v left a) [
  | inl same ↦ own_as a (get v a) (get s a) same (own a)
  | inr gave ↦ own_as a (get v a) None gave.1 (own_none a)
]

stepped_own : (x : Given) (s : CacheList) → AreOwn s → AreOwn (stepped x s)
stepped_own x s own a =
    own_as a (get (stepped x s) a) (step_at (a == x.address) x.kind x.address x.block (get s a)) (get_stepped x.kind x.address x.block s a)
    (step_own a x.address (a == x.address) x.kind x.block (get s a) (eqb-true a x.address) (own a))

abbrev BothOwn : TwoLists → Type 0
BothOwn l = AreOwn l.now × AreOwn l.durable

own_answered : (g : Geometry) (x : Given) (old new : TwoLists) → AfterAnswer g x old new → BothOwn old → BothOwn new
own_answered g x old new after own =
    let left = left_own g x old.now after.left after.left_by own.0 in
    let now = list_as new.now (stepped x after.left) after.now (stepped_own x after.left left) in (
      now,
      elim after.durable [
        | inl k ↦ list_as new.durable old.durable k.1 own.1
        | inr d ↦ elim d [ inl is ↦ list_as new.durable after.left is left | inr is ↦ list_as new.durable new.now is now ]
      ],
    )

own_refused : (g : Geometry) (x : Given) (old new : TwoLists) → AfterRefusal g x old new → BothOwn old → BothOwn new
own_refused g x old new after own =
    let left = left_own g x old.now after.left after.left_by own.0 in
    let now : AreOwn new.now = elim after.now [
      | inl is ↦ list_as new.now old.durable is own.1
      | inr d ↦ elim d [ inl is ↦ list_as new.now after.left is left | inr is ↦ list_as new.now (stepped x after.left) is (stepped_own x after.left left) ]
    ] in
    (now, list_as new.durable new.now after.durable now)

pub own_lived : (g : Geometry) (start : TwoLists) (es : List CacheEvent) (l : TwoLists) → LivedFrom g start es l → AreOwn start.now → AreOwn start.durable → AreOwn l.now × AreOwn l.durable
own_lived g start [] l is now durable = subst (λ (k : TwoLists). AreOwn k.now × AreOwn k.durable) (sym is) (now, durable)
own_lived g start (Answered x ∷ es) l lived now durable = own_answered g x lived.0 l lived.2 (own_lived g start es lived.0 lived.1 now durable)
own_lived g start (Refused x ∷ es) l lived now durable = own_refused g x lived.0 l lived.2 (own_lived g start es lived.0 lived.1 now durable)
own_lived g start (Crashed ∷ es) l lived now durable = let own = own_lived g start es lived.0 lived.1 now durable in (list_as l.now lived.0.durable lived.2.now own.1, list_as l.durable lived.0.durable lived.2.durable own.1)

-- a value of which that follows has it, if the premise holds
pub ok_given : {T E A : Type 0} (P : T → Type 0) (r : Result T E) → IfOk r (λ v. A → P v) → A → IfOk r P
ok_given P (Ok v) follows a = follows a
ok_given P (Err e) follows a = tt {0}
