-- The values of each address while blocks are written and put back.
use Rattle.std.proofs.Common.{◌≡◌, ◌==◌, ℕ, List, [], ◌∷◌, ◌++◌, refl, sym, ◌∙◌, ap, arith, Option, Some, None, append_assoc, cond, Bool, true, false, inl, inr, subst, eq-eqb, IsSome, ◌%◌}
use Rattle.std.specs.Prelude.{Box}
use Rattle.std.proofs.lemmas.List.{append-nil}
use Rattle.std.proofs.lemmas.Bool.{cases_eq}
use Rattle.std.proofs.lemmas.Option.{none-some}
use Rattle.std.proofs.lemmas.Bool.Decides.{nat_tests}
use Rattle.std.specs.Ordering.{nat_cmp}
use Rattle.std.specs.BTreeMap.{BTreeMap, Updates, get}
use Rattle.std.specs.declared.alloc.Global.{Global}
use Rattle.ft_base.specs.declared.block.Block.{Block}
use Rattle.ft_base.specs.declared.power.Outcome.{Outcome}
use Rattle.ft_base.specs.declared.power.Outcome.TheVariants as outcome
use Rattle.ft_base.specs.Contents.{Values, written}
use Rattle.ft_base.proofs.Images.{set_here, set_other}
use Rattle.ft_media.specs.Media.{after_write}
use Rattle.ft_media.specs.Rig.{cut_value, flushed_value}
use Rattle.disk_model.specs.declared.replaced.Replaced.{Replaced}
use Rattle.ft_base.specs.Plain.{block_in}
use Rattle.disk_model.specs.Store.{replaced_at, values_in}

abbrev Blocks : Type 0
Blocks = BTreeMap ℕ (Box Block Global)

-- the newest of the replaced blocks is the one that was pushed last
replaced_push : (replaced : List Replaced) (last : Replaced) (a : ℕ) → replaced_at (replaced ++ last ∷ []) a ≡ cond (last.lba == a) (block_in last.block ∷ []) [] ++ replaced_at replaced a
replaced_push [] last a = sym (append-nil (cond (last.lba == a) (block_in last.block ∷ []) []))
replaced_push (first ∷ replaced) last a = ap (λ l. l ++ cond (first.lba == a) (block_in first.block ∷ []) []) (replaced_push replaced last a) ∙ append_assoc (cond (last.lba == a) (block_in last.block ∷ []) []) (replaced_at replaced a) _

not_nil : (b : Block) (bs : List Block) → b ∷ bs ≡ [] → ⊥
not_nil b bs same = cc

nil_right : (xs ys : List Block) → xs ++ ys ≡ [] → ys ≡ []
nil_right [] ys none = none
nil_right (x ∷ xs) ys none = cc

either : (t : Bool) (b : Block) → cond t b b ≡ b
either true b = refl
either false b = refl

same_values : (v w : Values) → v.newest ≡ w.newest → v.earlier ≡ w.earlier → v ≡ w
same_values v w newest earlier = λ i. record { newest = newest i; earlier = earlier i }

module _ (before after : Blocks) (replaced later : List Replaced) (lba : ℕ) (block : Block) (fresh : Box Block Global) (old : Option (Box Block Global)) (was : old ≡ get nat_cmp before lba)
    (is : fresh.value ≡ block) (updates : Updates nat_cmp before after lba (Some fresh)) (pushed : later ≡ replaced ++ (record { lba = lba; block = old }) ∷ []) where
  earlier : (a : ℕ) → replaced_at later a ≡ cond (lba == a) (block_in old ∷ []) [] ++ replaced_at replaced a
  earlier a = ap (λ l. replaced_at l a) pushed ∙ replaced_push replaced (record { lba = lba; block = old }) a

  pub write_values : (a : ℕ) → values_in after later a ≡ after_write (values_in before replaced) lba block a
  write_values a = elim (cases_eq lba a) [
    | inl same ↦
        let here : values_in after later lba ≡ written (values_in before replaced lba) block =
        same_values _ _ (ap block_in updates.1 ∙ is) (earlier lba ∙ ap (λ b. cond b (block_in old ∷ []) [] ++ replaced_at replaced lba) (eq-eqb lba lba refl) ∙ ap (λ o. block_in o ∷ replaced_at replaced lba) was) in
        subst (λ k. values_in after later k ≡ after_write (values_in before replaced) lba block k) same (here ∙ sym (set_here (values_in before replaced) lba _))
    | inr apart ↦
        let test : lba == a ≡ false = grind (arith, nat_tests) in
        let there : values_in after later a ≡ values_in before replaced a =
        same_values _ _ (ap block_in (updates.2 a (grind (arith, nat_tests)))) (earlier a ∙ ap (λ b. cond b (block_in old ∷ []) [] ++ replaced_at replaced a) test) in
        there ∙ sym (set_other (values_in before replaced) lba a _ apart)
  ]

  pub write_present : ((a : ℕ) → get nat_cmp before a ≡ None → replaced_at replaced a ≡ []) → (a : ℕ) → get nat_cmp after a ≡ None → replaced_at later a ≡ []
  write_present present a absent = elim (cases_eq lba a) [
    | inl same ↦
        let held : get nat_cmp after a ≡ Some fresh = subst (λ k. get nat_cmp after k ≡ Some fresh) same updates.1 in
        absurd (none-some fresh (sym absent ∙ held))
    | inr apart ↦
        let test : lba == a ≡ false = grind (arith, nat_tests) in
        earlier a ∙ ap (λ b. cond b (block_in old ∷ []) [] ++ replaced_at replaced a) test ∙ present a (sym (updates.2 a (grind (arith, nat_tests))) ∙ absent)
  ]

-- a cut leaves the newest value, and so the last one replaced is forgotten
keep_newest : (outcome : Outcome) (newest : Blocks) (rest : List Replaced) (last : Replaced) → ((v : Values) → cut_value outcome last.lba v ≡ v.newest) → (a : ℕ) → cut_value outcome a (values_in newest rest a) ≡ cut_value outcome a (values_in newest (rest ++ last ∷ []) a)
keep_newest outcome newest rest last keeps a = elim (cases_eq last.lba a) [
  | inl same ↦ subst (λ k. cut_value outcome k (values_in newest rest k) ≡ cut_value outcome k (values_in newest (rest ++ last ∷ []) k)) same (keeps (values_in newest rest last.lba) ∙ sym (keeps (values_in newest (rest ++ last ∷ []) last.lba)))
  | inr apart ↦
      let test : last.lba == a ≡ false = grind (arith, nat_tests) in
      let none : replaced_at (rest ++ last ∷ []) a ≡ replaced_at rest a = replaced_push rest last a ∙ ap (λ t. cond t (block_in last.block ∷ []) [] ++ replaced_at rest a) test in
      ap (cut_value outcome a) (same_values (values_in newest rest a) (values_in newest (rest ++ last ∷ []) a) refl (sym none))
]

-- a cut leaves the flushed value, and so the last one replaced is the newest again
put_newest_back : (outcome : Outcome) (newest back : Blocks) (rest : List Replaced) (last : Replaced) → ((v : Values) → cut_value outcome last.lba v ≡ flushed_value v)
    → ((a : ℕ) → block_in (get nat_cmp back a) ≡ cond (last.lba == a) (block_in last.block) (block_in (get nat_cmp newest a))) → (a : ℕ)
    → cut_value outcome a (values_in back rest a) ≡ cut_value outcome a (values_in newest (rest ++ last ∷ []) a)
put_newest_back outcome newest back rest last flushes is a = elim (cases_eq last.lba a) [
  | inl same ↦
      let test : last.lba == last.lba ≡ true = eq-eqb last.lba last.lba refl in
      let now : values_in back rest last.lba ≡ record { newest = block_in last.block; earlier = replaced_at rest last.lba } = same_values _ _ (is last.lba ∙ ap (λ t. cond t (block_in last.block) (block_in (get nat_cmp newest last.lba))) test) refl in
      let before : values_in newest (rest ++ last ∷ []) last.lba ≡ record { newest = block_in (get nat_cmp newest last.lba); earlier = block_in last.block ∷ replaced_at rest last.lba } = same_values _
      _ refl (replaced_push rest last last.lba ∙ ap (λ t. cond t (block_in last.block ∷ []) [] ++ replaced_at rest last.lba) test) in
      subst (λ k. cut_value outcome k (values_in back rest k) ≡ cut_value outcome k (values_in newest (rest ++ last ∷ []) k)) same (flushes (values_in back rest last.lba) ∙ ap flushed_value now ∙ sym (ap flushed_value before) ∙ sym (flushes (values_in newest (rest ++ last ∷ []) last.lba)))
  | inr apart ↦
      let test : last.lba == a ≡ false = grind (arith, nat_tests) in
      let none : replaced_at (rest ++ last ∷ []) a ≡ replaced_at rest a = replaced_push rest last a ∙ ap (λ t. cond t (block_in last.block ∷ []) [] ++ replaced_at rest a) test in
      ap (cut_value outcome a) (same_values (values_in back rest a) (values_in newest (rest ++ last ∷ []) a) (is a ∙ ap (λ t. cond t (block_in last.block) (block_in (get nat_cmp newest a))) test) (sym none))
]

-- if each value is flushed, a cut changes nothing
pub cut_flushed : (outcome : Outcome) (lba : ℕ) (newest : Block) → cut_value outcome lba (record { newest = newest; earlier = [] }) ≡ newest
cut_flushed outcome.Blank lba newest = refl
cut_flushed outcome.Whole lba newest = refl
cut_flushed outcome.Torn lba newest = either (lba % 2 == 1) newest
cut_flushed outcome.Mixed lba newest = either (lba % 2 == 1) newest

-- a block that was replaced at an address shows that it was written
last_present : (newest : Blocks) (rest : List Replaced) (last : Replaced) → ((a : ℕ) → get nat_cmp newest a ≡ None → replaced_at (rest ++ last ∷ []) a ≡ []) → IsSome (get nat_cmp newest last.lba)
last_present newest rest last present = by_cases (get nat_cmp newest last.lba) (present last.lba)
  where
    by_cases : (o : Option (Box Block Global)) → (o ≡ None → replaced_at (rest ++ last ∷ []) last.lba ≡ []) → IsSome o
    by_cases (Some x) none = refl
    by_cases None none = absurd (not_nil (block_in last.block) (replaced_at rest last.lba) (sym (replaced_push rest last last.lba ∙ ap (λ t. cond t (block_in last.block ∷ []) [] ++ replaced_at rest last.lba) (eq-eqb last.lba last.lba refl)) ∙ none refl))

-- the last of the blocks that were replaced was taken
module _ (newest : Blocks) (whole rest : List Replaced) (last : Replaced) (taken : whole ≡ rest ++ last ∷ []) where
  pub taken_present : ((a : ℕ) → get nat_cmp newest a ≡ None → replaced_at whole a ≡ []) → IsSome (get nat_cmp newest last.lba)
  taken_present present = last_present newest rest last (subst (λ l. (a : ℕ) → get nat_cmp newest a ≡ None → replaced_at l a ≡ []) taken present)

  pub rest_present : (back : Blocks) → ((a : ℕ) → get nat_cmp back a ≡ None → get nat_cmp newest a ≡ None) → ((a : ℕ) → get nat_cmp newest a ≡ None → replaced_at whole a ≡ []) → (a : ℕ) → get nat_cmp back a ≡ None → replaced_at rest a ≡ []
  rest_present back keys present a absent =
      nil_right (cond (last.lba == a) (block_in last.block ∷ []) []) (replaced_at rest a) (sym (replaced_push rest last a) ∙ ap (λ l. replaced_at l a) (sym taken) ∙ present a (keys a absent))

  pub taken_keeps : (outcome : Outcome) → ((v : Values) → cut_value outcome last.lba v ≡ v.newest) → (a : ℕ) → cut_value outcome a (values_in newest rest a) ≡ cut_value outcome a (values_in newest whole a)
  taken_keeps outcome keeps a = keep_newest outcome newest rest last keeps a ∙ ap (λ l. cut_value outcome a (values_in newest l a)) (sym taken)

  pub taken_back : (outcome : Outcome) (back : Blocks) → ((v : Values) → cut_value outcome last.lba v ≡ flushed_value v)
      → ((a : ℕ) → block_in (get nat_cmp back a) ≡ cond (last.lba == a) (block_in last.block) (block_in (get nat_cmp newest a))) → (a : ℕ)
      → cut_value outcome a (values_in back rest a) ≡ cut_value outcome a (values_in newest whole a)
  taken_back outcome back flushes is a = put_newest_back outcome newest back rest last flushes is a ∙ ap (λ l. cut_value outcome a (values_in newest l a)) (sym taken)
