-- The entries that stay when groups are merged, and how many data blocks there then are.
use Rattle.std.proofs.Common.{◌≡◌, ℕ, ◌/◌, ◌%◌, ◌≤◌, ◌==◌, ◌||◌, Bool, true, false, cond, ◌∷◌, Option, Some, None, refl, sym, ◌∙◌, ap, subst, arith, inl, inr, eqb-true, ne_eqb}
use Rattle.std.specs.FinMap.{get}
use Rattle.std.proofs.lemmas.Bool.{cases_Bool, cases_eq, both_ways, or_cases}
use Rattle.ft_base.specs.declared.geometry.Geometry.{Geometry}
use Rattle.ft_base.specs.declared.block.Place.{Place}
use Rattle.ft_base.specs.Contents.{Contents}
use Rattle.cache_model.specs.declared.entry.Entry.{Entry}
use Rattle.cache_model.specs.Records.{Entries}
use Rattle.cache_model.proofs.CountLemmas.{member, each_once-le, others, length_others, member_others, same_number}
use Rattle.mapping.specs.Counts.{data_block_count, Owns}
use Rattle.log_blocks.specs.Logs.{IsInUse}
use Rattle.silent_evict.specs.Candidates.{HasDataBlock, IsGroupHeld, IsVictim}
use Rattle.merge_engine.specs.declared.parts.Parts.{Parts}
use Rattle.merge_engine.specs.Agreement.{PartsAgree, RolesAgree}
use Rattle.merge_engine.specs.Merges.{HasBlockOrRoom, OthersStay, moved}
use Rattle.merge_engine.specs.Room.{FreesGroups, HasNoCandidate, HasPageIn, LacksRoom, MakesWay, MergesBeside, is_group}
use Rattle.merge_engine.specs.Steps.{PageMappedStay}
use Rattle.merge_engine.proofs.GaveLemmas.{mapped_numbers, is_there, has_block, is_absent, one_longer, of_longer, of_others}
use Rattle.merge_engine.proofs.RoleLemmas.{log_page_mapped}
use Rattle.merge_engine.proofs.TakeLemmas.{agree_map}
use Rattle.merge_engine.proofs.MovedLemmas.{dropped, dropped_here, dropped_other, moved_here}

-- ---- how many data blocks there are

-- each group with a data block still has one
as_many : (g : Geometry) (m n : Entries) → ((k : ℕ) → HasDataBlock g m k → HasDataBlock g n k) → data_block_count g m ≤ data_block_count g n
as_many g m n still = each_once-le (mapped_numbers g m) (mapped_numbers g n) (λ k t. is_there g n k (still k (has_block g m k t)))

-- one group no longer has one, and another one has one now
as_many_swapped : (g : Geometry) (m n : Entries) (group gone : ℕ) → (HasDataBlock g m group → ⊥) → HasDataBlock g m gone → HasDataBlock g n group
    → ((k : ℕ) → (k ≡ gone → ⊥) → HasDataBlock g m k → HasDataBlock g n k) → data_block_count g m ≤ data_block_count g n
as_many_swapped g m n group gone none had has still =
    let ns = mapped_numbers g m in
    let differ : group ≡ gone → ⊥ = λ same. none (subst (λ k. HasDataBlock g m k) (sym same) had) in
    let shorter = length_others gone ns (is_there g m gone had) in
    let absent : member group (others gone ns) ≡ false = member_others gone group ns (ne_eqb group gone differ) ∙ is_absent g m group none in
    let longer = one_longer group (others gone ns) absent in
    let few = each_once-le (group ∷ others gone ns) (mapped_numbers g n) (λ k t. of_longer group k (others gone ns) t
    (λ same. ap (λ j. member j (mapped_numbers g n)) (sym same) ∙ is_there g n group has)
    (λ t. let q = of_others gone k ns t in is_there g n k (still k q.0 (has_block g m k q.1)))) in
    omega (arith, shorter, longer, few)

-- once a group moved, it has a data block
pub own_moved : (g : Geometry) (m n : Entries) (group block : ℕ) → n ≡ moved g m group block → IsGroupHeld g m group → HasDataBlock g n group
own_moved g m n group block is x =
    let here = moved_here g m group block x.0 x.1 x.2 x.3 in
    (x.0, record { place = record { block = block; page = x.0 % g.p }; dirty = x.1.dirty; block_mapped = true }, ap (λ (k : Entries). get k x.0) is ∙ here, x.3, refl)

-- ---- a group that is merged

apart : (a b : ℕ) → (a == b) ≡ false → a ≡ b → ⊥
apart a b f same = let both : true ≡ false = sym (same_number b) ∙ ap (λ n. n == b) (sym same) ∙ f in cc

module _ (g : Geometry) (m n : Entries) (group : ℕ) where
  pub beside_moved : HasBlockOrRoom g m group → OthersStay g group m n → HasDataBlock g n group → MergesBeside g group m n
  beside_moved room stay own = record {
    gone = None;
    given_up = room;
    others = stay;
    no_fewer = as_many g m n (λ k x. elim (cases_eq k group) [
      | inl same ↦ subst (λ j. HasDataBlock g n j) (sym same) own
      | inr other ↦ (x.0, x.1, stay x.0 (λ here. other (sym x.3 ∙ here)) ∙ x.2, x.3, x.4)
    ]);
  }

  pub beside_victim : (gone : ℕ) → LacksRoom g m group → IsVictim g m gone → OthersStay g group (dropped g m gone) n → HasDataBlock g n group → MergesBeside g group m n
  beside_victim gone lacks victim stay own = record {
    gone = Some gone;
    given_up = (lacks, inl victim);
    others = λ a other. elim (cases_Bool (a / g.p == gone)) [
      | inl t ↦ stay a other ∙ dropped_here g m gone a (eqb-true (a / g.p) gone t) ∙ ap (λ b. cond b None (get m a)) (sym t)
      | inr f ↦ stay a other ∙ dropped_other g m gone a (apart (a / g.p) gone f) ∙ ap (λ b. cond b None (get m a)) (sym f)
    ];
    no_fewer = as_many_swapped g m n group gone lacks.none victim.candidate.some own (λ k differs x. elim (cases_eq k group) [
      | inl same ↦ subst (λ j. HasDataBlock g n j) (sym same) own
      | inr other ↦ (x.0, x.1, stay x.0 (λ here. other (sym x.3 ∙ here)) ∙ dropped_other g m gone x.0 (λ here. differs (sym x.3 ∙ here)) ∙ x.2, x.3, x.4)
    ]);
  }

  pub beside_dropped : LacksRoom g m group → HasNoCandidate g m → n ≡ dropped g m group → MergesBeside g group m n
  beside_dropped lacks none is = record {
    gone = Some group;
    given_up = (lacks, inr (refl, none));
    others = λ a other. ap (λ (k : Entries). get k a) is ∙ dropped_other g m group a other ∙ ap (λ b. cond b None (get m a)) (sym (ne_eqb (a / g.p) group other));
    no_fewer = as_many g m n (λ k x. (x.0, x.1, ap (λ (j : Entries). get j x.0) is ∙ dropped_other g m group x.0 (λ here. lacks.none (x.0, x.1, x.2, here, x.4)) ∙ x.2, x.3, x.4));
  }

-- ---- a log block that is freed

-- nothing was merged
pub frees_none : (g : Geometry) (block : ℕ) (m n : Entries) → n ≡ m → FreesGroups g block m n
frees_none g block m n is = record {
  gone = λ k. false;
  others = λ a none. ap (λ (k : Entries). get k a) is;
  no_fewer = let same = ap (λ (k : Entries). data_block_count g k) is in omega (arith, same);
  full = λ k t. absurd (cc);
}

-- a group with a page in it was merged
pub frees_merged : (g : Geometry) (block group : ℕ) (m n : Entries) → MergesBeside g group m n → HasPageIn g m block group → data_block_count g n ≤ g.c → FreesGroups g block m n
frees_merged g block group m n merged page most = record {
  gone = is_group merged.gone;
  others = λ a none. merged.others a (λ same. none (subst (λ k. HasPageIn g m block k) (sym same) page));
  no_fewer = merged.no_fewer;
  full = when_gone merged.gone merged.given_up;
}
  where
    when_gone : (gone : Option ℕ) → MakesWay g m group gone → (k : ℕ) → is_group gone k ≡ true → data_block_count g n ≡ g.c
    when_gone None way k t = absurd (cc)
    when_gone (Some one) way k t = let all = way.0.full in let low = merged.no_fewer in omega (arith, all, low, most)

-- a group has a page in it as in a log block only if it had one before
page_before : (g : Geometry) (block : ℕ) (m n : Entries) → PageMappedStay m n → (k : ℕ) → HasPageIn g n block k → HasPageIn g m block k
page_before g block m n stay k x = elim (stay x.0 x.1 x.2) [
  | inl was ↦ (x.0, x.1, was, x.3, x.4, x.5)
  | inr mapped ↦ absurd (both_ways x.1.block_mapped x.4 mapped)
]

pub mapped_stay_then : (m n o : Entries) → PageMappedStay m n → PageMappedStay n o → PageMappedStay m o
mapped_stay_then m n o first then a e is = elim (then a e is) [
  | inl was ↦ first a e was
  | inr mapped ↦ inr mapped
]

-- and then others
pub frees_then : (g : Geometry) (block : ℕ) (m n o : Entries) → FreesGroups g block m n → PageMappedStay m n → FreesGroups g block n o → data_block_count g o ≤ g.c → FreesGroups g block m o
frees_then g block m n o first stay then most = record {
  gone = λ k. then.gone k || first.gone k;
  others = λ a none. then.others a (λ page. none (page_before g block m n stay (a / g.p) page)) ∙ ap (λ x. cond (then.gone (a / g.p)) None x) (first.others a none) ∙ both (then.gone (a / g.p)) (first.gone (a / g.p)) (get m a);
  no_fewer = let low = first.no_fewer in let low' = then.no_fewer in omega (arith, low, low');
  full = λ k t. elim (or_cases (then.gone k) (first.gone k) t) [
    | inl later ↦ then.full k later
    | inr before ↦ let all = first.full k before in let low = then.no_fewer in omega (arith, all, low, most)
  ];
}
  where
    both : (b c : Bool) (x : Option Entry) → cond b None (cond c None x) ≡ cond (b || c) None x
    both true c x = refl
    both false c x = refl

-- ---- the facts that a merge has about it

-- the group of an address that stands at a page of a log block has a page in it
pub page_of_owner : (parts : Parts) (at : Place) (lba : ℕ) → RolesAgree parts → IsInUse parts.log_blocks at.block → Owns parts.map.entries at lba → HasPageIn parts.geometry parts.map.entries at.block (lba / parts.geometry.p)
page_of_owner parts at lba roles used owns =
    let here : owns.0.place.block ≡ at.block = ap (λ (p : Place). p.block) owns.2 in
    (lba, owns.0, owns.1, refl, not_mapped (subst (λ b. IsInUse parts.log_blocks b) (sym here) used), here)
  where
    not_mapped : IsInUse parts.log_blocks owns.0.place.block → owns.0.block_mapped ≡ false
    not_mapped in_use = elim (cases_Bool owns.0.block_mapped) [
      | inl t ↦ absurd (log_page_mapped parts roles lba owns.0 owns.1 in_use t)
      | inr f ↦ f
    ]

-- there are at most C data blocks
pub blocks_most : (g : Geometry) (parts : Parts) (contents : Contents) → PartsAgree parts contents → parts.geometry ≡ g → data_block_count g parts.map.entries ≤ g.c
blocks_most g parts contents agree same = subst (λ (h : Geometry). data_block_count h parts.map.entries ≤ h.c) same (agree_map parts contents agree).data_blocks
