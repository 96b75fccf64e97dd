-- The pages of a group are copied into an erase block in which no entry stands.
use Rattle.std.proofs.Common.{◌≡◌, ℕ, zero, suc, ◌+◌, ◌-◌, ◌*◌, ◌/◌, ◌%◌, ◌^◌, ◌<◌, ◌≤◌, inl, inr, Bool, true, cond, Option, Some, None, Ok, refl, sym, ◌∙◌, ap, subst, arith, pow-suc}
use Rattle.std.specs.Option.{option_map}
use Rattle.std.specs.FinMap.{get}
use Rattle.std.specs.Int.Count.{count_leading_zeros}
use Rattle.std.proofs.Math.Nat.{pow-le-pow_right}
use Rattle.std.proofs.lemmas.Bool.{cases_Bool, cases_lt}
use Rattle.std.proofs.lemmas.Nat.{div-add-mod', div-mul-add, mod_below, pow_pos, leading_length}
use Rattle.ft_base.specs.declared.geometry.Geometry.{Geometry}
use Rattle.ft_base.specs.declared.block.Block.{Block}
use Rattle.ft_base.specs.declared.block.Spare.{Spare}
use Rattle.ft_base.specs.declared.block.Place.{Place}
use Rattle.ft_base.specs.declared.block.Page.{Page}
use Rattle.ft_base.specs.declared.block.Page.TheVariants.{Blank, Whole}
use Rattle.ft_base.specs.Contents.{Contents, Flash, zero_block}
use Rattle.ft_base.proofs.Images.{set_other}
use Rattle.ft_media.specs.Media.{IsBlankAhead, IsNextPage, LeavesPage, after_program}
use Rattle.cache_model.specs.declared.entry.Entry.{Entry}
use Rattle.cache_model.specs.Records.{Entries}
use Rattle.cache_model.specs.Entries.{IsMap, InPool}
use Rattle.cache_model.specs.Loading.{is_whole, load}
use Rattle.mapping.specs.Counts.{Owns, place_and_mark}
use Rattle.cache_model.specs.declared.format.SpareKind.TheVariants.{Filler}
use Rattle.cache_model.specs.Spelling.{spelled_spare, spare_fields}
use Rattle.cache_model.specs.CacheList.{CacheList}
use Rattle.cache_model.proofs.LoadLemmas.{set_page-other}
use Rattle.block_pool.specs.Pool.{IsFree, IsInPool}
use Rattle.log_blocks.specs.Logs.{IsInUse, append_place}
use Rattle.mapping.specs.declared.bits.Choice.TheVariants.{Held}
use Rattle.mapping.specs.Bits.{set_of, is_chosen, chosen_of}
use Rattle.mapping.proofs.BitsLemmas.{set_below}
use Rattle.merge_engine.specs.declared.parts.Parts.{Parts}
use Rattle.merge_engine.specs.Agreement.{PartsAgree, AreOfOne, Lists}
use Rattle.merge_engine.specs.Merges.{ReachesTo}
use Rattle.merge_engine.specs.Steps.{IsCopyOf, filler_page}
use Rattle.merge_engine.proofs.MovedLemmas.{held_is_some}
use Rattle.merge_engine.proofs.BesideLemmas.{ChangedBeside, leaves_beside, lists_beside, agree_beside}
use Rattle.checkpoint.proofs.SealedLemmas.{current_map}
use Rattle.cache_model.proofs.StandLemmas.{entry_whole}
use Rattle.cache_model.proofs.LogLemmas.{set_page-here}
use Rattle.merge_engine.proofs.RoleLemmas.{free_in_pool, free_not_in_use, open_in_use}

-- ---- the next page of a free erase block is programmed

module _ (parts : Parts) (old new : Contents) (agree : PartsAgree parts old) (at : Place) (block : Block) (spare : Spare) (free : IsFree parts.pool at.block) (ready : IsNextPage at old.flash) (ahead : IsBlankAhead old) where
  in_pool : IsInPool parts.geometry at.block
  in_pool = free_in_pool parts agree.sound.of_one at.block free

  beside : LeavesPage old.flash new.flash at block spare → ChangedBeside parts.geometry parts.map.entries agree.sound.current.durable old.flash.page new.flash.page
  beside leaves =
      leaves_beside parts.geometry parts.map.entries agree.sound.current.durable old.flash new.flash at block spare in_pool.0 (ahead at at.page ready (omega arith)) agree.sound.whole.whole
      (entry_whole parts.geometry old.flash.page agree.sound.current.durable (subst (λ (g : Geometry). load g old.flash.page ≡ Ok agree.sound.current.durable) agree.sound.of_one.log agree.sound.current.loads))
      leaves

  pub lists_unheld : LeavesPage old.flash new.flash at block spare → (list durable : CacheList) → Lists parts old.flash.page list durable → Lists parts new.flash.page list durable
  lists_unheld leaves = lists_beside parts old new agree (beside leaves)

  pub agree_unheld : LeavesPage old.flash new.flash at block spare → new.shape ≡ old.shape → new.flash ≡ after_program old.flash at block spare → PartsAgree parts new
  agree_unheld leaves shape ok =
      let others : (b : ℕ) → (at.block ≡ b → ⊥) → new.flash.next b ≡ old.flash.next b = λ b apart. ap (λ (f : Flash). f.next b) ok ∙ set_other old.flash.next at.block b (Some (at.page + 1)) apart in
      let above = in_pool.0 in
      agree_beside parts old new agree (beside leaves) parts.pool parts.log_blocks shape
      (λ b low. others b (λ same. absurd (omega (arith, same))))
      agree.sound.of_one agree.sound.roles agree.sound.log_blocks
      (λ some. others (append_place parts.log_blocks).block (λ same. free_not_in_use parts agree.sound.of_one agree.sound.roles at.block free (subst (λ b. IsInUse parts.log_blocks b) (sym same) (open_in_use parts.log_blocks agree.sound.log_blocks some))) ∙ agree.sound.open_block some)

-- ---- one page is copied

pub placed_entry : (o : Option Entry) (at : Place) (dirty : Bool) → Some (at, dirty) ≡ option_map place_and_mark o → (e : Entry) × (o ≡ Some e) × (e.place ≡ at)
placed_entry None at dirty is = absurd (cc)
placed_entry (Some e) at dirty is =
    let same : (at, dirty) ≡ place_and_mark e = cc in
    (e, refl, sym (ap (λ (x : Place × Bool). x.0) same))

-- the page of an entry is there, and whole
pub record IsReadable (contents : Contents) (at : Place) : Type 0 where
  pub block : at.block < contents.shape.blocks
  pub page : at.page < contents.shape.pages
  pub whole : is_whole (contents.flash.page at) ≡ true

pub readable : (parts : Parts) (contents : Contents) (at : Place) → PartsAgree parts contents → (a : ℕ) × Owns parts.map.entries at a → IsReadable contents at
readable parts contents at agree owned =
    let s = agree.sound in
    let x = owned.1 in
    let pool : InPool parts.geometry x.0.place = subst (λ (g : Geometry). InPool g x.0.place) s.of_one.log ((current_map parts.log contents.flash.page parts.map.entries s.current).in_pool owned.0 x.0 x.1) in
    subst (λ (p : Place). IsReadable contents p) x.2 (record {
      block = let below = pool.below in let most = s.shape.blocks in omega arith;
      page = subst (λ n. x.0.place.page < n) (sym s.shape.pages) pool.page;
      whole = s.whole.whole owned.0 x.0 x.1;
    })

-- a page that is whole isn't one that is blank
whole_apart : (page : Place → Page) (at to : Place) → is_whole (page at) ≡ true → page to ≡ Blank → at ≡ to → ⊥
whole_apart page at to whole blank same = let both : is_whole Blank ≡ true = ap is_whole (sym blank) ∙ ap (λ q. is_whole (page q)) (sym same) ∙ whole in absurd (cc)

pub copy_is : (parts : Parts) (old new : Contents) (agree : PartsAgree parts old) (from to : Place) (block : Block) (spare : Spare) → IsNextPage to old.flash → IsBlankAhead old → (a : ℕ) × Owns parts.map.entries from a
    → old.flash.page from ≡ Whole block spare → new.flash ≡ after_program old.flash to block spare → IsCopyOf new.flash.page from to
copy_is parts old new agree from to block spare ready ahead owned read ok =
    let apart = whole_apart old.flash.page from to (readable parts old from agree owned).whole (ahead to to.page ready (omega arith)) in
    let stays : new.flash.page from ≡ Whole block spare = ap (λ (f : Flash). f.page from) ok ∙ set_page-other old.flash.page to from (Whole block spare) apart ∙ read in
    record {
      whole = ap is_whole stays;
      copy = ap (λ (f : Flash). f.page to) ok ∙ set_page-here old.flash.page to (Whole block spare) ∙ sym stays;
    }

-- ---- the copies so far

-- each held address of the group whose page is below this one has its copy
pub record IsCopiedBelow (g : Geometry) (m : Entries) (group block n : ℕ) (page : Place → Page) : Type 0 where
  pub each : (a : ℕ) (e : Entry) → get m a ≡ Some e → a / g.p ≡ group → a % g.p < n → IsCopyOf page e.place (record { block = block; page = a % g.p })

-- one more page was copied, and no other one changed
pub copied_more : (parts : Parts) (old : Contents) (new : Flash) (group block lba n : ℕ) (to : Place) → PartsAgree parts old → IsBlankAhead old → lba ≡ group * parts.geometry.p + n → to ≡ record { block = block; page = n } → IsNextPage (record { block = block; page = n }) old.flash
    → IsCopiedBelow parts.geometry parts.map.entries group block n old.flash.page
    → ((at : Place) → (at ≡ to → ⊥) → new.page at ≡ old.flash.page at)
    → ((e : Entry) → get parts.map.entries lba ≡ Some e → IsCopyOf new.page e.place to)
    → IsCopiedBelow parts.geometry parts.map.entries group block (n + 1) new.page
copied_more parts old new group block lba n to agree ahead address here ready so_far others copied = record {
  each = λ a e there in_group low. elim (cases_lt (a % parts.geometry.p) n) [
    | inl less ↦
        let was = so_far.each a e there in_group less in
        let from_apart = whole_apart old.flash.page e.place (record { block = block; page = n }) (agree.sound.whole.whole a e there) (ahead (record { block = block; page = n }) n ready (omega arith)) in
        let stays = others e.place (λ same. from_apart (same ∙ here)) in
        record {
          whole = ap is_whole stays ∙ was.whole;
          copy =
              others (record { block = block; page = a % parts.geometry.p }) (λ same. let page : a % parts.geometry.p ≡ n = ap (λ (x : Place). x.page) (same ∙ here) in absurd (omega arith))
              ∙ was.copy
              ∙ sym stays;
        }
    | inr high ↦
        let same : a % parts.geometry.p ≡ n = omega arith in
        let this : lba ≡ a = address ∙ ap (λ q. q * parts.geometry.p + n) (sym in_group) ∙ ap (λ r. a / parts.geometry.p * parts.geometry.p + r) (sym same) ∙ div-add-mod' a parts.geometry.p in
        let place : to ≡ record { block = block; page = a % parts.geometry.p } = here ∙ ap (λ r. record { block = block; page = r }) (sym same) in
        subst (λ (q : Place). IsCopyOf new.page e.place q) place (copied e (ap (get parts.map.entries) this ∙ there))
  ];
}

-- ---- the fillers so far

pub filler_is : (old new : Flash) (to : Place) (block : Block) (spare : Spare) → block ≡ zero_block → spare.0 ≡ spelled_spare (spare_fields Filler 0 0) → new ≡ after_program old to block spare → new.page to ≡ filler_page
filler_is old new to block spare empty spelled ok =
    ap (λ (f : Flash). f.page to) ok ∙ set_page-here old.page to (Whole block spare) ∙ ap (λ b. Whole b spare) empty ∙ ap (λ s. Whole zero_block (record { 0 = s })) spelled

-- each page of the erase block below this one that no held address has is a filler
pub record IsFilledBelow (g : Geometry) (m : Entries) (group block n : ℕ) (page : Place → Page) : Type 0 where
  pub each : (a : ℕ) → get m a ≡ None → a / g.p ≡ group → a % g.p < n → page (record { block = block; page = a % g.p }) ≡ filler_page

pub filled_more : (g : Geometry) (m : Entries) (old new : Flash) (group block lba n : ℕ) (to : Place) → lba ≡ group * g.p + n → to ≡ record { block = block; page = n } → IsFilledBelow g m group block n old.page
    → ((at : Place) → (at ≡ to → ⊥) → new.page at ≡ old.page at) → (get m lba ≡ None → new.page to ≡ filler_page) → IsFilledBelow g m group block (n + 1) new.page
filled_more g m old new group block lba n to address here so_far others filler = record {
  each = λ a none in_group low. elim (cases_lt (a % g.p) n) [
    | inl less ↦ others (record { block = block; page = a % g.p }) (λ same. let page : a % g.p ≡ n = ap (λ (x : Place). x.page) (same ∙ here) in absurd (omega arith)) ∙ so_far.each a none in_group less
    | inr high ↦
        let same : a % g.p ≡ n = omega arith in
        let this : lba ≡ a = address ∙ ap (λ q. q * g.p + n) (sym in_group) ∙ ap (λ r. a / g.p * g.p + r) (sym same) ∙ div-add-mod' a g.p in
        let place : to ≡ record { block = block; page = a % g.p } = here ∙ ap (λ r. record { block = block; page = r }) (sym same) in
        subst (λ (q : Place). new.page q ≡ filler_page) place (filler (ap (get m) this ∙ none))
  ];
}

-- the smaller of two addresses of a group has the smaller page
pub page_before : (a b p group : ℕ) → a / p ≡ group → b / p ≡ group → a < b → a % p < b % p
page_before a b p group in_a in_b less =
    let x : group * p + a % p ≡ a = ap (λ q. q * p + a % p) (sym in_a) ∙ div-add-mod' a p in
    let y : group * p + b % p ≡ b = ap (λ q. q * p + b % p) (sym in_b) ∙ div-add-mod' b p in
    omega arith

-- ---- the held pages of a group

powers : (i j : ℕ) → i ≤ j → 2 ^ i ≤ 2 ^ j
powers i j low = pow-le-pow_right (omega arith) low

twice : (n : ℕ) → 2 ^ suc n ≡ 2 ^ n + 2 ^ n
twice n = rw pow-suc (omega arith)

-- the bit of a page that is in a set is at most the set's number
set_of-least : (test : ℕ → Bool) (n i : ℕ) → i < n → test i ≡ true → 2 ^ i ≤ set_of test n
set_of-least test zero i low here = absurd (omega arith)
set_of-least test (suc n) i low here = elim (cases_lt i n) [
  | inl less ↦ let rest = set_of-least test n i less here in omega (arith, rest)
  | inr high ↦
      let same : i ≡ n = omega arith in
      let last : set_of test (suc n) ≡ set_of test n + 2 ^ n = ap (λ b. set_of test n + cond b (2 ^ n) 0) (ap test (sym same) ∙ here) in
      let power : 2 ^ i ≡ 2 ^ n = ap (λ k. 2 ^ k) same in
      omega (arith, last, power)
]

-- a set whose number is at least a page's bit has a page from that page on
page_from_on : (test : ℕ → Bool) (n page : ℕ) → 2 ^ page ≤ set_of test n → (i : ℕ) × (page ≤ i) × (i < n) × (test i ≡ true)
page_from_on test zero page worth = absurd (omega (arith, pow_pos page))
page_from_on test (suc n) page worth = elim (cases_lt n page) [
  | inl low ↦ absurd (omega (arith, set_below test (suc n), powers (suc n) page (omega arith)))
  | inr high ↦ elim (cases_Bool (test n)) [
    | inl t ↦ (n, high, omega arith, t)
    | inr f ↦
        let fewer : set_of test (suc n) ≡ set_of test n + 0 = ap (λ b. set_of test n + cond b (2 ^ n) 0) f in
        let rest = page_from_on test n page (omega (arith, fewer)) in
        let below = rest.2 in
        (rest.0, rest.1, omega arith, rest.3)
  ]
]

module _ (g : Geometry) (m : Entries) (group held : ℕ) (is : held ≡ chosen_of Held g m group) where
  -- as many bits as there are below the leading zeros
  bits : (n : ℕ) × (128 - count_leading_zeros 128 held ≡ n) × (held < 2 ^ n) × (2 ^ n ≤ 2 * held + 1)
  bits =
      let below : held < 2 ^ g.p = subst (λ n. n < 2 ^ g.p) (sym is) (set_below (λ i. is_chosen Held (get m (group * g.p + i))) g.p) in
      let high : g.p ≤ 128 = omega (arith, g.in_range.p_high) in
      let n = leading_length 128 held (omega (arith, below, powers g.p 128 high)) in
      let all = n.1 in
      (n.0, omega arith, n.2, n.3)

  -- a held page of the group is below the first of the leading zeros
  pub held_below : (a : ℕ) (e : Entry) → get m a ≡ Some e → a / g.p ≡ group → a % g.p < 128 - count_leading_zeros 128 held
  held_below a e there in_group =
      let n = bits in
      let within : a % g.p < g.p = mod_below a g.p (omega (arith, g.in_range.p_low)) in
      let address : group * g.p + a % g.p ≡ a = ap (λ q. q * g.p + a % g.p) (sym in_group) ∙ div-add-mod' a g.p in
      let worth : 2 ^ (a % g.p) ≤ held = subst (λ k. 2 ^ (a % g.p) ≤ k) (sym is) (set_of-least (λ i. is_chosen Held (get m (group * g.p + i))) g.p (a % g.p) within (ap (λ k. is_chosen Held (get m k)) address ∙ ap (is_chosen Held) there)) in
      let less = n.2 in
      let count = n.1 in
      elim (cases_lt (a % g.p) n.0) [
        | inl low ↦ omega (arith, count, low)
        | inr high ↦ absurd (omega (arith, worth, less, powers n.0 (a % g.p) high))
      ]

  -- from each page below that one on, some page is held
  held_from_on : (page : ℕ) → page < 128 - count_leading_zeros 128 held → (i : ℕ) × (page ≤ i) × (i < g.p) × ((e : Entry) × (get m (group * g.p + i) ≡ Some e))
  held_from_on page low =
      let n = bits in
      let count = n.1 in
      let most = n.3 in
      let worth : 2 ^ page ≤ held = omega (arith, most, powers (suc page) n.0 (omega (arith, count)), twice page) in
      let at = page_from_on (λ i. is_chosen Held (get m (group * g.p + i))) g.p page (subst (λ k. 2 ^ page ≤ k) is worth) in
      (at.0, at.1, at.2, held_is_some (get m (group * g.p + at.0)) at.3)

  -- a page below that one is a page of the group, and not past the last held one
  pub page_below : (page : ℕ) → IsMap g m → page < 128 - count_leading_zeros 128 held → (page < g.p) × (group * g.p + page < g.size)
  page_below page is_map low =
      let at = held_from_on page low in
      let e = at.3 in
      let within = is_map.within (group * g.p + at.0) e.0 e.1 in
      let above = at.1 in
      let below = at.2 in
      (omega arith, omega (arith, within, above))

  -- there are this many pages up to the last held one
  pub pages_are : (pages : ℕ) → ReachesTo g m group pages → 128 - count_leading_zeros 128 held ≡ pages
  pages_are pages reach =
      let low = held_below reach.last reach.entry reach.held reach.in_group in
      let number = reach.number in
      elim (cases_lt pages (128 - count_leading_zeros 128 held)) [
        | inl more ↦
            let at = held_from_on pages more in
            let above = at.1 in
            let in_group : (group * g.p + at.0) / g.p ≡ group = div-mul-add group g.p at.0 at.2 in
            let inside = reach.all (group * g.p + at.0) at.3.0 at.3.1 in_group in
            let whole : group * g.p + (group * g.p + at.0) % g.p ≡ group * g.p + at.0 = ap (λ q. q * g.p + (group * g.p + at.0) % g.p) (sym in_group) ∙ div-add-mod' (group * g.p + at.0) g.p in
            absurd (omega (arith, inside, whole, above))
        | inr few ↦ omega (arith, low, number, few)
      ]

-- ---- the same for the parts

module _ (parts : Parts) (group held : ℕ) (of_one : AreOfOne parts) (is : held ≡ chosen_of Held parts.map.geometry parts.map.entries group) where
  held_is : held ≡ chosen_of Held parts.geometry parts.map.entries group
  held_is = subst (λ (g : Geometry). held ≡ chosen_of Held g parts.map.entries group) of_one.map is

  pub held_is_below : (a : ℕ) (e : Entry) → get parts.map.entries a ≡ Some e → a / parts.geometry.p ≡ group → a % parts.geometry.p < 128 - count_leading_zeros 128 held
  held_is_below = held_below parts.geometry parts.map.entries group held held_is

pub is_page_of_group : (parts : Parts) (contents : Contents) (group held page : ℕ) → PartsAgree parts contents → held ≡ chosen_of Held parts.map.geometry parts.map.entries group → page < 128 - count_leading_zeros 128 held
    → (page < parts.geometry.p) × (group * parts.geometry.p + page < parts.geometry.size)
is_page_of_group parts contents group held page agree is low =
    let of_one = agree.sound.of_one in
    page_below parts.geometry parts.map.entries group held (subst (λ (g : Geometry). held ≡ chosen_of Held g parts.map.entries group) of_one.map is) page
    (subst (λ (g : Geometry). IsMap g parts.map.entries) of_one.log (current_map parts.log contents.flash.page parts.map.entries agree.sound.current)) low

pub pages_of_group : (parts : Parts) (group held pages : ℕ) → AreOfOne parts → held ≡ chosen_of Held parts.map.geometry parts.map.entries group → ReachesTo parts.geometry parts.map.entries group pages → 128 - count_leading_zeros 128 held ≡ pages
pages_of_group parts group held pages of_one is reach = pages_are parts.geometry parts.map.entries group held (subst (λ (g : Geometry). held ≡ chosen_of Held g parts.map.entries group) of_one.map is) pages reach
