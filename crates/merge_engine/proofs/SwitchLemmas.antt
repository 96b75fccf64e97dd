-- A group that stands in order in the pages of a log block.
use Rattle.std.proofs.Common.{◌≡◌, ℕ, ◌+◌, ◌*◌, ◌/◌, ◌%◌, ◌<◌, Bool, false, cond, Option, None, Some, inl, inr, refl, sym, ◌∙◌, ap, subst, arith}
use Rattle.std.specs.FinMap.{get}
use Rattle.std.proofs.lemmas.Bool.{cases_Bool}
use Rattle.std.proofs.lemmas.Option.{none-some}
use Rattle.std.proofs.lemmas.Nat.{div-add-mod', div-mul-add, mod_below}
use Rattle.ft_base.specs.declared.geometry.Geometry.{Geometry}
use Rattle.ft_base.specs.declared.block.Place.{Place}
use Rattle.ft_base.specs.declared.block.Page.{Page}
use Rattle.cache_model.specs.declared.entry.Entry.{Entry}
use Rattle.cache_model.specs.Records.{Entries}
use Rattle.cache_model.specs.Entries.{IsMap}
use Rattle.mapping.specs.Counts.{Owns, place_and_mark, place_if_logged}
use Rattle.mapping.specs.Numbers.{IsNoDataBlock}
use Rattle.block_pool.specs.Pool.{role_of}
use Rattle.log_blocks.specs.Logs.{LogBlocksValue, IsInUse, released}
use Rattle.merge_engine.specs.declared.parts.Parts.{Parts}
use Rattle.merge_engine.specs.Agreement.{RolesAgree}
use Rattle.merge_engine.specs.Merges.{moved}
use Rattle.merge_engine.specs.Steps.{HasFillers}
use Rattle.merge_engine.specs.Switch.{CanSwitch, IsInOrder, IsSwitched, LogsStayOrLose, LogsStayOrSwitch}
use Rattle.merge_engine.proofs.FollowLemmas.{not_data_log}
use Rattle.merge_engine.proofs.GaveLemmas.{dropped_was}
use Rattle.merge_engine.proofs.GiveBackLemmas.{not_in_use, was_in_use}
use Rattle.merge_engine.proofs.MovedLemmas.{moved_here, dropped}

-- an address has one place
pub one_place : (m : Entries) (a : ℕ) (e : Entry) (at : Place) → get m a ≡ Some e → Owns m at a → e.place ≡ at
one_place m a e at is owns =
    let both : Some e ≡ Some owns.0 = sym is ∙ owns.1 in
    let same : e ≡ owns.0 = cc in
    ap (λ (x : Entry). x.place) same ∙ owns.2

module _ (g : Geometry) (m : Entries) (group block : ℕ) (order : IsInOrder g m group block) where
  some_pages : 0 < g.p
  some_pages = omega (arith, g.in_range.p_low)

  -- each held address of the group stands at its own page of the block
  pub own_page : (a : ℕ) (e : Entry) → get m a ≡ Some e → a / g.p ≡ group → e.place ≡ record { block = block; page = a % g.p }
  own_page a e is in_group =
      let whole : group * g.p + a % g.p ≡ a = ap (λ q. q * g.p + a % g.p) (sym in_group) ∙ div-add-mod' a g.p in
      one_place m a e (record { block = block; page = a % g.p }) is (subst (λ k. Owns m (record { block = block; page = a % g.p }) k) whole (order (a % g.p) (mod_below a g.p some_pages)))

  -- each address of the group is held
  pub all_held : (a : ℕ) → a / g.p ≡ group → (e : Entry) × (get m a ≡ Some e)
  all_held a in_group =
      let whole : group * g.p + a % g.p ≡ a = ap (λ q. q * g.p + a % g.p) (sym in_group) ∙ div-add-mod' a g.p in
      let at = order (a % g.p) (mod_below a g.p some_pages) in
      (at.0, ap (get m) (sym whole) ∙ at.1)

  -- no entry of another group stands in the block
  pub only_group : IsMap g m → (a : ℕ) (e : Entry) → get m a ≡ Some e → (a / g.p ≡ group → ⊥) → e.place.block ≡ block → ⊥
  only_group is_map a e is other here =
      let low = (is_map.in_pool a e is).page in
      let at = order e.place.page low in
      let place : e.place ≡ record { block = block; page = e.place.page } = ap (λ b. record { block = b; page = e.place.page }) here in
      let same : a ≡ group * g.p + e.place.page = is_map.apart a (group * g.p + e.place.page) e at.0 is at.1 (place ∙ sym at.2) in
      other (ap (λ n. n / g.p) same ∙ div-mul-add group g.p e.place.page low)

-- a group stands in order in only one block
pub one_order : (g : Geometry) (m : Entries) (group b c : ℕ) → IsInOrder g m group b → IsInOrder g m group c → b ≡ c
one_order g m group b c order other =
    let some : 0 < g.p = omega (arith, g.in_range.p_low) in
    let at = order 0 some in
    let place = one_place m (group * g.p + 0) at.0 (record { block = c; page = 0 }) at.1 (other 0 some) in
    ap (λ (p : Place). p.block) (sym at.2 ∙ place)

-- the same entries of the group stand in the same order
pub order_still : (g h : Geometry) (m n : Entries) (group block : ℕ) → h ≡ g → ((a : ℕ) (e : Entry) → get n a ≡ Some e → get m a ≡ Some e) → IsInOrder h n group block → IsInOrder g m group block
order_still g h m n group block same was order = λ page low.
    let at = subst (λ (k : Geometry). IsInOrder k n group block) same order page low in
    (at.0, was (group * g.p + page) at.0 at.1, at.2)

-- ---- the state after a switch merge

-- each address of the group is held, so there is nothing to fill
pub fillers_switched : (g : Geometry) (m n : Entries) (group block : ℕ) (page : Place → Page) → IsInOrder g m group block → n ≡ moved g m group block → HasFillers g n group page
fillers_switched g m n group block page order is a b e in_a none in_b there less =
    let x = all_held g m group block order a in_a in
    let both = sym none ∙ ap (λ (k : Entries). get k a) is ∙ moved_here g m group block a x.0 x.1 in_a in
    absurd (cc)

-- the log block is the one that holds the group in order
pub is_switched : (old new : Parts) (group one block : ℕ) → CanSwitch old group one → CanSwitch old group block → new.log_blocks ≡ released one old.log_blocks → new.map.entries ≡ moved old.geometry old.map.entries group one → IsSwitched old new group block
is_switched old new group one block can also logs entries =
    let same = one_order old.geometry old.map.entries group one block can.in_order also.in_order in
    subst (λ k. IsSwitched old new group k) same (record { log_blocks = logs; entries = entries })

-- the parts with these log blocks
pub with_logs : (old new : Parts) (logs : LogBlocksValue) → new ≡ record old { map = new.map; log = new.log; pool = new.pool; log_blocks = logs } → new ≡ record old { map = new.map; log = new.log; pool = new.pool; log_blocks = new.log_blocks }
with_logs old new logs is = is ∙ ap (λ (l : LogBlocksValue). record old { map = new.map; log = new.log; pool = new.pool; log_blocks = l }) (sym (ap (λ (p : Parts). p.log_blocks) is))

-- a log block that can become the data block once another group was dropped could before
pub logs_after : (old mid : Parts) (group gone : ℕ) → mid.geometry ≡ old.geometry → mid.log_blocks ≡ old.log_blocks → mid.map.entries ≡ dropped old.geometry old.map.entries gone → (logs : LogBlocksValue) → LogsStayOrSwitch mid group logs → LogsStayOrSwitch old group logs
logs_after old mid group gone same logs_are is logs (inl stays) = inl (stays ∙ logs_are)
logs_after old mid group gone same logs_are is logs (inr x) =
    let can : CanSwitch old group x.0 = record {
      in_use = subst (λ (l : LogBlocksValue). IsInUse l x.0) logs_are x.1.in_use;
      in_order = order_still old.geometry mid.geometry old.map.entries mid.map.entries group x.0 same (λ a e at. dropped_was old.geometry old.map.entries group gone a e (sym (ap (λ (k : Entries). get k a) is) ∙ at)) x.1.in_order;
    } in
    inr (x.0, can, x.2 ∙ ap (released x.0) logs_are)

-- ---- the log block that is freed

-- a group with a page in the log block can be switched only to that block
pub logs_of_owner : (old : Parts) (lba : ℕ) (at : Place) (logs : LogBlocksValue) → Owns old.map.entries at lba → LogsStayOrSwitch old (lba / old.geometry.p) logs → LogsStayOrLose at.block old.log_blocks logs
logs_of_owner old lba at logs owns (inl stays) = inl stays
logs_of_owner old lba at logs owns (inr x) =
    let here = own_page old.geometry old.map.entries (lba / old.geometry.p) x.0 x.1.in_order lba owns.0 owns.1 refl in
    let same : x.0 ≡ at.block = ap (λ (p : Place). p.block) (sym here ∙ owns.2) in
    inr (subst (λ b. IsInUse old.log_blocks b) same x.1.in_use, x.2 ∙ ap (λ b. released b old.log_blocks) same)

module _ (block : ℕ) (old mid : LogBlocksValue) where
  -- a block that is out of the list is not put in again
  pub lose_then : (new : LogBlocksValue) → LogsStayOrLose block old mid → LogsStayOrLose block mid new → LogsStayOrLose block old new
  lose_then new (inl stays) (inl then) = inl (then ∙ stays)
  lose_then new (inl stays) (inr then) = inr (subst (λ (l : LogBlocksValue). IsInUse l block) stays then.0, then.1 ∙ ap (released block) stays)
  lose_then new (inr lost) (inl then) = inr (lost.0, then ∙ lost.1)
  lose_then new (inr lost) (inr then) = absurd (not_in_use old block (subst (λ (l : LogBlocksValue). IsInUse l block) lost.1 then.0))

  -- no block has become a log block
  pub used_before : LogsStayOrLose block old mid → (b : ℕ) → IsInUse mid b → IsInUse old b
  used_before (inl stays) b used = subst (λ (l : LogBlocksValue). IsInUse l b) stays used
  used_before (inr lost) b used = was_in_use old block b (subst (λ (l : LogBlocksValue). IsInUse l b) lost.1 used)

  -- once it is given back, if it still was a log block, it is out of the list
  pub lost_at_last : (new : LogBlocksValue) → LogsStayOrLose block old mid → IsInUse old block → (IsInUse mid block → new ≡ released block mid) → ((IsInUse mid block → ⊥) → new ≡ mid) → new ≡ released block old
  lost_at_last new (inl stays) used given kept = given (subst (λ (l : LogBlocksValue). IsInUse l block) (sym stays) used) ∙ ap (released block) stays
  lost_at_last new (inr lost) used given kept = kept (λ again. not_in_use old block (subst (λ (l : LogBlocksValue). IsInUse l block) lost.1 again)) ∙ lost.1

-- ---- the log block that is looked for

-- the entry of an address in a log block
pub logged_entry : (o : Option Entry) (at : Place) (dirty : Bool) → Some (at, dirty) ≡ place_if_logged o → (e : Entry) × (o ≡ Some e) × (e.place ≡ at) × (e.block_mapped ≡ false)
logged_entry None at dirty is = absurd (cc)
logged_entry (Some e) at dirty is = elim (cases_Bool e.block_mapped) [
  | inl t ↦ absurd (none-some (at, dirty) (sym (is ∙ ap (λ b. cond b None (Some (place_and_mark e))) t)))
  | inr f ↦
      let both : Some (at, dirty) ≡ Some (place_and_mark e) = is ∙ ap (λ b. cond b None (Some (place_and_mark e))) f in
      let same : (at, dirty) ≡ place_and_mark e = cc in
      (e, refl, sym (ap (λ (x : Place × Bool). x.0) same), f)
]

-- an address that stands in no log block doesn't have a page of one
pub none_owned : (m : Entries) (at : Place) (a : ℕ) → IsNoDataBlock m at.block → None ≡ place_if_logged (get m a) → Owns m at a → ⊥
none_owned m at a no_data is owns = elim (cases_Bool owns.0.block_mapped) [
  | inl t ↦ no_data a owns.0 owns.1 t (ap (λ (p : Place). p.block) owns.2)
  | inr f ↦ absurd (none-some (place_and_mark owns.0) (is ∙ ap place_if_logged owns.1 ∙ ap (λ b. cond b None (Some (place_and_mark owns.0))) f))
]

-- a log block is no data block
pub log_no_data : (parts : Parts) → RolesAgree parts → (b : ℕ) → IsInUse parts.log_blocks b → IsNoDataBlock parts.map.entries b
log_no_data parts roles b used = λ a e is mapped here.
    let in_pool = roles.in_pool b used in
    not_data_log (role_of parts.pool b) ((roles.data_blocks b in_pool).1 (a, e, is, mapped, here)) ((roles.log_blocks b in_pool).1 used)

module _ (parts : Parts) (group block : ℕ) (can : CanSwitch parts group block) where
  -- the first address of the group stands at the first page of the block
  pub first_at : Owns parts.map.entries (record { block = block; page = 0 }) (group * parts.geometry.p)
  first_at =
      let some : 0 < parts.geometry.p = omega (arith, parts.geometry.in_range.p_low) in
      let number : group * parts.geometry.p + 0 ≡ group * parts.geometry.p = omega arith in
      subst (λ k. Owns parts.map.entries (record { block = block; page = 0 }) k) number (can.in_order 0 some)

  pub block_is : (e : Entry) → get parts.map.entries (group * parts.geometry.p) ≡ Some e → e.place.block ≡ block
  block_is e is = ap (λ (p : Place). p.block) (one_place parts.map.entries (group * parts.geometry.p) e (record { block = block; page = 0 }) is first_at)
