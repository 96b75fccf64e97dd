-- The state after a group's move, step by step.
use Rattle.std.proofs.Common.{◌≡◌, ℕ, ◌/◌, ◌%◌, ◌≤◌, List, [], ◌∷◌, ◌++◌, Option, None, Some, refl, sym, ◌∙◌, ap, ap₂, subst, arith, inl, inr}
use Rattle.std.specs.FinMap.{get}
use Rattle.ft_base.specs.declared.geometry.Geometry.{Geometry}
use Rattle.ft_base.specs.declared.block.Place.{Place}
use Rattle.ft_base.specs.declared.block.Page.{Page}
use Rattle.ft_base.specs.Contents.{Contents, Flash}
use Rattle.ft_base.specs.Layout.{first_pool}
use Rattle.ft_base.proofs.Images.{set_other}
use Rattle.ft_media.specs.State.{State}
use Rattle.ft_media.specs.Media.{after_erase, erase_counted, program_counted}
use Rattle.ft_base.specs.declared.record.Record.{Record}
use Rattle.cache_model.specs.declared.entry.Entry.{Entry}
use Rattle.cache_model.specs.Records.{Entries}
use Rattle.cache_model.specs.CacheList.{CacheList}
use Rattle.cache_model.specs.Stands.{FlashStandsFor}
use Rattle.mapping.specs.Numbers.{StandsNoneIn}
use Rattle.checkpoint.specs.Counts.{programs_counted}
use Rattle.checkpoint.specs.Current.{PoolStays}
use Rattle.block_pool.specs.Pool.{PoolValue, IsFree, IsInPool, role_of}
use Rattle.log_blocks.specs.Logs.{IsInUse, append_place}
use Rattle.silent_evict.specs.Candidates.{IsGroupHeld}
use Rattle.merge_engine.specs.declared.parts.Parts.{Parts}
use Rattle.merge_engine.specs.Agreement.{PartsAgree, IsOpenBlock, Lists, RolesAgree}
use Rattle.merge_engine.specs.Merges.{HasBlockOrRoom, OthersStay, ReachesTo, FlashStandsForEither, move_counted, moved}
use Rattle.merge_engine.specs.Room.{LacksRoom}
use Rattle.merge_engine.specs.Steps.{HasFillers, IsCopied, IsFilledUp, IsMerged, filler_page}
use Rattle.merge_engine.proofs.BesideLemmas.{ChangedBeside, erased_beside, agree_beside, nothing_buffered}
use Rattle.merge_engine.proofs.RoleLemmas.{free_in_pool, free_unheld, free_not_in_use, open_in_use}
use Rattle.merge_engine.proofs.TakeLemmas.{erased_pages}
use Rattle.merge_engine.proofs.PutLemmas.{of_one_roles}
use Rattle.merge_engine.proofs.MovedLemmas.{dropped_here, moved_from, moved_here, moved_other, dropped}

-- the list is the same, whatever the roles of the pool
pub lists_roles : (parts : Parts) (pool : PoolValue) (page : Place → Page) (list durable : CacheList) → Lists parts page list durable → Lists (record parts { pool = pool }) page list durable
lists_roles parts pool page list durable lists = record { held = lists.held; stands = lists.stands }

-- an erase block is taken, which stays free: the parts agree with the flash on which it is erased
module _ (parts : Parts) (old new : Contents) (agree : PartsAgree parts old) (none : parts.log.buffered ≡ []) (block : ℕ) (free : IsFree parts.pool block)
    (pool : PoolValue) (same : pool.geometry ≡ parts.pool.geometry) (kept : (b : ℕ) → role_of pool b ≡ role_of parts.pool b)
    (shape : new.shape ≡ old.shape) (ok : new.flash ≡ after_erase old.flash block) where
  in_pool : IsInPool parts.geometry block
  in_pool = free_in_pool parts agree.sound.of_one block free

  unheld : StandsNoneIn parts.map.entries block
  unheld = free_unheld parts agree.sound.of_one agree.sound.roles block free

  beside : ChangedBeside parts.geometry parts.map.entries agree.sound.current.durable old.flash.page new.flash.page
  beside =
      let is = nothing_buffered old.flash.page parts.log parts.map.entries agree.sound.current none in
      erased_beside parts.geometry parts.map.entries agree.sound.current.durable old.flash new.flash block in_pool.0 unheld (subst (λ (m : Entries). StandsNoneIn m block) (sym is) unheld) (erased_pages old.flash new.flash block ok)

  next_other : (b : ℕ) → (block ≡ b → ⊥) → new.flash.next b ≡ old.flash.next b
  next_other b other = ap (λ (f : Flash). f.next b) ok ∙ set_other old.flash.next block b (Some 0) other

  roles_taken : RolesAgree (record parts { pool = pool })
  roles_taken =
      let r = agree.sound.roles in
      record {
        data_blocks = λ b inside. (λ is. (r.data_blocks b inside).0 (sym (kept b) ∙ is), λ x. kept b ∙ (r.data_blocks b inside).1 x);
        log_blocks = λ b inside. (λ is. (r.log_blocks b inside).0 (sym (kept b) ∙ is), λ used. kept b ∙ (r.log_blocks b inside).1 used);
        in_pool = r.in_pool;
        page_mapped = r.page_mapped;
      }

  opened : IsOpenBlock parts.log_blocks new.flash
  opened = λ some. next_other (append_place parts.log_blocks).block (λ is. free_not_in_use parts agree.sound.of_one agree.sound.roles block free (subst (λ n. IsInUse parts.log_blocks n) (sym is) (open_in_use parts.log_blocks agree.sound.log_blocks some))) ∙ agree.sound.open_block some

  pub agree_taken : PartsAgree (record parts { pool = pool }) new
  agree_taken = agree_beside parts old new agree beside pool parts.log_blocks shape (λ b low. next_other b (λ is. let high = in_pool.0 in absurd (omega arith))) (of_one_roles parts pool same agree.sound.of_one) roles_taken agree.sound.log_blocks opened

-- ---- over parts that are known by equations

module _ (g h : Geometry) (m n : Entries) (group : ℕ) (same : h ≡ g) (is : n ≡ m) where
  pub room_still : HasBlockOrRoom g m group → HasBlockOrRoom h n group
  room_still room = subst (λ (k : Geometry). HasBlockOrRoom k n group) (sym same) (subst (λ (x : Entries). HasBlockOrRoom g x group) (sym is) room)

  pub held_still : IsGroupHeld g m group → IsGroupHeld h n group
  held_still held = subst (λ (k : Geometry). IsGroupHeld k n group) (sym same) (subst (λ (x : Entries). IsGroupHeld g x group) (sym is) held)

  pub copied_still : (block : ℕ) (page : Place → Page) → IsCopied g m group block page → IsCopied h n group block page
  copied_still block page copied = subst (λ (k : Geometry). IsCopied k n group block page) (sym same) (subst (λ (x : Entries). IsCopied g x group block page) (sym is) copied)

  pub moved_still : (block : ℕ) → moved h n group block ≡ moved g m group block
  moved_still block = ap₂ (λ (k : Geometry) (x : Entries). moved k x group block) same is

pub stands_still : (g h : Geometry) (page : Place → Page) (s t : CacheList) → h ≡ g → FlashStandsForEither h page s t → FlashStandsForEither g page s t
stands_still g h page s t same stands = subst (λ (k : Geometry). FlashStandsForEither k page s t) same stands

-- the flash stands for the list of parts whose list is all on the flash
pub stands_listed : (g : Geometry) (parts : Parts) (page : Place → Page) (durable list : CacheList) → parts.geometry ≡ g → Lists parts page list list → FlashStandsForEither g page durable list
stands_listed g parts page durable list same lists = inr (subst (λ (k : Geometry). FlashStandsFor k page list) same lists.stands)

pub either_same : (g : Geometry) (page : Place → Page) (s : CacheList) → FlashStandsForEither g page s s → FlashStandsFor g page s
either_same g page s (inl stands) = stands
either_same g page s (inr stands) = stands

module _ (g : Geometry) (m n : Entries) (group block : ℕ) (is : n ≡ moved g m group block) where
  pub merged_moved : IsMerged g n group
  merged_moved a e at same = ap (λ (x : Entry). x.block_mapped) (moved_from g m group block a e (sym (ap (λ k. get k a) is) ∙ at) same).2

  pub others_moved : OthersStay g group m n
  others_moved a other = ap (λ k. get k a) is ∙ moved_other g m group block a other

-- ---- fillers

pub filled_still : (g h : Geometry) (m n : Entries) (group block : ℕ) (page : Place → Page) → h ≡ g → n ≡ m → IsFilledUp h n group block page → IsFilledUp g m group block page
filled_still g h m n group block page same is filled = subst (λ (k : Geometry). IsFilledUp k m group block page) same (subst (λ (x : Entries). IsFilledUp h x group block page) is filled)

pub fillers_still : (g h : Geometry) (n : Entries) (group : ℕ) (page : Place → Page) → h ≡ g → HasFillers h n group page → HasFillers g n group page
fillers_still g h n group page same filled = subst (λ (k : Geometry). HasFillers k n group page) same filled

module _ (g : Geometry) (m n : Entries) (group block : ℕ) (is : n ≡ moved g m group block) where
  was_none : (a : ℕ) → get n a ≡ None → a / g.p ≡ group → get m a ≡ None
  was_none a none in_group = by_entry (get m a) refl
    where
      by_entry : (o : Option Entry) → get m a ≡ o → get m a ≡ None
      by_entry None at = at
      by_entry (Some e) at = absurd (let here = sym (moved_here g m group block a e at in_group) ∙ ap (λ (x : Entries). get x a) (sym is) ∙ none in cc)

  -- once a group moved, its data block has the fillers
  pub fillers_moved : (page page' : Place → Page) → first_pool g ≤ block → PoolStays g page page' → IsFilledUp g m group block page → HasFillers g n group page'
  fillers_moved page page' high stays filled a b e in_a none in_b there less =
      let was = moved_from g m group block b e (sym (ap (λ k. get k b) is) ∙ there) in_b in
      let here : e.place.block ≡ block = ap (λ (x : Entry). x.place.block) was.2 in
      subst (λ k. page' (record { block = k; page = a % g.p }) ≡ filler_page) (sym here)
      (stays (record { block = block; page = a % g.p }) high ∙ filled a b was.0 in_a (was_none a none in_a) in_b was.1 less)

-- if the group is dropped, none of its addresses is held
pub fillers_gone : (g : Geometry) (m n : Entries) (group : ℕ) (page : Place → Page) → n ≡ dropped g m group → HasFillers g n group page
fillers_gone g m n group page is a b e in_a none in_b there less = absurd (let gone = sym (dropped_here g m group b in_b) ∙ ap (λ (x : Entries). get x b) (sym is) ∙ there in cc)

-- ---- the cost of a merge

-- something is buffered once a record was
pub pushed_some : (changes : List Record) (change : Record) → changes ++ change ∷ [] ≡ [] → ⊥
pushed_some [] change none = absurd (cc)
pushed_some (x ∷ xs) change none = absurd (cc)

pub reach_still : (old mid : Parts) (group pages : ℕ) → mid ≡ old → ReachesTo old.geometry old.map.entries group pages → ReachesTo mid.geometry mid.map.entries group pages
reach_still old mid group pages same reach = subst (λ (p : Parts). ReachesTo p.geometry p.map.entries group pages) (sym same) reach

-- nothing was buffered, so the group was copied and one log page was programmed
pub moved_counts : (pages : ℕ) (old mid now last : State) → mid ≡ old → now.counts ≡ programs_counted pages (erase_counted mid.counts) → last.counts ≡ program_counted now.counts → last.counts ≡ move_counted pages old.counts
moved_counts pages old mid now last same copied page = page ∙ ap program_counted copied ∙ ap (λ (s : State). program_counted (programs_counted pages (erase_counted s.counts))) same

pub room_not_lacked : (g : Geometry) (m : Entries) (group : ℕ) → LacksRoom g m group → HasBlockOrRoom g m group → ⊥
room_not_lacked g m group lacks (inl has) = lacks.none has
room_not_lacked g m group lacks (inr low) = let full = lacks.full in absurd (omega arith)
