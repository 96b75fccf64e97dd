-- A free block is erased when it is taken, because nothing reads it.
use Rattle.std.proofs.Common.{◌≡◌, ℕ, ◌<◌, ◌==◌, cond, [], Some, inl, inr, eqb-true, sym, ◌∙◌, ap, subst, arith}
use Rattle.ft_base.specs.declared.geometry.Geometry.{Geometry}
use Rattle.std.proofs.lemmas.Bool.{cases_Bool}
use Rattle.ft_base.specs.declared.block.Page.TheVariants.{Blank}
use Rattle.ft_base.specs.Contents.{Contents, Flash}
use Rattle.ft_base.specs.Layout.{first_pool}
use Rattle.ft_base.proofs.Images.{set_here, set_other}
use Rattle.ft_media.specs.Media.{PagesErased, after_erase}
use Rattle.cache_model.specs.Records.{Entries}
use Rattle.cache_model.specs.Entries.{IsMap}
use Rattle.cache_model.specs.CacheList.{CacheList}
use Rattle.mapping.specs.Numbers.{StandsNoneIn}
use Rattle.block_pool.specs.Pool.{IsFree, IsInPool}
use Rattle.log_blocks.specs.Logs.{block_begun, append_place}
use Rattle.log_blocks.specs.Logs as list
use Rattle.merge_engine.specs.declared.parts.Parts.{Parts}
use Rattle.merge_engine.specs.Agreement.{PartsAgree, AreOfOne, IsOpenBlock, Lists, RolesAgree}
use Rattle.merge_engine.proofs.BesideLemmas.{ChangedBeside, erased_beside, lists_beside, agree_beside, nothing_buffered}
use Rattle.checkpoint.proofs.SealedLemmas.{current_map}
use Rattle.merge_engine.proofs.RoleLemmas.{free_in_pool, free_unheld}
use Rattle.merge_engine.proofs.FreeLemmas.{free_block}

-- the entries are a map of this geometry
pub agree_map : (parts : Parts) (contents : Contents) → PartsAgree parts contents → IsMap parts.geometry parts.map.entries
agree_map parts contents agree = subst (λ (g : Geometry). IsMap g parts.map.entries) agree.sound.of_one.log (current_map parts.log contents.flash.page parts.map.entries agree.sound.current)

-- if the parts agree, a block is free
pub one_is_free : (parts : Parts) (contents : Contents) → PartsAgree parts contents → (b : ℕ) × IsFree parts.pool b
one_is_free parts contents agree = free_block parts agree.sound.of_one (agree_map parts contents agree) agree.sound.roles agree.sound.log_blocks

-- an erase leaves pages unchanged, or blank in its block
pub erased_pages : (old new : Flash) (block : ℕ) → new ≡ after_erase old block → PagesErased old new block
erased_pages old new block ok = subst (λ (f : Flash). PagesErased old f block) (sym ok) (λ at. elim (cases_Bool (at.block == block)) [
  | inl t ↦ inr (eqb-true _ _ t, inl (ap (λ b. cond b Blank (old.page at)) t))
  | inr f ↦ inl (ap (λ b. cond b Blank (old.page at)) f)
])

module _ (parts : Parts) (old new : Contents) (agree : PartsAgree parts old) (none : parts.log.buffered ≡ []) (block : ℕ) (free : IsFree parts.pool block) (erased : PagesErased old.flash new.flash block) where
  in_pool : IsInPool parts.geometry block
  in_pool = free_in_pool parts agree.sound.of_one block free

  unheld : StandsNoneIn parts.map.entries block
  unheld = free_unheld parts agree.sound.of_one agree.sound.roles block free

  beside : ChangedBeside parts.geometry parts.map.entries agree.sound.current.durable old.flash.page new.flash.page
  beside =
      let same = nothing_buffered old.flash.page parts.log parts.map.entries agree.sound.current none in
      erased_beside parts.geometry parts.map.entries agree.sound.current.durable old.flash new.flash block in_pool.0 unheld (subst (λ (m : Entries). StandsNoneIn m block) (sym same) unheld) erased

  pub lists_taken : (list durable : CacheList) → Lists parts old.flash.page list durable → Lists parts new.flash.page list durable
  lists_taken = lists_beside parts old new agree beside

  -- with the block begun as the open log block
  pub agree_begun : (begins : Parts) → begins ≡ record parts { pool = begins.pool; log_blocks = block_begun block parts.log_blocks } → new.shape ≡ old.shape → new.flash ≡ after_erase old.flash block
      → AreOfOne begins → RolesAgree begins → list.AreSoundLogs begins.log_blocks → PartsAgree begins new
  agree_begun begins is shape ok of_one roles sound =
      subst (λ (p : Parts). PartsAgree p new) (sym is)
      (agree_beside parts old new agree beside begins.pool (block_begun block parts.log_blocks) shape regions_ready
      (subst (λ (p : Parts). AreOfOne p) is of_one) (subst (λ (p : Parts). RolesAgree p) is roles) (subst (λ (p : Parts). list.AreSoundLogs p.log_blocks) is sound) opened)
    where
      regions_ready : (b : ℕ) → b < first_pool parts.geometry → new.flash.next b ≡ old.flash.next b
      regions_ready = λ b low. ap (λ (f : Flash). f.next b) ok ∙ set_other old.flash.next block b (Some 0) (λ same. let high = in_pool.0 in absurd (omega arith))

      opened : IsOpenBlock (block_begun block parts.log_blocks) new.flash
      opened = λ some.
          let first : 0 ≡ (append_place (block_begun block parts.log_blocks)).page = omega arith in
          ap (λ (f : Flash). f.next block) ok ∙ set_here old.flash.next block (Some 0) ∙ ap Some first
