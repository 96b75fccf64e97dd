-- The next page of the open log block is programmed.
use Rattle.std.proofs.Common.{◌≡◌, ℕ, ◌+◌, ◌-◌, ◌≤◌, true, Some, sym, ◌∙◌, ap, subst, arith}
use Rattle.std.specs.FinMap.{get}
use Rattle.ft_base.specs.declared.geometry.Geometry.{Geometry}
use Rattle.ft_base.specs.declared.block.Block.{Block}
use Rattle.ft_base.specs.declared.block.Spare.{Spare}
use Rattle.ft_base.specs.declared.block.Page.TheVariants.{Blank, Whole}
use Rattle.ft_base.specs.Contents.{Contents, Flash}
use Rattle.ft_base.specs.Layout.{first_pool}
use Rattle.ft_base.proofs.Images.{set_here, set_other}
use Rattle.ft_media.specs.Media.{IsBlankAhead, LeavesPage, after_program}
use Rattle.cache_model.specs.declared.entry.Entry.{Entry}
use Rattle.cache_model.specs.Loading.{is_whole}
use Rattle.cache_model.specs.CacheList.{CacheList}
use Rattle.cache_model.proofs.LogLemmas.{set_page-here}
use Rattle.cache_model.specs.Spelling.{data_spare}
use Rattle.log_blocks.specs.Logs.{LogBlocksValue, IsInUse, append_place}
use Rattle.merge_engine.specs.declared.parts.Parts.{Parts}
use Rattle.merge_engine.specs.Agreement.{PartsAgree, IsOpenBlock, Lists}
use Rattle.merge_engine.specs.Steps.{IsNewPage}
use Rattle.merge_engine.proofs.BesideLemmas.{ChangedBeside, leaves_beside, lists_beside, agree_beside, set_beside}
use Rattle.merge_engine.proofs.RoleLemmas.{open_in_use}
use Rattle.cache_model.proofs.StandLemmas.{entry_whole}

-- the log blocks with one page fewer left in the open one
abbrev pub one_page_less : LogBlocksValue → LogBlocksValue
one_page_less logs = record logs { room = logs.room - 1 }

module _ (parts : Parts) (old new : Contents) (agree : PartsAgree parts old) (ahead : IsBlankAhead old) (some : 1 ≤ parts.log_blocks.room) (block : Block) (spare : Spare) where
  in_use : IsInUse parts.log_blocks (append_place parts.log_blocks).block
  in_use = open_in_use parts.log_blocks agree.sound.log_blocks some

  high : first_pool parts.geometry ≤ (append_place parts.log_blocks).block
  high = (agree.sound.roles.in_pool (append_place parts.log_blocks).block in_use).0

  blank : old.flash.page (append_place parts.log_blocks) ≡ Blank
  blank = ahead (append_place parts.log_blocks) (append_place parts.log_blocks).page (agree.sound.open_block some) (omega arith)

  loaded : (a : ℕ) (e : Entry) → get agree.sound.current.durable a ≡ Some e → is_whole (old.flash.page e.place) ≡ true
  loaded = entry_whole parts.log.geometry old.flash.page agree.sound.current.durable agree.sound.current.loads

  pub lists_programmed : LeavesPage old.flash new.flash (append_place parts.log_blocks) block spare → (list durable : CacheList) → Lists parts old.flash.page list durable → Lists parts new.flash.page list durable
  lists_programmed leaves = lists_beside parts old new agree (leaves_beside parts.geometry parts.map.entries agree.sound.current.durable old.flash new.flash (append_place parts.log_blocks) block spare high blank agree.sound.whole.whole loaded leaves)

  module _ (shape : new.shape ≡ old.shape) (ok : new.flash ≡ after_program old.flash (append_place parts.log_blocks) block spare) where
    beside : ChangedBeside parts.geometry parts.map.entries agree.sound.current.durable old.flash.page new.flash.page
    beside = subst (λ (f : Flash). ChangedBeside parts.geometry parts.map.entries agree.sound.current.durable old.flash.page f.page) (sym ok)
        (set_beside parts.geometry parts.map.entries agree.sound.current.durable old.flash.page (append_place parts.log_blocks) (Whole block spare) high blank agree.sound.whole.whole loaded)

    opened : IsOpenBlock (one_page_less parts.log_blocks) new.flash
    opened = λ more.
        let within = agree.sound.log_blocks.within in
        let next : (append_place parts.log_blocks).page + 1 ≡ (append_place (one_page_less parts.log_blocks)).page = omega arith in
        ap (λ (f : Flash). f.next (append_place parts.log_blocks).block) ok ∙ set_here old.flash.next (append_place parts.log_blocks).block (Some ((append_place parts.log_blocks).page + 1)) ∙ ap Some next

    pub agree_programmed : PartsAgree (record parts { log_blocks = one_page_less parts.log_blocks }) new
    agree_programmed =
        let s = agree.sound in
        agree_beside parts old new agree beside parts.pool (one_page_less parts.log_blocks) shape
        (λ b low. ap (λ (f : Flash). f.next b) ok ∙ set_other old.flash.next (append_place parts.log_blocks).block b (Some ((append_place parts.log_blocks).page + 1)) (λ same. let h = high in absurd (omega arith)))
        (record { map = s.of_one.map; log = s.of_one.log; pool = s.of_one.pool; victims = s.of_one.victims; log_blocks = s.of_one.log_blocks; checkpoints = s.of_one.checkpoints })
        (record { data_blocks = s.roles.data_blocks; log_blocks = s.roles.log_blocks; in_pool = s.roles.in_pool; page_mapped = s.roles.page_mapped })
        (record { distinct = s.log_blocks.distinct; few = s.log_blocks.few; last = s.log_blocks.last; closed = λ none. absurd (omega (arith, s.log_blocks.closed none)); within = let w = s.log_blocks.within in omega arith })
        opened

    pub new_page : (lba : ℕ) → spare ≡ data_spare lba → IsNewPage (record parts { log_blocks = one_page_less parts.log_blocks }) new.flash.page (append_place parts.log_blocks) lba block
    new_page lba is = record {
      whole = ap (λ (f : Flash). f.page (append_place parts.log_blocks)) ok ∙ set_page-here old.flash.page (append_place parts.log_blocks) (Whole block spare) ∙ ap (λ (x : Spare). Whole block x) is;
      in_use = in_use;
      in_block = let w = agree.sound.log_blocks.within in let one = ap (λ (g : Geometry). g.p) agree.sound.of_one.log_blocks in omega arith;
      unused = λ a e at same. let whole = agree.sound.whole.whole a e at in let both : is_whole Blank ≡ true = ap is_whole (sym (ap old.flash.page same ∙ blank)) ∙ whole in cc;
    }
