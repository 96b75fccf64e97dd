-- The parts still agree after the map took memory.
use Rattle.std.proofs.Common.{◌≡◌, ◌↔◌, ℕ, false, Some, sym, ◌∙◌, subst}
use Rattle.std.specs.FinMap.{get}
use Rattle.ft_base.specs.Contents.{Contents}
use Rattle.cache_model.specs.declared.entry.Entry.{Entry}
use Rattle.mapping.specs.MapValue.{MapValue}
use Rattle.checkpoint.specs.Current.{AreWhole, IsCurrent}
use Rattle.block_pool.specs.Pool.{IsInPool, role_of}
use Rattle.block_pool.specs.declared.pool.Role.TheVariants.{Data}
use Rattle.log_blocks.specs.Logs.{IsInUse}
use Rattle.merge_engine.specs.declared.parts.Parts.{Parts}
use Rattle.merge_engine.specs.Agreement.{PartsAgree, ArePartsSound, IsDataBlockOf}

with_map : (old : Parts) (map : MapValue) (contents : Contents) → map.geometry ≡ old.map.geometry → map.entries ≡ old.map.entries → PartsAgree old contents → PartsAgree (record old { map = map }) contents
with_map old map contents geometry entries agree = record {
  sound = record {
    of_one = record { map = geometry ∙ s.of_one.map; log = s.of_one.log; pool = s.of_one.pool; victims = s.of_one.victims; log_blocks = s.of_one.log_blocks; checkpoints = s.of_one.checkpoints };
    shape = s.shape;
    current = subst (λ m. IsCurrent contents.flash.page old.log m) (sym entries) s.current;
    whole = subst (λ m. AreWhole contents.flash.page m) (sym entries) s.whole;
    roles = record {
      data_blocks = subst (λ m. (b : ℕ) → IsInPool old.geometry b → (role_of old.pool b ≡ Data) ↔ IsDataBlockOf m b) (sym entries) s.roles.data_blocks;
      log_blocks = s.roles.log_blocks;
      in_pool = s.roles.in_pool;
      page_mapped = subst (λ m. (a : ℕ) (e : Entry) → get m a ≡ Some e → e.block_mapped ≡ false → IsInUse old.log_blocks e.place.block) (sym entries) s.roles.page_mapped;
    };
    log_blocks = s.log_blocks;
    open_block = s.open_block;
  };
  open_log = agree.open_log;
}
  where
    s : ArePartsSound old contents
    s = agree.sound

pub agree_reserved : (old new : Parts) (contents : Contents) → new ≡ record old { map = new.map } → new.map.geometry ≡ old.map.geometry → new.map.entries ≡ old.map.entries → PartsAgree old contents → PartsAgree new contents
agree_reserved old new contents is geometry entries agree = subst (λ (p : Parts). PartsAgree p contents) (sym is) (with_map old new.map contents geometry entries agree)
