use Rattle.std.proofs.Common.{◌≡◌, rules, sym, ap₂, subst}
use Rattle.std.proofs.lemmas.Bool.{OnTrue_at}
use Rattle.ft_base.specs.Contents.{Contents, Flash, Shape}
use Rattle.cache_model.specs.CacheList.{CacheList}
use Rattle.mem_rig.specs.Rig.{state_of}
use Rattle.ssc.specs.declared.cache.Ssc.{Ssc}
use Rattle.ssc.specs.CacheState.{Holds, IsUp}
use Rattle.test_cache.proofs.bench.Bench.write_disk.Goals as goal

holds_beside : (c : Ssc) (a b : Contents) (s : CacheList) → Holds c a s → Holds c (record b { shape = a.shape; flash = a.flash }) s
holds_beside c a b s k =
    let sound = k.agree.sound in
    record {
      agree = record {
        sound = record { of_one = sound.of_one; shape = sound.shape; current = sound.current; whole = sound.whole; roles = sound.roles; log_blocks = sound.log_blocks; open_block = sound.open_block };
        open_log = k.agree.open_log;
      };
      waiting = k.waiting;
      shapes = k.shapes;
      kinds = k.kinds;
      lists = k.lists;
      waits = k.waits;
      memory = k.memory;
      few = k.few;
      places = k.places;
    }

-- the cache depends only on the flash
up_beside : (c : Ssc) (a b : Contents) → b.shape ≡ a.shape → b.flash ≡ a.flash → IsUp c a → IsUp c b
up_beside c a b shape flash up =
    subst (λ (k : Contents). IsUp c k) (ap₂ (λ (s : Shape) (f : Flash). record b { shape = s; flash = f }) (sym shape) (sym flash))
    (record {
      list = up.list;
      holds = holds_beside c a b up.list up.holds;
      up = up.up;
    })

pub invariant_of-self : goal.invariant_of-self
invariant_of-self c =
    let old = (state_of c.self.inside.rig).contents in
    let new = (state_of c.write_disk-self-inside.new.rig).contents in
    record {
      size = c.self.invariant.size;
      up = λ is. up_beside c.self.inside.cache old new c.write_disk-self-inside.ensures.shape (OnTrue_at is c.write_disk-self-inside.ensures.flash) (c.self.invariant.up (search rules));
    }
