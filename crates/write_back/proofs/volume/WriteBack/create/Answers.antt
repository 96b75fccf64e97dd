use Rattle.std.proofs.Common.{refl}
use Rattle.write_back.proofs.volume.WriteBack.create.Goals as goal

pub returns-in-Ok-dirty_table_of-clause-creates : goal.returns-in-Ok-dirty_table_of-clause-creates
returns-in-Ok-dirty_table_of-clause-creates g c =
    let made = c.in-Ok.ensures.creates in
    record {
      stands = made.stands;
      values = made.values;
      ready = made.ready;
      within = λ is. absurd (cc);
      disk_reads = made.disk_reads;
      disk_writes = made.disk_writes;
      disk_flushes = made.disk_flushes;
      cause = record {
        flash = made.cause.flash;
        disk = made.cause.disk;
        cuts = made.cause.cuts;
        flash_fault = λ is. absurd (cc);
        disk_fault = λ is. absurd (cc);
        power_lost = λ is. absurd (cc);
        none = λ no. made.cause.none refl;
      };
      passes = made.passes;
    }

-- the memory of the table was refused

pub returns-in-Err-dirty_table_of-clause-creates : goal.returns-in-Err-dirty_table_of-clause-creates
returns-in-Err-dirty_table_of-clause-creates g c =
    let made = c.in-Ok.ensures.creates in
    record {
      stands = tt;
      values = made.values;
      ready = tt;
      within = λ is. absurd (cc);
      disk_reads = made.disk_reads;
      disk_writes = made.disk_writes;
      disk_flushes = made.disk_flushes;
      cause = record {
        flash = made.cause.flash;
        disk = made.cause.disk;
        cuts = made.cause.cuts;
        flash_fault = λ is. absurd (cc);
        disk_fault = λ is. absurd (cc);
        power_lost = λ is. absurd (cc);
        none = λ no. made.cause.none refl;
      };
      passes = made.passes;
    }
