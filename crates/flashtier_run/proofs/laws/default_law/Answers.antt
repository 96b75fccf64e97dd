use Rattle.std.proofs.Common.{◌∙◌, ◌+◌, ◌/◌, ℕ, [], arith, ap, codes, refl, sym}
use Rattle.flashtier_words.specs.declared.devices.FlashKind.TheVariants.{Plain}
use Rattle.flashtier_words.specs.declared.devices.Parity.TheVariants.{Off}
use Rattle.flashtier_run.proofs.laws.default_law.Goals as goal

pub returns-clause-replay : goal.returns-clause-replay
returns-clause-replay c = λ o is.
    record {
      read =
          record {
            others = [];
            first = refl;
            settings = [];
            spelled = record { spelled = refl; known = tt; once = tt };
            says =
                record {
                  writes = record { mode = is.mode; ack = is.ack; later = λ flush. is.mode };
                  numbers = record { pages = is.pages; data_blocks = is.data_blocks; log_blocks = is.log_blocks; journal = is.journal; size = is.size };
                  dirty =
                      let dirty = is.dirty in let data_blocks = is.data_blocks in
                      record { given = is.dirty ∙ sym (ap (λ (n : ℕ). (n + 1) / 2) is.data_blocks); low = omega arith; high = omega arith };
                  devices = record { flash = Plain; parity = Off };
                  over = record { flash = refl; parity = refl };
                };
            spelling = refl;
          };
      over = let size = is.size in record { given = refl; low = omega arith; high = omega arith; shared = omega (arith, size); words = λ msr. refl };
    }

pub returns-clause-devices : goal.returns-clause-devices
returns-clause-devices c = record {
  word = codes "replay";
  others = [];
  first = refl;
  settings = [];
  spelled = record { spelled = refl; known = tt; once = tt };
  says = record { flash = refl; parity = refl };
}
