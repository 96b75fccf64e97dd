use Rattle.std.proofs.Common.{false}
use Rattle.cache_model.specs.Cache.{written_block}
use Rattle.merge_engine.proofs.ResultLemmas.{on_ok_from, ok_at}
use Rattle.ssc.proofs.SpendLemmas.{puts_one}
use Rattle.ssc.proofs.WrittenLemmas.{committed_puts}
use Rattle.ssc.proofs.cache.Ssc.put_clean.Goals as goal

pub returns-then-is_held-clause-lists : goal.returns-then-is_held-clause-lists
returns-then-is_held-clause-lists g c = on_ok_from c.write_committed.result (λ v is. λ list durable lists.
    committed_puts c.args.self.now.parts c.write_committed.new.parts (g.M.Media.state c.write_committed.new.media).contents.flash.page c.args.lba (written_block c.args.lba c.args.block.now false) list durable
    (ok_at c.write_committed.result v is c.write_committed.ensures.nothing_waits) (ok_at c.write_committed.result v is c.write_committed.ensures.lists list durable lists))

pub returns-then-is_held-clause-pages : goal.returns-then-is_held-clause-pages
returns-then-is_held-clause-pages g c = on_ok_from c.write_committed.result (λ v is.
    puts_one c.args.self.now.parts c.write_committed.new.parts (g.M.Media.state c.args.media.now) (g.M.Media.state c.write_committed.new.media) (ok_at c.write_committed.result v is c.write_committed.ensures.pages))

pub returns-clause-drives : goal.returns-clause-drives
returns-clause-drives g c = record { memory = λ is. cc; flash = c.in_ok-write_buffered.ensures.drives.flash }
