use Rattle.std.proofs.Common.{ap, rules}
use Rattle.cache_model.specs.Cache.{written_block}
use Rattle.ft_media.proofs.DrivesLemmas.{drives_then}
use Rattle.merge_engine.specs.declared.parts.Parts.{Parts}
use Rattle.merge_engine.proofs.ResultLemmas.{on_ok_from, ok_at}
use Rattle.ssc.proofs.SpendLemmas.{spends_both}
use Rattle.ssc.proofs.WrittenLemmas.{given_step, step_then, kept_before, kept_then, page_then, put_committed, counted_twice}
use Rattle.ssc.proofs.putting.write_committed.Goals as goal

pub returns-in_err-write_page-clause-leaves : goal.returns-in_err-write_page-clause-leaves
returns-in_err-write_page-clause-leaves g c =
    record {
      stands = λ list durable lists. given_step _ _ list durable _ (c.write_page.ensures.stands list durable lists);
      kept = λ room list durable lists. kept_before _ _ durable list _ (c.write_page.ensures.list_stands room list durable lists);
    }

pub returns-clause-lists : goal.returns-clause-lists
returns-clause-lists g c = on_ok_from c.commit.result (λ v is. λ list durable lists.
    put_committed c.args.parts.now c.write_page.new.parts c.commit.new.cache (g.M.Media.state c.write_page.new.media).contents.flash.page (g.M.Media.state c.commit.new.media).contents.flash.page c.args.lba (written_block c.args.lba c.args.block.now c.args.dirty) list durable
    (ok_at c.commit.result v is c.commit.ensures.kept.lists) (c.in_ok-write_page.ensures.lists list durable lists))

pub returns-clause-leaves : goal.returns-clause-leaves
returns-clause-leaves g c =
    record {
      stands = λ list durable lists. step_then c.args.parts.now c.write_page.new.parts (g.M.Media.state c.write_page.new.media).contents.flash.page (g.M.Media.state c.commit.new.media).contents.flash.page c.args.lba
          (written_block c.args.lba c.args.block.now c.args.dirty) c.write_page.ensures.kept.geometry list durable
          c.commit.ensures.kept.stands (c.in_ok-write_page.ensures.lists list durable lists);
      kept = λ room list durable lists. kept_then c.args.parts.now c.write_page.new.parts (g.M.Media.state c.write_page.new.media).contents.flash.page (g.M.Media.state c.commit.new.media).contents.flash.page c.args.lba
          (written_block c.args.lba c.args.block.now c.args.dirty) c.write_page.ensures.kept.geometry list durable
          c.commit.ensures.kept.stands room (c.in_ok-write_page.ensures.lists list durable lists);
    }

pub returns-clause-two_programs : goal.returns-clause-two_programs
returns-clause-two_programs g c = on_ok_from c.commit.result (λ v is. λ room left.
    counted_twice c.args.parts.now c.write_page.new.parts c.args.lba c.args.dirty c.write_page.ensures.kept.geometry _ _ _ (c.in_ok-write_page.ensures.one_program room) c.in_ok-write_page.ensures.waits left (ok_at c.commit.result v is c.commit.ensures.one_page))

pub returns-clause-pages : goal.returns-clause-pages
returns-clause-pages g c = on_ok_from c.commit.result (λ v is. record {
  programs = record {
    count = search rules;
    spends = spends_both (g.M.Media.state c.args.media.now) (g.M.Media.state c.write_page.new.media) (g.M.Media.state c.commit.new.media) 1 1 c.in_ok-write_page.ensures.drives.flash.passes c.in_ok-write_page.ensures.pages.programs.spends
        (ok_at c.commit.result v is c.commit.ensures.programs c.in_ok-write_page.ensures.waits).spends;
  };
  log_page = page_then c.args.parts.now c.write_page.new.parts c.commit.new.cache (ap (λ (p : Parts). p.log_blocks) c.commit.ensures.cache) c.in_ok-write_page.ensures.pages.log_page;
})

pub returns-clause-drives : goal.returns-clause-drives
returns-clause-drives g c = record { memory = c.commit.ensures.drives.memory; flash = drives_then _ _ _ _ _ c.in_ok-write_page.ensures.drives.flash c.commit.ensures.drives.flash }
