use Rattle.std.proofs.Common.{ap, rules}
use Rattle.cache_model.specs.Cache.{written_block}
use Rattle.checkpoint.proofs.OnlyLemmas.{only_failed}
use Rattle.ft_media.proofs.DrivesLemmas.{drives_then}
use Rattle.merge_engine.specs.declared.parts.Parts.{Parts}
use Rattle.ssc.proofs.SpendLemmas.{spends_on}
use Rattle.ssc.proofs.WrittenLemmas.{given_step, step_then, kept_before, kept_then, page_then, put_waits, still_pushed}
use Rattle.ssc.proofs.putting.write_buffered.Goals as goal

pub returns-in_err-before-clause-leaves : goal.returns-in_err-before-clause-leaves
returns-in_err-before-clause-leaves g c =
    record {
      stands = λ list durable lists. given_step _ _ list durable _ (c.write_page.ensures.stands list durable lists);
      kept = λ room list durable lists. kept_before _ _ durable list _ (c.write_page.ensures.list_stands room list durable lists);
    }

pub returns-clause-lists : goal.returns-clause-lists
returns-clause-lists g c = λ list durable lists.
    put_waits c.args.parts.now c.write_page.new.parts c.commit_if_full.new.parts (g.M.Media.state c.write_page.new.media).contents.flash.page (g.M.Media.state c.commit_if_full.new.media).contents.flash.page c.args.lba (written_block c.args.lba c.args.block.now c.args.dirty) list durable
    c.in_ok-commit_if_full.ensures.lists (c.in_ok-before.ensures.lists list durable lists)

pub returns-in_err-commit_if_full-clause-leaves : goal.returns-in_err-commit_if_full-clause-leaves
returns-in_err-commit_if_full-clause-leaves g c =
    record {
      stands = λ list durable lists. step_then c.args.parts.now c.write_page.new.parts (g.M.Media.state c.write_page.new.media).contents.flash.page (g.M.Media.state c.commit_if_full.new.media).contents.flash.page c.args.lba
          (written_block c.args.lba c.args.block.now c.args.dirty) c.write_page.ensures.kept.geometry list durable
          c.commit_if_full.ensures.stands (c.in_ok-before.ensures.lists list durable lists);
      kept = λ room list durable lists. kept_then c.args.parts.now c.write_page.new.parts (g.M.Media.state c.write_page.new.media).contents.flash.page (g.M.Media.state c.commit_if_full.new.media).contents.flash.page c.args.lba
          (written_block c.args.lba c.args.block.now c.args.dirty) c.write_page.ensures.kept.geometry list durable
          c.commit_if_full.ensures.stands room (c.in_ok-before.ensures.lists list durable lists);
    }

pub returns-clause-leaves : goal.returns-clause-leaves
returns-clause-leaves g c =
    record {
      stands = λ list durable lists. step_then c.args.parts.now c.write_page.new.parts (g.M.Media.state c.write_page.new.media).contents.flash.page (g.M.Media.state c.commit_if_full.new.media).contents.flash.page c.args.lba
          (written_block c.args.lba c.args.block.now c.args.dirty) c.write_page.ensures.kept.geometry list durable
          c.commit_if_full.ensures.stands (c.in_ok-before.ensures.lists list durable lists);
      kept = λ room list durable lists. kept_then c.args.parts.now c.write_page.new.parts (g.M.Media.state c.write_page.new.media).contents.flash.page (g.M.Media.state c.commit_if_full.new.media).contents.flash.page c.args.lba
          (written_block c.args.lba c.args.block.now c.args.dirty) c.write_page.ensures.kept.geometry list durable
          c.commit_if_full.ensures.stands room (c.in_ok-before.ensures.lists list durable lists);
    }

pub returns-clause-one_program : goal.returns-clause-one_program
returns-clause-one_program g c = λ room few.
    still_pushed c.args.parts.now c.write_page.new.parts c.commit_if_full.new.parts c.args.lba c.args.dirty (g.M.Media.state c.args.media.now) (g.M.Media.state c.write_page.new.media)
    (g.M.Media.state c.commit_if_full.new.media) few (c.in_ok-before.ensures.one_program room) c.commit_if_full.ensures.no_write

pub returns-clause-pages : goal.returns-clause-pages
returns-clause-pages g c = record {
  programs = record {
    count = search rules;
    spends = spends_on (g.M.Media.state c.args.media.now) (g.M.Media.state c.write_page.new.media) (g.M.Media.state c.commit_if_full.new.media) 1 c.in_ok-before.ensures.drives.flash.passes c.in_ok-before.ensures.pages.programs.spends
        c.in_ok-commit_if_full.ensures.drives.flash.passes;
  };
  log_page = page_then c.args.parts.now c.write_page.new.parts c.commit_if_full.new.parts (ap (λ (p : Parts). p.log_blocks) c.commit_if_full.ensures.cache) c.in_ok-before.ensures.pages.log_page;
}

pub returns-clause-drives : goal.returns-clause-drives
returns-clause-drives g c = record { memory = λ is. cc; flash = drives_then _ _ _ _ _ c.in_ok-before.ensures.drives.flash c.in_ok-commit_if_full.ensures.drives.flash }

pub returns-in_err-commit_if_full-clause-drives : goal.returns-in_err-commit_if_full-clause-drives
returns-in_err-commit_if_full-clause-drives g c = only_failed _ _ _ _ _ c.in_ok-before.ensures.drives.flash c.in_err-commit_if_full.ensures.drives (search rules)
