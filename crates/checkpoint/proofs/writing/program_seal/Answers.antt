use Rattle.checkpoint.specs.Regions.{IsSealPage}
use Rattle.checkpoint.proofs.ProgramLemmas.{is_seal_page, leaves_one, programmed}
use Rattle.checkpoint.proofs.writing.program_seal.Goals as goal

pub returns-in_err-program-clause-pages : goal.returns-in_err-program-clause-pages
returns-in_err-program-clause-pages g c =
    leaves_one (IsSealPage c.args.target.now.geometry c.args.totals.now c.args.target.now.era c.args.pages c.args.records) (g.M.Media.state c.args.media.now).contents.flash
    (g.M.Media.state c.program.new.self).contents.flash _ c.checkpoint_at-at.result c.checkpoint_at-at.ensures c.write_numbers.new.out c.write_spare-spare.result
    (is_seal_page c.args.target.now.geometry c.args.totals.now c.args.target.now.era c.args.pages c.args.records c.write_numbers.new.out c.write_spare-spare.result c.write_numbers.ensures c.write_spare-spare.ensures) c.program.ensures.page

pub returns-clause-done : goal.returns-clause-done
returns-clause-done g c =
    programmed (IsSealPage c.args.target.now.geometry c.args.totals.now c.args.target.now.era c.args.pages c.args.records) (g.M.Media.state c.args.media.now).contents.flash
    (g.M.Media.state c.program.new.self).contents.flash _ c.checkpoint_at-at.result c.checkpoint_at-at.ensures c.write_numbers.new.out c.write_spare-spare.result
    (is_seal_page c.args.target.now.geometry c.args.totals.now c.args.target.now.era c.args.pages c.args.records c.write_numbers.new.out c.write_spare-spare.result c.write_numbers.ensures c.write_spare-spare.ensures) c.in_ok-program.ensures.ok

pub returns-clause-pages : goal.returns-clause-pages
returns-clause-pages g c =
    leaves_one (IsSealPage c.args.target.now.geometry c.args.totals.now c.args.target.now.era c.args.pages c.args.records) (g.M.Media.state c.args.media.now).contents.flash
    (g.M.Media.state c.program.new.self).contents.flash _ c.checkpoint_at-at.result c.checkpoint_at-at.ensures c.write_numbers.new.out c.write_spare-spare.result
    (is_seal_page c.args.target.now.geometry c.args.totals.now c.args.target.now.era c.args.pages c.args.records c.write_numbers.new.out c.write_spare-spare.result c.write_numbers.ensures c.write_spare-spare.ensures) c.program.ensures.page
