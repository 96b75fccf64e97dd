use Rattle.checkpoint.specs.Regions.{IsMapPage}
use Rattle.checkpoint.proofs.ProgramLemmas.{is_map_page, leaves_one, programmed}
use Rattle.checkpoint.proofs.writing.program_map.Goals as goal

pub returns-in_err-program-clause-pages : goal.returns-in_err-program-clause-pages
returns-in_err-program-clause-pages g c =
    let rs = c.args.records.now in
    leaves_one (IsMapPage c.args.target.now.geometry c.args.target.now.era c.args.sequence rs) (g.M.Media.state c.args.media.now).contents.flash (g.M.Media.state c.program.new.self).contents.flash _ c.checkpoint_at-at.result c.checkpoint_at-at.ensures c.write_map.new.out c.write_spare-spare.result
    (is_map_page c.args.target.now.geometry c.args.target.now.era c.args.sequence rs c.write_map.new.out c.write_spare-spare.result c.write_map.ensures c.write_spare-spare.ensures) c.program.ensures.page

pub returns-clause-done : goal.returns-clause-done
returns-clause-done g c =
    let rs = c.args.records.now in
    programmed (IsMapPage c.args.target.now.geometry c.args.target.now.era c.args.sequence rs) (g.M.Media.state c.args.media.now).contents.flash (g.M.Media.state c.program.new.self).contents.flash _ c.checkpoint_at-at.result c.checkpoint_at-at.ensures c.write_map.new.out c.write_spare-spare.result
    (is_map_page c.args.target.now.geometry c.args.target.now.era c.args.sequence rs c.write_map.new.out c.write_spare-spare.result c.write_map.ensures c.write_spare-spare.ensures) c.in_ok-program.ensures.ok

pub returns-clause-pages : goal.returns-clause-pages
returns-clause-pages g c =
    let rs = c.args.records.now in
    leaves_one (IsMapPage c.args.target.now.geometry c.args.target.now.era c.args.sequence rs) (g.M.Media.state c.args.media.now).contents.flash (g.M.Media.state c.program.new.self).contents.flash _ c.checkpoint_at-at.result c.checkpoint_at-at.ensures c.write_map.new.out c.write_spare-spare.result
    (is_map_page c.args.target.now.geometry c.args.target.now.era c.args.sequence rs c.write_map.new.out c.write_spare-spare.result c.write_map.ensures c.write_spare-spare.ensures) c.program.ensures.page
