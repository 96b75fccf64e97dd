use Rattle.std.proofs.Common.{rules}
use Rattle.op_log.proofs.PageLemmas.{leaves_log, appended_ready, spare_there}
use Rattle.op_log.proofs.log.OpLog.flush.Goals as goal

pub returns-in_err-program-clause-pages : goal.returns-in_err-program-clause-pages
returns-in_err-program-clause-pages g c =
    leaves_log _ c.args.self.now c.self.view_is (g.M.Media.state c.args.media.now).contents.flash
    (g.M.Media.state c.program.new.self).contents.flash c.log_at-at.result c.log_at-at.ensures c.spell.new.page c.deref.result.now (search rules)
    c.write_spare-spare.result c.spell.ensures c.program.ensures.page

pub returns-clause-done : goal.returns-clause-done
returns-clause-done g c = λ some.
    appended_ready _ c.args.self.now c.self.view_is (g.M.Media.state c.args.media.now).contents.flash
    (g.M.Media.state c.program.new.self).contents.flash c.log_at-at.result c.log_at-at.ensures c.spell.new.page c.deref.result.now (search rules)
    c.write_spare-spare.result c.spell.ensures c.in_ok-program.ensures.ok

pub returns-clause-pages : goal.returns-clause-pages
returns-clause-pages g c =
    leaves_log _ c.args.self.now c.self.view_is (g.M.Media.state c.args.media.now).contents.flash
    (g.M.Media.state c.program.new.self).contents.flash c.log_at-at.result c.log_at-at.ensures c.spell.new.page c.deref.result.now (search rules)
    c.write_spare-spare.result c.spell.ensures c.program.ensures.page

pub returns-clause-spare : goal.returns-clause-spare
returns-clause-spare g c = λ some.
    spare_there _ c.args.self.now c.self.view_is (g.M.Media.state c.args.media.now).contents.flash (g.M.Media.state c.program.new.self).contents.flash c.log_at-at.result c.log_at-at.ensures c.deref.result.now c.write_spare-spare.result c.write_spare-spare.ensures c.in_ok-program.ensures.ok
