use Rattle.merge_engine.proofs.ResultLemmas.{on_ok_from, ok_at}
use Rattle.merge_engine.proofs.CopyLemmas.{agree_unheld, lists_unheld}
use Rattle.merge_engine.proofs.copying.program_unheld.Goals as goal

pub returns-clause-agree : goal.returns-clause-agree
returns-clause-agree g c =
    on_ok_from c.program.result (λ v is. agree_unheld c.args.cache.now (g.M.Media.state c.args.media.now).contents (g.M.Media.state c.program.new.self).contents c.requires.agree c.args.at c.args.block.now c.args.spare.now c.requires.next.free c.requires.next.ready
    (g.met.M.Media.blank_ahead c.args.media.now) c.program.ensures.page c.program.ensures.device.shape (ok_at c.program.result v is c.program.ensures.ok))

pub returns-clause-lists : goal.returns-clause-lists
returns-clause-lists g c =
    lists_unheld c.args.cache.now (g.M.Media.state c.args.media.now).contents (g.M.Media.state c.program.new.self).contents c.requires.agree c.args.at c.args.block.now c.args.spare.now c.requires.next.free c.requires.next.ready (g.met.M.Media.blank_ahead c.args.media.now) c.program.ensures.page
