use Rattle.std.proofs.Common.{sym, ◌∙◌, subst}
use Rattle.ft_base.specs.declared.geometry.Geometry.{Geometry}
use Rattle.block_pool.specs.Pool.{IsInPool}
use Rattle.log_blocks.specs.Logs.{LogBlocksValue, released}
use Rattle.log_blocks.specs.Logs as list
use Rattle.merge_engine.specs.Agreement.{PartsAgree}
use Rattle.merge_engine.proofs.GiveBackLemmas.{agree_given}
use Rattle.merge_engine.proofs.freeing.give_back.Goals as goal

pub returns-clause-agree : goal.returns-clause-agree
returns-clause-agree c = λ contents agree unheld.
    let one = c.requires.of_one in
    let pool = c.set_role.new.self in
    let is = c.release.ensures.released in
    subst (λ (l : LogBlocksValue). PartsAgree (record c.args.cache.now { pool = pool; log_blocks = l }) contents) (sym is)
    (agree_given c.args.cache.now c.args.block c.requires.in_pool unheld pool c.set_role.ensures.role
    (λ b here apart. c.set_role.ensures.others b (subst (λ (g : Geometry). IsInPool g b) (sym one.pool) here) apart)
    contents agree
    (record { map = one.map; log = one.log; pool = c.set_role.ensures.geometry ∙ one.pool; victims = one.victims; log_blocks = one.log_blocks; checkpoints = one.checkpoints })
    (subst (λ (l : LogBlocksValue). list.AreSoundLogs l) is c.release.ensures.sound))
