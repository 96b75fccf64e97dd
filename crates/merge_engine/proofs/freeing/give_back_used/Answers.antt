use Rattle.std.proofs.Common.{rules, ◌≡◌, sym, ◌∙◌}
use Rattle.block_pool.specs.Pool.{role_of}
use Rattle.block_pool.specs.declared.pool.Role.TheVariants.{Log}
use Rattle.merge_engine.proofs.freeing.give_back_used.Goals as goal

pub returns-then-eq-clause-agree : goal.returns-then-eq-clause-agree
returns-then-eq-clause-agree c = λ contents agree unheld.
    let found : c.role.result ≡ Log = search rules in
    let is_log : role_of c.args.cache.now.pool c.args.block ≡ Log = sym c.role.ensures ∙ found in
    c.give_back.ensures.agree contents agree (unheld ((c.requires.roles.log_blocks c.args.block c.requires.in_pool).0 is_log))
