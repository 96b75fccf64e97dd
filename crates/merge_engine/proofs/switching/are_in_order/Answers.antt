use Rattle.std.proofs.Common.{◌+◌, below_more}
use Rattle.mapping.specs.Counts.{Owns}
use Rattle.merge_engine.proofs.switching.are_in_order.Goals as goal

pub loop-page-preserved : goal.loop-page-preserved
loop-page-preserved c = λ log. below_more (λ page. Owns c.args.cache.now.map.entries (record { block = c.args.block; page = page }) (c.args.first + page)) c.loop-page.page
    (c.loop-page.invariant log) ((c.stands_at-stands.ensures log).0 c.if-not-stands.false)
