use Rattle.std.proofs.Common.{ap}
use Rattle.merge_engine.specs.declared.parts.Parts.{Parts}
use Rattle.merge_engine.proofs.TakeLemmas.{erased_pages, one_is_free, lists_taken, agree_begun}
use Rattle.merge_engine.proofs.BeginLemmas.{taken_as_log}
use Rattle.merge_engine.proofs.appending.take_log_block.Goals as goal

pub take-requires-clause-free : goal.take-requires-clause-free
take-requires-clause-free g c = one_is_free c.args.cache.now (g.M.Media.state c.args.media.now).contents c.requires.agree

pub returns-in_err-block-clause-lists : goal.returns-in_err-block-clause-lists
returns-in_err-block-clause-lists g c =
    let taken = c.take.ensures.pages in
    lists_taken c.args.cache.now (g.M.Media.state c.args.media.now).contents (g.M.Media.state c.take.new.media).contents c.requires.agree c.requires.nothing taken.block taken.taken.free taken.pages

pub returns-clause-agree : goal.returns-clause-agree
returns-clause-agree g c =
    let taken = c.in_ok-block.ensures.taken in
    let begins = c.begin_log_block in
    agree_begun c.args.cache.now (g.M.Media.state c.args.media.now).contents (g.M.Media.state c.take.new.media).contents c.requires.agree c.requires.nothing c.in_ok-block.block taken.0.free
    (erased_pages _ _ _ taken.1) begins.new.cache begins.ensures.cache c.take.ensures.drives.passes.shape taken.1 begins.ensures.of_one begins.ensures.roles begins.ensures.sound

pub returns-clause-lists : goal.returns-clause-lists
returns-clause-lists g c =
    let taken = c.take.ensures.pages in
    lists_taken c.args.cache.now (g.M.Media.state c.args.media.now).contents (g.M.Media.state c.take.new.media).contents c.requires.agree c.requires.nothing taken.block taken.taken.free taken.pages

pub returns-clause-takes : goal.returns-clause-takes
returns-clause-takes g c = (
  c.in_ok-block.block,
  record {
    logs = ap (λ (p : Parts). p.log_blocks) c.begin_log_block.ensures.cache;
    taken = taken_as_log c.args.cache.now.pool c.take.new.self c.begin_log_block.new.cache.pool c.in_ok-block.block c.in_ok-block.ensures.taken.0 c.take.ensures.geometry c.take.ensures.roles c.in_ok-block.ensures.erases c.begin_log_block.ensures.pool;
  },
)
