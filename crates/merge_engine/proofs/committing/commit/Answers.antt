use Rattle.merge_engine.proofs.ResultLemmas.{on_ok_from, ok_at}
use Rattle.merge_engine.proofs.CommitLemmas.{can_checkpoint, committed_stands, committed_lists, committed_agree}
use Rattle.merge_engine.proofs.committing.commit.Goals as goal

pub commit-requires-clause-can : goal.commit-requires-clause-can
commit-requires-clause-can g c = can_checkpoint c.args.cache.now (g.M.Media.state c.args.media.now).contents c.requires.agree.sound

pub returns-clause-kept : goal.returns-clause-kept
returns-clause-kept g c = record {
  agree = on_ok_from c.commit.result (λ v is.
      let done = c.commit.ensures in
      committed_agree c.args.cache.now c.commit.new.log c.commit.new.self (g.M.Media.state c.args.media.now).contents (g.M.Media.state c.commit.new.media).contents c.requires.agree.sound done.flash.pool
      done.log.geometry done.own done.drives.flash.passes.shape (ok_at c.commit.result v is done.flash.pool_ready) (ok_at c.commit.result v is done.done));
  nothing_waits = on_ok_from c.commit.result (λ v is. (ok_at c.commit.result v is c.commit.ensures.done).nothing);
  lists = on_ok_from c.commit.result (λ v is.
      let done = c.commit.ensures in
      committed_lists c.args.cache.now c.commit.new.log c.commit.new.self (g.M.Media.state c.args.media.now).contents (g.M.Media.state c.commit.new.media).contents c.requires.agree.sound done.flash.pool
      done.log.geometry (ok_at c.commit.result v is done.done));
  stands = let done = c.commit.ensures in
      committed_stands c.args.cache.now c.commit.new.log c.commit.new.self (g.M.Media.state c.args.media.now).contents (g.M.Media.state c.commit.new.media).contents c.requires.agree.sound done.flash.pool done.flash.stands;
}
