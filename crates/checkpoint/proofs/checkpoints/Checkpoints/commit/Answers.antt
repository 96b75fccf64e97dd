use Rattle.std.proofs.Common.{◌≢◌, [], length, sym, ◌∙◌, ap, subst, arith}
use Rattle.std.proofs.lemmas.Result.{on_ok_weaker}
use Rattle.op_log.specs.Log.{LogValue}
use Rattle.checkpoint.specs.Current.{IsCommitted, PoolReadyStays}
use Rattle.checkpoint.proofs.FlushLemmas.{flush_loads, flush_pool, flush_ready, flush_committed, flushed_some, on_both}
use Rattle.checkpoint.proofs.checkpoints.Checkpoints.commit.Goals as goal

pub returns-then-room-gt0-clause-done : goal.returns-then-room-gt0-clause-done
returns-then-room-gt0-clause-done g c =
    let some : c.args.log.now.buffered ≢ [] = (λ e. c.if-buffered-eq0.false (c.buffered.ensures.buffered ∙ ap length e)) in
    on_both c.flush.result _ _ (IsCommitted (g.M.Media.state c.flush.new.media).contents.flash c.flush.new.self c.args.map.now.entries) c.flush.ensures.done c.flush.ensures.log
    (λ done log. subst (λ (l : LogValue). IsCommitted (g.M.Media.state c.flush.new.media).contents.flash l c.args.map.now.entries) (sym (log ∙ flushed_some c.args.log.now some))
    (flush_committed c.args.log.now c.args.map.now.entries (g.M.Media.state c.args.media.now).contents (g.M.Media.state c.flush.new.media).contents.flash c.requires.can.current c.requires.open
    (g.met.M.Media.blank_ahead c.args.media.now) (omega (arith, c.room.ensures.room, c.if-room-gt0.true)) c.requires.can.whole (done some)))

pub returns-then-room-gt0-clause-flash : goal.returns-then-room-gt0-clause-flash
returns-then-room-gt0-clause-flash g c = record {
  stands = flush_loads c.args.log.now c.args.map.now.entries (g.M.Media.state c.args.media.now).contents
      (g.M.Media.state c.flush.new.media).contents.flash c.requires.can.current c.requires.open (g.met.M.Media.blank_ahead c.args.media.now) (omega (arith, c.room.ensures.room, c.if-room-gt0.true))
      c.requires.can.whole c.flush.ensures.pages;
  pool = flush_pool c.args.log.now c.args.map.now.entries (g.M.Media.state c.args.media.now).contents
      (g.M.Media.state c.flush.new.media).contents.flash c.requires.can.current c.requires.open (g.met.M.Media.blank_ahead c.args.media.now) (omega (arith, c.room.ensures.room, c.if-room-gt0.true))
      c.flush.ensures.pages;
  pool_ready = on_ok_weaker {Q = PoolReadyStays c.args.log.now.geometry (g.M.Media.state c.args.media.now).contents.flash (g.M.Media.state c.flush.new.media).contents.flash} c.flush.result
      (λ done. flush_ready c.args.log.now c.args.map.now.entries (g.M.Media.state c.args.media.now).contents (g.M.Media.state c.flush.new.media).contents.flash c.requires.can.current c.requires.open
      (g.met.M.Media.blank_ahead c.args.media.now) (omega (arith, c.room.ensures.room, c.if-room-gt0.true)) (done (λ e. c.if-buffered-eq0.false (c.buffered.ensures.buffered ∙ ap length e))))
      c.flush.ensures.done;
}
