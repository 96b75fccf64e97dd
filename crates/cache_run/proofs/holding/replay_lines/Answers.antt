use Rattle.std.proofs.Common.{inl, inr, refl}
use Rattle.ft_base.specs.declared.told.Mode.TheVariants.{Back, Through}
use Rattle.trace_replay.specs.Said.{Tells, TellsPart}
use Rattle.cache_run.proofs.CountLemmas.{ends_on}
use Rattle.cache_run.proofs.BeginLemmas.{empty_new, fresh_new, ends_made, goes_begun, goes_later, unbegun, untraced_begun, untraced_later}
use Rattle.cache_run.proofs.holding.replay_lines.Goals as goal

-- ---- a volume that writes back

pub replay_held-requires-clause-fresh : goal.replay_held-requires-clause-fresh
replay_held-requires-clause-fresh g c = fresh_new Back c.args.setup.now.options _ c.in-Ok.ensures.new (empty_new c.in-Ok.ensures.new)

pub returns-in-Ok-clause-ends : goal.returns-in-Ok-clause-ends
returns-in-Ok-clause-ends g c = inr (
    ends_made c.args.setup.now.mode Back c.args.setup.now.options c.in-Back.is c.in-Ok.ensures.new _ c.replay_held.ensures.owner.1 _ _ refl
    (Tells (g.O.Sink.state c.args.sink.now) (g.O.Sink.state c.replay_held.new.sink)) (TellsPart (g.O.Sink.state c.args.sink.now) (g.O.Sink.state c.replay_held.new.sink)) (g.R.Media.state c.replay_held.new.rig) c.replay_held.result c.replay_held.ensures.ends)

pub returns-in-Ok-clause-causes : goal.returns-in-Ok-clause-causes
returns-in-Ok-clause-causes g c = untraced_later c.in-Ok.ensures.begins c.replay_held.ensures.causes

pub returns-in-Ok-clause-goes : goal.returns-in-Ok-clause-goes
returns-in-Ok-clause-goes g c = goes_later c.in-Ok.ensures.begins c.replay_held.ensures.goes

pub returns-in-Err-clause-ends : goal.returns-in-Err-clause-ends
returns-in-Err-clause-ends g c = inl (unbegun c.in-Err.ended _ _ _ _ c.in-Err.ensures.begins)

pub returns-in-Err-clause-causes : goal.returns-in-Err-clause-causes
returns-in-Err-clause-causes g c = untraced_begun c.in-Err.ended _ _ _ c.in-Err.ensures.begins

pub returns-in-Err-clause-goes : goal.returns-in-Err-clause-goes
returns-in-Err-clause-goes g c = goes_begun _ c.in-Err.ensures.begins

-- ---- a volume that writes through

pub replay_held-requires-in-Ok-begin_through-clause-fresh : goal.replay_held-requires-in-Ok-begin_through-clause-fresh
replay_held-requires-in-Ok-begin_through-clause-fresh g c = fresh_new Through c.args.setup.now.options _ c.in-Ok-begin_through.ensures.new (empty_new c.in-Ok-begin_through.ensures.new)

pub returns-in-Ok-begin_through-clause-ends : goal.returns-in-Ok-begin_through-clause-ends
returns-in-Ok-begin_through-clause-ends g c = inr (
    ends_made c.args.setup.now.mode Through c.args.setup.now.options c.in-Through.is c.in-Ok-begin_through.ensures.new _ c.replay_held-in-Ok-begin_through.ensures.owner.1 _ _ refl
    (Tells (g.O.Sink.state c.args.sink.now) (g.O.Sink.state c.replay_held-in-Ok-begin_through.new.sink)) (TellsPart (g.O.Sink.state c.args.sink.now) (g.O.Sink.state c.replay_held-in-Ok-begin_through.new.sink)) (g.R.Media.state c.replay_held-in-Ok-begin_through.new.rig) c.replay_held-in-Ok-begin_through.result c.replay_held-in-Ok-begin_through.ensures.ends)

pub returns-in-Ok-begin_through-clause-causes : goal.returns-in-Ok-begin_through-clause-causes
returns-in-Ok-begin_through-clause-causes g c = untraced_later c.in-Ok-begin_through.ensures.begins c.replay_held-in-Ok-begin_through.ensures.causes

pub returns-in-Ok-begin_through-clause-goes : goal.returns-in-Ok-begin_through-clause-goes
returns-in-Ok-begin_through-clause-goes g c = goes_later c.in-Ok-begin_through.ensures.begins c.replay_held-in-Ok-begin_through.ensures.goes

pub returns-in-Err-begin_through-clause-ends : goal.returns-in-Err-begin_through-clause-ends
returns-in-Err-begin_through-clause-ends g c = inl (unbegun c.in-Err-begin_through.ended _ _ _ _ c.in-Err-begin_through.ensures.begins)

pub returns-in-Err-begin_through-clause-causes : goal.returns-in-Err-begin_through-clause-causes
returns-in-Err-begin_through-clause-causes g c = untraced_begun c.in-Err-begin_through.ended _ _ _ c.in-Err-begin_through.ensures.begins

pub returns-in-Err-begin_through-clause-goes : goal.returns-in-Err-begin_through-clause-goes
returns-in-Err-begin_through-clause-goes g c = goes_begun _ c.in-Err-begin_through.ensures.begins

pub returns-in-Ok-clause-on : goal.returns-in-Ok-clause-on
returns-in-Ok-clause-on g c = λ _. ends_on _ _ _ _ _ _ _ c.replay_held.result c.replay_held.ensures.ends

pub returns-in-Ok-begin_through-clause-on : goal.returns-in-Ok-begin_through-clause-on
returns-in-Ok-begin_through-clause-on g c = λ _. ends_on _ _ _ _ _ _ _ c.replay_held-in-Ok-begin_through.result c.replay_held-in-Ok-begin_through.ensures.ends
