use Rattle.std.proofs.Common.{inl, inr, refl}
use Rattle.ft_base.specs.declared.told.Mode.TheVariants.{Back, Through}
use Rattle.cache_run.proofs.EndLemmas.{end_inspected}
use Rattle.cache_run.proofs.BeginLemmas.{cause_begun, cause_later, empty_new, fresh_new, lent_later, unbegun}
use Rattle.cache_run.proofs.InspectLemmas.{inspected_new}
use Rattle.cache_run.proofs.inspecting.inspect_with.Goals as goal

-- ---- a volume that writes back

pub inspect-requires-clause-fresh : goal.inspect-requires-clause-fresh
inspect-requires-clause-fresh g c = fresh_new Back c.args.setup.now.options _ c.in-Ok.ensures.new (empty_new c.in-Ok.ensures.new)

pub returns-in-Ok-clause-ends : goal.returns-in-Ok-clause-ends
returns-in-Ok-clause-ends g c = inr (
    inspected_new c.args.setup.now.mode Back c.args.setup.now.options c.in-Back.is c.in-Ok.ensures.new _ c.inspect.ensures.told
    (g.I.Source.state c.args.source.now) (g.I.Source.state c.inspect.new.source) (g.O.Sink.state c.args.sink.now) (g.O.Sink.state c.inspect.new.sink) (g.R.Media.state c.inspect.new.rig) c.inspect.result c.inspect.ensures.ends)

pub returns-in-Ok-clause-causes : goal.returns-in-Ok-clause-causes
returns-in-Ok-clause-causes g c = cause_later c.in-Ok.ensures.begins c.inspect.ensures.causes

pub returns-in-Ok-clause-lent : goal.returns-in-Ok-clause-lent
returns-in-Ok-clause-lent g c = lent_later c.in-Ok.ensures.begins c.inspect.ensures.lent

pub returns-in-Err-clause-ends : goal.returns-in-Err-clause-ends
returns-in-Err-clause-ends g c = inl (unbegun c.in-Err.ended _ _ _ _ c.in-Err.ensures.begins)

pub returns-in-Err-clause-causes : goal.returns-in-Err-clause-causes
returns-in-Err-clause-causes g c = cause_begun c.in-Err.ended _ _ _ _ c.in-Err.ensures.begins

-- ---- a volume that writes through

pub inspect-requires-in-Ok-begin_through-clause-fresh : goal.inspect-requires-in-Ok-begin_through-clause-fresh
inspect-requires-in-Ok-begin_through-clause-fresh g c = fresh_new Through c.args.setup.now.options _ c.in-Ok-begin_through.ensures.new (empty_new c.in-Ok-begin_through.ensures.new)

pub returns-in-Ok-begin_through-clause-ends : goal.returns-in-Ok-begin_through-clause-ends
returns-in-Ok-begin_through-clause-ends g c = inr (
    inspected_new c.args.setup.now.mode Through c.args.setup.now.options c.in-Through.is c.in-Ok-begin_through.ensures.new _ c.inspect-in-Ok-begin_through.ensures.told
    (g.I.Source.state c.args.source.now) (g.I.Source.state c.inspect-in-Ok-begin_through.new.source) (g.O.Sink.state c.args.sink.now) (g.O.Sink.state c.inspect-in-Ok-begin_through.new.sink) (g.R.Media.state c.inspect-in-Ok-begin_through.new.rig) c.inspect-in-Ok-begin_through.result c.inspect-in-Ok-begin_through.ensures.ends)

pub returns-in-Ok-begin_through-clause-causes : goal.returns-in-Ok-begin_through-clause-causes
returns-in-Ok-begin_through-clause-causes g c = cause_later c.in-Ok-begin_through.ensures.begins c.inspect-in-Ok-begin_through.ensures.causes

pub returns-in-Ok-begin_through-clause-lent : goal.returns-in-Ok-begin_through-clause-lent
returns-in-Ok-begin_through-clause-lent g c = lent_later c.in-Ok-begin_through.ensures.begins c.inspect-in-Ok-begin_through.ensures.lent

pub returns-in-Err-begin_through-clause-ends : goal.returns-in-Err-begin_through-clause-ends
returns-in-Err-begin_through-clause-ends g c = inl (unbegun c.in-Err-begin_through.ended _ _ _ _ c.in-Err-begin_through.ensures.begins)

pub returns-in-Err-begin_through-clause-causes : goal.returns-in-Err-begin_through-clause-causes
returns-in-Err-begin_through-clause-causes g c = cause_begun c.in-Err-begin_through.ended _ _ _ _ c.in-Err-begin_through.ensures.begins

pub returns-in-Ok-clause-end : goal.returns-in-Ok-clause-end
returns-in-Ok-clause-end g c = end_inspected _ _ (λ n all reads. (reads.end refl).0) _ _ _ _ _ _ c.inspect.result c.inspect.ensures.ends

pub returns-in-Ok-begin_through-clause-end : goal.returns-in-Ok-begin_through-clause-end
returns-in-Ok-begin_through-clause-end g c = end_inspected _ _ (λ n all reads. (reads.end refl).0) _ _ _ _ _ _ c.inspect-in-Ok-begin_through.result c.inspect-in-Ok-begin_through.ensures.ends
