use Rattle.std.proofs.Common.{inl, inr}
use Rattle.ft_volume.specs.Volume.{told_for}
use Rattle.trace_replay.specs.Forms.{reads_text}
use Rattle.trace_replay.proofs.FromLemmas.{before_itself, ends_from}
use Rattle.cache_run.proofs.replaying.replay_with.Goals as goal

pub returns-clause-ends : goal.returns-clause-ends
returns-clause-ends g c =
    elim c.replay_form_with.ensures.ends [
      | inl none ↦ inl none
      | inr ends ↦ inr (
          ends_from (told_for c.args.setup.now.mode c.args.setup.now.options) _ _ _ _ _ _ _ _ _
          (λ lines all whole known. reads_text _ _ _ lines all whole known)
          (λ run answers says. says)
          (λ y d stood. stood)
          (before_itself _)
          _ _ (λ run answers next part. part)
          c.replay_form_with.result ends)
    ]
