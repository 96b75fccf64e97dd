-- The parity pages at the end of a run in which power was not cut.
use Rattle.std.proofs.Common.{◌≡◌, ◌≢◌, ◌<◌, ◌+◌, ℕ, Bool, true, false, List, length, Option, Some, None, ap, ◌∙◌, arith, cond}
use Rattle.std.specs.Prelude.{nat_lt, Ok}
use Rattle.std.proofs.lemmas.Bool.Decides.{nat_tests}
use Rattle.ft_base.specs.Contents.{Image}
use Rattle.ft_base.specs.Layout.{blocks}
use Rattle.ft_base.specs.PlainDisk.{PlainDisk}
use Rattle.ft_base.specs.StreamState.{SinkState, SourceState}
use Rattle.ft_base.specs.Told.{Told}
use Rattle.ft_base.specs.declared.geometry.Geometry.{Geometry}
use Rattle.ft_base.specs.declared.told.Ack.{Ack}
use Rattle.ft_media.specs.Fitted.{KeepsReady}
use Rattle.ft_media.specs.State.{State}
use Rattle.ft_volume.specs.Volume.{told_for}
use Rattle.flashtier_words.specs.declared.command.Command.{Command}
use Rattle.flashtier_words.specs.declared.command.Command.TheVariants.{Replay, Cost, Gen, Inspect, Sweep}
use Rattle.trace_model.specs.Backs.{AreUncut}
use Rattle.trace_model.specs.Fits.{FitsEnd, FitsRun, armed_after}
use Rattle.trace_model.specs.Readings.{Reading}
use Rattle.trace_model.specs.Run.{cuts_in}
use Rattle.trace_model.specs.declared.answer.Answer.{Answer}
use Rattle.trace_model.specs.declared.ran.Ran.{Ran}
use Rattle.trace_replay.specs.Asked.{RunsLines}
use Rattle.trace_replay.specs.Theorem.{RunsWhole}
use Rattle.cache_run.specs.Counted.{IsMadeOn}
use Rattle.cache_run.specs.Fitted.{fitted_for}
use Rattle.cache_run.proofs.UncutLemmas.{uncut_lines}
use Rattle.flashtier_run.specs.Ends.{EndsCommand, IsOverOne, ran_by}
use Rattle.flashtier_run.specs.Over.{AllHaveParity, AreOverParity}

-- a block of a rig that was just fitted is ready
first_ready : (g : Geometry) (first : State) (b : ℕ) → b < blocks g → (fitted_for g first).contents.flash.next b ≢ None
first_ready g first b inside none =
    let test : nat_lt b (blocks g) ≡ true = grind (arith, nat_tests, inside) in
    some (nat_lt b (blocks g)) test none
  where
    some : (t : Bool) → t ≡ true → cond {A = Option ℕ} t (Some 0) None ≡ None → ⊥
    some true is none = cc
    some false is none = cc

-- and it stayed ready, so its parity page is right
parity_ready : (g : Geometry) (first now beneath : State) → now.contents.shape.blocks ≡ blocks g → KeepsReady (fitted_for g first) now → AreOverParity beneath now → AllHaveParity beneath.contents now.contents
parity_ready g first now beneath many keeps over = λ b last inside pages written. over.parity b last pages (keeps b (first_ready g first b (rw many at inside))) written

-- without a stop and a cut line power is not cut
none_cut : (ack : Ack) (run : List Ran) (cuts lost : ℕ) → FitsRun ack run → AreUncut run → FitsEnd ack run cuts lost → cuts_in run + cuts ≡ 0
none_cut ack run cuts lost fits uncut end =
    let none = uncut_lines ack run fits uncut in
    let lines = none.1 in
    let long : length (armed_after run) ≡ 0 = ap length none.0 in
    let few = end.few in
    omega (arith, lines, long, few)

module _ (o : Told) (reads : ℕ → List Reading → Bool → Type 0) (says : List Ran → List Answer → Type 0) (stands : Image → PlainDisk → Type 0) where
  pub parity_whole : (first now beneath : State) (end : RunsWhole o reads says stands (fitted_for o.geometry first) now) → AreUncut end.run → AreOverParity beneath now → AllHaveParity beneath.contents now.contents
  parity_whole first now beneath end uncut over =
      parity_ready o.geometry first now beneath (ap (λ s. s.blocks) end.leaves.rig.shape) (end.leaves.ready (none_cut o.ack end.run end.cuts end.lost end.lines.fits uncut end.leaves.fits)) over

  pub parity_costed : (first made now beneath : State) → IsMadeOn o first made → (end : RunsLines o reads says stands made now) → AreUncut end.run → AreOverParity beneath now → AllHaveParity beneath.contents now.contents
  parity_costed first made now beneath from end uncut over =
      let keeps = end.leaves.ready (uncut_lines o.ack end.run end.lines.fits uncut).1 in
      parity_ready o.geometry first now beneath (ap (λ s. s.blocks) (end.leaves.rig.shape ∙ from.before.shape)) (λ b was. keeps b (from.before.ready b was)) over

-- after each command over one volume
pub parity_ran : (a b : SourceState) (x y : SinkState) (first now beneath : State) (command : Command) (end : EndsCommand a b x y first now command (Ok (tt {0}))) → IsOverOne command
    → AreUncut (ran_by a b x y first now command end) → AreOverParity beneath now → AllHaveParity beneath.contents now.contents
parity_ran a b x y first now beneath (Replay mode options form disks) end one uncut over = parity_whole (told_for mode options) _ _ _ first now beneath end uncut over
parity_ran a b x y first now beneath (Cost mode options form) end one uncut over = parity_costed (told_for mode options) _ _ _ first end.made now beneath end.new end.ends uncut over
parity_ran a b x y first now beneath (Gen mode options number count) end one uncut over = parity_whole (told_for mode options) _ _ _ first now beneath end uncut over
parity_ran a b x y first now beneath (Inspect mode options) end one uncut over = parity_whole (told_for mode options) _ _ _ first now beneath end.whole uncut over
parity_ran a b x y first now beneath (Sweep mode options outcome) end one uncut over = absurd one
