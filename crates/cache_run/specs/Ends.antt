-- How a run over a new volume ends.
use Rattle.std.specs.Prelude.{◌⊎◌, ℕ, Bool, List, Option, Result}
use Rattle.ft_base.specs.Told.{Told}
use Rattle.ft_media.specs.State.{State}
use Rattle.ft_volume.specs.Volume.{told_for}
use Rattle.cache_model.specs.Stands.{ImageStandsFor}
use Rattle.trace_model.specs.declared.answer.Answer.{Answer}
use Rattle.trace_model.specs.declared.ran.Ran.{Ran}
use Rattle.trace_model.specs.Readings.{Reading}
use Rattle.trace_replay.specs.Theorem.{EndsAs}
use Rattle.trace_replay.specs.declared.ended.Ended.{Ended}
use Rattle.cache_run.specs.declared.setup.Setup.{Setup}
use Rattle.cache_run.specs.Begun.{IsUnbegun}
use Rattle.cache_run.specs.Fitted.{fitted_for}

-- what a volume of this setup says of itself
abbrev pub told_by : Setup → Told
told_by s = told_for s.mode s.options

-- a run over a new volume of this setup ended with this result: before its volume was made, or as a run over it, on a rig
-- that was fitted for it
abbrev pub EndsNew : {I O : Type 0} → Setup → (ℕ → List Reading → Bool → Type 0) → (List Ran → List Answer → Type 0)
    → (List Ran → List Answer → Option Answer → Type 0) → I → I → O → O → State → State → Result (Unit {0}) Ended → Type 0
EndsNew s reads says part a b x y old now result = IsUnbegun result a b x y old now
    ⊎ EndsAs (told_by s) reads says part (ImageStandsFor s.options.geometry) (fitted_for s.options.geometry old) now result
