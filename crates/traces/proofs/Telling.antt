-- A step of a trace in its history.
use Rattle.std.proofs.Common.{◌≡◌, ℕ, List, Option, Some, slice_get, ap, ◌∙◌}
use Rattle.std.proofs.lemmas.Option.{slice_get-map}
use Rattle.std.specs.Option.{option_map}
use Rattle.traces.specs.declared.step.Step.{Step}
use Rattle.traces.specs.Told.{step_of, steps_of}

pub told_step : (steps : List Step) (place : ℕ) (step : Step) → slice_get steps place ≡ Some step → slice_get (steps_of steps) place ≡ Some (step_of step)
told_step steps place step is = slice_get-map step_of steps place ∙ ap (λ (o : Option Step). option_map step_of o) is
