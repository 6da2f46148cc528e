use Rattle.std.proofs.Common.{◌≡◌, ◌↔◌, drop}
use Rattle.journal.specs.parts.histories.specs.Owning.{own}
use Rattle.journal.specs.parts.traces.specs.Told.{steps_of}
use Rattle.seats.proofs.agreeing.are_own.Given as goal

-- what is left of the steps has what is left of the entries exactly where all of them have all
abbrev pub invariant-loop-step : goal.invariant-loop-step
invariant-loop-step l =
    (own l.fn.me l.fn.sent (steps_of (drop l.step-index l.steps)) l.flags ≡ l.left)
    ↔ (own l.fn.me l.fn.sent (steps_of l.steps) l.fn.recovered ≡ l.fn.own)
