use Rattle.std.proofs.Common.{sym, subst}
use Rattle.table_versions.specs.Outcomes.{told}
use Rattle.table_versions.specs.declared.outcome.Outcome.{Outcome}
use Rattle.flight_calls.specs.Responding.{TellsOutcome}
use Rattle.flight_calls.proofs.Replying.{applied_told}
use Rattle.flight_calls.proofs.responding.tell.Goals as goal

pub returns-in-Applied : goal.returns-in-Applied
returns-in-Applied c =
    let u = c.applied_frame.ensures.upload in
    subst (λ (outcome : Outcome). TellsOutcome c.args.upload.now (told outcome) c.applied_frame.result) (sym c.in-Applied.is)
    (applied_told c.args.upload.now c.in-Applied.version u.0 c.applied_frame.result u.1.0 u.1.1 (c.applied_frame.ensures.frame u.0 u.1.0 u.1.1))
