use Rattle.std.proofs.Common.{sym, subst, ◌≡◌, ◌∙◌, IfOk, Result, List, ℕ}
use Rattle.table_types.specs.Answers.{answer_of}
use Rattle.table_types.specs.Tables.{Version, version_of}
use Rattle.table_types.specs.Ticket.{TableVersion}
use Rattle.call_reading.specs.Requests.{serves}
use Rattle.call_protocol.specs.declared.back_fault.BackFault.{BackFault}
use Rattle.flight_calls.specs.Replies.{served}
use Rattle.table_backend.specs.Backing.{BackendState, MayAnswer}
use Rattle.table_backend.proofs.Tables.{answered_version}
use Rattle.table_backend.proofs.backend.TableBackendBackend.get.Goals as goal
use Rattle.table_backend.proofs.backend.TableBackendBackend.get.Goals.{in-Some, in-None}

-- it is the answer of a version that is one
abbrev IsServed : BackendState → TableVersion → Result (List ℕ) BackFault → Type 0
IsServed state asked result = IfOk result (λ answer. (x : Version) × MayAnswer state (serves asked) (served x) × (answer ≡ answer_of x))

pub returns-clause-served : goal.returns-clause-served
returns-clause-served c =
    let values = c.self.invariant.0 in
    let taken = c.self.invariant.1 in
    let asked = c.args.ticket.now in
    elim c.match-branch-2.branch as (λ _. IsServed c.args.self.now asked c.match-branch-2.result) [
      | in-Some w ↦
          let found = answered_version (version_of asked.table asked.version taken.uploads) w.in-Some.answer
          (sym w.in-Some.is ∙ c.in_ok-answer.ensures.answer values taken.uploads taken taken.are) in
          subst (IsServed c.args.self.now asked) (sym w.result-is) (
            found.0,
            subst (λ b. MayAnswer b (serves asked) (served found.0)) c.self.view_is (values, taken.uploads, taken, taken.are, found.1),
            found.2,
          )
      | in-None w ↦ subst (IsServed c.args.self.now asked) (sym w.result-is) tt
    ]
