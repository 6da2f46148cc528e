-- A node that starts with its records and nothing else.
use Rattle.std.proofs.Common.{◌≡◌, ℕ, List, [], ◌∷◌, ◌++◌, refl}
use Rattle.ballots.specs.declared.record.Record.{Record}
use Rattle.learner.specs.Calls.{LearnerCall}
use Rattle.agreement_rules.specs.Views.{started_with, HasPrefix}
use Rattle.table_versions.specs.State.{TablesState, HasTaken}
use Rattle.pending_uploads.specs.Waiting.{Waiting}
use Rattle.agreement.specs.State.{AgreementState, Has}
use Rattle.node_core.specs.State.{NodeHas}
use Rattle.node_core.proofs.Leading.{node_of}

no_call : (before : List LearnerCall) (call : LearnerCall) (after : List LearnerCall) → [] ≡ before ++ call ∷ after → ⊥
no_call [] call after parts = cc
no_call (first ∷ before) call after parts = cc

nothing_told : (members : ℕ) → HasPrefix members [] []
nothing_told members = record {
  learned = λ slot value is. absurd (cc);
  gap = λ value is. no_call is.before is.call is.after is.parts;
}

pub starts : (agreement : AgreementState) (tables : TablesState) (waiting : Waiting) (records : List Record)
    → Has agreement (started_with records) → HasTaken tables [] → waiting.texts ≡ []
    → NodeHas (node_of agreement tables waiting) (started_with records)
starts agreement tables waiting records has taken none = record {
  agrees = has;
  values = [];
  prefix = nothing_told agreement.config.members;
  taken = taken;
  waits = none;
  unknown = refl;
}
