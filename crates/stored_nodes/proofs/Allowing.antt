-- Where something is planned, no refusal is due.
use Rattle.std.proofs.Common.{◌≡◌, ℕ}
use Rattle.ballots.specs.declared.message.Message.{Message}
use Rattle.agreement_rules.specs.Views.{AgreementConfig, Views}
use Rattle.agreement_rules.specs.Due.{Refusal, Due, Refuses, Plan, Plans, IsMessageOf}
use Rattle.histories.specs.Due.{Input, Put, Tick, Deliver, IsDue}
use Rattle.histories.specs.Following.{IsAllowed}
use Rattle.node_core.specs.Plans.{IsTaken}

-- what is due is one thing
abbrev pub DueIsOne : Type 0
DueIsOne = (config : AgreementConfig) (me : ℕ) (views : Views) (input : Input) (a b : Due) → IsDue config me views input a → IsDue config me views input b → a ≡ b

planned_or_refused : (plan : Plan) (refusal : Refusal) → Plans plan ≡ Refuses refusal → ⊥
planned_or_refused plan refusal same = cc

planned : DueIsOne → (config : AgreementConfig) (me : ℕ) (views : Views) (input : Input) (plan : Plan) → IsDue config me views input (Plans plan) → IsAllowed config me views input
planned one config me views input plan due =
    λ refusal refused. planned_or_refused plan refusal (one config me views input (Plans plan) (Refuses refusal) due refused)

pub allowed : DueIsOne → (config : AgreementConfig) (me : ℕ) (views : Views) (input : Input) → IsTaken config me views input → IsAllowed config me views input
allowed one config me views (Put text) taken = planned one config me views (Put text) taken.0 taken.1
allowed one config me views (Tick left) taken = planned one config me views (Tick left) taken.0 taken.1
allowed one config me views (Deliver m) taken = λ refusal due. due.1 taken

-- the law of this, as it is cited
abbrev pub Allows : Type 0
Allows = (config : AgreementConfig) (me : ℕ) (views : Views) (input : Input) → IsTaken config me views input → IsAllowed config me views input

pub message_allowed : (config : AgreementConfig) (me : ℕ) (views : Views) (m : Message) → IsMessageOf config m → IsAllowed config me views (Deliver m)
message_allowed config me views m of = λ refusal due. due.1 of
