-- Nodes that all start again, each with its records, and are handed again what tells them which values were accepted or
-- decided: Lamport, "Paxos Made Simple", sections 2.3 and 2.5. A message that was sent may be delivered any number of
-- times, so a node that has lost what it learned learns it so again.
use Rattle.std.specs.Prelude.{◌≡◌, ℕ, ◌<◌, ◌≤◌, Bool, List, [], ◌∷◌}
use Rattle.std.specs.List.{Contains}
use Rattle.ballots.specs.Message.{message}
use Rattle.ballots.specs.declared.acceptance.Acceptance.{Acceptance}
use Rattle.ballots.specs.declared.record.Record.TheVariants.{Accepted as HasAccepted}
use Rattle.ballots.specs.declared.message.Message.{Message}
use Rattle.ballots.specs.declared.message.Body.{Body}
use Rattle.ballots.specs.declared.message.Body.TheVariants.{Prepare, Promise, Nack, Accept, Accepted, Ask, Decided}
use Rattle.agreement_rules.specs.Views.{AgreementConfig, Views, started_with}
use Rattle.agreement_rules.specs.Due.{Plan, Plans}
use Rattle.histories.specs.Due.{MessageIsDue}
use Rattle.histories.specs.Event.{Event}
use Rattle.histories.specs.Event as event
use Rattle.histories.specs.Following.{UpOrDown, IsUp, recovered_in}

-- it tells its receiver which value was accepted or decided, and asks nothing of it
abbrev pub TellsOfAValue : Body → Type 0
TellsOfAValue (Prepare ballot) = ⊥
TellsOfAValue (Promise ballot report) = ⊥
TellsOfAValue (Nack ballot promised) = ⊥
TellsOfAValue (Accept proposal) = ⊥
TellsOfAValue (Accepted acceptance) = Unit {0}
TellsOfAValue (Decided value) = Unit {0}
TellsOfAValue Ask = ⊥

-- the node is handed these messages, one after the other, by its rules, and has this then
abbrev pub Hears : AgreementConfig → ℕ → Views → List Message → Views → Type 0
Hears config node views [] after = after ≡ views
Hears config node views (m ∷ told) after =
    (plan : Plan) × TellsOfAValue m.body × MessageIsDue config node views m (Plans plan)
    × Hears config node plan.after told after

-- Each member starts again with the records that it was left, and hears these messages. For each `recovered` says
-- whether the record is among them that was due where it went down. Who is no member stays as it was.
pub record StartsOver (config : AgreementConfig) (left : ℕ → UpOrDown) (recovered : ℕ → Bool) (told : List Message)
    (start : ℕ → UpOrDown) : Type 0 where
  pub members : (node : ℕ) → node < config.members
      → (views : Views) × (start node ≡ IsUp views)
      × Hears config node (started_with (recovered_in (recovered node) (left node))) told views
  pub others : (node : ℕ) → config.members ≤ node → start node ≡ left node

-- the step starts a node again, or hands it a message
abbrev pub StartsOrHands : Event → Type 0
StartsOrHands (event.Put node text) = ⊥
StartsOrHands (event.Tick node left) = ⊥
StartsOrHands (event.Deliver node number) = Unit {0}
StartsOrHands (event.TickCut node left) = ⊥
StartsOrHands (event.DeliverCut node number) = ⊥
StartsOrHands (event.Restart node) = Unit {0}
StartsOrHands (event.Get node table version) = ⊥
StartsOrHands (event.Info node table) = ⊥
StartsOrHands (event.Outcome node text) = ⊥

-- The message tells of an acceptance that is among the records with which its sender starts again.
pub record IsRecorded (config : AgreementConfig) (left : ℕ → UpOrDown) (recovered : ℕ → Bool) (m : Message) : Type 0 where
  pub member : m.sender < config.members
  pub accepted : Acceptance
  pub tells : m ≡ message m.sender m.slot (Accepted accepted)
  pub has : Contains (recovered_in (recovered m.sender) (left m.sender)) (HasAccepted m.slot accepted)
