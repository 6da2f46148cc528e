-- Acceptances that a node kept, and told nobody before it went down: Lamport, "Paxos Made Simple", section 2.5, where
-- an acceptor records what it answers before it answers.
use Rattle.std.specs.Prelude.{◌≡◌, ℕ, ◌<◌, Bool, true, Some, List, slice_get}
use Rattle.ballots.specs.Message.{message}
use Rattle.ballots.specs.declared.acceptance.Acceptance.{Acceptance}
use Rattle.ballots.specs.declared.message.Message.{Message}
use Rattle.ballots.specs.declared.message.Body.TheVariants.{Accept}
use Rattle.histories.specs.Event.{DeliverCut, Restart}
use Rattle.histories.specs.EventResult.{Done}
use Rattle.histories.specs.History.{Step}
use Rattle.safe_histories.specs.Safe.{IsStep}

-- The node went down while it was handed an Accept of this, and its next start found the record of it.
pub record WasFound (node : ℕ) (sent : List Message) (steps : List Step) (recovered : List Bool) (slot : ℕ)
    (told : Acceptance) : Type 0 where
  pub cut : ℕ
  pub number : ℕ
  pub sender : ℕ
  pub at_cut : IsStep steps cut (DeliverCut node number) Done
  pub handed : slice_get sent number ≡ Some (message sender slot (Accept told))
  -- it was started again, for the first time since
  pub start : ℕ
  pub later : cut < start
  pub at_start : IsStep steps start (Restart node) Done
  pub first : (place : ℕ) → cut < place → place < start → IsStep steps place (Restart node) Done → ⊥
  pub found : slice_get recovered start ≡ Some true
