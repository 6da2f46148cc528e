-- What the worker of a node does, one call of its workplace after the other. Workers are this service's own.
use Rattle.std.specs.Prelude.{◌≡◌, ℕ, zero, suc, Bool, Option, Result, List, [], ◌∷◌, ◌++◌}
use Rattle.ballots.specs.declared.message.Message.{Message}
use Rattle.node_worker.specs.declared.workplace.WorkInput.{WorkInput as Inputs}
use Rattle.node_worker.specs.declared.workplace.Sent.{Sent}
use Rattle.node_worker.specs.declared.workplace.WorkplaceFault.{WorkplaceFault}
use Rattle.node_worker.specs.declared.workplace.End.{End}
use Rattle.node_worker.specs.declared.workplace.PutId.{PutId}

-- Each says with what it was called and what it gave: it read the message of a number; handed the node an input; told the
-- worker of a node of a message; counted the places where puts may wait; found what waits at a place; asked what has become of
-- a put, and entered that; answered a put; looked whether any waits. What is told of a put that was entered is a T.
pub data Deed (T : Type 0) : Type 0 where
  Read : (number : ℕ) → Option Message → Deed T
  Handed : Inputs → Result Sent WorkplaceFault → Deed T
  Told : (node number : ℕ) → Deed T
  Counted : ℕ → Deed T
  Found : (place : ℕ) → Option PutId → Deed T
  Entered : PutId → Result (Option T) WorkplaceFault → Deed T
  Answered : PutId → Result T End → Deed T
  Looked : Bool → Deed T

-- these were done, in their order, and led from one state to the other
abbrev pub Did : {S D : Type 0} → (S → D → S → Type 0) → S → List D → S → Type 0
Did does old [] new = old ≡ new
Did {S} does old (deed ∷ deeds) new = (between : S) × does old deed between × Did does between deeds new

-- for each of the first so many numbers, in their order, these were done
abbrev pub ForEach : {D : Type 0} → (ℕ → List D → Type 0) → ℕ → List D → Type 0
ForEach part zero deeds = deeds ≡ []
ForEach {D} part (suc n) deeds = (before : List D) × (own : List D) × (deeds ≡ before ++ own) × ForEach part n before × part n own
