-- What a message tells the parts of a node: Lamport, "Paxos Made Simple", sections 2.2, 2.3 and 2.5. Promises and
-- refusals are its proposer's, and what was accepted or decided is its learner's.
use Rattle.std.specs.Prelude.{ℕ, List, [], ◌∷◌}
use Rattle.ballots.specs.declared.message.Body.{Body}
use Rattle.ballots.specs.declared.message.Body.TheVariants.{Prepare, Promise, Nack, Accept, Accepted, Ask, Decided}
use Rattle.proposer.specs.Call.{ProposerCall, Promises, Nacks}
use Rattle.learner.specs.Calls.{LearnerCall}
use Rattle.learner.specs.Calls as learner

abbrev pub proposer_calls_of : (sender slot : ℕ) → Body → List ProposerCall
proposer_calls_of sender slot (Prepare ballot) = []
proposer_calls_of sender slot (Promise ballot report) =
    Promises (record { sender = sender; slot = slot; ballot = ballot; report = report }) ∷ []
proposer_calls_of sender slot (Nack ballot promised) = Nacks slot ballot ∷ []
proposer_calls_of sender slot (Accept proposal) = []
proposer_calls_of sender slot (Accepted acceptance) = []
proposer_calls_of sender slot Ask = []
proposer_calls_of sender slot (Decided value) = []

abbrev pub learner_calls_of : (sender slot : ℕ) → Body → List LearnerCall
learner_calls_of sender slot (Prepare ballot) = []
learner_calls_of sender slot (Promise ballot report) = []
learner_calls_of sender slot (Nack ballot promised) = []
learner_calls_of sender slot (Accept proposal) = []
learner_calls_of sender slot (Accepted acceptance) =
    learner.Accepted sender slot acceptance.ballot acceptance.value ∷ []
learner_calls_of sender slot Ask = []
learner_calls_of sender slot (Decided value) = learner.Decided slot value ∷ []
