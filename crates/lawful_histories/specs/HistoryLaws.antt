-- What holds of lawful histories, by what their messages say: Lamport, "Paxos Made Simple", section 2.
use Rattle.std.specs.Prelude.{◌≡◌, ◌≢◌, ℕ, ◌<◌, ◌≤◌, ◌↔◌, List, [], length, take, Some}
use Rattle.ballots.specs.Ballot.{Ballot, IsBelow}
use Rattle.ballots.specs.declared.value.Value.{Value}
use Rattle.ballots.specs.declared.message.Message.{Message}
use Rattle.ballots.specs.Acceptance.{acceptance}
use Rattle.lawful_histories.specs.Saying.{Report, Saying, Silent, Promise, Accepted, Decided, says, sayings}
use Rattle.lawful_histories.specs.Lawful.{Said, IsLawful, IsChosen}
use Rattle.lawful_histories.specs.Messages.{IsSaidBy, Says, KeepsTheRules}

-- What a message says of a slot is what its form says, with its own ballot, report and value, and nothing else.
abbrev pub SayingsAreMessages : Type 0
SayingsAreMessages = (m : Message) (s : ℕ) (x : Saying) → (IsSaidBy m s x ↔ ((says m s ≡ x) × (x ≢ Silent)))

-- What is said of a slot in a place, the message says that stands there.
abbrev pub SayingsAreSent : Type 0
SayingsAreSent = (sent : List Message) (k s : ℕ) (x : Saying) → (Says sent k s x ↔ (Said (sayings sent s) k x × (x ≢ Silent)))

-- A history is lawful exactly where its messages keep the rules.
abbrev pub LawfulByMessages : Type 0
LawfulByMessages = (n : ℕ) (sent : List Message) → (IsLawful n sent ↔ KeepsTheRules n sent)

-- Any two Decided of a slot have one value (section 2.3).
abbrev pub DecidedIsOne : Type 0
DecidedIsOne = (n : ℕ) (sent : List Message) (j k s : ℕ) (v w : Value) → IsLawful n sent
    → Says sent j s (Decided v) → Says sent k s (Decided w) → v ≡ w

-- And what a Decided tells is chosen.
abbrev pub DecidedIsChosen : Type 0
DecidedIsChosen = (n : ℕ) (sent : List Message) (k s : ℕ) (v : Value) → IsLawful n sent
    → Says sent k s (Decided v) → IsChosen n sent s v

-- A later Promise of an acceptor is above what it accepted (section 2.2, P1a).
abbrev pub PromisesAboveItsVotes : Type 0
PromisesAboveItsVotes = (n : ℕ) (sent : List Message) (j k a s : ℕ) (b c : Ballot) (v : Value) (r : Report)
    → IsLawful n sent → j < k
    → Says sent j s (Accepted a b v) → Says sent k s (Promise a c r) → IsBelow b c

-- It reports a ballot no lower than that.
abbrev pub ReportsItsVotes : Type 0
ReportsItsVotes = (n : ℕ) (sent : List Message) (j k a s : ℕ) (b c : Ballot) (v : Value) (r : Report)
    → IsLawful n sent → j < k
    → Says sent j s (Accepted a b v) → Says sent k s (Promise a c r)
    → (d : Ballot) × (w : Value) × (r ≡ Some (acceptance d w)) × (IsBelow d b → ⊥)

-- What it reports at that same ballot is the value that it accepted there.
abbrev pub ReportsItsValue : Type 0
ReportsItsValue = (n : ℕ) (sent : List Message) (j k a s : ℕ) (b c : Ballot) (v w : Value) → IsLawful n sent
    → Says sent j s (Accepted a b v) → Says sent k s (Promise a c (Some (acceptance b w))) → w ≡ v

-- An acceptor promises each ballot once, and each later Promise is above the earlier ones.
abbrev pub PromisesRise : Type 0
PromisesRise = (n : ℕ) (sent : List Message) (j k a s : ℕ) (b c : Ballot) (q r : Report) → IsLawful n sent → j < k
    → Says sent j s (Promise a b q) → Says sent k s (Promise a c r) → IsBelow b c

-- A history without a message is lawful.
abbrev pub NothingIsLawful : Type 0
NothingIsLawful = (n : ℕ) → IsLawful n []

-- Each beginning of a lawful history is lawful.
abbrev pub BeginningsAreLawful : Type 0
BeginningsAreLawful = (n : ℕ) (sent : List Message) (k : ℕ) → k ≤ length sent
    → IsLawful n sent → IsLawful n (take k sent)
