-- What a judge looks at who goes through a history message by message: what stands before a message must let it follow.
-- What is lawful is defined in `Lawful`.
use Rattle.std.specs.Prelude.{◌≡◌, ℕ, ◌<◌, ◌≤◌, ◌⊎◌, Bool, IsTrue, List, length, take, slice_index_or, Some, None, ◌↔◌, Option, IfSome, ◌==◌, if◌then◌else◌}
use Rattle.std.specs.List.{All, Any}
use Rattle.ballots.specs.Ballot.{Ballot, IsBelow}
use Rattle.ballots.specs.Majority.{NodeSet, contains}
use Rattle.ballots.specs.declared.value.Value.{Value}
use Rattle.ballots.specs.declared.message.Message.{Message}
use Rattle.lawful_histories.specs.Saying.{Report, Saying, Silent, Prepare, Promise, Accept, Accepted, Decided, says}
use Rattle.lawful_histories.specs.Majorities.{MajorityOf}
use Rattle.lawful_histories.specs.Saying.{IsUpTo}

-- one of these messages says this of the slot
abbrev pub AnySaid : ℕ → List Message → Saying → Type 0
AnySaid s before x = Any (λ m. says m s ≡ x) before

-- what each of these messages says of the slot is so
abbrev pub AllSaid : ℕ → List Message → (Saying → Type 0) → Type 0
AllSaid s before P = All (λ m. P (says m s)) before

-- the ballot to which it binds this acceptor: that of its Promise, or of its Accepted
abbrev pub bound_in : ℕ → Saying → Option Ballot
bound_in a Silent = None
bound_in a (Prepare c) = None
bound_in a (Promise d c r) = if d == a then Some c else None
bound_in a (Accept c v) = None
bound_in a (Accepted d c v) = if d == a then Some c else None
bound_in a (Decided v) = None

-- where it binds this acceptor to a ballot, that is at most this one
abbrev pub PromisedAtMost : ℕ → Ballot → Saying → Type 0
PromisedAtMost a b x = IfSome (bound_in a x) (λ c. IsBelow b c → ⊥)

-- and below this one
abbrev pub PromisedBelow : ℕ → Ballot → Saying → Type 0
PromisedBelow a b x = IfSome (bound_in a x) (λ c. IsBelow c b)

-- a report tells enough of an acceptance at this ballot: it is of that ballot or a higher one
abbrev pub ReportCovers : Report → Ballot → Type 0
ReportCovers None c = ⊥
ReportCovers (Some report) c = IsBelow report.ballot c → ⊥

-- where it is this acceptor's Accepted, the report covers it
abbrev pub IsReported : ℕ → Report → Saying → Type 0
IsReported a r Silent = Unit {0}
IsReported a r (Prepare c) = Unit {0}
IsReported a r (Promise d c q) = Unit {0}
IsReported a r (Accept c v) = Unit {0}
IsReported a r (Accepted d c v) = d ≡ a → ReportCovers r c
IsReported a r (Decided v) = Unit {0}

-- where it is an Accept at this ballot, it has this value
abbrev pub HasValueAt : Ballot → Value → Saying → Type 0
HasValueAt b v Silent = Unit {0}
HasValueAt b v (Prepare c) = Unit {0}
HasValueAt b v (Promise d c r) = Unit {0}
HasValueAt b v (Accept c w) = c ≡ b → w ≡ v
HasValueAt b v (Accepted d c w) = Unit {0}
HasValueAt b v (Decided w) = Unit {0}

-- the report goes up to the other, and is none where the other is none
abbrev pub IsWithin : Report → Report → Type 0
IsWithin None r = r ≡ None
IsWithin (Some highest) r = IsUpTo r highest.ballot

-- it reports this value
abbrev pub IsReportOf : Value → Report → Type 0
IsReportOf v None = ⊥
IsReportOf v (Some report) = report.value ≡ v

-- it is this acceptor's Promise of the ballot, with a report within the bound
abbrev pub PromisesWithin : ℕ → Ballot → Report → Saying → Type 0
PromisesWithin a b bound (Promise d c r) = (d ≡ a) × (c ≡ b) × IsWithin bound r
PromisesWithin a b bound other = ⊥

-- this acceptor promised the ballot, with a report within the bound
abbrev pub HasPromised : ℕ → List Message → Ballot → Report → ℕ → Type 0
HasPromised s before b bound a = Any (λ m. PromisesWithin a b bound (says m s)) before

abbrev pub MostPromise : ℕ → ℕ → List Message → Ballot → Report → Type 0
MostPromise n s before b bound = MajorityOf n (HasPromised s before b bound)

-- it is a member's Promise of the ballot that reports this value, and a majority promised with no higher report
abbrev pub LetsPropose : ℕ → ℕ → List Message → Ballot → Value → Saying → Type 0
LetsPropose n s before b v (Promise d c r) = (d < n) × (c ≡ b) × IsReportOf v r × MostPromise n s before b r
LetsPropose n s before b v other = ⊥

abbrev pub MayPropose : ℕ → ℕ → List Message → Ballot → Value → Type 0
MayPropose n s before b v = MostPromise n s before b None ⊎ Any (λ m. LetsPropose n s before b v (says m s)) before

-- this acceptor accepted the value at the ballot
abbrev pub HasAccepted : ℕ → List Message → Ballot → Value → ℕ → Type 0
HasAccepted s before b v a = AnySaid s before (Accepted a b v)

abbrev pub MostAccepted : ℕ → ℕ → List Message → Ballot → Value → Type 0
MostAccepted n s before b v = MajorityOf n (HasAccepted s before b v)

-- it is an Accepted of this value, at a ballot at which a majority accepted it
abbrev pub ShowsChosen : ℕ → ℕ → List Message → Value → Saying → Type 0
ShowsChosen n s before v (Accepted d c w) = (w ≡ v) × MostAccepted n s before c v
ShowsChosen n s before v other = ⊥

abbrev pub MayDecide : ℕ → ℕ → List Message → Value → Type 0
MayDecide n s before v = AnySaid s before (Decided v) ⊎ Any (λ m. ShowsChosen n s before v (says m s)) before

-- what a report has to be
abbrev pub MayReport : ℕ → List Message → Ballot → Report → Type 0
MayReport s before b None = Unit {0}
MayReport s before b (Some report) = IsBelow report.ballot b × AnySaid s before (Accept report.ballot report.value)

-- the messages before let this be said of the slot
abbrev pub MayBeSaid : ℕ → ℕ → List Message → Saying → Type 0
MayBeSaid n s before Silent = Unit {0}
MayBeSaid n s before (Prepare b) = Unit {0}
MayBeSaid n s before (Promise a b r) = AllSaid s before (PromisedBelow a b) × MayReport s before b r × AllSaid s before (IsReported a r)
MayBeSaid n s before (Accept b v) = AllSaid s before (HasValueAt b v) × MayPropose n s before b v
MayBeSaid n s before (Accepted a b v) = AnySaid s before (Accept b v) × AllSaid s before (PromisedAtMost a b)
MayBeSaid n s before (Decided v) = MayDecide n s before v

-- the messages before let this one follow: of each slot they let be said what it says
abbrev pub MayBeSent : ℕ → List Message → Message → Type 0
MayBeSent n before m = (s : ℕ) → MayBeSaid n s before (says m s)

-- so it is of the messages up to a place, and of all
abbrev pub AllMayBeSentUpTo : ℕ → List Message → ℕ → Type 0
AllMayBeSentUpTo n sent end = (k : ℕ) (d : Message) → k < end → MayBeSent n (take k sent) (slice_index_or sent k d)

abbrev pub AllMayBeSent : ℕ → List Message → Type 0
AllMayBeSent n sent = AllMayBeSentUpTo n sent (length sent)

-- the set has exactly the nodes of whom this holds
abbrev pub IsSetOf : NodeSet → (ℕ → Type 0) → Type 0
IsSetOf nodes P = (a : ℕ) → (IsTrue (contains nodes a) ↔ P a)
