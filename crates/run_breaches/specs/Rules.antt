-- The rules of Paxos that a message keeps or breaks, by what was sent before it: Lamport, "Paxos Made Simple", section 2.2,
-- and of a Decided section 2.3.
use Rattle.std.specs.Prelude.{◌≡◌, ◌≢◌, ℕ, ◌<◌, ◌⊎◌, ◌↔◌, Bool, not, IsTrue, IsSome, List, length, take, get_or, Option, Some, None}
use Rattle.std.specs.List.{All}
use Rattle.ballots.specs.Ballot.{Ballot, IsBelow}
use Rattle.ballots.specs.declared.value.Value.{Value}
use Rattle.ballots.specs.declared.message.Message.{Message}
use Rattle.ballots.specs.declared.message.Body.{Body}
use Rattle.ballots.specs.declared.message.Body.TheVariants as body
use Rattle.lawful_histories.specs.Saying.{Report}
use Rattle.run_breaches.specs.declared.breach.BrokenRules.{BrokenRules}
use Rattle.run_breaches.specs.declared.breach.BrokenRules.TheVariants.{Promise, Accept, Accepted, Decided}
use Rattle.run_breaches.specs.Earlier.{LetsPropose, LetsAccept, LetsPromise, LetsReport, Reports, WasProposed, IsPromised, MayBeProposed, WasChosen}

-- ---- the rules

-- what is reported is of a ballot below the promised one
abbrev pub IsReportBelow : Report → Ballot → Type 0
IsReportBelow None b = Unit {0}
IsReportBelow (Some q) b = IsBelow q.ballot b

-- and was proposed
abbrev pub IsReportProposed : ℕ → List Message → Report → Type 0
IsReportProposed s before None = Unit {0}
IsReportProposed s before (Some q) = WasProposed s before q.ballot q.value

-- A Promise is above all that its sender promised or accepted at. It reports the highest of what its sender accepted, which
-- is below it and was proposed, or nothing where that accepted nothing (phase 1b).
pub record KeepsPromise (s : ℕ) (before : List Message) (a : ℕ) (b : Ballot) (r : Report) : Type 0 where
  pub above : All (LetsPromise s a b) before
  pub highest : All (LetsReport s a r) before
  pub below : IsReportBelow r b
  pub proposed : IsReportProposed s before r

-- An Accept has the value of the Accepts before it of its ballot, and is safe (phase 2a).
pub record KeepsAccept (n s : ℕ) (before : List Message) (b : Ballot) (v : Value) : Type 0 where
  pub only : All (LetsPropose s b v) before
  pub safe : MayBeProposed n s before b v

-- An Accepted was proposed, and is not below what its sender promised or accepted at (phase 2b).
pub record KeepsAccepted (s : ℕ) (before : List Message) (a : ℕ) (b : Ballot) (v : Value) : Type 0 where
  pub proposed : WasProposed s before b v
  pub least : All (LetsAccept s a b) before

-- The message keeps every rule that there is for it.
abbrev pub BodyKeeps : ℕ → ℕ → List Message → ℕ → Body → Type 0
BodyKeeps n s before a (body.Prepare b) = Unit {0}
BodyKeeps n s before a (body.Promise b r) = KeepsPromise s before a b r
BodyKeeps n s before a (body.Nack b c) = Unit {0}
BodyKeeps n s before a (body.Accept p) = KeepsAccept n s before p.ballot p.value
BodyKeeps n s before a (body.Accepted p) = KeepsAccepted s before a p.ballot p.value
BodyKeeps n s before a body.Ask = Unit {0}
BodyKeeps n s before a (body.Decided v) = WasChosen n s before v

abbrev pub Keeps : ℕ → List Message → Message → Type 0
Keeps n before m = BodyKeeps n m.slot before m.sender m.body

-- ---- what is told of them

-- the rule is told as broken exactly where it is not kept
abbrev pub Tells : Bool → Type 0 → Type 0
Tells broken kept = IsTrue (not broken) ↔ kept

-- the place of the first message that does not let it be, where there is one
abbrev pub IsFirstAgainst : List Message → (Message → Type 0) → Option ℕ → Type 0
IsFirstAgainst before Lets None = All Lets before
IsFirstAgainst before Lets (Some j) = (j < length before) × ((d : Message) → Lets (get_or before j d) → ⊥) × All Lets (take j before)

-- of the members' Promises of the ballot, that in this place is the first to report the highest ballot, which is this
pub record IsHighestReport (n s : ℕ) (before : List Message) (b : Ballot) (j : ℕ) (top : Ballot) : Type 0 where
  pub within : j < length before
  pub here : (d : Message) → Reports n s b (λ q. q.ballot ≡ top) (get_or before j d)
  pub none_above : All (λ e. Reports n s b (λ q. IsBelow top q.ballot) e → ⊥) before
  pub first : All (λ e. Reports n s b (λ q. IsBelow q.ballot top → ⊥) e → ⊥) (take j before)

-- where a majority promised the ballot and the value is not safe, the highest report is told: it has another value
abbrev pub TellsReport : ℕ → ℕ → List Message → Ballot → Value → Option ℕ → Type 0
TellsReport n s before b v None = IsPromised n s before b → MayBeProposed n s before b v
TellsReport n s before b v (Some j) =
    IsPromised n s before b × (MayBeProposed n s before b v → ⊥) × ((top : Ballot) × IsHighestReport n s before b j top)
    × ((d : Message) → Reports n s b (λ q. q.value ≢ v) (get_or before j d))

-- what is told of a Promise, rule by rule
pub record BreaksPromise (s : ℕ) (before : List Message) (a : ℕ) (b : Ballot) (r : Report) (not_above unreported : Option ℕ) (report_not_below report_not_proposed : Bool) : Type 0 where
  pub above : IsFirstAgainst before (LetsPromise s a b) not_above
  pub highest : IsFirstAgainst before (LetsReport s a r) unreported
  pub below : Tells report_not_below (IsReportBelow r b)
  pub proposed : Tells report_not_proposed (IsReportProposed s before r)

-- what is told of an Accept
pub record BreaksAccept (n s : ℕ) (before : List Message) (b : Ballot) (v : Value) (second_value : Option ℕ) (not_promised : Bool) (not_reported : Option ℕ) : Type 0 where
  pub only : IsFirstAgainst before (LetsPropose s b v) second_value
  pub promised : Tells not_promised (IsPromised n s before b)
  pub reported : TellsReport n s before b v not_reported

-- what is told of an Accepted
pub record BreaksAccepted (s : ℕ) (before : List Message) (a : ℕ) (b : Ballot) (v : Value) (not_proposed : Bool) (below : Option ℕ) : Type 0 where
  pub proposed : Tells not_proposed (WasProposed s before b v)
  pub least : IsFirstAgainst before (LetsAccept s a b) below

-- which rules the message breaks, and which message before it each goes against
abbrev pub BodyBreaks : ℕ → ℕ → List Message → ℕ → Body → BrokenRules → Type 0
BodyBreaks n s before a (body.Promise b r) (Promise not_above unreported report_not_below report_not_proposed) =
    BreaksPromise s before a b r not_above unreported report_not_below report_not_proposed
BodyBreaks n s before a (body.Accept p) (Accept second_value not_promised not_reported) =
    BreaksAccept n s before p.ballot p.value second_value not_promised not_reported
BodyBreaks n s before a (body.Accepted p) (Accepted not_proposed below) = BreaksAccepted s before a p.ballot p.value not_proposed below
BodyBreaks n s before a (body.Decided v) Decided = WasChosen n s before v → ⊥
BodyBreaks n s before a other broken = ⊥

abbrev pub Breaks : ℕ → List Message → Message → BrokenRules → Type 0
Breaks n before m broken = BodyBreaks n m.slot before m.sender m.body broken

-- at least one is broken
abbrev pub IsSomeBroken : BrokenRules → Type 0
IsSomeBroken (Promise not_above unreported report_not_below report_not_proposed) =
    IsSome not_above ⊎ IsSome unreported ⊎ IsTrue report_not_below ⊎ IsTrue report_not_proposed
IsSomeBroken (Accept second_value not_promised not_reported) = IsSome second_value ⊎ IsTrue not_promised ⊎ IsSome not_reported
IsSomeBroken (Accepted not_proposed below) = IsTrue not_proposed ⊎ IsSome below
IsSomeBroken Decided = Unit {0}

-- what is told of a message: that it keeps every rule, or which it breaks
abbrev pub BodyTells : ℕ → ℕ → List Message → ℕ → Body → Option BrokenRules → Type 0
BodyTells n s before a said None = BodyKeeps n s before a said
BodyTells n s before a said (Some broken) = BodyBreaks n s before a said broken × IsSomeBroken broken
