-- What a node's records and what came to it tell of what was said of each slot, where `WasSaid` tells what was.
use Rattle.std.proofs.Common.{◌≡◌, ℕ, ◌⊎◌, inl, inr, Bool, true, false, cond, nat_eq, List, [], ◌∷◌, ◌++◌, filter_map, Option, Some, None, refl, sym, subst}
use Rattle.std.specs.List.{Contains}
use Rattle.std.proofs.lemmas.Bool.{eqb-true}
use Rattle.ballots.specs.Ballot.{Ballot}
use Rattle.ballots.specs.declared.value.Value.{Value}
use Rattle.ballots.specs.declared.acceptance.Acceptance.{Acceptance}
use Rattle.ballots.specs.declared.record.Record.{Record}
use Rattle.ballots.specs.declared.record.Record.TheVariants.{Began, Promised, Accepted as HasAccepted, PromisedFrom}
use Rattle.ballots.specs.declared.message.Message.{Message}
use Rattle.ballots.specs.Acceptance.{acceptance}
use Rattle.acceptor.specs.Restored.{promise_in, acceptance_in}
use Rattle.proposer.specs.Call.{OneSlot, Begun, Promise, ProposerCall as Asked, Begins, Promises}
use Rattle.proposer.specs.Choosing.{HasMajority}
use Rattle.proposer.specs.Attempting.{IsOpen, answering}
use Rattle.learner.specs.Calls.{LearnerCall as Told}
use Rattle.learner.specs.Calls as told
use Rattle.lawful_histories.specs.Saying.{Saying, says}
use Rattle.lawful_histories.specs.Saying as say
use Rattle.agreement_rules.specs.Views.{Views}
use Rattle.histories.specs.Following.{UpOrDown, IsUp, IsDown, with_due, recovered_in}
use Rattle.histories.proofs.Lists.{before_last, before_last_given, last_or_before_given}
use Rattle.histories.proofs.Sayings.{OneSays}

-- ---- who says it

-- A Promise or an Accepted is this node's, and an Accept is of a ballot of its own.
abbrev pub IsOwnSaying : ℕ → Saying → Type 0
IsOwnSaying me say.Silent = Unit {0}
IsOwnSaying me (say.Prepare b) = Unit {0}
IsOwnSaying me (say.Promise a b r) = a ≡ me
IsOwnSaying me (say.Accept b v) = b.node ≡ me
IsOwnSaying me (say.Accepted a b v) = a ≡ me
IsOwnSaying me (say.Decided v) = Unit {0}

abbrev pub IsOwn : ℕ → Message → Type 0
IsOwn me m = (s : ℕ) → IsOwnSaying me (says m s)

-- ---- records

-- these records tell of a promise of the ballot for the slot
abbrev pub RecordsPromise : List Record → ℕ → Ballot → Type 0
RecordsPromise records s b = Contains (filter_map (promise_in s) records) b

-- and of an acceptance
abbrev pub RecordsAcceptance : List Record → ℕ → Acceptance → Type 0
RecordsAcceptance records s x = Contains (filter_map (acceptance_in s) records) x

-- Where this is the node's own, its records tell of it: of what it promised and accepted, and of the attempt for which it proposed.
abbrev pub CoversSaying : ℕ → List Record → ℕ → Saying → Type 0
CoversSaying me records s say.Silent = Unit {0}
CoversSaying me records s (say.Prepare b) = Unit {0}
CoversSaying me records s (say.Promise a b r) = a ≡ me → RecordsPromise records s b
CoversSaying me records s (say.Accept b v) = b.node ≡ me → Contains records (Began b)
CoversSaying me records s (say.Accepted a b v) = a ≡ me → RecordsAcceptance records s (acceptance b v)
CoversSaying me records s (say.Decided v) = Unit {0}

abbrev pub Covers : ℕ → List Record → Message → Type 0
Covers me records m = (s : ℕ) → CoversSaying me records s (says m s)

-- what is accepted was proposed
abbrev pub WasProposed : (ℕ → Saying → Type 0) → ℕ → Acceptance → Type 0
WasProposed WasSaid s x = WasSaid s (say.Accept x.ballot x.value)

pub record KnowsRecords (WasSaid : ℕ → Saying → Type 0) (me : ℕ) (records : List Record) : Type 0 where
  pub covers : (s : ℕ) (x : Saying) → WasSaid s x → CoversSaying me records s x
  pub proposed : (s : ℕ) (x : Acceptance) → RecordsAcceptance records s x → WasProposed WasSaid s x

-- the record may be kept
abbrev pub MayBeKept : (ℕ → Saying → Type 0) → Record → Type 0
MayBeKept WasSaid (Began b) = Unit {0}
MayBeKept WasSaid (Promised slot b) = Unit {0}
MayBeKept WasSaid (HasAccepted slot x) = WasProposed WasSaid slot x
MayBeKept WasSaid (PromisedFrom first b) = Unit {0}

abbrev pub MayBeDue : (ℕ → Saying → Type 0) → Option Record → Type 0
MayBeDue WasSaid None = Unit {0}
MayBeDue WasSaid (Some r) = MayBeKept WasSaid r

-- ---- calls

abbrev pub WasTold : (ℕ → Saying → Type 0) → Told → Type 0
WasTold WasSaid (told.Accepted a slot b v) = WasSaid slot (say.Accepted a b v)
WasTold WasSaid (told.Decided slot v) = WasSaid slot (say.Decided v)

pub record KnowsCalls (members : ℕ) (WasSaid : ℕ → Saying → Type 0) (me : ℕ) (records : List Record) (asked : List Asked) (heard : List Told) : Type 0 where
  -- what its proposer was handed was said
  pub promises : (p : Promise) → Contains asked (Promises p) → WasSaid p.slot (say.Promise p.sender p.ballot p.report)
  -- what it began is its own, with a record
  pub begun : (b : Begun) → Contains asked (Begins b) → (b.ballot.node ≡ me) × Contains records (Began b.ballot)
  -- each attempt is for one slot
  pub plain : (b : Begun) → Contains asked (Begins b) → b.reach ≡ OneSlot
  -- while the open attempt has no majority, nothing was proposed at its ballot
  pub complete : (b : Begun) (since : List Asked) → IsOpen asked b since → (s : ℕ) (v : Value) → WasSaid s (say.Accept b.ballot v)
      → HasMajority members (answering members b since)
  -- what its learner was told was said
  pub told_of : (call : Told) → Contains heard call → WasTold WasSaid call

abbrev pub KnowsViews : ℕ → (ℕ → Saying → Type 0) → ℕ → Views → Type 0
KnowsViews members WasSaid me views = KnowsCalls members WasSaid me views.records views.proposer_calls views.learner_calls

abbrev pub KnowsIfUp : ℕ → (ℕ → Saying → Type 0) → ℕ → UpOrDown → Type 0
KnowsIfUp members WasSaid me (IsUp views) = KnowsViews members WasSaid me views
KnowsIfUp members WasSaid me (IsDown records due) = Unit {0}

pub record KnowsSeat (members : ℕ) (WasSaid : ℕ → Saying → Type 0) (me : ℕ) (seat : UpOrDown) : Type 0 where
  pub records : (found : Bool) → KnowsRecords WasSaid me (recovered_in found seat)
  pub up : KnowsIfUp members WasSaid me seat

-- ---- one record more

covers_more : (me : ℕ) (records : List Record) (r : Record) (s : ℕ) (x : Saying) → CoversSaying me records s x → CoversSaying me (records ++ r ∷ []) s x
covers_more me records r s say.Silent c = tt
covers_more me records r s (say.Prepare b) c = tt
covers_more me records r s (say.Promise a b q) c = λ own. before_last_given (promise_in s) records r b (c own)
covers_more me records r s (say.Accept b v) c = λ own. before_last records r (Began b) (c own)
covers_more me records r s (say.Accepted a b v) c = λ own. before_last_given (acceptance_in s) records r (acceptance b v) (c own)
covers_more me records r s (say.Decided v) c = tt

proposed_step : (WasSaid : ℕ → Saying → Type 0) (s of : ℕ) (x y : Acceptance) (t : Bool) → nat_eq s of ≡ t → WasProposed WasSaid of y
    → cond t (Some y) None ≡ Some x → WasProposed WasSaid s x
proposed_step WasSaid s of x y true is may gives =
    let slots : of ≡ s = sym (eqb-true s of is) in
    let alike : y ≡ x = cc in
    subst (λ (i : ℕ). WasProposed WasSaid i x) slots (subst (WasProposed WasSaid of) alike may)
proposed_step WasSaid s of x y false is may gives = absurd (let no : None ≡ Some x = gives in cc)

proposed_more : (WasSaid : ℕ → Saying → Type 0) (r : Record) (s : ℕ) (x : Acceptance) → MayBeKept WasSaid r → acceptance_in s r ≡ Some x → WasProposed WasSaid s x
proposed_more WasSaid (Began b) s x may gives = absurd (let no : None ≡ Some x = gives in cc)
proposed_more WasSaid (Promised slot b) s x may gives = absurd (let no : None ≡ Some x = gives in cc)
proposed_more WasSaid (HasAccepted slot y) s x may gives = proposed_step WasSaid s slot x y (nat_eq s slot) refl may gives
proposed_more WasSaid (PromisedFrom first b) s x may gives = absurd (let no : None ≡ Some x = gives in cc)

pub one_record_more : (WasSaid : ℕ → Saying → Type 0) (me : ℕ) (records : List Record) (r : Record) → KnowsRecords WasSaid me records → MayBeKept WasSaid r
    → KnowsRecords WasSaid me (records ++ r ∷ [])
one_record_more WasSaid me records r knows may = record {
  covers = λ s x was. covers_more me records r s x (knows.covers s x was);
  proposed = λ s x has. elim (last_or_before_given (acceptance_in s) records r x has) as (λ _. WasProposed WasSaid s x) [
    | inl there ↦ knows.proposed s x there
    | inr last ↦ proposed_more WasSaid r s x may last
  ];
}

-- a record that is due is found or not
pub knows_with_due : (WasSaid : ℕ → Saying → Type 0) (me : ℕ) (found : Bool) (records : List Record) (due : Option Record) → KnowsRecords WasSaid me records → MayBeDue WasSaid due
    → KnowsRecords WasSaid me (with_due found records due)
knows_with_due WasSaid me found records None knows may = knows
knows_with_due WasSaid me true records (Some r) knows may = one_record_more WasSaid me records r knows may
knows_with_due WasSaid me false records (Some r) knows may = knows

-- ---- more messages

module _ (members : ℕ) (WasSaid Now : ℕ → Saying → Type 0) (ms : List Message) (kept : (s : ℕ) (x : Saying) → WasSaid s x → Now s x)
    (came : (s : ℕ) (x : Saying) → Now s x → WasSaid s x ⊎ OneSays ms s x) where
  pub told_still : (call : Told) → WasTold WasSaid call → WasTold Now call
  told_still (told.Accepted a slot b v) was = kept slot (say.Accepted a b v) was
  told_still (told.Decided slot v) was = kept slot (say.Decided v) was

  -- the records tell of the messages that come
  pub records_later : (me : ℕ) (records : List Record) → KnowsRecords WasSaid me records → ((m : Message) → Contains ms m → Covers me records m) → KnowsRecords Now me records
  records_later me records knows covered = record {
    covers = λ s x now. elim (came s x now) as (λ _. CoversSaying me records s x) [
      | inl was ↦ knows.covers s x was
      | inr new ↦ subst (CoversSaying me records s) new.2 (covered new.0 new.1 s)
    ];
    proposed = λ s x has. kept s (say.Accept x.ballot x.value) (knows.proposed s x has);
  }

  -- an Accept that comes at the open attempt's ballot comes with a majority
  pub calls_later : (me : ℕ) (records : List Record) (asked : List Asked) (heard : List Told) → KnowsCalls members WasSaid me records asked heard
      → ((b : Begun) (since : List Asked) → IsOpen asked b since → (s : ℕ) (v : Value) → OneSays ms s (say.Accept b.ballot v) → HasMajority members (answering members b since))
      → KnowsCalls members Now me records asked heard
  calls_later me records asked heard knows apart = record {
    promises = λ p has. kept p.slot (say.Promise p.sender p.ballot p.report) (knows.promises p has);
    begun = knows.begun;
    plain = knows.plain;
    complete = λ b since is_open s v now. elim (came s (say.Accept b.ballot v) now) as (λ _. HasMajority members (answering members b since)) [
      | inl was ↦ knows.complete b since is_open s v was
      | inr new ↦ apart b since is_open s v new
    ];
    told_of = λ call has. told_still call (knows.told_of call has);
  }
