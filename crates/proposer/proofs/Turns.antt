-- The slots of an attempt for all slots from one on come in their turn.
use Rattle.std.proofs.Common.{◌≡◌, ℕ, suc, ◌+◌, ◌<◌, ◌≤◌, ◌↔◌, true, false, List, [], ◌∷◌, ◌++◌, length, filter, Option, Some, None, inl, inr, refl, sym, ap, subst, ◌∙◌, arith, ne_eqb}
use Rattle.std.specs.List.{Contains}
use Rattle.std.proofs.lemmas.Bool.{cases_eq}
use Rattle.ballots.specs.Limits.{max_slot}
use Rattle.ballots.specs.Ballot.{Ballot}
use Rattle.ballots.specs.declared.acceptance.Acceptance.{Acceptance}
use Rattle.ballots.specs.declared.value.Value.{Value}
use Rattle.proposer.specs.declared.attempt.Attempt.{Attempt}
use Rattle.proposer.specs.Call.{Start, AllFrom, Begun, PromiseFrom, ProposerCall, Begins, Promises, PromisesFrom, GoesOn, Nacks}
use Rattle.proposer.specs.Choosing.{reports_of, Chooses}
use Rattle.proposer.specs.Reporting.{report_of, rises_from}
use Rattle.proposer.specs.Attempting.{IsOpen, counted_at, CompletesBy, LeadsToAcceptBy, HasItsMajority}
use Rattle.proposer.specs.GoingOn.{goes_further, next_slot, MayGoOn, GoesOnTo}
use Rattle.proposer.specs.Promised.{Reaches, MajorityPromised}
use Rattle.proposer.specs.Counting.{IsAt}
use Rattle.proposer.specs.State.{ProposerState, HoldsOpen, StateAfter, IsRefusedBy}
use Rattle.proposer.proofs.Opening.{one_open, still_open}
use Rattle.proposer.proofs.Rising.{rest_rises, first_within, is_there}
use Rattle.proposer.proofs.Going.{next-push, next-further}
use Rattle.proposer.proofs.Answering.{answering-none, going_tells_none, is_at_begun, begun_is_at}
use Rattle.proposer.proofs.Once.{majority_later}
use Rattle.proposer.proofs.Members.{here, there, first_or_rest, nowhere, majority_is_promised}
use Rattle.proposer.proofs.Majority.{completed_stays}

-- ---- the next slot

pub going_has_majority : (members : ℕ) (calls : List ProposerCall) (candidate : Value) (accept : ℕ × Ballot × Value) → GoesOnTo members calls candidate accept
    → (begun : Begun) × (since : List ProposerCall) × IsOpen calls begun since × (begun.reach ≡ AllFrom) × (begun.slot < accept.0) × (accept.0 ≤ max_slot) × (accept.1 ≡ begun.ballot)
    × MajorityPromised members begun since × Chooses candidate (reports_of (counted_at members begun accept.0 since)) accept.2
going_has_majority members calls candidate accept going =
    let at : accept.0 ≡ suc (going.may.begun.slot + length (filter goes_further going.may.since)) = going.may.slot_is in (
      going.may.begun,
      going.may.since,
      going.may.open_is,
      going.may.reach_is,
      omega (arith, at),
      going.may.within,
      going.ballot_is,
      (majority_is_promised members going.may.begun going.may.since).0 going.may.majority,
      going.value_is,
    )

none_gone : (since : List ProposerCall) → ((candidate : Value) → Contains since (GoesOn candidate) → ⊥) → filter goes_further since ≡ []
none_gone [] none = refl
none_gone (Begins begun ∷ since) none = none_gone since (λ candidate is_in. none candidate (there (Begins begun) (GoesOn candidate) since is_in))
none_gone (Promises promise ∷ since) none = none_gone since (λ candidate is_in. none candidate (there (Promises promise) (GoesOn candidate) since is_in))
none_gone (PromisesFrom promise ∷ since) none = none_gone since (λ candidate is_in. none candidate (there (PromisesFrom promise) (GoesOn candidate) since is_in))
none_gone (GoesOn first ∷ since) none = absurd (none first (here (GoesOn first) since))
none_gone (Nacks slot ballot ∷ since) none = none_gone since (λ candidate is_in. none candidate (there (Nacks slot ballot) (GoesOn candidate) since is_in))

-- a call that goes on does not complete
completed_no_further : (members : ℕ) (begun : Begun) (since : List ProposerCall) (call : ProposerCall) → CompletesBy members begun since call → goes_further call ≡ false
completed_no_further members begun since (Begins another) completes = refl
completed_no_further members begun since (Promises promise) completes = refl
completed_no_further members begun since (PromisesFrom promise) completes = refl
completed_no_further members begun since (GoesOn candidate) completes =
    absurd (completes.before (rw (answering-none members begun begun.slot since (GoesOn candidate) (going_tells_none begun.reach begun.slot candidate)) at completes.now))
completed_no_further members begun since (Nacks slot ballot) completes = refl

pub turn_first : (members : ℕ) (calls since : List ProposerCall) (begun : Begun) (call : ProposerCall) (accept : ℕ × Ballot × Value) → IsOpen calls begun since → begun.reach ≡ AllFrom
    → ((candidate : Value) → Contains since (GoesOn candidate) → ⊥) → LeadsToAcceptBy members calls call accept → accept.0 < max_slot → MayGoOn members (calls ++ call ∷ []) (suc accept.0)
turn_first members calls since begun call accept is_open reach none accepts lt =
    let one : (accepts.begun ≡ begun) × (accepts.since ≡ since) = one_open calls accepts.begun begun accepts.since since accepts.open_is is_open in
    let no_further : goes_further call ≡ false = completed_no_further members accepts.begun accepts.since call accepts.completes in
    let gone : filter goes_further accepts.since ≡ [] = ap (filter goes_further) one.1 ∙ none_gone since none in
    let start : next_slot accepts.begun accepts.since ≡ suc accepts.begun.slot = let long : length (filter goes_further accepts.since) ≡ 0 = ap length gone in omega (arith, long) in
    record {
      begun = accepts.begun;
      since = accepts.since ++ call ∷ [];
      open_is = still_open calls accepts.begun accepts.since call (completed_stays members accepts.begun accepts.since call accepts.completes) accepts.open_is;
      reach_is = ap (λ (b : Begun). b.reach) one.0 ∙ reach;
      majority = accepts.completes.now;
      slot_is = ap suc accepts.slot_is ∙ sym start ∙ sym (next-push accepts.begun accepts.since call no_further);
      within = omega (arith, lt);
    }

module _ (members : ℕ) (calls : List ProposerCall) (slot : ℕ) (may : MayGoOn members calls slot) where
  pub turn_next : (candidate : Value) → slot < max_slot → MayGoOn members (calls ++ GoesOn candidate ∷ []) (suc slot)
  turn_next candidate lt = record {
    begun = may.begun;
    since = may.since ++ GoesOn candidate ∷ [];
    open_is = still_open calls may.begun may.since (GoesOn candidate) refl may.open_is;
    reach_is = may.reach_is;
    majority = majority_later members may.begun may.since (GoesOn candidate ∷ []) may.majority;
    slot_is = ap suc may.slot_is ∙ sym (next-further may.begun may.since candidate);
    within = omega (arith, lt);
  }

  pub turn_stays : (promise : PromiseFrom) → MayGoOn members (calls ++ PromisesFrom promise ∷ []) slot
  turn_stays promise = record {
    begun = may.begun;
    since = may.since ++ PromisesFrom promise ∷ [];
    open_is = still_open calls may.begun may.since (PromisesFrom promise) refl may.open_is;
    reach_is = may.reach_is;
    majority = majority_later members may.begun may.since (PromisesFrom promise ∷ []) may.majority;
    slot_is = may.slot_is ∙ sym (next-push may.begun may.since (PromisesFrom promise) refl);
    within = may.within;
  }

  pub turn_majority : HasItsMajority members calls
  turn_majority = (may.begun, may.since, may.open_is, may.majority)

  pub turn_one : (other : ℕ) → MayGoOn members calls other → slot ≡ other
  turn_one other also =
      let one : (may.begun ≡ also.begun) × (may.since ≡ also.since) = one_open calls may.begun also.begun may.since also.since may.open_is also.open_is in
      may.slot_is ∙ ap (λ (b : Begun). next_slot b may.since) one.0 ∙ ap (next_slot also.begun) one.1 ∙ sym also.slot_is

pub turn_last : (members : ℕ) (calls : List ProposerCall) (candidate : Value) (slot : ℕ) → MayGoOn members calls max_slot → MayGoOn members (calls ++ GoesOn candidate ∷ []) slot → ⊥
turn_last members calls candidate slot may more =
    let open_is = still_open calls may.begun may.since (GoesOn candidate) refl may.open_is in
    let one : (may.begun ≡ more.begun) × (may.since ++ GoesOn candidate ∷ [] ≡ more.since) = one_open (calls ++ GoesOn candidate ∷ []) may.begun more.begun (may.since ++ GoesOn candidate ∷ []) more.since open_is more.open_is in
    let at : slot ≡ suc max_slot = more.slot_is ∙ sym (ap (next_slot more.begun) one.1) ∙ sym (ap (λ (b : Begun). next_slot b (may.since ++ GoesOn candidate ∷ [])) one.0) ∙ next-further may.begun may.since candidate ∙ ap suc (sym may.slot_is) in
    omega (arith, at, more.within)

-- ---- what ends it

refused_by : (members : ℕ) (calls : List ProposerCall) (held : Option Attempt) (begun : Begun) (since : List ProposerCall) (slot : ℕ) (ballot : Ballot) → HoldsOpen members calls held → IsOpen calls begun since
    → (IsAt held slot ballot ↔ (Reaches begun.reach begun.slot slot × (begun.ballot ≡ ballot)))
refused_by members calls None begun since slot ballot closed is_open = absurd (closed begun since is_open)
refused_by members calls (Some attempt) begun since slot ballot holds is_open =
    let one : holds.begun ≡ begun = (one_open calls holds.begun begun holds.since since holds.open_is is_open).0 in
    subst (λ (b : Begun). IsAt (Some attempt) slot ballot ↔ (Reaches b.reach b.slot slot × (b.ballot ≡ ballot))) one
    (is_at_begun members calls attempt slot ballot holds, begun_is_at members calls attempt slot ballot holds)

pub state_is_refused : (start : Start) (calls since : List ProposerCall) (state : ProposerState) (begun : Begun) (slot : ℕ) (ballot : Ballot) → StateAfter start calls state → IsOpen calls begun since
    → (IsRefusedBy state slot ballot ↔ (Reaches begun.reach begun.slot slot × (begun.ballot ≡ ballot)))
state_is_refused start calls since state begun slot ballot after is_open = refused_by start.members calls state.attempt begun since slot ballot after.attempt is_open

-- ---- what is reported of a slot

same_report : (a b : Acceptance) → Some a ≡ Some b → a ≡ b
same_report a b e = cc

report_then : (slot : ℕ) (reports : List (ℕ × Acceptance)) (report : Acceptance) → report_of slot reports ≡ Some report → Contains reports (slot, report)
report_then slot [] report some = absurd (cc)
report_then slot (first ∷ reports) report some = elim (cases_eq first.0 slot) as (λ _. Contains (first ∷ reports) (slot, report)) [
  | inl same ↦
      let value : first.1 ≡ report = same_report first.1 report (sym (is_there slot first reports same) ∙ some) in
      subst (Contains (first ∷ reports)) (ap (λ (s : ℕ). (s, first.1)) same ∙ ap (λ (v : Acceptance). (slot, v)) value) (here first reports)
  | inr differs ↦ there first (slot, report) reports (report_then slot reports report (rw (ne_eqb first.0 slot differs) at some))
]

within_rising : (least slot : ℕ) (reports : List (ℕ × Acceptance)) (report : Acceptance) → rises_from least reports ≡ true → Contains reports (slot, report) → least ≤ slot
within_rising least slot [] report rises is_in = absurd (nowhere (slot, report) is_in)
within_rising least slot (first ∷ reports) report rises is_in = elim (first_or_rest first (slot, report) reports is_in) as (λ _. least ≤ slot) [
  | inl same ↦ subst (λ (s : ℕ). least ≤ s) (ap (λ (r : ℕ × Acceptance). r.0) same) (first_within least first reports rises)
  | inr rest ↦
      let above : suc first.0 ≤ slot = within_rising (suc first.0) slot reports report (rest_rises least first reports rises) rest in
      let low : least ≤ first.0 = first_within least first reports rises in
      omega (arith, above, low)
]

report_by : (least slot : ℕ) (reports : List (ℕ × Acceptance)) (report : Acceptance) → rises_from least reports ≡ true → Contains reports (slot, report) → report_of slot reports ≡ Some report
report_by least slot [] report rises is_in = absurd (nowhere (slot, report) is_in)
report_by least slot (first ∷ reports) report rises is_in = elim (first_or_rest first (slot, report) reports is_in) as (λ _. report_of slot (first ∷ reports) ≡ Some report) [
  | inl same ↦ is_there slot first reports (ap (λ (r : ℕ × Acceptance). r.0) same) ∙ ap (λ (r : ℕ × Acceptance). Some r.1) same
  | inr rest ↦
      let above : suc first.0 ≤ slot = within_rising (suc first.0) slot reports report (rest_rises least first reports rises) rest in
      rw (ne_eqb first.0 slot (λ same. absurd (omega (arith, above, same)))) (report_by (suc first.0) slot reports report (rest_rises least first reports rises) rest)
]

pub reports_by_slot : (least slot : ℕ) (reports : List (ℕ × Acceptance)) (report : Acceptance) → rises_from least reports ≡ true → (report_of slot reports ≡ Some report ↔ Contains reports (slot, report))
reports_by_slot least slot reports report rises = (report_then slot reports report, report_by least slot reports report rises)
