-- How the attempt that is held goes on from slot to slot.
use Rattle.std.proofs.Common.{◌≡◌, ℕ, suc, ◌<◌, ◌≤◌, ◌||◌, ◌==◌, eqb, ◌↔◌, true, false, is_some, IsSome, IfSome, List, [], ◌∷◌, ◌++◌, option_map, Option, Some, None, inl, inr, refl, sym, ap, subst, ◌∙◌, arith}
use Rattle.std.specs.List.{Contains, cons_option}
use Rattle.ballots.specs.Limits.{max_slot, max_members}
use Rattle.ballots.specs.Ballot.{Ballot}
use Rattle.ballots.specs.Majority.{NodeSet, contains, tally}
use Rattle.ballots.specs.declared.acceptance.Acceptance.{Acceptance}
use Rattle.ballots.specs.declared.value.Value.{Value}
use Rattle.ballots.proofs.CallerLemmas.{tally_with, tally_more, tally_all}
use Rattle.proposer.specs.declared.attempt.Attempt.{Attempt}
use Rattle.proposer.specs.Call.{OneSlot, AllFrom, Begun, PromiseFrom, ProposerCall, PromisesFrom, GoesOn}
use Rattle.proposer.specs.Choosing.{PromiseReport, reports_of, Chooses}
use Rattle.proposer.specs.Reporting.{report_of, rises_from, said_of}
use Rattle.proposer.specs.Attempting.{answering, answering_at, counted_at}
use Rattle.proposer.specs.GoingOn.{next_slot, MayGoOn, IsNext, GoesOnWith, HasReportAhead}
use Rattle.proposer.specs.Kept.{AheadState, from_slot, reported_at, RiseFrom, HasSome, with_reports, HasRoom, HasNext, HasSomeAhead, GivesAhead, MovesAhead}
use Rattle.proposer.specs.Counting.{WouldCount, reach_by, KeepsReports, HoldsAhead}
use Rattle.proposer.specs.State.{Holds}
use Rattle.proposer.proofs.Opening.{one_open, still_open}
use Rattle.proposer.proofs.Rising.{first_within, is_there}
use Rattle.proposer.proofs.Going.{Idle, keeps_taken, keeps_further}
use Rattle.proposer.proofs.Answering.{answering-one, answering-none, going_tells_none, ranged_told, ranged_for, idle_by_none}
use Rattle.proposer.proofs.Members.{here, there, nowhere}
use Rattle.proposer.proofs.Majority.{held_majority, gone_where_majority}

-- ---- what lists of reports say

pub some_said : (least : ℕ) (kept : List (List (ℕ × Acceptance))) → RiseFrom least kept → HasSome kept → (slot : ℕ) × (report : PromiseReport) × (least ≤ slot) × Contains (reported_at slot kept) report
some_said least [] rise some = absurd some
some_said least ([] ∷ kept) rise (inl some) = absurd (some refl)
some_said least ((report ∷ reports) ∷ kept) rise (inl some) = (
  report.0,
  report.1,
  first_within least report reports rise.0,
  subst (λ (o : Option PromiseReport). Contains (cons_option o (reported_at report.0 kept)) report.1) (sym (is_there report.0 report reports refl)) (here report.1 (reported_at report.0 kept)),
)
some_said least (reports ∷ kept) rise (inr some) =
    let said = some_said least kept rise.1 some in
    (said.0, said.1, said.2, behind (report_of said.0 reports) said.1 (reported_at said.0 kept) said.3)
  where
    behind : (o : Option PromiseReport) (report : PromiseReport) (rest : List PromiseReport) → Contains rest report → Contains (cons_option o rest) report
    behind None report rest is_in = is_in
    behind (Some first) report rest is_in = there first report rest is_in

pub said_some : (slot : ℕ) (kept : List (List (ℕ × Acceptance))) (report : PromiseReport) → Contains (reported_at slot kept) report → HasSome kept
said_some slot [] report is_in = absurd (nowhere report is_in)
said_some slot ([] ∷ kept) report is_in = inr (said_some slot kept report is_in)
said_some slot ((first ∷ reports) ∷ kept) report is_in = inl (λ none. absurd (cc))

-- ---- one promise more

-- there is a place for each member
room_there : (members sender : ℕ) (begun : Begun) (since : List ProposerCall) (counted : NodeSet) (ahead : Option AheadState) → HoldsAhead members begun since counted ahead
    → sender < members → contains counted sender ≡ false → members ≤ max_members → HasRoom ahead
room_there members sender begun since counted None holds member not_counted few = tt
room_there members sender begun since counted (Some ahead) holds member not_counted few =
    let with_one : tally members (λ node. contains counted node || eqb sender node) ≡ suc (tally members (contains counted)) = tally_with members sender (contains counted) member not_counted in
    let no_more : tally members (λ node. contains counted node || eqb sender node) ≤ tally members (λ node. true) = tally_more members (λ node. contains counted node || eqb sender node) (λ node. true) (λ node lt is. refl) in
    omega (arith, with_one, no_more, tally_all members, holds.1.size, few)

module _ (members : ℕ) (calls : List ProposerCall) (promise : PromiseFrom) (attempt : Attempt) (holds : Holds members calls attempt)
    (rises : rises_from promise.slot promise.reports ≡ true) (taken : WouldCount AllFrom members promise.sender promise.slot promise.ballot attempt) where
  pub has_room : members ≤ max_members → HasRoom attempt.ahead
  has_room few = room_there members promise.sender holds.begun holds.since attempt.counted attempt.ahead holds.ahead taken.is_new.member taken.is_new.not_counted few

  pushed : (slot : ℕ) → answering_at members holds.begun slot (holds.since ++ PromisesFrom promise ∷ []) ≡ answering_at members holds.begun slot holds.since ++ said_of slot promise ∷ []
  pushed slot = answering-one members holds.begun slot holds.since (PromisesFrom promise) (said_of slot promise) (ranged_told members calls promise attempt holds rises taken slot) (ranged_for members calls promise attempt holds rises taken slot)

  module _ (new : Attempt) (with_sender : (node : ℕ) → contains new.counted node ≡ (contains attempt.counted node || (promise.sender == node))) where
    ahead_now : (ahead : Option AheadState) → attempt.ahead ≡ ahead → HoldsAhead members holds.begun holds.since attempt.counted ahead
        → HoldsAhead members holds.begun (holds.since ++ PromisesFrom promise ∷ []) new.counted (option_map (with_reports (from_slot (suc holds.begun.slot) promise.reports)) ahead)
    ahead_now None is was = absurd (let no : OneSlot ≡ AllFrom = ap reach_by (sym is) ∙ taken.reach_is in cc)
    ahead_now (Some ahead) is was = (
      was.0,
      keeps_taken members holds.begun holds.since promise attempt.counted new.counted ahead was.1 pushed holds.counts.senders taken.is_new.member taken.is_new.not_counted with_sender
          (subst (λ (s : ℕ). rises_from s promise.reports ≡ true) (sym taken.slot_is ∙ holds.slot_is) rises),
    )

    pub ranged_ahead : new.ahead ≡ option_map (with_reports (from_slot (suc attempt.slot) promise.reports)) attempt.ahead → HoldsAhead members holds.begun (holds.since ++ PromisesFrom promise ∷ []) new.counted new.ahead
    ranged_ahead is =
        subst (HoldsAhead members holds.begun (holds.since ++ PromisesFrom promise ∷ []) new.counted)
        (sym (is ∙ ap (λ (s : ℕ). option_map (with_reports (from_slot (suc s) promise.reports)) attempt.ahead) holds.slot_is))
        (ahead_now attempt.ahead refl holds.ahead)

-- ---- the next slot

-- there is one where it is told
pub some_next : (members : ℕ) (calls : List ProposerCall) (slot : Option ℕ) → is_some slot ≡ true → IsNext members calls slot → (at : ℕ) × MayGoOn members calls at
some_next members calls None is next = absurd (cc)
some_next members calls (Some slot) is next = (slot, next)

pub next_some : (members : ℕ) (calls : List ProposerCall) (slot : Option ℕ) → IsNext members calls slot → (at : ℕ) → MayGoOn members calls at → is_some slot ≡ true
next_some members calls None none at may = absurd (none at may)
next_some members calls (Some slot) next at may = refl

pub nothing_next : (members : ℕ) (calls : List ProposerCall) (slot : Option ℕ) → is_some slot ≡ false → IsNext members calls slot → (at : ℕ) → MayGoOn members calls at → ⊥
nothing_next members calls None is none = none
nothing_next members calls (Some slot) is next = absurd (cc)

module _ (members : ℕ) (calls : List ProposerCall) (attempt : Attempt) (holds : Holds members calls attempt) where
  -- without its majority it does not go on
  pub may_not : (attempt.choice ≡ None → ⊥) → (slot : ℕ) → MayGoOn members calls slot → ⊥
  may_not not slot may = not (gone_where_majority members calls attempt holds (may.begun, may.since, may.open_is, may.majority))

  -- with a next slot it has its majority
  pub has_next : (slot : Option ℕ) → is_some slot ≡ true → IsNext members calls slot → attempt.choice ≡ None
  has_next None is none = absurd (cc)
  has_next (Some slot) is may = gone_where_majority members calls attempt holds (may.begun, may.since, may.open_is, may.majority)

  -- what it keeps says which slot is next
  record NextIs (slot : ℕ) (ahead : Option AheadState) : Type 0 where
    state : AheadState
    is : ahead ≡ Some state
    slot_is : slot ≡ state.next
    within : slot ≤ max_slot
    keeps : KeepsReports members holds.begun holds.since attempt.counted state

  same_open : (slot : ℕ) (may : MayGoOn members calls slot) → (may.begun ≡ holds.begun) × (may.since ≡ holds.since)
  same_open slot may = one_open calls may.begun holds.begun may.since holds.since may.open_is holds.open_is

  next_by : (slot : ℕ) → MayGoOn members calls slot → (ahead : Option AheadState) → HoldsAhead members holds.begun holds.since attempt.counted ahead → NextIs slot ahead
  next_by slot may None is =
      absurd (let no : AllFrom ≡ OneSlot = sym may.reach_is ∙ ap (λ (b : Begun). b.reach) (same_open slot may).0 ∙ is in cc)
  next_by slot may (Some state) is =
      let one : (may.begun ≡ holds.begun) × (may.since ≡ holds.since) = same_open slot may in
      record {
        state = state;
        is = refl;
        slot_is = may.slot_is ∙ ap (λ (b : Begun). next_slot b may.since) one.0 ∙ ap (next_slot holds.begun) one.1 ∙ sym is.1.next;
        within = may.within;
        keeps = is.1;
      }

  next_is : (slot : ℕ) → MayGoOn members calls slot → NextIs slot attempt.ahead
  next_is slot may = next_by slot may attempt.ahead holds.ahead

  kept_by : (ahead : Option AheadState) (state : AheadState) → ahead ≡ Some state → HoldsAhead members holds.begun holds.since attempt.counted ahead
      → (holds.begun.reach ≡ AllFrom) × KeepsReports members holds.begun holds.since attempt.counted state
  kept_by None state is holds' = absurd (cc)
  kept_by (Some other) state is holds' =
      let same : other ≡ state = cc in
      subst (λ (s : AheadState). (holds.begun.reach ≡ AllFrom) × KeepsReports members holds.begun holds.since attempt.counted s) same holds'

  pub kept : (state : AheadState) → attempt.ahead ≡ Some state → (holds.begun.reach ≡ AllFrom) × KeepsReports members holds.begun holds.since attempt.counted state
  kept state is = kept_by attempt.ahead state is holds.ahead

  module _ (gone : attempt.choice ≡ None) (state : AheadState) (is : attempt.ahead ≡ Some state) where
    abbrev pub may_go : (slot : ℕ) → slot ≡ state.next → slot ≤ max_slot → MayGoOn members calls slot
    may_go slot slot_is within = record {
      begun = holds.begun;
      since = holds.since;
      open_is = holds.open_is;
      reach_is = (kept state is).0;
      majority = held_majority members calls attempt holds gone;
      slot_is = slot_is ∙ (kept state is).1.next;
      within = within;
    }

  -- none where it keeps nothing
  pub no_next : attempt.ahead ≡ None → (slot : ℕ) → MayGoOn members calls slot → ⊥
  no_next none slot may = let it = next_is slot may in let no : None ≡ Some it.state = sym none ∙ it.is in absurd (cc)

  pub spent : (state : AheadState) → attempt.ahead ≡ Some state → max_slot < state.next → (slot : ℕ) → MayGoOn members calls slot → ⊥
  spent state is lt slot may =
      let it = next_is slot may in
      let same : it.state ≡ state = let e : Some it.state ≡ Some state = sym it.is ∙ is in cc in
      let next : it.state.next ≡ state.next = ap (λ (s : AheadState). s.next) same in
      omega (arith, lt, next, it.slot_is, it.within)

  -- ---- what it gives

  abbrev pub accept_for : ℕ × Value → ℕ × Ballot × Value
  accept_for given = (given.0, attempt.ballot, given.1)

  gives_by : (candidate : Value) (gone : attempt.choice ≡ None) (ahead : Option AheadState) (is : attempt.ahead ≡ ahead) (given : Option (ℕ × Value)) → GivesAhead candidate ahead given
      → GoesOnWith members calls candidate (option_map accept_for given)
  gives_by candidate gone None is None none = no_next is
  gives_by candidate gone None is (Some given) none = absurd (cc)
  gives_by candidate gone (Some state) is None lt = spent state is lt
  gives_by candidate gone (Some state) is (Some given) gives =
      let keeps : KeepsReports members holds.begun holds.since attempt.counted state = (kept state is).1 in
      record {
        may = may_go gone state is given.0 gives.1 (subst (λ (n : ℕ). n ≤ max_slot) (sym gives.1) gives.0);
        ballot_is = holds.ballot_is;
        value_is = subst (λ (n : ℕ). Chooses candidate (reports_of (counted_at members holds.begun n holds.since)) given.1) (sym gives.1)
            (subst (λ (l : List PromiseReport). Chooses candidate l given.1) (keeps.reports state.next (omega arith)) (gives.2 keeps.rise));
      }

  pub gives : (candidate : Value) (given : Option (ℕ × Value)) → attempt.choice ≡ None → GivesAhead candidate attempt.ahead given → GoesOnWith members calls candidate (option_map accept_for given)
  gives candidate given gone is = gives_by candidate gone attempt.ahead refl given is

  -- where memory was refused, something would have been given
  refused_by : (candidate : Value) (gone : attempt.choice ≡ None) (ahead : Option AheadState) (is : attempt.ahead ≡ ahead) → HasNext ahead → GoesOnWith members calls candidate None → ⊥
  refused_by candidate gone None is next none = next
  refused_by candidate gone (Some state) is next none = none state.next (may_go gone state is state.next refl next)

  pub refused : (candidate : Value) → attempt.choice ≡ None → HasNext attempt.ahead → GoesOnWith members calls candidate None → ⊥
  refused candidate gone next none = refused_by candidate gone attempt.ahead refl next none

  -- ---- what it keeps then

  going_idle : (candidate : Value) → Idle members holds.begun holds.since (GoesOn candidate)
  going_idle candidate = idle_by_none members calls (GoesOn candidate) attempt holds (λ slot. going_tells_none holds.begun.reach slot candidate)

  ahead_further : (candidate : Value) (given : ℕ × Value) (old new : Option AheadState) → MovesAhead old new (Some given) → HoldsAhead members holds.begun holds.since attempt.counted old
      → HoldsAhead members holds.begun (holds.since ++ GoesOn candidate ∷ []) attempt.counted new
  ahead_further candidate given None None moves was = absurd (cc)
  ahead_further candidate given None (Some new) moves was = absurd moves
  ahead_further candidate given (Some old) None moves was = absurd moves
  ahead_further candidate given (Some old) (Some new) moves was =
      (was.0, keeps_further members holds.begun holds.since candidate attempt.counted old new (going_idle candidate) moves.0 (moves.1 was.1.rise) was.1)

  pub holds_further : (candidate : Value) (given : ℕ × Value) (new : Attempt) → new.slot ≡ attempt.slot → new.ballot ≡ attempt.ballot → new.counted ≡ attempt.counted → new.choice ≡ attempt.choice
      → MovesAhead attempt.ahead new.ahead (Some given) → Holds members (calls ++ GoesOn candidate ∷ []) new
  holds_further candidate given new slot_is ballot_is counted_is choice_is moves =
      let same : answering members holds.begun (holds.since ++ GoesOn candidate ∷ []) ≡ answering members holds.begun holds.since =
      answering-none members holds.begun holds.begun.slot holds.since (GoesOn candidate) (going_tells_none holds.begun.reach holds.begun.slot candidate) in
      record {
        begun = holds.begun;
        since = holds.since ++ GoesOn candidate ∷ [];
        open_is = still_open calls holds.begun holds.since (GoesOn candidate) refl holds.open_is;
        slot_is = slot_is ∙ holds.slot_is;
        ballot_is = ballot_is ∙ holds.ballot_is;
        counts = rw same (record {
          senders = λ node lt. ap (λ (s : NodeSet). contains s node) counted_is ∙ holds.counts.senders node lt;
          choice = rw choice_is holds.counts.choice;
        });
        ahead = rw counted_is (ahead_further candidate given attempt.ahead new.ahead moves holds.ahead);
      }

  -- ---- what is reported ahead

  some_ahead : (state : AheadState) → attempt.ahead ≡ Some state → attempt.choice ≡ None → state.next ≤ max_slot → HasSome state.kept → HasReportAhead members calls
  some_ahead state is gone within some =
      let keeps : KeepsReports members holds.begun holds.since attempt.counted state = (kept state is).1 in
      let said = some_said state.next state.kept keeps.rise some in
      record {
        next = state.next;
        may = may_go gone state is state.next refl within;
        slot = said.0;
        from_next = said.2;
        report = said.1;
        reported = subst (λ (l : List PromiseReport). Contains l said.1) (keeps.reports said.0 said.2) said.3;
      }

  ahead_some : (report : HasReportAhead members calls) → (it : NextIs report.next attempt.ahead) → HasSome it.state.kept
  ahead_some report it =
      let one : (report.may.begun ≡ holds.begun) × (report.may.since ≡ holds.since) = same_open report.next report.may in
      let there : Contains (reports_of (counted_at members holds.begun report.slot holds.since)) report.report =
      subst (λ (b : Begun). Contains (reports_of (counted_at members b report.slot holds.since)) report.report) one.0
      (subst (λ (s : List ProposerCall). Contains (reports_of (counted_at members report.may.begun report.slot s)) report.report) one.1 report.reported) in
      said_some report.slot it.state.kept report.report
      (subst (λ (l : List PromiseReport). Contains l report.report) (sym (it.keeps.reports report.slot (subst (λ (n : ℕ). n ≤ report.slot) it.slot_is report.from_next))) there)

  has_some : (ahead : Option AheadState) (state : AheadState) → ahead ≡ Some state → HasSome state.kept → HasSomeAhead ahead
  has_some None state is some = absurd (cc)
  has_some (Some other) state is some = let same : state ≡ other = let e : Some other ≡ Some state = is in cc in subst (λ (s : AheadState). HasSome s.kept) same some

  pub ahead_then : HasReportAhead members calls → HasSomeAhead attempt.ahead
  ahead_then report = let it = next_is report.next report.may in has_some attempt.ahead it.state it.is (ahead_some report it)

  reported_by : (slot : ℕ) → MayGoOn members calls slot → attempt.choice ≡ None → (ahead : Option AheadState) → attempt.ahead ≡ ahead → HasSomeAhead ahead → HasReportAhead members calls
  reported_by slot may gone None is some = absurd some
  reported_by slot may gone (Some state) is some =
      let it = next_is slot may in
      let same : it.state ≡ state = let e : Some it.state ≡ Some state = sym it.is ∙ is in cc in
      some_ahead state is gone (subst (λ (s : AheadState). s.next ≤ max_slot) same (subst (λ (n : ℕ). n ≤ max_slot) it.slot_is it.within)) some

  pub then_ahead : (slot : ℕ) → MayGoOn members calls slot → HasSomeAhead attempt.ahead → HasReportAhead members calls
  then_ahead slot may some = reported_by slot may (gone_where_majority members calls attempt holds (may.begun, may.since, may.open_is, may.majority)) attempt.ahead refl some

  -- which slot is next
  pub next_of : attempt.choice ≡ None → (state : AheadState) → attempt.ahead ≡ Some state → (slot : Option ℕ) → (IsSome slot ↔ (state.next ≤ max_slot)) → IfSome slot (λ s. s ≡ state.next) → IsNext members calls slot
  next_of gone state is None within value = λ slot may.
      let it = next_is slot may in
      let same : it.state ≡ state = let e : Some it.state ≡ Some state = sym it.is ∙ is in cc in
      let no : false ≡ true = within.1 (subst (λ (s : AheadState). s.next ≤ max_slot) same (subst (λ (n : ℕ). n ≤ max_slot) it.slot_is it.within)) in
      absurd (cc)
  next_of gone state is (Some slot) within value = may_go gone state is slot value (subst (λ (n : ℕ). n ≤ max_slot) (sym value) (within.0 refl))
