-- What an attempt keeps of the slots behind its first, call by call.
use Rattle.std.proofs.Common.{◌≡◌, ℕ, suc, ◌+◌, ◌<◌, ◌≤◌, ◌==◌, ◌||◌, ◌&&◌, eqb, nat_lt, Bool, true, false, cond, List, [], ◌∷◌, ◌++◌, map, length, filter, filter_map, option_to_list, append-nil, Option, Some, None, refl, sym, ap, ◌∙◌, arith, length-append}
use Rattle.std.specs.List.{cons_option}
use Rattle.std.proofs.lemmas.List.{length-map}
use Rattle.std.proofs.lemmas.List.Elements.{filter-append, filter_map-append}
use Rattle.ballots.specs.Ballot.{Ballot, is_same_ballot}
use Rattle.ballots.specs.Majority.{NodeSet, contains}
use Rattle.ballots.specs.declared.acceptance.Acceptance.{Acceptance}
use Rattle.ballots.specs.declared.value.Value.{Value}
use Rattle.ballots.proofs.CallerLemmas.{tally_with, tally_same, tally_none}
use Rattle.proposer.specs.Call.{Reach, OneSlot, AllFrom, Begun, Promise, PromiseFrom, ProposerCall, Begins, Promises, PromisesFrom, GoesOn, Nacks}
use Rattle.proposer.specs.Choosing.{PromiseReport, is_from, is_sender, first_of_each, reports_of}
use Rattle.proposer.specs.Reporting.{report_of, rises_from, said_of, promise_in}
use Rattle.proposer.specs.Attempting.{is_for, answering_at, counted_at}
use Rattle.proposer.specs.GoingOn.{goes_further, next_slot}
use Rattle.proposer.specs.Kept.{AheadState, from_slot, reported_at, RiseFrom, with_reports}
use Rattle.proposer.specs.Counting.{KeepsReports, HoldsAhead}
use Rattle.proposer.proofs.Lists.{all-append}
use Rattle.proposer.proofs.Counting.{first_of_each-again, reports-new}
use Rattle.proposer.proofs.Rising.{from_rises, from_says}

-- ---- senders, whatever the slot

-- what is said of two slots is by one sender, of one first slot and ballot
abbrev Alike : Option Promise → Option Promise → Type 0
Alike None None = Unit {0}
Alike (Some p) (Some q) = (p.sender ≡ q.sender) × (p.slot ≡ q.slot) × (p.ballot ≡ q.ballot)
Alike None (Some q) = ⊥
Alike (Some p) None = ⊥

said_alike : (promise : PromiseFrom) (slot other : ℕ) (rises : Bool) → Alike (cond rises (Some (said_of slot promise)) None) (cond rises (Some (said_of other promise)) None)
said_alike promise slot other true = (refl, refl, refl)
said_alike promise slot other false = tt

alike : (reach : Reach) (slot other : ℕ) (call : ProposerCall) → Alike (promise_in reach slot call) (promise_in reach other call)
alike OneSlot slot other (Begins begun) = tt
alike OneSlot slot other (Promises promise) = (refl, refl, refl)
alike OneSlot slot other (PromisesFrom promise) = tt
alike OneSlot slot other (GoesOn candidate) = tt
alike OneSlot slot other (Nacks first ballot) = tt
alike AllFrom slot other (Begins begun) = tt
alike AllFrom slot other (Promises promise) = tt
alike AllFrom slot other (PromisesFrom promise) = said_alike promise slot other (rises_from promise.slot promise.reports)
alike AllFrom slot other (GoesOn candidate) = tt
alike AllFrom slot other (Nacks first ballot) = tt

one_sender : (node : ℕ) (p q : Promise) (ps qs : List Promise) (is_in : Bool) → p.sender ≡ q.sender → is_sender ps node ≡ is_sender qs node
    → is_sender (cond is_in (p ∷ ps) ps) node ≡ is_sender (cond is_in (q ∷ qs) qs) node
one_sender node p q ps qs true own same = ap (λ (s : ℕ). s == node || is_sender ps node) own ∙ ap (λ (b : Bool). is_from node q || b) same
one_sender node p q ps qs false own same = same

for_alike : (members : ℕ) (begun : Begun) (p q : Promise) → Alike (Some p) (Some q) → is_for members begun p ≡ is_for members begun q
for_alike members begun p q same =
    ap (λ (s : ℕ). nat_lt s members && (p.slot == begun.slot && is_same_ballot p.ballot begun.ballot)) same.0
    ∙ ap (λ (s : ℕ). nat_lt q.sender members && (s == begun.slot && is_same_ballot p.ballot begun.ballot)) same.1
    ∙ ap (λ (b : Ballot). nat_lt q.sender members && (q.slot == begun.slot && is_same_ballot b begun.ballot)) same.2

senders_step : (members : ℕ) (begun : Begun) (node : ℕ) (o o' : Option Promise) (ps qs : List Promise) → Alike o o'
    → is_sender (filter (is_for members begun) ps) node ≡ is_sender (filter (is_for members begun) qs) node
    → is_sender (filter (is_for members begun) (cons_option o ps)) node ≡ is_sender (filter (is_for members begun) (cons_option o' qs)) node
senders_step members begun node None None ps qs are same = same
senders_step members begun node None (Some q) ps qs are same = absurd are
senders_step members begun node (Some p) None ps qs are same = absurd are
senders_step members begun node (Some p) (Some q) ps qs are same =
    one_sender node p q (filter (is_for members begun) ps) (filter (is_for members begun) qs) (is_for members begun p) are.0 same
    ∙ ap (λ (b : Bool). is_sender (cond b (q ∷ filter (is_for members begun) qs) (filter (is_for members begun) qs)) node) (for_alike members begun p q are)

pub senders_alike : (members : ℕ) (begun : Begun) (slot other : ℕ) (since : List ProposerCall) (node : ℕ) → is_sender (answering_at members begun slot since) node ≡ is_sender (answering_at members begun other since) node
senders_alike members begun slot other [] node = refl
senders_alike members begun slot other (call ∷ since) node =
    senders_step members begun node (promise_in begun.reach slot call) (promise_in begun.reach other call) (filter_map (promise_in begun.reach slot) since) (filter_map (promise_in begun.reach other) since)
    (alike begun.reach slot other call) (senders_alike members begun slot other since node)

-- ---- a call of which nothing is counted

-- of each slot, it promises nothing to the attempt, or its sender is counted
pub data Idle (members : ℕ) (begun : Begun) (since : List ProposerCall) (call : ProposerCall) : Type 0 where
  elsewhere : ((slot : ℕ) → answering_at members begun slot (since ++ call ∷ []) ≡ answering_at members begun slot since) → Idle members begun since call
  twice : (promise : ℕ → Promise) → ((slot : ℕ) → answering_at members begun slot (since ++ call ∷ []) ≡ answering_at members begun slot since ++ promise slot ∷ [])
      → ((slot : ℕ) → is_sender (answering_at members begun slot since) (promise slot).sender ≡ true) → Idle members begun since call

counted_idle : (members : ℕ) (begun : Begun) (since : List ProposerCall) (call : ProposerCall) → Idle members begun since call → (slot : ℕ) → counted_at members begun slot (since ++ call ∷ []) ≡ counted_at members begun slot since
counted_idle members begun since call (elsewhere e) slot = ap first_of_each (e slot)
counted_idle members begun since call (twice promise e sent) slot = ap first_of_each (e slot) ∙ first_of_each-again (answering_at members begun slot since) (promise slot) (sent slot)

pub next-push : (begun : Begun) (since : List ProposerCall) (call : ProposerCall) → goes_further call ≡ false → next_slot begun (since ++ call ∷ []) ≡ next_slot begun since
next-push begun since call not = rw (filter-append goes_further since (call ∷ []), not, append-nil (filter goes_further since)) refl

module _ (members : ℕ) (begun : Begun) (since : List ProposerCall) (call : ProposerCall) (counted : NodeSet) where
  keeps_idle : (ahead : AheadState) → Idle members begun since call → goes_further call ≡ false → KeepsReports members begun since counted ahead → KeepsReports members begun (since ++ call ∷ []) counted ahead
  keeps_idle ahead idle not keeps = record {
    next = keeps.next ∙ sym (next-push begun since call not);
    reports = λ slot le. keeps.reports slot le ∙ ap reports_of (sym (counted_idle members begun since call idle slot));
    rise = keeps.rise;
    size = keeps.size;
  }

  pub ahead_idle : (ahead : Option AheadState) → Idle members begun since call → goes_further call ≡ false → HoldsAhead members begun since counted ahead → HoldsAhead members begun (since ++ call ∷ []) counted ahead
  ahead_idle None idle not is = is
  ahead_idle (Some ahead) idle not is = (is.0, keeps_idle ahead idle not is.1)

-- ---- at its begin

pub keeps_nothing : (members slot : ℕ) (begun : Begun) (counted : NodeSet) (ahead : AheadState) → ((node : ℕ) → contains counted node ≡ false) → begun.slot ≡ slot
    → ahead.next ≡ suc slot → ahead.kept ≡ [] → KeepsReports members begun [] counted ahead
keeps_nothing members slot begun counted ahead nobody slot_is next none = record {
  next = next ∙ omega (arith, slot_is);
  reports = λ at le. rw none refl;
  rise = rw none tt;
  size = rw none (sym (tally_same members (contains counted) (λ node. false) (λ node lt. nobody node) ∙ tally_none members));
}

-- ---- one promise more

module _ (members : ℕ) (begun : Begun) (since : List ProposerCall) (promise : PromiseFrom) (counted now : NodeSet) (ahead : AheadState)
    (keeps : KeepsReports members begun since counted ahead)
    (pushed : (slot : ℕ) → answering_at members begun slot (since ++ PromisesFrom promise ∷ []) ≡ answering_at members begun slot since ++ said_of slot promise ∷ [])
    (is_sent : (node : ℕ) → node < members → contains counted node ≡ is_sender (answering_at members begun begun.slot since) node)
    (member : promise.sender < members) (not_counted : contains counted promise.sender ≡ false)
    (with_sender : (node : ℕ) → contains now node ≡ (contains counted node || (promise.sender == node)))
    (rises : rises_from begun.slot promise.reports ≡ true) where
  abbrev pub left : List (ℕ × Acceptance)
  left = from_slot (suc begun.slot) promise.reports

  not_sent : (slot : ℕ) → is_sender (answering_at members begun slot since) promise.sender ≡ false
  not_sent slot = senders_alike members begun slot begun.slot since promise.sender ∙ sym (is_sent promise.sender member) ∙ not_counted

  above_first : (slot : ℕ) → ahead.next ≤ slot → suc begun.slot ≤ slot
  above_first slot le = omega (arith, le, keeps.next)

  of_last : (slot : ℕ) → ahead.next ≤ slot → report_of slot (from_slot ahead.next left) ≡ report_of slot promise.reports
  of_last slot le = from_says ahead.next slot left le ∙ from_says (suc begun.slot) slot promise.reports (above_first slot le)

  one_list : (slot : ℕ) (reports : List (ℕ × Acceptance)) → reported_at slot (reports ∷ []) ≡ option_to_list (report_of slot reports)
  one_list slot reports = elim (report_of slot reports) as (λ o. cons_option o [] ≡ option_to_list o) [ None ↦ refl | Some report ↦ refl ]

  reports_now : (slot : ℕ) → ahead.next ≤ slot → reported_at slot (ahead.kept ++ from_slot ahead.next left ∷ []) ≡ reports_of (counted_at members begun slot (since ++ PromisesFrom promise ∷ []))
  reports_now slot le =
      filter_map-append (report_of slot) ahead.kept (from_slot ahead.next left ∷ [])
      ∙ ap (λ (l : List PromiseReport). reported_at slot ahead.kept ++ l) (one_list slot (from_slot ahead.next left) ∙ ap option_to_list (of_last slot le))
      ∙ ap (λ (l : List PromiseReport). l ++ option_to_list (report_of slot promise.reports)) (keeps.reports slot le)
      ∙ sym (ap (λ (l : List Promise). reports_of (first_of_each l)) (pushed slot) ∙ reports-new (answering_at members begun slot since) (said_of slot promise) (not_sent slot))

  pub keeps_taken : KeepsReports members begun (since ++ PromisesFrom promise ∷ []) now (with_reports left ahead)
  keeps_taken = record {
    next = keeps.next ∙ sym (next-push begun since (PromisesFrom promise) refl);
    reports = reports_now;
    rise = all-append (λ reports. rises_from ahead.next reports ≡ true) ahead.kept (from_slot ahead.next left ∷ []) keeps.rise
        (from_rises (suc begun.slot) ahead.next left (from_rises begun.slot (suc begun.slot) promise.reports rises), tt);
    size = length-append ahead.kept (from_slot ahead.next left ∷ []) ∙ plus_one (length ahead.kept) ∙ ap suc keeps.size
        ∙ sym (tally_same members (contains now) (λ node. contains counted node || eqb promise.sender node) (λ node lt. with_sender node) ∙ tally_with members promise.sender (contains counted) member not_counted);
  }
    where
      plus_one : (n : ℕ) → n + 1 ≡ suc n
      plus_one n = omega arith

-- ---- one slot further

pub next-further : (begun : Begun) (since : List ProposerCall) (candidate : Value) → next_slot begun (since ++ GoesOn candidate ∷ []) ≡ suc (next_slot begun since)
next-further begun since candidate =
    let more : length (filter goes_further since ++ GoesOn candidate ∷ []) ≡ length (filter goes_further since) + 1 = length-append (filter goes_further since) (GoesOn candidate ∷ []) in
    rw (filter-append goes_further since (GoesOn candidate ∷ [])) (omega (arith, more))

said_still : (slot least : ℕ) (kept : List (List (ℕ × Acceptance))) → least ≤ slot → reported_at slot (map (from_slot least) kept) ≡ reported_at slot kept
said_still slot least [] le = refl
said_still slot least (reports ∷ kept) le =
    ap (λ (o : Option PromiseReport). cons_option o (reported_at slot (map (from_slot least) kept))) (from_says least slot reports le)
    ∙ ap (cons_option (report_of slot reports)) (said_still slot least kept le)

rise_still : (slot least : ℕ) (kept : List (List (ℕ × Acceptance))) → RiseFrom slot kept → RiseFrom least (map (from_slot least) kept)
rise_still slot least [] rise = tt
rise_still slot least (reports ∷ kept) rise = (from_rises slot least reports rise.0, rise_still slot least kept rise.1)

pub keeps_further : (members : ℕ) (begun : Begun) (since : List ProposerCall) (candidate : Value) (counted : NodeSet) (old new : AheadState) → Idle members begun since (GoesOn candidate)
    → new.next ≡ suc old.next → new.kept ≡ map (from_slot (suc old.next)) old.kept
    → KeepsReports members begun since counted old → KeepsReports members begun (since ++ GoesOn candidate ∷ []) counted new
keeps_further members begun since candidate counted old new idle next kept keeps = record {
  next = next ∙ ap suc keeps.next ∙ sym (next-further begun since candidate);
  reports = λ slot le.
      let above : suc old.next ≤ slot = omega (arith, le, next) in
      ap (reported_at slot) kept ∙ said_still slot (suc old.next) old.kept above ∙ keeps.reports slot (omega (arith, above))
      ∙ ap reports_of (sym (counted_idle members begun since (GoesOn candidate) idle slot));
  rise = rw (next, kept) (rise_still old.next (suc old.next) old.kept keeps.rise);
  size = ap length kept ∙ length-map old.kept (from_slot (suc old.next)) ∙ keeps.size;
}
