-- Records by their kind: what is read is meant, what is meant is read, and each fault stands.
use Rattle.std.proofs.Common.{◌≡◌, ◌≢◌, ℕ, true, cond, eqb, Option, Some, Result, Ok, Err, refl, sym, ap, subst, ◌∙◌, arith, inl, inr}
use Rattle.std.proofs.lemmas.Bool.{eqb-true, eqb-false, cases_lt}
use Rattle.proto_fields.specs.Reading.{◌>>=◌}
use Rattle.proto_fields.proofs.Steps.{bind_ok, bind_err, chosen, ok_is, err_is, not_ok, not_err}
use Rattle.ballots.specs.declared.slot.TheConstants.{MAX_SLOT}
use Rattle.ballots.specs.declared.record.numbers.TheConstants.{BEGAN, PROMISED, ACCEPTED, PROMISED_FROM}
use Rattle.ballots.specs.declared.record.Record.{Record}
use Rattle.ballots.specs.declared.record.Record.TheVariants.{Began, Promised, Accepted, PromisedFrom}
use Rattle.ballots.specs.declared.fault.MessageFault.{MessageFault}
use Rattle.ballots.specs.declared.fault.MessageFault.TheVariants.{BadKind}
use Rattle.ballots.specs.MessageReading.{known, within, ballot_at, acceptance_at}
use Rattle.ballots.specs.Record.{RecordParts, MeansSlot, MeansRecord, RecordBodyFault, in_began, in_promised, in_accepted, in_promised_from, RecordPartsFault, IsUnknownRecordKind}
use Rattle.ballots.specs.RecordReading.{began_at, promised_at, accepted_at, promised_from_at, kept_at, record_at}
use Rattle.ballots.proofs.Numbers.{within_takes, within_again, within_faults, ballot_takes, ballot_again, ballot_faults, acceptance_takes, acceptance_again, acceptance_faults, known_takes, known_faults}

abbrev Read : Type 0
Read = Result Record MessageFault

-- ---- what is read for each kind

abbrev then_acceptance : ℕ → RecordParts → Read
then_acceptance slot p = acceptance_at p.round p.node p.value >>= λ a. Ok (Accepted slot a)

abbrev then_promise : ℕ → RecordParts → Read
then_promise slot p = ballot_at p.round p.node >>= λ b. Ok (Promised slot b)

abbrev then_promise_from : ℕ → RecordParts → Read
then_promise_from first p = ballot_at p.round p.node >>= λ b. Ok (PromisedFrom first b)

abbrev from_promised_from : ℕ → RecordParts → Read
from_promised_from kind p = cond (eqb kind PROMISED_FROM) (promised_from_at p) (Err BadKind)

abbrev from_accepted : ℕ → RecordParts → Read
from_accepted kind p = cond (eqb kind ACCEPTED) (accepted_at p) (from_promised_from kind p)

abbrev from_promised : ℕ → RecordParts → Read
from_promised kind p = cond (eqb kind PROMISED) (promised_at p) (from_accepted kind p)

abbrev from_began : ℕ → RecordParts → Read
from_began kind p = cond (eqb kind BEGAN) (began_at p) (from_promised kind p)

-- ---- what is read is meant

slot_means : (number : Option ℕ) (slot : ℕ) → within MAX_SLOT number ≡ Ok slot → MeansSlot number slot
slot_means number slot e = let w = within_takes MAX_SLOT number slot e in record { slot_is = w.0; within = w.1 }

takes_began : (p : RecordParts) (r : Record) → p.kind ≡ Some BEGAN → began_at p ≡ Ok r → MeansRecord p r
takes_began p r kind e =
    let b = bind_ok (ballot_at p.round p.node) (λ b. Ok (Began b)) r e in
    subst (MeansRecord p) (ok_is (Began b.0) r b.2) (kind, ballot_takes _ _ b.0 b.1)

takes_promised : (p : RecordParts) (r : Record) → p.kind ≡ Some PROMISED → promised_at p ≡ Ok r → MeansRecord p r
takes_promised p r kind e =
    let s = bind_ok (within MAX_SLOT p.slot) (λ s. then_promise s p) r e in
    let b = bind_ok (ballot_at p.round p.node) (λ b. Ok (Promised s.0 b)) r s.2 in
    subst (MeansRecord p) (ok_is (Promised s.0 b.0) r b.2) (kind, slot_means p.slot s.0 s.1, ballot_takes _ _ b.0 b.1)

takes_accepted : (p : RecordParts) (r : Record) → p.kind ≡ Some ACCEPTED → accepted_at p ≡ Ok r → MeansRecord p r
takes_accepted p r kind e =
    let s = bind_ok (within MAX_SLOT p.slot) (λ s. then_acceptance s p) r e in
    let a = bind_ok (acceptance_at p.round p.node p.value) (λ a. Ok (Accepted s.0 a)) r s.2 in
    subst (MeansRecord p) (ok_is (Accepted s.0 a.0) r a.2) (kind, slot_means p.slot s.0 s.1, acceptance_takes _ _ _ a.0 a.1)

takes_promised_from : (p : RecordParts) (r : Record) → p.kind ≡ Some PROMISED_FROM → promised_from_at p ≡ Ok r → MeansRecord p r
takes_promised_from p r kind e =
    let s = bind_ok (within MAX_SLOT p.slot) (λ s. then_promise_from s p) r e in
    let b = bind_ok (ballot_at p.round p.node) (λ b. Ok (PromisedFrom s.0 b)) r s.2 in
    subst (MeansRecord p) (ok_is (PromisedFrom s.0 b.0) r b.2) (kind, slot_means p.slot s.0 s.1, ballot_takes _ _ b.0 b.1)

is_kind : (p : RecordParts) (kind other : ℕ) → eqb kind other ≡ true → p.kind ≡ Some kind → p.kind ≡ Some other
is_kind p kind other e is = is ∙ ap Some (eqb-true _ _ e)

kept_takes : (kind : ℕ) (p : RecordParts) (r : Record) → p.kind ≡ Some kind → from_began kind p ≡ Ok r → MeansRecord p r
kept_takes kind p r is e =
    elim (chosen (eqb kind BEGAN) (began_at p) (from_promised kind p) (Ok r) e) [
      | inl h ↦ takes_began p r (is_kind p kind BEGAN h.0 is) h.1
      | inr h ↦
          elim (chosen (eqb kind PROMISED) (promised_at p) (from_accepted kind p) (Ok r) h.1) [
            | inl i ↦ takes_promised p r (is_kind p kind PROMISED i.0 is) i.1
            | inr i ↦
                elim (chosen (eqb kind ACCEPTED) (accepted_at p) (from_promised_from kind p) (Ok r) i.1) [
                  | inl j ↦ takes_accepted p r (is_kind p kind ACCEPTED j.0 is) j.1
                  | inr j ↦
                      elim (chosen (eqb kind PROMISED_FROM) (promised_from_at p) (Err BadKind) (Ok r) j.1) [
                        | inl k ↦ takes_promised_from p r (is_kind p kind PROMISED_FROM k.0 is) k.1
                        | inr k ↦ not_err r BadKind k.1
                      ]
                ]
          ]
    ]

pub record_takes : (p : RecordParts) (r : Record) → record_at p ≡ Ok r → MeansRecord p r
unfolding record_at kept_at
record_takes p r e =
    let kind = bind_ok (known p.kind) (λ kind. from_began kind p) r e in
    kept_takes kind.0 p r (known_takes p.kind kind.0 kind.1) kind.2

-- ---- what is meant is read

kind_again : (p : RecordParts) (kind : ℕ) → p.kind ≡ Some kind → record_at p ≡ from_began kind p
unfolding record_at kept_at known
kind_again p kind is = rw is refl

slot_again : (number : Option ℕ) (slot : ℕ) → MeansSlot number slot → within MAX_SLOT number ≡ Ok slot
slot_again number slot h = ap (within MAX_SLOT) h.slot_is ∙ within_again MAX_SLOT slot h.within

pub record_again : (p : RecordParts) (r : Record) → MeansRecord p r → record_at p ≡ Ok r
record_again p (Began b) h = kind_again p BEGAN h.0 ∙ rw (ballot_again _ _ b h.1) refl
record_again p (Promised s b) h = kind_again p PROMISED h.0 ∙ rw (slot_again p.slot s h.1, ballot_again _ _ b h.2) refl
record_again p (Accepted s a) h = kind_again p ACCEPTED h.0 ∙ rw (slot_again p.slot s h.1, acceptance_again _ _ _ a h.2) refl
record_again p (PromisedFrom s b) h = kind_again p PROMISED_FROM h.0 ∙ rw (slot_again p.slot s h.1, ballot_again _ _ b h.2) refl

-- ---- each fault stands

faults_began : (p : RecordParts) (fault : MessageFault) → p.kind ≡ Some BEGAN → began_at p ≡ Err fault → RecordBodyFault p fault
faults_began p fault kind e =
    elim (bind_err {B = Record} (ballot_at p.round p.node) (λ b. Ok (Began b)) fault e) [
      | inl h ↦ in_began kind (ballot_faults _ _ fault h)
      | inr b ↦ not_ok _ _ b.2
    ]

faults_promised : (p : RecordParts) (fault : MessageFault) → p.kind ≡ Some PROMISED → promised_at p ≡ Err fault → RecordBodyFault p fault
faults_promised p fault kind e =
    elim (bind_err {B = Record} (within MAX_SLOT p.slot) (λ s. then_promise s p) fault e) [
      | inl h ↦ in_promised kind (inl (within_faults MAX_SLOT p.slot fault h))
      | inr s ↦
          elim (bind_err {B = Record} (ballot_at p.round p.node) (λ b. Ok (Promised s.0 b)) fault s.2) [
            | inl h ↦ in_promised kind (inr (ballot_faults _ _ fault h))
            | inr b ↦ not_ok _ _ b.2
          ]
    ]

faults_accepted : (p : RecordParts) (fault : MessageFault) → p.kind ≡ Some ACCEPTED → accepted_at p ≡ Err fault → RecordBodyFault p fault
faults_accepted p fault kind e =
    elim (bind_err {B = Record} (within MAX_SLOT p.slot) (λ s. then_acceptance s p) fault e) [
      | inl h ↦ in_accepted kind (inl (within_faults MAX_SLOT p.slot fault h))
      | inr s ↦
          elim (bind_err {B = Record} (acceptance_at p.round p.node p.value) (λ a. Ok (Accepted s.0 a)) fault s.2) [
            | inl h ↦ in_accepted kind (inr (acceptance_faults _ _ _ fault h))
            | inr a ↦ not_ok _ _ a.2
          ]
    ]

faults_promised_from : (p : RecordParts) (fault : MessageFault) → p.kind ≡ Some PROMISED_FROM → promised_from_at p ≡ Err fault → RecordBodyFault p fault
faults_promised_from p fault kind e =
    elim (bind_err {B = Record} (within MAX_SLOT p.slot) (λ s. then_promise_from s p) fault e) [
      | inl h ↦ in_promised_from kind (inl (within_faults MAX_SLOT p.slot fault h))
      | inr s ↦
          elim (bind_err {B = Record} (ballot_at p.round p.node) (λ b. Ok (PromisedFrom s.0 b)) fault s.2) [
            | inl h ↦ in_promised_from kind (inr (ballot_faults _ _ fault h))
            | inr b ↦ not_ok _ _ b.2
          ]
    ]

-- a kind that is none of the four
no_kind : (p : RecordParts) (kind : ℕ) → p.kind ≡ Some kind → kind ≢ BEGAN → kind ≢ PROMISED → kind ≢ ACCEPTED → kind ≢ PROMISED_FROM
    → IsUnknownRecordKind p
no_kind p kind is a b c d =
    record {
      kind = kind;
      is = is;
      unknown = elim (cases_lt kind BEGAN) [ inl lt ↦ inl lt | inr le ↦ inr (omega arith) ];
    }

kept_faults : (kind : ℕ) (p : RecordParts) (fault : MessageFault) → p.kind ≡ Some kind → from_began kind p ≡ Err fault → RecordPartsFault p fault
kept_faults kind p fault is e =
    elim (chosen (eqb kind BEGAN) (began_at p) (from_promised kind p) (Err fault) e) [
      | inl h ↦ inr (inr (faults_began p fault (is_kind p kind BEGAN h.0 is) h.1))
      | inr h ↦
          elim (chosen (eqb kind PROMISED) (promised_at p) (from_accepted kind p) (Err fault) h.1) [
            | inl i ↦ inr (inr (faults_promised p fault (is_kind p kind PROMISED i.0 is) i.1))
            | inr i ↦
                elim (chosen (eqb kind ACCEPTED) (accepted_at p) (from_promised_from kind p) (Err fault) i.1) [
                  | inl j ↦ inr (inr (faults_accepted p fault (is_kind p kind ACCEPTED j.0 is) j.1))
                  | inr j ↦
                      elim (chosen (eqb kind PROMISED_FROM) (promised_from_at p) (Err BadKind) (Err fault) j.1) [
                        | inl k ↦ inr (inr (faults_promised_from p fault (is_kind p kind PROMISED_FROM k.0 is) k.1))
                        | inr k ↦ inr (inl (
                          sym (err_is BadKind fault k.1),
                          no_kind p kind is (eqb-false _ _ h.0) (eqb-false _ _ i.0) (eqb-false _ _ j.0) (eqb-false _ _ k.0),
                        ))
                      ]
                ]
          ]
    ]

pub record_faults : (p : RecordParts) (fault : MessageFault) → record_at p ≡ Err fault → RecordPartsFault p fault
unfolding record_at kept_at
record_faults p fault e =
    elim (bind_err {B = Record} (known p.kind) (λ kind. from_began kind p) fault e) [
      | inl h ↦ let k = known_faults p.kind fault h in inl (sym k.0, k.1)
      | inr kind ↦ kept_faults kind.0 p fault (known_takes p.kind kind.0 kind.1) kind.2
    ]
