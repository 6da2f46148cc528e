-- The one encoding of a message means it.
use Rattle.std.proofs.Common.{◌≡◌, ℕ, ◌^◌, ◌<◌, ◌≤◌, Bool, true, false, cond, List, [], ◌∷◌, ◌++◌, length, Option, Some, None, refl, sym, subst, arith}
use Rattle.std.specs.Prelude.{not, filter, ◌&&◌, nat_le}
use Rattle.std.specs.List.{AllByRecursion}
use Rattle.std.proofs.lemmas.Bool.{leb-true}
use Rattle.proto_fields.specs.declared.field.TheConstants.{MAX_FIELD_NUMBER}
use Rattle.proto_fields.specs.Field.{Held, Field, FitsField, is_default, present}
use Rattle.proto_fields.specs.Meaning.{number_in, bytes_in, all_hold, things_of, number_meant, bytes_meant}
use Rattle.proto_fields.proofs.Texts.{fields_text-encodes}
use Rattle.proto_fields.proofs.Meanings.{number_meant-present, bytes_meant-present}
use Rattle.ballots.specs.declared.node.TheConstants.{MAX_NODE}
use Rattle.ballots.specs.declared.slot.TheConstants.{MAX_SLOT}
use Rattle.ballots.specs.declared.message.numbers.TheConstants.{KIND, SENDER, SLOT, ROUND, NODE, SECOND_ROUND, SECOND_NODE, VALUE, DECIDED}
use Rattle.ballots.specs.declared.value.Value.{Value}
use Rattle.ballots.specs.declared.value.Value.TheVariants.{Noop, Upload}
use Rattle.ballots.specs.declared.message.Message.{Message}
use Rattle.ballots.specs.declared.acceptance.Acceptance.{Acceptance}
use Rattle.ballots.specs.declared.message.Body.{Body}
use Rattle.ballots.specs.declared.message.Body.TheVariants.{Prepare, Promise, Nack, Accept, Accepted, Ask, Decided}
use Rattle.ballots.specs.Ballot.{Ballot, IsBallot}
use Rattle.ballots.specs.Message.{message, kind_of, Parts, parts_of, MeansHead, MeansBody, Means, IsReportInRange, IsBodyInRange, IsInRange, IsValue, IsMessageText, value_bytes, number_field, head_fields, ballot_fields, second_fields, value_fields, report_fields, body_fields, all_fields, canonical}

-- ---- each field has an encoding

pub number_fits : (number n : ℕ) → (0 < number) × (number ≤ MAX_FIELD_NUMBER) → n < 2 ^ 64 → FitsField (number_field number n)
number_fits number n is lt = record { number = is; held = lt }

pub all_fit-append : (xs ys : List Field) → AllByRecursion FitsField xs → AllByRecursion FitsField ys → AllByRecursion FitsField (xs ++ ys)
all_fit-append [] ys a b = b
all_fit-append (x ∷ xs) ys a b = (a.0, all_fit-append xs ys a.1 b)

pub all_fit-filter : (p : Field → Bool) (xs : List Field) → AllByRecursion FitsField xs → AllByRecursion FitsField (filter p xs)
all_fit-filter p [] a = tt
all_fit-filter p (x ∷ xs) a =
    elim (p x) as (λ b. AllByRecursion FitsField (cond b (x ∷ filter p xs) (filter p xs))) [
      | true ↦ (a.0, all_fit-filter p xs a.1)
      | false ↦ all_fit-filter p xs a.1
    ]

head_fits : (kind sender slot : ℕ) → kind ≤ DECIDED → sender ≤ MAX_NODE → slot ≤ MAX_SLOT → AllByRecursion FitsField (head_fields kind sender slot)
head_fits kind sender slot a b c =
    (number_fits KIND kind (omega arith, omega arith) (omega arith), (number_fits SENDER sender (omega arith, omega arith) (omega arith), (number_fits SLOT slot (omega arith, omega arith) (omega arith), tt)))

ballot_fits : (b : Ballot) → IsBallot b → AllByRecursion FitsField (ballot_fields b)
ballot_fits b is =
    (number_fits ROUND b.round (omega arith, omega arith) (omega (arith, is.round)), (number_fits NODE b.node (omega arith, omega arith) (omega (arith, is.node)), tt))

second_fits : (b : Ballot) → IsBallot b → AllByRecursion FitsField (second_fields b)
second_fits b is =
    (number_fits SECOND_ROUND b.round (omega arith, omega arith) (omega (arith, is.round)), (number_fits SECOND_NODE b.node (omega arith, omega arith) (omega (arith, is.node)), tt))

pub value_is_short : (v : Value) → IsValue v → length (value_bytes v) < 2 ^ 64
value_is_short Noop is = omega arith
value_is_short (Upload bytes) is = omega (arith, is.within)

value_fits : (v : Value) → IsValue v → AllByRecursion FitsField (value_fields v)
value_fits v is = (record { number = (omega arith, omega arith); held = value_is_short v is }, tt)

-- behind a ballot, and behind a second one
after_ballot : (b : Ballot) (fields : List Field) → IsBallot b → AllByRecursion FitsField fields → AllByRecursion FitsField (ballot_fields b ++ fields)
after_ballot b fields is rest = all_fit-append (ballot_fields b) fields (ballot_fits b is) rest

after_second : (b : Ballot) (fields : List Field) → IsBallot b → AllByRecursion FitsField fields → AllByRecursion FitsField (second_fields b ++ fields)
after_second b fields is rest = all_fit-append (second_fields b) fields (second_fits b is) rest

report_fits : (o : Option Acceptance) → IsReportInRange o → AllByRecursion FitsField (report_fields o)
report_fits None h = tt
report_fits (Some r) h = after_second r.ballot (value_fields r.value) h.0 (value_fits r.value h.1)

body_fits : (body : Body) → IsBodyInRange body → AllByRecursion FitsField (body_fields body)
body_fits (Prepare b) h = ballot_fits b h
body_fits (Promise b r) h = after_ballot b (report_fields r) h.0 (report_fits r h.1)
body_fits (Nack b c) h = after_ballot b (second_fields c) h.0 (second_fits c h.1)
body_fits (Accept a) h = after_ballot a.ballot (value_fields a.value) h.0 (value_fits a.value h.1)
body_fits (Accepted a) h = after_ballot a.ballot (value_fields a.value) h.0 (value_fits a.value h.1)
body_fits Ask h = tt
body_fits (Decided v) h = value_fits v h

kind_within : (body : Body) → kind_of body ≤ DECIDED
kind_within (Prepare b) = omega arith
kind_within (Promise b r) = omega arith
kind_within (Nack b c) = omega arith
kind_within (Accept a) = omega arith
kind_within (Accepted a) = omega arith
kind_within Ask = omega arith
kind_within (Decided v) = omega arith

all_fits : (m : Message) → IsInRange m → AllByRecursion FitsField (all_fields m)
all_fits m h =
    all_fit-append (head_fields (kind_of m.body) m.sender m.slot) (body_fields m.body) (head_fits (kind_of m.body) m.sender m.slot (kind_within m.body) h.0 h.1)
    (body_fits m.body h.2)

-- ---- each field means what it says, written or left out

abbrev pub is_single : {A : Type 0} → (Held → Option A) → ℕ → List Field → Bool
is_single thing number fields = all_hold thing number fields && nat_le (length (things_of thing number fields)) 1

abbrev are_single : List Field → Bool
are_single fields =
    is_single number_in KIND fields && (is_single number_in SENDER fields && (is_single number_in SLOT fields && (is_single number_in ROUND fields
    && (is_single number_in NODE fields && (is_single number_in SECOND_ROUND fields && (is_single number_in SECOND_NODE fields && is_single bytes_in VALUE fields))))))

pub and_true : (a b : Bool) → (a && b) ≡ true → (a ≡ true) × (b ≡ true)
and_true true true e = (refl, refl)
and_true true false e = absurd cc
and_true false b e = absurd cc

pub number_same : (number : ℕ) (fields : List Field) → is_single number_in number fields ≡ true → number_meant number (present fields) ≡ number_meant number fields
number_same number fields e =
    let p = and_true (all_hold number_in number fields) (nat_le (length (things_of number_in number fields)) 1) e in
    number_meant-present number fields p.0 (leb-true _ _ p.1)

pub bytes_same : (number : ℕ) (fields : List Field) → is_single bytes_in number fields ≡ true → bytes_meant number (present fields) ≡ bytes_meant number fields
bytes_same number fields e =
    let p = and_true (all_hold bytes_in number fields) (nat_le (length (things_of bytes_in number fields)) 1) e in
    bytes_meant-present number fields p.0 (leb-true _ _ p.1)

parts_of-present : (fields : List Field) → are_single fields ≡ true → parts_of (present fields) ≡ parts_of fields
parts_of-present fields e =
    let a = and_true _ _ e in
    let b = and_true _ _ a.1 in
    let c = and_true _ _ b.1 in
    let d = and_true _ _ c.1 in
    let f = and_true _ _ d.1 in
    let g = and_true _ _ f.1 in
    let h = and_true _ _ g.1 in
    rw (number_same KIND fields a.0, number_same SENDER fields b.0, number_same SLOT fields c.0, number_same ROUND fields d.0, number_same NODE fields f.0, number_same SECOND_ROUND fields g.0, number_same SECOND_NODE fields h.0, bytes_same VALUE fields h.1) refl

fields_single : (sender slot : ℕ) (body : Body) → are_single (all_fields (message sender slot body)) ≡ true
fields_single sender slot (Prepare b) = refl
fields_single sender slot (Promise b None) = refl
fields_single sender slot (Promise b (Some r)) = refl
fields_single sender slot (Nack b c) = refl
fields_single sender slot (Accept a) = refl
fields_single sender slot (Accepted a) = refl
fields_single sender slot Ask = refl
fields_single sender slot (Decided v) = refl

head_means : (sender slot : ℕ) (body : Body) → sender ≤ MAX_NODE → slot ≤ MAX_SLOT
    → MeansHead (parts_of (all_fields (message sender slot body))) (kind_of body) sender slot
unfolding number_meant bytes_meant
head_means sender slot (Prepare b) a c = record { kind_is = refl; sender_is = refl; slot_is = refl; sender_within = a; slot_within = c }
head_means sender slot (Promise b None) a c = record { kind_is = refl; sender_is = refl; slot_is = refl; sender_within = a; slot_within = c }
head_means sender slot (Promise b (Some r)) a c = record { kind_is = refl; sender_is = refl; slot_is = refl; sender_within = a; slot_within = c }
head_means sender slot (Nack b d) a c = record { kind_is = refl; sender_is = refl; slot_is = refl; sender_within = a; slot_within = c }
head_means sender slot (Accept p) a c = record { kind_is = refl; sender_is = refl; slot_is = refl; sender_within = a; slot_within = c }
head_means sender slot (Accepted p) a c = record { kind_is = refl; sender_is = refl; slot_is = refl; sender_within = a; slot_within = c }
head_means sender slot Ask a c = record { kind_is = refl; sender_is = refl; slot_is = refl; sender_within = a; slot_within = c }
head_means sender slot (Decided v) a c = record { kind_is = refl; sender_is = refl; slot_is = refl; sender_within = a; slot_within = c }

body_means : (sender slot : ℕ) (body : Body) → IsBodyInRange body → MeansBody (parts_of (all_fields (message sender slot body))) body
unfolding number_meant bytes_meant
body_means sender slot (Prepare b) h = record { round_is = refl; node_is = refl; within = h }
body_means sender slot (Promise b None) h = (record { round_is = refl; node_is = refl; within = h.0 }, refl)
body_means sender slot (Promise b (Some r)) h = (
  record { round_is = refl; node_is = refl; within = h.0 },
  (record { round_is = refl; node_is = refl; within = h.1.0 }, record { bytes_are = refl; within = h.1.1 }),
)
body_means sender slot (Nack b c) h = (record { round_is = refl; node_is = refl; within = h.0 }, record { round_is = refl; node_is = refl; within = h.1 })
body_means sender slot (Accept a) h = (record { round_is = refl; node_is = refl; within = h.0 }, record { bytes_are = refl; within = h.1 })
body_means sender slot (Accepted a) h = (record { round_is = refl; node_is = refl; within = h.0 }, record { bytes_are = refl; within = h.1 })
body_means sender slot Ask h = tt
body_means sender slot (Decided v) h = record { bytes_are = refl; within = h }

all_fields-mean : (m : Message) → IsInRange m → Means (parts_of (all_fields m)) m
all_fields-mean m h = (head_means m.sender m.slot m.body h.0 h.1, body_means m.sender m.slot m.body h.2)

pub canonical_means : (m : Message) → IsInRange m → IsMessageText (canonical m) m
unfolding canonical
canonical_means m h = record {
  fields = present (all_fields m);
  encodes = fields_text-encodes (present (all_fields m)) (all_fit-filter (λ (f : Field). not (is_default f.held)) (all_fields m) (all_fits m h));
  means = subst (λ (p : Parts). Means p m) (sym (parts_of-present (all_fields m) (fields_single m.sender m.slot m.body))) (all_fields-mean m h);
}
