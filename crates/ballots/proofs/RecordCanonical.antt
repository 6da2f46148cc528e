-- The one encoding of a record means it.
use Rattle.std.proofs.Common.{◌≡◌, ℕ, ◌≤◌, Bool, true, List, ◌++◌, refl, sym, subst, arith}
use Rattle.std.specs.Prelude.{not, ◌&&◌}
use Rattle.std.specs.List.{AllByRecursion}
use Rattle.proto_fields.specs.Field.{Field, FitsField, is_default, present}
use Rattle.proto_fields.specs.Meaning.{number_in, bytes_in, number_meant, bytes_meant}
use Rattle.proto_fields.proofs.Texts.{fields_text-encodes}
use Rattle.ballots.specs.declared.slot.TheConstants.{MAX_SLOT}
use Rattle.ballots.specs.declared.record.numbers.TheConstants.{KIND, SLOT, ROUND, NODE, VALUE, BEGAN, PROMISED, ACCEPTED, PROMISED_FROM}
use Rattle.ballots.specs.declared.value.Value.{Value}
use Rattle.ballots.specs.declared.record.Record.{Record}
use Rattle.ballots.specs.declared.record.Record.TheVariants.{Began, Promised, Accepted, PromisedFrom}
use Rattle.ballots.specs.Ballot.{Ballot, IsBallot}
use Rattle.ballots.specs.Message.{IsValue}
use Rattle.ballots.specs.Record.{RecordParts, record_parts_of, MeansRecord, IsRecordInRange, IsRecordText, began_fields, slot_fields, kept_ballot_fields, kept_value_fields, record_fields, canonical_record}
use Rattle.ballots.proofs.Canonical.{number_fits, all_fit-append, all_fit-filter, value_is_short, is_single, and_true, number_same, bytes_same}

-- ---- each field has an encoding

began_fits : AllByRecursion FitsField began_fields
began_fits = (number_fits KIND BEGAN (omega arith, omega arith) (omega arith), tt)

slot_fits : (kind slot : ℕ) → kind ≤ PROMISED_FROM → slot ≤ MAX_SLOT → AllByRecursion FitsField (slot_fields kind slot)
slot_fits kind slot a b =
    (number_fits KIND kind (omega arith, omega arith) (omega arith), (number_fits SLOT slot (omega arith, omega arith) (omega arith), tt))

ballot_fits : (b : Ballot) → IsBallot b → AllByRecursion FitsField (kept_ballot_fields b)
ballot_fits b is =
    (number_fits ROUND b.round (omega arith, omega arith) (omega (arith, is.round)), (number_fits NODE b.node (omega arith, omega arith) (omega (arith, is.node)), tt))

value_fits : (v : Value) → IsValue v → AllByRecursion FitsField (kept_value_fields v)
value_fits v is = (record { number = (omega arith, omega arith); held = value_is_short v is }, tt)

all_fits : (r : Record) → IsRecordInRange r → AllByRecursion FitsField (record_fields r)
all_fits (Began b) h = all_fit-append began_fields (kept_ballot_fields b) began_fits (ballot_fits b h)
all_fits (Promised s b) h = all_fit-append (slot_fields PROMISED s) (kept_ballot_fields b) (slot_fits PROMISED s (omega arith) h.0) (ballot_fits b h.1)
all_fits (Accepted s a) h =
    all_fit-append (slot_fields ACCEPTED s) (kept_ballot_fields a.ballot ++ kept_value_fields a.value) (slot_fits ACCEPTED s (omega arith) h.0)
    (all_fit-append (kept_ballot_fields a.ballot) (kept_value_fields a.value) (ballot_fits a.ballot h.1.0) (value_fits a.value h.1.1))
all_fits (PromisedFrom s b) h = all_fit-append (slot_fields PROMISED_FROM s) (kept_ballot_fields b) (slot_fits PROMISED_FROM s (omega arith) h.0) (ballot_fits b h.1)

-- ---- each field means what it says, written or left out

abbrev are_single : List Field → Bool
are_single fields =
    is_single number_in KIND fields && (is_single number_in SLOT fields && (is_single number_in ROUND fields
    && (is_single number_in NODE fields && is_single bytes_in VALUE fields)))

parts_of-present : (fields : List Field) → are_single fields ≡ true → record_parts_of (present fields) ≡ record_parts_of fields
parts_of-present fields e =
    let a = and_true _ _ e in
    let b = and_true _ _ a.1 in
    let c = and_true _ _ b.1 in
    let d = and_true _ _ c.1 in
    rw (number_same KIND fields a.0, number_same SLOT fields b.0, number_same ROUND fields c.0, number_same NODE fields d.0, bytes_same VALUE fields d.1) refl

fields_single : (r : Record) → are_single (record_fields r) ≡ true
fields_single (Began b) = refl
fields_single (Promised s b) = refl
fields_single (Accepted s a) = refl
fields_single (PromisedFrom s b) = refl

fields_mean : (r : Record) → IsRecordInRange r → MeansRecord (record_parts_of (record_fields r)) r
unfolding number_meant bytes_meant
fields_mean (Began b) h = (refl, record { round_is = refl; node_is = refl; within = h })
fields_mean (Promised s b) h = (refl, record { slot_is = refl; within = h.0 }, record { round_is = refl; node_is = refl; within = h.1 })
fields_mean (Accepted s a) h = (
  refl,
  record { slot_is = refl; within = h.0 },
  (record { round_is = refl; node_is = refl; within = h.1.0 }, record { bytes_are = refl; within = h.1.1 }),
)
fields_mean (PromisedFrom s b) h = (refl, record { slot_is = refl; within = h.0 }, record { round_is = refl; node_is = refl; within = h.1 })

pub canonical_means : (r : Record) → IsRecordInRange r → IsRecordText (canonical_record r) r
unfolding canonical_record
canonical_means r h = record {
  fields = present (record_fields r);
  encodes = fields_text-encodes (present (record_fields r)) (all_fit-filter (λ (f : Field). not (is_default f.held)) (record_fields r) (all_fits r h));
  means = subst (λ (p : RecordParts). MeansRecord p r) (sym (parts_of-present (record_fields r) (fields_single r))) (fields_mean r h);
}
