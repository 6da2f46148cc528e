-- How long the canonical encodings are at most.
use Rattle.std.proofs.Common.{◌≡◌, ℕ, zero, suc, ◌+◌, ◌*◌, ◌/◌, ◌^◌, ◌<◌, ◌≤◌, inl, inr, Bool, true, false, List, [], ◌∷◌, length, Some, None, refl, ap, ◌∙◌, arith, append-nil}
use Rattle.std.proofs.lemmas.Bool.{le-ltb, lt-ltb, cases_lt}
use Rattle.std.proofs.lemmas.Nat.{div_below}
use Rattle.std.proofs.lemmas.List.{length-append}
use Rattle.std.proofs.Math.Nat.{pow-suc}
use Rattle.proto_fields.specs.Varint.{digits, varint_text}
use Rattle.proto_fields.specs.Field.{Field, Bytes, wire_type, is_default, held_text, field_text}
use Rattle.ballots.specs.declared.record.Record.{Record}
use Rattle.ballots.specs.declared.record.Record.TheVariants.{Began, Promised, Accepted as Kept, PromisedFrom}
use Rattle.ballots.specs.declared.value.Value.{Value}
use Rattle.ballots.specs.declared.value.Value.TheVariants.{Noop, Upload}
use Rattle.ballots.specs.declared.message.Message.{Message}
use Rattle.ballots.specs.declared.message.Body.{Body}
use Rattle.ballots.specs.declared.message.Body.TheVariants.{Prepare, Promise, Nack, Accept, Accepted, Ask, Decided}
use Rattle.ballots.specs.Limits.{max_upload_bytes, max_message_bytes, max_record_bytes}
use Rattle.ballots.specs.Message.{message, number_field, value_bytes, written, canonical, IsValue, IsBodyInRange, IsInRange}
use Rattle.ballots.specs.Record.{canonical_record, IsRecordInRange}
use Rattle.ballots.specs.AllFields.{all_fields_text, all_record_fields_text}
use Rattle.ballots.proofs.AllFields.{prepare_writes, promise_writes, report_writes, nack_writes, accept_writes, accepted_writes, ask_writes, decided_writes, began_writes, promised_writes, kept_writes, promised_from_writes}
use Rattle.ballots.proofs.Written.{written-append}

-- ---- numbers

digits_are_few : (k most n : ℕ) → n < 128 ^ suc k → length (digits most n) ≤ suc k
digits_are_few k zero n lt = omega arith
digits_are_few zero (suc most) n lt = rw (lt-ltb n 128 lt) (omega arith)
digits_are_few (suc k) (suc most) n lt =
    elim (cases_lt n 128) [
      | inl h ↦ rw (lt-ltb n 128 h) (omega arith)
      | inr h ↦
          let below : n / 128 < 128 ^ suc k = div_below n 128 (128 ^ suc k) (omega arith) (omega (arith, lt, pow-suc 128 (suc k))) in
          let later = digits_are_few k most (n / 128) below in
          rw (le-ltb n 128 h) (omega (arith, later))
    ]

varint_is_short : (k n : ℕ) → n < 128 ^ suc k → length (varint_text n) ≤ suc k
unfolding varint_text
varint_is_short k n lt = digits_are_few k 10 n lt

-- ---- fields, of numbers below 16, so that a key takes one byte

without_default : (b : Bool) (f : Field) → is_default f.held ≡ b → length (written (f ∷ [])) ≤ length (field_text f)
without_default true f is = rw is (omega arith)
without_default false f is = rw is (omega (arith, ap length (append-nil (field_text f))))

field_is_short : (f : Field) (n : ℕ) → f.number < 16 → wire_type f.held < 8 → length (held_text f.held) ≤ n → length (written (f ∷ [])) ≤ n + 1
field_is_short f n number kind held =
    omega (
      arith,
      without_default (is_default f.held) f refl,
      length-append (varint_text (8 * f.number + wire_type f.held)) (held_text f.held),
      varint_is_short 0 (8 * f.number + wire_type f.held) (omega (arith, number, kind)),
      held,
    )

number_is_short : (number k n : ℕ) → number < 16 → n < 128 ^ suc k → length (written (number_field number n ∷ [])) ≤ suc k + 1
number_is_short number k n small lt = field_is_short (number_field number n) (suc k) small (omega arith) (varint_is_short k n lt)

value_is_short : (number : ℕ) (bytes : List ℕ) → number < 16 → length bytes ≤ max_upload_bytes
    → length (written (record { number = number; held = Bytes bytes } ∷ [])) ≤ length bytes + 5
value_is_short number bytes small within =
    let field : Field = record { number = number; held = Bytes bytes } in
    let held : length (held_text field.held) ≤ length bytes + 4 = omega (arith, length-append (varint_text (length bytes)) bytes, varint_is_short 3 (length bytes) (omega (arith, within))) in
    omega (arith, field_is_short field (length bytes + 4) small (omega arith) held)

first_of : (f : Field) (fields : List Field) → length (written (f ∷ fields)) ≡ length (written (f ∷ [])) + length (written fields)
first_of f fields = ap length (written-append (f ∷ []) fields) ∙ length-append (written (f ∷ [])) (written fields)

-- ---- all fields

all_are_short : (kind sender slot round node second_round second_node : ℕ) (bytes : List ℕ) → kind < 128 → sender < 128 → slot < 128 ^ 3
    → round < 128 ^ 5 → node < 128 → second_round < 128 ^ 5 → second_node < 128 → length bytes ≤ max_upload_bytes
    → length (all_fields_text kind sender slot round node second_round second_node bytes) ≤ max_message_bytes
unfolding all_fields_text
all_are_short kind sender slot round node second_round second_node bytes k s t r n q m v =
    let value : List Field = record { number = 9; held = Bytes bytes } ∷ [] in
    let from_8 : List Field = number_field 8 second_node ∷ value in
    let from_7 : List Field = number_field 7 second_round ∷ from_8 in
    let from_6 : List Field = number_field 6 node ∷ from_7 in
    let from_5 : List Field = number_field 5 round ∷ from_6 in
    let from_3 : List Field = number_field 3 slot ∷ from_5 in
    let from_2 : List Field = number_field 2 sender ∷ from_3 in
    omega (
      arith,
      v,
      first_of (number_field 1 kind) from_2,
      number_is_short 1 0 kind (omega arith) k,
      first_of (number_field 2 sender) from_3,
      number_is_short 2 0 sender (omega arith) s,
      first_of (number_field 3 slot) from_5,
      number_is_short 3 2 slot (omega arith) t,
      first_of (number_field 5 round) from_6,
      number_is_short 5 4 round (omega arith) r,
      first_of (number_field 6 node) from_7,
      number_is_short 6 0 node (omega arith) n,
      first_of (number_field 7 second_round) from_8,
      number_is_short 7 4 second_round (omega arith) q,
      first_of (number_field 8 second_node) value,
      number_is_short 8 0 second_node (omega arith) m,
      value_is_short 9 bytes (omega arith) v,
    )

all_of_record_are_short : (kind slot round node : ℕ) (bytes : List ℕ) → kind < 128 → slot < 128 ^ 3 → round < 128 ^ 5 → node < 128
    → length bytes ≤ max_upload_bytes → length (all_record_fields_text kind slot round node bytes) ≤ max_record_bytes
unfolding all_record_fields_text
all_of_record_are_short kind slot round node bytes k t r n v =
    let value : List Field = record { number = 5; held = Bytes bytes } ∷ [] in
    let from_4 : List Field = number_field 4 node ∷ value in
    let from_3 : List Field = number_field 3 round ∷ from_4 in
    let from_2 : List Field = number_field 2 slot ∷ from_3 in
    omega (
      arith,
      v,
      first_of (number_field 1 kind) from_2,
      number_is_short 1 0 kind (omega arith) k,
      first_of (number_field 2 slot) from_3,
      number_is_short 2 2 slot (omega arith) t,
      first_of (number_field 3 round) from_4,
      number_is_short 3 4 round (omega arith) r,
      first_of (number_field 4 node) value,
      number_is_short 4 0 node (omega arith) n,
      value_is_short 5 bytes (omega arith) v,
    )

-- ---- messages and records

bytes_of_value : (v : Value) → IsValue v → length (value_bytes v) ≤ max_upload_bytes
bytes_of_value Noop is = omega arith
bytes_of_value (Upload bytes) is = is.within

module _ (sender slot : ℕ) (s : sender < 128) (t : slot < 128 ^ 3) where
  body_is_short : (body : Body) → IsBodyInRange body → length (canonical (message sender slot body)) ≤ max_message_bytes
  body_is_short (Prepare b) h =
      rw (prepare_writes sender slot b) (all_are_short 1 sender slot b.round b.node 0 0 [] (omega arith) s t (omega (arith, h.round)) (omega (arith, h.node)) (omega arith) (omega arith) (omega arith))
  body_is_short (Promise b None) h =
      rw (promise_writes sender slot b) (all_are_short 2 sender slot b.round b.node 0 0 [] (omega arith) s t (omega (arith, h.0.round)) (omega (arith, h.0.node)) (omega arith) (omega arith) (omega arith))
  body_is_short (Promise b (Some r)) h =
      rw (report_writes sender slot b r) (all_are_short 2 sender slot b.round b.node r.ballot.round r.ballot.node (value_bytes r.value) (omega arith) s t
      (omega (arith, h.0.round)) (omega (arith, h.0.node)) (omega (arith, h.1.0.round)) (omega (arith, h.1.0.node)) (bytes_of_value r.value h.1.1))
  body_is_short (Nack b c) h =
      rw (nack_writes sender slot b c) (all_are_short 3 sender slot b.round b.node c.round c.node [] (omega arith) s t
      (omega (arith, h.0.round)) (omega (arith, h.0.node)) (omega (arith, h.1.round)) (omega (arith, h.1.node)) (omega arith))
  body_is_short (Accept a) h =
      rw (accept_writes sender slot a) (all_are_short 4 sender slot a.ballot.round a.ballot.node 0 0 (value_bytes a.value) (omega arith) s t
      (omega (arith, h.0.round)) (omega (arith, h.0.node)) (omega arith) (omega arith) (bytes_of_value a.value h.1))
  body_is_short (Accepted a) h =
      rw (accepted_writes sender slot a) (all_are_short 5 sender slot a.ballot.round a.ballot.node 0 0 (value_bytes a.value) (omega arith) s t
      (omega (arith, h.0.round)) (omega (arith, h.0.node)) (omega arith) (omega arith) (bytes_of_value a.value h.1))
  body_is_short Ask h =
      rw (ask_writes sender slot) (all_are_short 6 sender slot 0 0 0 0 [] (omega arith) s t (omega arith) (omega arith) (omega arith) (omega arith) (omega arith))
  body_is_short (Decided v) h =
      rw (decided_writes sender slot v) (all_are_short 7 sender slot 0 0 0 0 (value_bytes v) (omega arith) s t (omega arith) (omega arith) (omega arith) (omega arith) (bytes_of_value v h))

pub message_is_short : (m : Message) → IsInRange m → length (canonical m) ≤ max_message_bytes
message_is_short m h = body_is_short m.sender m.slot (omega (arith, h.0)) (omega (arith, h.1)) m.body h.2

pub record_is_short : (r : Record) → IsRecordInRange r → length (canonical_record r) ≤ max_record_bytes
record_is_short (Began b) h =
    rw (began_writes b) (all_of_record_are_short 1 0 b.round b.node [] (omega arith) (omega arith) (omega (arith, h.round)) (omega (arith, h.node)) (omega arith))
record_is_short (Promised slot b) h =
    rw (promised_writes slot b) (all_of_record_are_short 2 slot b.round b.node [] (omega arith) (omega (arith, h.0)) (omega (arith, h.1.round)) (omega (arith, h.1.node)) (omega arith))
record_is_short (PromisedFrom first b) h =
    rw (promised_from_writes first b) (all_of_record_are_short 4 first b.round b.node [] (omega arith) (omega (arith, h.0)) (omega (arith, h.1.round)) (omega (arith, h.1.node)) (omega arith))
record_is_short (Kept slot a) h =
    rw (kept_writes slot a) (all_of_record_are_short 3 slot a.ballot.round a.ballot.node (value_bytes a.value) (omega arith) (omega (arith, h.0))
    (omega (arith, h.1.0.round)) (omega (arith, h.1.0.node)) (bytes_of_value a.value h.1.1))
