-- A length that is put before bytes that were written first.
use Rattle.std.proofs.Common.{◌≡◌, ℕ, zero, suc, ◌+◌, ◌-◌, ◌<◌, List, [], ◌∷◌, ◌++◌, length, take, drop, Result, Ok, Err, OnOk, refl, sym, ap, ◌∙◌, append_assoc, append-nil, arith}
use Rattle.std.specs.Prelude.{slice_set}
use Rattle.std.proofs.lemmas.List.{length-append, length-drop}
use Rattle.std.proofs.Math.Seq.{take-append_seam, drop-append-add}
use Rattle.proto_fields.specs.Varint.{varint_text}
use Rattle.proto_messages.specs.LengthPrefix.{with_length}
use Rattle.proto_fields.proofs.Texts.{varint_text-low}

set_between : (bytes : List ℕ) (place x : ℕ) → place < length bytes → slice_set bytes place x ≡ take place bytes ++ x ∷ drop (suc place) bytes
set_between [] place x lt = absurd (omega (arith, lt))
set_between (b ∷ bytes) zero x lt = refl
set_between (b ∷ bytes) (suc place) x lt = ap (λ (l : List ℕ). b ∷ l) (set_between bytes place x (omega (arith, lt)))

-- a length below 128 takes the one byte that was left for it
pub length_of_one_byte : (bytes : List ℕ) (place n : ℕ) → place < length bytes → n ≡ length bytes - place - 1 → n < 128 → slice_set bytes place n ≡ with_length place bytes
length_of_one_byte bytes place n lt e short =
    let same : n ≡ length (drop (suc place) bytes) = omega (arith, e, length-drop (suc place) bytes) in
    set_between bytes place n lt
    ∙ sym (append_assoc (take place bytes) (n ∷ []) (drop (suc place) bytes))
    ∙ ap (λ (l : List ℕ). (take place bytes ++ l) ++ drop (suc place) bytes) (sym (varint_text-low n short) ∙ ap varint_text same)

-- what was written behind a key and the byte left for its length, with the length in its place
pub length_behind_key : (front message bytes : List ℕ) (place : ℕ) → bytes ≡ (front ++ 0 ∷ []) ++ message → place ≡ length (front ++ 0 ∷ []) - 1
    → with_length place bytes ≡ front ++ (varint_text (length message) ++ message)
length_behind_key front message bytes place is at =
    let whole : bytes ≡ front ++ 0 ∷ message = is ∙ append_assoc front (0 ∷ []) message in
    let here : place ≡ length front = omega (arith, at, length-append front (0 ∷ [])) in
    let after : suc place ≡ length front + 1 = omega (arith, here) in
    let before : take place bytes ≡ front = (λ i. take (here i) (whole i)) ∙ take-append_seam front (0 ∷ message) in
    let behind : drop (suc place) bytes ≡ message = (λ i. drop (after i) (whole i)) ∙ drop-append-add front (0 ∷ message) 1 in
    (λ i. (before i ++ varint_text (length (behind i))) ++ behind i) ∙ append_assoc front (varint_text (length message)) message

-- a key, a length and bytes, as one field behind what stood before
pub as_one_field : (old key rest : List ℕ) → (old ++ key) ++ rest ≡ old ++ ((key ++ rest) ++ [])
as_one_field old key rest = append_assoc old key rest ∙ ap (λ (l : List ℕ). old ++ l) (sym (append-nil (key ++ rest)))

pub on_ok_then : {E P Q : Type 0} (r : Result (Unit {0}) E) → (P → Q) → OnOk r P → OnOk r Q
on_ok_then (Ok done) onwards is = onwards is
on_ok_then (Err fault) onwards is = tt
