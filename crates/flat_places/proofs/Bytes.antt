-- Bytes at a place: what stands there, how far it reaches, and that it is one.
use Rattle.std.proofs.Common.{◌≡◌, ℕ, ◌+◌, ◌≤◌, ◌<◌, List, ◌++◌, length, take, drop, arith, refl, sym, ap, ◌∙◌}
use Rattle.std.proofs.Common.{append_assoc, length-append, inl, inr, get_or, slice_index}
use Rattle.std.proofs.lemmas.Bool.{cases_lt}
use Rattle.std.proofs.lemmas.List.{take-append-drop, take_at, drop_at, length-take-le, get_or-take, get_or-drop}
use Rattle.std.proofs.lemmas.List.{get_or_past}
use Rattle.flat_places.specs.Held.{Holds}

-- what is cut out of a text at a place stands there
pub holds_taken : (text : List ℕ) (place size : ℕ) → place + size ≤ length text
    → Holds text place (take size (drop place text))
holds_taken text place size h = record {
  before = take place text;
  after = drop size (drop place text);
  parts =
      sym (append_assoc (take place text) (take size (drop place text)) (drop size (drop place text))
      ∙ ap (λ l. take place text ++ l) (take-append-drop size (drop place text)) ∙ take-append-drop place text);
  stands = length-take-le place text (omega arith);
}

-- what stands at a place lies in the text
pub holds_within : (text : List ℕ) (place : ℕ) (bytes : List ℕ) → Holds text place bytes
    → place + length bytes ≤ length text
holds_within text place bytes h =
    let whole : length text ≡ length ((h.before ++ bytes) ++ h.after) = ap length h.parts in
    omega (arith, simp length-append at whole, h.stands)

-- what stands at a place is what is cut out there
pub holds_is : (text : List ℕ) (place : ℕ) (bytes : List ℕ) → Holds text place bytes
    → take (length bytes) (drop place text) ≡ bytes
holds_is text place bytes h =
    let whole : text ≡ h.before ++ (bytes ++ h.after) = h.parts ∙ append_assoc h.before bytes h.after in
    let rest : drop place text ≡ bytes ++ h.after = ap (drop place) whole
    ∙ drop_at h.before (bytes ++ h.after) place h.stands in
    ap (take (length bytes)) rest ∙ take_at bytes h.after (length bytes) refl

-- so many bytes at a place are one list
pub holds_same : (text : List ℕ) (place : ℕ) (xs ys : List ℕ) → Holds text place xs → Holds text place ys
    → length xs ≡ length ys → xs ≡ ys
holds_same text place xs ys p q len =
    sym (holds_is text place xs p) ∙ ap (λ n. take n (drop place text)) len ∙ holds_is text place ys q

-- where the text is bytes, so is what stands at a place
pub held_fit : (text : List ℕ) (place : ℕ) (bytes : List ℕ) → Holds text place bytes
    → ((i : ℕ) → slice_index text i < 256)
    → (i : ℕ) → slice_index bytes i < 256
held_fit text place bytes h fits i = elim (cases_lt i (length bytes)) [
  | inl within ↦
      let same : get_or bytes i 0 ≡ get_or text (place + i) 0 =
      ap (λ l. get_or l i 0) (sym (holds_is text place bytes h))
      ∙ get_or-take (length bytes) (drop place text) i 0 within ∙ get_or-drop place text i 0 in
      omega (arith, fits (place + i))
  | inr past ↦ let none : get_or bytes i 0 ≡ 0 = get_or_past bytes i 0 past in omega arith
]
