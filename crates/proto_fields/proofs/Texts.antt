-- The canonical encoding of a number and of a field: it encodes them, and no encoding is shorter.
use Rattle.std.proofs.Common.{◌≡◌, ℕ, zero, suc, ◌+◌, ◌*◌, ◌/◌, ◌%◌, ◌^◌, ◌<◌, ◌≤◌, true, ltb, List, [], ◌∷◌, ◌++◌, length, take, refl, sym, ap, subst, ◌∙◌, arith, inl, inr, append_assoc}
use Rattle.std.proofs.lemmas.Bool.{le-ltb, lt-ltb, cases_lt}
use Rattle.std.proofs.lemmas.Nat.{div_below}
use Rattle.std.proofs.Math.Nat.{pow-suc}
use Rattle.proto_fields.specs.Varint.{EncodesNumber, IsVarint, digits, varint_text}
use Rattle.proto_fields.specs.Writing.{Grows}
use Rattle.std.specs.List.{AllByRecursion}
use Rattle.std.proofs.lemmas.List.{take_at}
use Rattle.proto_fields.specs.Field.{Held, Varint, Eight, Bytes, Four, Field, wire_type, EncodesHeld, EncodesField, FitsHeld, FitsField, IsFields, held_text, field_text, fields_text}

-- one byte more is allowed than is needed
digits_more : (k n : ℕ) → n < 128 ^ suc k → digits (suc k) n ≡ digits (suc (suc k)) n
digits_more zero n lt =
    let low : ltb n 128 ≡ true = lt-ltb n 128 lt in
    rw low refl
digits_more (suc k) n lt =
    elim (cases_lt n 128) [
      | inl h ↦ rw (lt-ltb n 128 h) refl
      | inr h ↦
          let below : n / 128 < 128 ^ suc k = div_below n 128 (128 ^ suc k) (omega arith) (omega (arith, lt, pow-suc 128 (suc k))) in
          rw (le-ltb n 128 h, digits_more k (n / 128) below) refl
    ]

pub varint_text-low : (n : ℕ) → n < 128 → varint_text n ≡ n ∷ []
unfolding varint_text
varint_text-low n lt = rw (lt-ltb n 128 lt) refl

pub varint_text-high : (n : ℕ) → n < 2 ^ 64 → 128 ≤ n → varint_text n ≡ (n % 128 + 128) ∷ varint_text (n / 128)
unfolding varint_text
varint_text-high n fits le =
    rw (le-ltb n 128 le) (ap (λ (l : List ℕ). (n % 128 + 128) ∷ l) (digits_more 8 (n / 128) (omega (arith, fits))))

pub ruleset texts = (varint_text-low, varint_text-high)

-- one byte more of a number went out
pub number_goes_on : (out total : List ℕ) (n : ℕ) → n < 2 ^ 64 → 128 ≤ n → out ++ varint_text n ≡ total
    → (out ++ (n % 128 + 128) ∷ []) ++ varint_text (n / 128) ≡ total
number_goes_on out total n fits le so_far =
    append_assoc out ((n % 128 + 128) ∷ []) (varint_text (n / 128)) ∙ ap (λ (l : List ℕ). out ++ l) (sym (varint_text-high n fits le)) ∙ so_far

pub grows_more : (old mid new more : List ℕ) → Grows old mid → new ≡ mid ++ more → Grows old new
grows_more old mid new more h e = (h.0 ++ more, e ∙ ap (λ (l : List ℕ). l ++ more) h.1 ∙ append_assoc old h.0 more)

-- ---- the canonical encoding is an encoding, and the shortest

digits_spell : (k n : ℕ) → n < 128 ^ suc k → EncodesNumber (digits (suc k) n) n × (length (digits (suc k) n) ≤ suc k)
digits_spell zero n lt = rw (lt-ltb n 128 lt) (inl (lt, refl, refl), omega arith)
digits_spell (suc k) n lt =
    elim (cases_lt n 128) [
      | inl h ↦ rw (lt-ltb n 128 h) (inl (h, refl, refl), omega arith)
      | inr h ↦
          let below : n / 128 < 128 ^ suc k = div_below n 128 (128 ^ suc k) (omega arith) (omega (arith, lt, pow-suc 128 (suc k))) in
          let later = digits_spell k (n / 128) below in
          rw (le-ltb n 128 h) (inr (omega arith, omega arith, (n / 128, omega arith, later.0)), omega (arith, later.1))
    ]

pub varint_text-encodes : (n : ℕ) → n < 2 ^ 64 → IsVarint (varint_text n) n
unfolding varint_text
varint_text-encodes n fits =
    let d = digits_spell 9 n (omega (arith, fits)) in
    record { encodes = d.0; short = d.1; fits = fits }

digits_shortest : (k : ℕ) (bytes : List ℕ) (n : ℕ) → EncodesNumber bytes n → length (digits k n) ≤ length bytes
digits_shortest zero bytes n s = omega arith
digits_shortest (suc k) [] n s = absurd s
digits_shortest (suc k) (b ∷ bytes) n s =
    elim (cases_lt n 128) [
      | inl h ↦ rw (lt-ltb n 128 h) (omega arith)
      | inr h ↦
          elim s [
            | inl a ↦ absurd (omega (arith, a.0, a.2))
            | inr a ↦
                let same : a.2.0 ≡ n / 128 = omega (arith, a.0, a.1, a.2.1) in
                let later = digits_shortest k bytes (n / 128) (subst (λ (m : ℕ). EncodesNumber bytes m) same a.2.2) in
                rw (le-ltb n 128 h) (omega (arith, later))
          ]
    ]

pub varint_text-shortest : (bytes : List ℕ) (n : ℕ) → IsVarint bytes n → length (varint_text n) ≤ length bytes
unfolding varint_text
varint_text-shortest bytes n is = digits_shortest 10 bytes n is.encodes

-- ---- fields

kind_fits : (held : Held) → wire_type held < 8
kind_fits (Varint n) = omega arith
kind_fits (Eight bytes) = omega arith
kind_fits (Bytes bytes) = omega arith
kind_fits (Four bytes) = omega arith

held_text-encodes : (held : Held) → FitsHeld held → EncodesHeld held (held_text held)
held_text-encodes (Varint n) h = varint_text-encodes n h
held_text-encodes (Eight bytes) h = (h, refl)
held_text-encodes (Bytes bytes) h = (varint_text (length bytes), varint_text-encodes (length bytes) h, refl)
held_text-encodes (Four bytes) h = (h, refl)

pub field_text-encodes : (f : Field) → FitsField f → EncodesField f (field_text f)
field_text-encodes f fits =
    let kind = kind_fits f.held in
    record {
      key = varint_text (8 * f.number + wire_type f.held);
      content = held_text f.held;
      parts = refl;
      number = fits.number;
      encodes_key = varint_text-encodes (8 * f.number + wire_type f.held) (omega (arith, fits.number.1, kind));
      encodes_held = held_text-encodes f.held fits.held;
    }

pub fields_text-encodes : (fields : List Field) → AllByRecursion FitsField fields → IsFields (fields_text fields) fields
fields_text-encodes [] fits = refl
fields_text-encodes (f ∷ fields) fits =
    (field_text f, fields_text fields, refl, field_text-encodes f fits.0, fields_text-encodes fields fits.1)

-- ---- writing

-- a vector cut off where it ended before
pub cut_back : (start : ℕ) (old new : List ℕ) → start ≡ length old → Grows old new → take start new ≡ old
cut_back start old new e h = ap (take start) h.1 ∙ take_at old h.0 start (sym e)

pub field_written : (old mid new : List ℕ) (f : Field) (key : ℕ) → mid ≡ old ++ varint_text key → key ≡ 8 * f.number + wire_type f.held → new ≡ mid ++ held_text f.held
    → new ≡ old ++ field_text f
field_written old mid new f key first is second =
    second ∙ ap (λ (l : List ℕ). l ++ held_text f.held) first ∙ append_assoc old (varint_text key) (held_text f.held) ∙ ap (λ (k : ℕ). old ++ (varint_text k ++ held_text f.held)) is
