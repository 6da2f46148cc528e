-- No fault stands where a text begins with a field, nor behind some of the fields that are all of a text.
use Rattle.std.proofs.Common.{◌≡◌, ◌≢◌, ℕ, ◌+◌, ◌*◌, ◌<◌, ◌≤◌, List, [], ◌∷◌, ◌++◌, length, refl, sym, ap, subst, ◌∙◌, arith, inl, inr, append_assoc}
use Rattle.std.proofs.lemmas.List.{length-append, append-nil}
use Rattle.proto_fields.specs.declared.fault.WireFault.{WireFault}
use Rattle.proto_fields.specs.declared.fault.WireFault.TheVariants.{BadVarint, BadKey, BadWireType, CutShort, NotUtf8, OutOfMemory}
use Rattle.proto_fields.specs.Varint.{EncodesNumber, IsVarint, AllGoOn, IsCutVarint, IsBadVarint}
use Rattle.proto_fields.specs.Field.{Held, Varint, Eight, Bytes, Four, Field, wire_type, EncodesHeld, KeyThen, AfterKey, IsCutBytes, FieldFault, FieldsFault, BeginsWith, IsFields}
use Rattle.proto_fields.specs.Reading.{varint_at}
use Rattle.proto_fields.proofs.Steps.{ok_is}
use Rattle.proto_fields.proofs.Numbers.{varint_again}
use Rattle.proto_fields.proofs.Fronts.{not_fields}

-- ---- varints

-- two encodings at the front of a text encode the same number
same_number : (a b x y : List ℕ) (n m : ℕ) → a ++ x ≡ b ++ y → EncodesNumber a n → EncodesNumber b m → n ≡ m
same_number [] b x y n m e s t = absurd s
same_number (c ∷ a) [] x y n m e s t = absurd t
same_number (c ∷ a) (d ∷ b) x y n m e s t =
    let same : c ≡ d = cc in
    let rests : a ++ x ≡ b ++ y = cc in
    elim s [
      | inl h ↦ elim t [ inl k ↦ omega (arith, same, h.2, k.2) | inr k ↦ absurd (omega (arith, same, h.0, k.0)) ]
      | inr h ↦
          elim t [
            | inl k ↦ absurd (omega (arith, same, h.0, k.0))
            | inr k ↦ omega (arith, same, h.2.1, k.2.1, same_number a b x y h.2.0 k.2.0 rests h.2.2 k.2.2)
          ]
    ]

-- as many bytes that all go on are no number
ends_somewhere : (a b x y : List ℕ) (n : ℕ) → a ++ x ≡ b ++ y → EncodesNumber a n → AllGoOn b → length a ≤ length b → ⊥
ends_somewhere [] b x y n e s on le = absurd s
ends_somewhere (c ∷ a) [] x y n e s on le = absurd (omega (arith, le))
ends_somewhere (c ∷ a) (d ∷ b) x y n e s on le =
    let same : c ≡ d = cc in
    let rests : a ++ x ≡ b ++ y = cc in
    elim s [
      | inl h ↦ absurd (omega (arith, same, h.0, on.0))
      | inr h ↦ ends_somewhere a b x y h.2.0 rests h.2.2 on.1 (omega (arith, le))
    ]

-- the text begins with a varint
abbrev BeginsVarint : List ℕ → Type 0
BeginsVarint text = (bytes rest : List ℕ) × (n : ℕ) × IsVarint bytes n × (text ≡ bytes ++ rest)

not_bad : (text : List ℕ) → BeginsVarint text → IsBadVarint text → ⊥
not_bad text is bad =
    let same : is.0 ++ is.1 ≡ bad.0 ++ bad.1 = sym is.4 ∙ bad.2 in
    elim bad.4 [
      | inl h ↦ ends_somewhere is.0 bad.0 is.1 bad.1 is.2 same is.3.encodes h.0 (omega (arith, h.1, is.3.short))
      | inr h ↦ absurd (omega (arith, h.2, is.3.fits, same_number is.0 bad.0 is.1 bad.1 is.2 h.0 same is.3.encodes h.1))
    ]

not_cut : (text : List ℕ) → BeginsVarint text → IsCutVarint text → ⊥
not_cut text is cut =
    ends_somewhere is.0 text is.1 [] is.2 (sym is.4 ∙ sym (append-nil text)) is.3.encodes cut.0 (omega (arith, ap length is.4, length-append is.0 is.1))

-- a text begins with one varint only
varint_is_one : (a b x y : List ℕ) (n m : ℕ) → IsVarint a n → IsVarint b m → a ++ x ≡ b ++ y → (n ≡ m) × (x ≡ y)
varint_is_one a b x y n m is also e =
    let same : (λ (p : ℕ × List ℕ). p) (n, x) ≡ (m, y) = ok_is (n, x) (m, y) (sym (varint_again a n x is) ∙ ap varint_at e ∙ varint_again b m y also) in
    (ap (λ (p : ℕ × List ℕ). p.0) same, ap (λ (p : ℕ × List ℕ). p.1) same)

-- ---- fields

-- the text begins with the content of the field, and then this is left
abbrev ContentThen : Field → List ℕ → List ℕ → Type 0
ContentThen f text after = (content : List ℕ) × EncodesHeld f.held content × (text ≡ content ++ after)

kind_below : (held : Held) → wire_type held < 8
kind_below (Varint n) = omega arith
kind_below (Eight bytes) = omega arith
kind_below (Bytes bytes) = omega arith
kind_below (Four bytes) = omega arith

key_first : (text : List ℕ) (f : Field) (after : List ℕ) (h : BeginsWith text f after) → text ≡ h.1.key ++ (h.1.content ++ after)
key_first text f after h = h.2 ∙ ap (λ (l : List ℕ). l ++ after) h.1.parts ∙ append_assoc h.1.key h.1.content after

begins_varint : (text : List ℕ) (f : Field) (after : List ℕ) → BeginsWith text f after → BeginsVarint text
begins_varint text f after h = (h.1.key, h.1.content ++ after, 8 * f.number + wire_type f.held, h.1.encodes_key, key_first text f after h)

-- the key at the front is the field's, and what stands after it begins with the field's content
key_is_one : (text : List ℕ) (number kind : ℕ) (rest : List ℕ) (f : Field) (after : List ℕ) → KeyThen text number kind rest → BeginsWith text f after
    → (number ≡ f.number) × (kind ≡ wire_type f.held) × ContentThen f rest after
key_is_one text number kind rest f after key h =
    let one = varint_is_one key.0 h.1.key rest (h.1.content ++ after) (8 * number + kind) (8 * f.number + wire_type f.held) key.1 h.1.encodes_key (sym key.3 ∙ key_first text f after h) in
    let below = kind_below f.held in
    (omega (arith, one.0, key.2, below), omega (arith, one.0, key.2, below), (h.1.content, h.1.encodes_held, one.1))

-- what is so of the text after the key of the field
after_key : (kind : ℕ) (P : List ℕ → Type 0) (text : List ℕ) (f : Field) (after : List ℕ) → AfterKey kind P text → BeginsWith text f after
    → (kind ≡ wire_type f.held) × ((content : List ℕ) × EncodesHeld f.held content × P (content ++ after))
after_key kind P text f after k h =
    let one = key_is_one text k.0 kind k.1 f after k.2 h in
    (one.1, (one.2.0, one.2.1, subst P one.2.2 k.3))

-- what a content of each wire type begins with
begins_at_0 : (held : Held) (content after : List ℕ) → 0 ≡ wire_type held → EncodesHeld held content → BeginsVarint (content ++ after)
begins_at_0 (Varint n) content after kind h = (content, after, n, h, refl)
begins_at_0 (Eight bytes) content after kind h = absurd (omega (arith, kind))
begins_at_0 (Bytes bytes) content after kind h = absurd (omega (arith, kind))
begins_at_0 (Four bytes) content after kind h = absurd (omega (arith, kind))

begins_at_2 : (held : Held) (content after : List ℕ) → 2 ≡ wire_type held → EncodesHeld held content → BeginsVarint (content ++ after)
begins_at_2 (Varint n) content after kind h = absurd (omega (arith, kind))
begins_at_2 (Eight bytes) content after kind h = absurd (omega (arith, kind))
begins_at_2 (Bytes bytes) content after kind h =
    (h.0, bytes ++ after, length bytes, h.1, ap (λ (l : List ℕ). l ++ after) h.2 ∙ append_assoc h.0 bytes after)
begins_at_2 (Four bytes) content after kind h = absurd (omega (arith, kind))

not_cut_bytes : (held : Held) (content after : List ℕ) → 2 ≡ wire_type held → EncodesHeld held content → IsCutBytes (content ++ after) → ⊥
not_cut_bytes (Varint n) content after kind h cut = absurd (omega (arith, kind))
not_cut_bytes (Eight bytes) content after kind h cut = absurd (omega (arith, kind))
not_cut_bytes (Bytes bytes) content after kind h cut =
    let begins : content ++ after ≡ h.0 ++ (bytes ++ after) = ap (λ (l : List ℕ). l ++ after) h.2 ∙ append_assoc h.0 bytes after in
    let one = varint_is_one cut.0 h.0 cut.1 (bytes ++ after) cut.2 (length bytes) cut.3 h.1 (sym cut.4 ∙ begins) in
    absurd (omega (arith, cut.5, one.0, ap length one.1, length-append bytes after))
not_cut_bytes (Four bytes) content after kind h cut = absurd (omega (arith, kind))

not_cut_eight : (held : Held) (content after : List ℕ) → 1 ≡ wire_type held → EncodesHeld held content → length (content ++ after) < 8 → ⊥
not_cut_eight (Varint n) content after kind h cut = absurd (omega (arith, kind))
not_cut_eight (Eight bytes) content after kind h cut = absurd (omega (arith, cut, h.0, ap length h.1, length-append content after))
not_cut_eight (Bytes bytes) content after kind h cut = absurd (omega (arith, kind))
not_cut_eight (Four bytes) content after kind h cut = absurd (omega (arith, kind))

not_cut_four : (held : Held) (content after : List ℕ) → 5 ≡ wire_type held → EncodesHeld held content → length (content ++ after) < 4 → ⊥
not_cut_four (Varint n) content after kind h cut = absurd (omega (arith, kind))
not_cut_four (Eight bytes) content after kind h cut = absurd (omega (arith, kind))
not_cut_four (Bytes bytes) content after kind h cut = absurd (omega (arith, kind))
not_cut_four (Four bytes) content after kind h cut = absurd (omega (arith, cut, h.0, ap length h.1, length-append content after))

-- a wire type is none of the unknown ones
kind_is_known : (held : Held) → (wire_type held ≢ 3) × (wire_type held ≢ 4) × (wire_type held ≢ 6) × (wire_type held ≢ 7)
kind_is_known (Varint n) = (omega arith, omega arith, omega arith, omega arith)
kind_is_known (Eight bytes) = (omega arith, omega arith, omega arith, omega arith)
kind_is_known (Bytes bytes) = (omega arith, omega arith, omega arith, omega arith)
kind_is_known (Four bytes) = (omega arith, omega arith, omega arith, omega arith)

-- where a field stands at the front, no fault does
pub no_field_at_fault : (text : List ℕ) (fault : WireFault) (f : Field) (rest : List ℕ) → FieldFault fault text → BeginsWith text f rest → ⊥
no_field_at_fault text BadVarint f rest bad h =
    elim bad [
      | inl k ↦ not_bad text (begins_varint text f rest h) k
      | inr later ↦
          elim later [
            | inl k ↦ let at = after_key 0 IsBadVarint text f rest k h in not_bad (at.1.0 ++ rest) (begins_at_0 f.held at.1.0 rest at.0 at.1.1) at.1.2
            | inr k ↦ let at = after_key 2 IsBadVarint text f rest k h in not_bad (at.1.0 ++ rest) (begins_at_2 f.held at.1.0 rest at.0 at.1.1) at.1.2
          ]
    ]
no_field_at_fault text BadKey f rest bad h =
    let one = key_is_one text bad.0 bad.1 bad.2 f rest bad.3 h in
    bad.4 (rw one.0 h.1.number)
no_field_at_fault text BadWireType f rest bad h =
    let at = after_key bad.0 (λ _. Unit {0}) text f rest bad.1 h in
    let known = kind_is_known f.held in
    elim bad.2 [
      | inl e ↦ known.0 (sym at.0 ∙ e)
      | inr b ↦ elim b [ inl e ↦ known.1 (sym at.0 ∙ e) | inr c ↦ elim c [ inl e ↦ known.2 (sym at.0 ∙ e) | inr e ↦ known.3 (sym at.0 ∙ e) ] ]
    ]
no_field_at_fault text CutShort f rest bad h =
    elim bad [
      | inl k ↦ not_cut text (begins_varint text f rest h) k
      | inr b ↦
          elim b [
            | inl k ↦ let at = after_key 0 IsCutVarint text f rest k h in not_cut (at.1.0 ++ rest) (begins_at_0 f.held at.1.0 rest at.0 at.1.1) at.1.2
            | inr c ↦
                elim c [
                  | inl k ↦ let at = after_key 2 IsCutVarint text f rest k h in not_cut (at.1.0 ++ rest) (begins_at_2 f.held at.1.0 rest at.0 at.1.1) at.1.2
                  | inr d ↦
                      elim d [
                        | inl k ↦ let at = after_key 2 IsCutBytes text f rest k h in not_cut_bytes f.held at.1.0 rest at.0 at.1.1 at.1.2
                        | inr e ↦
                            elim e [
                              | inl k ↦ let at = after_key 1 (λ x. length x < 8) text f rest k h in not_cut_eight f.held at.1.0 rest at.0 at.1.1 at.1.2
                              | inr k ↦ let at = after_key 5 (λ x. length x < 4) text f rest k h in not_cut_four f.held at.1.0 rest at.0 at.1.1 at.1.2
                            ]
                      ]
                ]
          ]
    ]
no_field_at_fault text NotUtf8 f rest bad h = bad
no_field_at_fault text OutOfMemory f rest bad h = bad

-- where a text is fields, none stands behind some of them
pub no_fields_at_fault : (text : List ℕ) (fault : WireFault) (fields : List Field) → FieldsFault fault text → IsFields text fields → ⊥
no_fields_at_fault text fault fields bad is =
    not_fields text bad.fields bad.rest fields bad.before bad.more (λ f after h. no_field_at_fault bad.rest fault f after bad.stands h) is
