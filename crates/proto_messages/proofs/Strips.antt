-- Bytes taken off the front of a text, one part after the other.
use Rattle.std.proofs.Common.{◌≡◌, ◌≢◌, ℕ, suc, ◌+◌, ◌-◌, ◌*◌, ◌/◌, ◌%◌, ◌^◌, ◌<◌, ◌≤◌, Bool, true, false, List, [], ◌∷◌, ◌++◌, length, get_or, map, drop, Option, Some, None, refl, sym, ap, subst, ◌∙◌, append_assoc, append-nil, arith, length-append}
use Rattle.std.specs.Option.{MatchOption, option_copied}
use Rattle.std.specs.Borrow.{Bor}
use Rattle.std.proofs.lemmas.List.{append_cancel_left, drop_all, nil_from_length}
use Rattle.std.proofs.lemmas.Bool.{eqb-true}
use Rattle.std.proofs.Math.Seq.{drop-cons}
use Rattle.std.specs.Prelude.{◌↔◌, ◌==◌, IsTrue, IfNone}
use Rattle.proto_fields.specs.Varint.{VarintThen, varint_text}
use Rattle.proto_fields.specs.Reading.{varint_at}
use Rattle.proto_messages.specs.Canonical.{bytes_field}
use Rattle.proto_fields.specs.Field.{Field, field_text, fields_text}
use Rattle.proto_messages.specs.Stripping.{Strips}
use Rattle.proto_fields.proofs.Steps.{ok_is}
use Rattle.proto_fields.proofs.Numbers.{varint_again}
use Rattle.proto_fields.proofs.Texts.{varint_text-low, varint_text-high, varint_text-encodes}

some_is : {A : Type 0} (x y : A) → Some x ≡ Some y → x ≡ y
some_is x y e = cc

pub strips_some : (written text rest : List ℕ) → text ≡ written ++ rest → Strips written text (Some rest)
strips_some written text rest is = record {
  exact = λ other. (
    λ (k : text ≡ written ++ other). ap Some (append_cancel_left written rest other (sym is ∙ k)),
    λ (k : Some rest ≡ Some other). is ∙ ap (λ (l : List ℕ). written ++ l) (some_is rest other k),
  );
}

pub strips_none : (written text : List ℕ) → ((rest : List ℕ) → text ≢ written ++ rest) → Strips written text None
strips_none written text none = record {
  exact = λ other. (λ (k : text ≡ written ++ other). absurd (none other k), λ (k : None ≡ Some other). absurd cc);
}

pub some_stripped : (written text rest : List ℕ) → Strips written text (Some rest) → text ≡ written ++ rest
some_stripped written text rest is = (is.exact rest).1 refl

pub none_stripped : (written text : List ℕ) → Strips written text None → (rest : List ℕ) → text ≢ written ++ rest
none_stripped written text is rest k = let e : None ≡ Some rest = (is.exact rest).0 k in absurd cc

-- nothing is taken off
pub strips_nothing : (text : List ℕ) → Strips [] text (Some text)
strips_nothing text = strips_some [] text text refl

-- the second part is behind the first
pub strips_both : (xs ys text mid : List ℕ) (left : Option (List ℕ)) → Strips xs text (Some mid) → Strips ys mid left → Strips (xs ++ ys) text left
strips_both xs ys text mid left first second = record {
  exact = λ rest. (
    λ (k : text ≡ (xs ++ ys) ++ rest). (second.exact rest).0 (some_is _ _ ((first.exact (ys ++ rest)).0 (k ∙ append_assoc xs ys rest))),
    λ (k : left ≡ Some rest). (first.exact (ys ++ rest)).1 (ap Some ((second.exact rest).1 k)) ∙ sym (append_assoc xs ys rest),
  );
}

-- without the first part there are not both
pub strips_neither : (xs ys text : List ℕ) → Strips xs text None → Strips (xs ++ ys) text None
strips_neither xs ys text first = strips_none (xs ++ ys) text
    (λ rest (is : text ≡ (xs ++ ys) ++ rest). none_stripped xs text first (ys ++ rest) (is ∙ append_assoc xs ys rest))

-- ---- numbers

-- what the rest gives is what the whole gives
abbrev pub GivesAs : List ℕ → List ℕ → List ℕ → List ℕ → Type 0
GivesAs part rest whole text = (left : Option (List ℕ)) → Strips part rest left → Strips whole text left

pub last_byte : (text : List ℕ) (n : ℕ) (left : Option (List ℕ)) → n < 128 → Strips (n ∷ []) text left → Strips (varint_text n) text left
last_byte text n left low is = subst (λ (l : List ℕ). Strips l text left) (sym (varint_text-low n low)) is

pub byte_goes_on : (text mid : List ℕ) (n : ℕ) → n < 2 ^ 64 → 128 ≤ n → Strips ((n % 128 + 128) ∷ []) text (Some mid) → GivesAs (varint_text (n / 128)) mid (varint_text n) text
byte_goes_on text mid n fits le is left later =
    subst (λ (l : List ℕ). Strips l text left) (sym (varint_text-high n fits le)) (strips_both ((n % 128 + 128) ∷ []) (varint_text (n / 128)) text mid left is later)

pub byte_is_not : (text : List ℕ) (n : ℕ) → n < 2 ^ 64 → 128 ≤ n → Strips ((n % 128 + 128) ∷ []) text None → Strips (varint_text n) text None
byte_is_not text n fits le none =
    subst (λ (l : List ℕ). Strips l text None) (sym (varint_text-high n fits le)) (strips_neither ((n % 128 + 128) ∷ []) (varint_text (n / 128)) text none)

-- ---- parts

-- what the kit says of a prefix
pub stripped_prefix : (text written : List ℕ) (result : Option (Bor (List ℕ))) → MatchOption result ((rest : List ℕ) → text ≢ written ++ rest) (λ x. text ≡ written ++ x.now)
    → Strips written text (option_copied result)
stripped_prefix text written (Some x) is = strips_some written text x.now is
stripped_prefix text written None is = strips_none written text is

-- what a text of fields of some elements is
abbrev pub text_of : {X V : Type 0} → (X → V) → (V → Field) → List X → List ℕ
text_of view field xs = fields_text (map field (map view xs))

module _ {X V : Type 0} (view : X → V) (field : V → Field) where
  -- the field of the element at this place is before those of the others
  at_place : (xs : List X) (i : ℕ) (x : X) → i < length xs → x ≡ get_or xs i x → text_of view field (drop i xs) ≡ field_text (field (view x)) ++ text_of view field (drop (suc i) xs)
  at_place xs i x lt is = ap (text_of view field) (drop-cons xs i x lt ∙ ap (λ (y : X). y ∷ drop (suc i) xs) (sym is))

  pub element_goes_on : (xs : List X) (i : ℕ) (x : X) (text mid : List ℕ) → i < length xs → x ≡ get_or xs i x → Strips (field_text (field (view x))) text (Some mid)
      → GivesAs (text_of view field (drop (i + 1) xs)) mid (text_of view field (drop i xs)) text
  element_goes_on xs i x text mid lt is first left later =
      let next : i + 1 ≡ suc i = omega arith in
      subst (λ (l : List ℕ). Strips l text left) (sym (at_place xs i x lt is))
      (strips_both _ _ text mid left first (subst (λ (k : ℕ). Strips (text_of view field (drop k xs)) mid left) next later))

  pub element_is_not : (xs : List X) (i : ℕ) (x : X) (text : List ℕ) → i < length xs → x ≡ get_or xs i x → Strips (field_text (field (view x))) text None
      → Strips (text_of view field (drop i xs)) text None
  element_is_not xs i x text lt is first = subst (λ (l : List ℕ). Strips l text None) (sym (at_place xs i x lt is)) (strips_neither _ _ text first)

  pub elements_over : (xs : List X) (i : ℕ) (text : List ℕ) → length xs ≤ i → Strips (text_of view field (drop i xs)) text (Some text)
  elements_over xs i text le = subst (λ (l : List X). Strips (text_of view field l) text (Some text)) (sym (drop_all i xs le)) (strips_nothing text)

-- ---- an embedded message behind its length

-- two numbers at the front of one text are one, and so is what follows them
number_is_one : (n m : ℕ) (x y : List ℕ) → n < 2 ^ 64 → m < 2 ^ 64 → varint_text n ++ x ≡ varint_text m ++ y → (n ≡ m) × (x ≡ y)
number_is_one n m x y fits_n fits_m same =
    let one = sym (varint_again (varint_text n) n x (varint_text-encodes n fits_n)) ∙ ap varint_at same ∙ varint_again (varint_text m) m y (varint_text-encodes m fits_m) in
    let both = ok_is (n, x) (m, y) one in
    (ap (λ (p : ℕ × List ℕ). p.0) both, ap (λ (p : ℕ × List ℕ). p.1) both)

pub rest_is_shorter : (written text rest : List ℕ) → Strips written text (Some rest) → length rest ≤ length text
rest_is_shorter written text rest is =
    let e : length text ≡ length written + length rest = ap length (some_stripped written text rest is) ∙ length-append written rest in
    omega (arith, e)

module _ (number : ℕ) (message text behind_key : List ℕ) (short : length text < 2 ^ 64) (key : Strips (varint_text (8 * number + 2)) text (Some behind_key)) where
  as_field : (left : Option (List ℕ)) → Strips (varint_text (length message) ++ message) behind_key left → Strips (field_text (bytes_field number message) ++ []) text left
  as_field left is = subst (λ (l : List ℕ). Strips l text left) (sym (append-nil _)) (strips_both (varint_text (8 * number + 2)) (varint_text (length message) ++ message) text behind_key left key is)

  short_message : (rest : List ℕ) → behind_key ≡ varint_text (length message) ++ (message ++ rest) → length message < 2 ^ 64
  short_message rest is =
      let le = rest_is_shorter (varint_text (8 * number + 2)) text behind_key key in
      let e : length behind_key ≡ length (varint_text (length message)) + (length message + length rest) =
      ap length is ∙ length-append (varint_text (length message)) (message ++ rest) ∙ ap (λ k. length (varint_text (length message)) + k) (length-append message rest) in
      omega (arith, le, e, short)

  pub no_length : ((n : ℕ) → n < 2 ^ 64 → Strips (varint_text n) behind_key None) → Strips (field_text (bytes_field number message) ++ []) text None
  no_length none =
      as_field None
      (strips_none _ behind_key
      (λ rest (is : behind_key ≡ (varint_text (length message) ++ message) ++ rest).
      let parts = is ∙ append_assoc (varint_text (length message)) message rest in
      none_stripped (varint_text (length message)) behind_key (none (length message) (short_message rest parts)) (message ++ rest) parts))

  module _ (n : ℕ) (content : List ℕ) (fits : n < 2 ^ 64) (is_length : Strips (varint_text n) behind_key (Some content)) where
    -- where the message stands there, its length does
    behind : (rest : List ℕ) → behind_key ≡ (varint_text (length message) ++ message) ++ rest → (n ≡ length message) × (content ≡ message ++ rest)
    behind rest is =
        let parts = is ∙ append_assoc (varint_text (length message)) message rest in
        number_is_one n (length message) content (message ++ rest) fits (short_message rest parts) (sym (some_stripped (varint_text n) behind_key content is_length) ∙ parts)

    pub no_message : Strips message content None → Strips (field_text (bytes_field number message) ++ []) text None
    no_message none =
        as_field None
        (strips_none _ behind_key (λ rest (is : behind_key ≡ (varint_text (length message) ++ message) ++ rest). none_stripped message content none rest (behind rest is).1))

    length_left : (rest : List ℕ) → Strips message content (Some rest) → length content - length rest ≡ length message
    length_left rest is =
        let e : length content ≡ length message + length rest = ap length (some_stripped message content rest is) ∙ length-append message rest in
        omega (arith, e)

    pub other_length : (rest : List ℕ) → Strips message content (Some rest) → length content - length rest ≢ n → Strips (field_text (bytes_field number message) ++ []) text None
    other_length rest whole differs =
        as_field None
        (strips_none _ behind_key (λ other (is : behind_key ≡ (varint_text (length message) ++ message) ++ other). differs (length_left rest whole ∙ sym (behind other is).0)))

    pub message_stands : (rest : List ℕ) → Strips message content (Some rest) → length content - length rest ≡ n → Strips (field_text (bytes_field number message) ++ []) text (Some rest)
    message_stands rest whole same =
        let here : n ≡ length message = sym same ∙ length_left rest whole in
        as_field (Some rest)
        (strips_both (varint_text (length message)) message behind_key content (Some rest) (subst (λ (k : ℕ). Strips (varint_text k) behind_key (Some content)) here is_length) whole)

-- ---- the whole

-- a text is a list of bytes and nothing behind them
pub nothing_left : (written text rest : List ℕ) (empty : Bool) → Strips written text (Some rest) → empty ≡ (length rest == 0) → IsTrue empty ↔ (text ≡ written)
nothing_left written text rest empty is said =
    let parts = some_stripped written text rest is in (
      λ (yes : empty ≡ true). parts ∙ ap (λ (l : List ℕ). written ++ l) (nil_from_length rest (eqb-true _ _ (sym said ∙ yes))) ∙ append-nil written,
      λ (whole : text ≡ written).
          let none : rest ≡ [] = append_cancel_left written rest [] (sym parts ∙ whole ∙ sym (append-nil written)) in
          said ∙ ap (λ (l : List ℕ). length l == 0) none,
    )

pub nothing_stands : (written text : List ℕ) → Strips written text None → IsTrue false ↔ (text ≡ written)
nothing_stands written text none = (λ (yes : false ≡ true). absurd cc, λ (whole : text ≡ written). absurd (none_stripped written text none [] (whole ∙ sym (append-nil written))))

-- ---- numbers that are read

-- what begins with no number begins with the shortest encoding of none
pub no_number : (text : List ℕ) → ((n : ℕ) (rest : List ℕ) → VarintThen text n rest → ⊥) → (n : ℕ) → n < 2 ^ 64 → Strips (varint_text n) text None
no_number text none n fits = strips_none (varint_text n) text (λ rest (is : text ≡ varint_text n ++ rest). none n rest (varint_text n, varint_text-encodes n fits, is))

-- where a number is read of which this is not the shortest encoding, no other's is
pub other_number : (text : List ℕ) (m : ℕ) (after : List ℕ) → ((n : ℕ) (rest : List ℕ) → VarintThen text n rest → (m ≡ n) × (after ≡ rest)) → Strips (varint_text m) text None
    → (n : ℕ) → n < 2 ^ 64 → Strips (varint_text n) text None
other_number text m after only none n fits = strips_none (varint_text n) text
    (λ rest (is : text ≡ varint_text n ++ rest).
    let one = only n rest (varint_text n, varint_text-encodes n fits, is) in
    none_stripped (varint_text m) text none rest (subst (λ (k : ℕ). text ≡ varint_text k ++ rest) (sym one.0) is))

pub on_none : {X P : Type 0} (result : Option X) → P → IfNone result P
on_none (Some x) is = tt
on_none None is = is
