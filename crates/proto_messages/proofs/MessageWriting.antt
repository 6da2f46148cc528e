-- The one written encoding of a message of a descriptor is fields, and they mean the message.
use Rattle.std.proofs.Common.{◌≡◌, ◌≢◌, ℕ, suc, ◌-◌, ◌%◌, ◌^◌, ◌<◌, ◌≤◌, ℤ, pos, negsuc, Bool, true, false, not, ◌||◌, ◌&&◌, ◌==◌, cond, List, [], ◌∷◌, ◌++◌, length, map, Option, Some, None, refl, sym, ap, subst, ◌∙◌, append-nil, map-id, arith, w32, w64, FitsSigned}
use Rattle.std.specs.Int.{cast_signed, cast_unsigned}
use Rattle.std.specs.List.{AllByRecursion}
use Rattle.std.proofs.lemmas.Bool.{eqb-true, eq-eqb, ne_eqb}
use Rattle.std.proofs.lemmas.Int.{to_z-of_z}
use Rattle.std.proofs.lemmas.List.{nil_from_length}
use Rattle.std.proofs.lemmas.List.Elements.{filter_map-append}
use Rattle.std.proofs.lemmas.List.Folds.{list_all-append}
use Rattle.std.proofs.lemmas.Str.{is_utf8-from_IsUtf8}
use Rattle.proto_fields.specs.Field.{Held, Bytes, Field, IsFieldNumber, FitsHeld, FitsField, fields_text, is_default, present}
use Rattle.proto_fields.specs.Meaning.{last_or, is_there, bytes_in, all_hold, things_of, meant}
use Rattle.proto_fields.specs.Scalar.{ScalarType, TypeEnum, TypeInt64, TypeUint64, TypeBool, TypeBytes, TypeString, Scalar, default_of, scalar_in}
use Rattle.proto_messages.specs.Descriptor.{Descriptor, NoMore, One, Strings, Message, Messages, Values, all_meant, Merge, EachMeans, Means, IsMessage}
use Rattle.proto_messages.specs.Canonical.{scalar_held, bytes_field, elements, canonical_fields, canonical, RisesFrom, FitsScalar, FitsEmbedded, Fits}
use Rattle.proto_fields.proofs.Texts.{fields_text-encodes}

-- ---- lists

module _ {X : Type 0} where
  all_append : (P : X → Type 0) (xs ys : List X) → AllByRecursion P xs → AllByRecursion P ys → AllByRecursion P (xs ++ ys)
  all_append P [] ys h k = k
  all_append P (x ∷ xs) ys h k = (h.0, all_append P xs ys h.1 k)

  all_weaker : (P Q : X → Type 0) → ((x : X) → P x → Q x) → (xs : List X) → AllByRecursion P xs → AllByRecursion Q xs
  all_weaker P Q f [] h = tt
  all_weaker P Q f (x ∷ xs) h = (f x h.0, all_weaker P Q f xs h.1)

  every : (P : X → Type 0) → ((x : X) → P x) → (xs : List X) → AllByRecursion P xs
  every P h [] = tt
  every P h (x ∷ xs) = (h x, every P h xs)

-- ---- numbers of fields

abbrev Has : (ℕ → Type 0) → List Field → Type 0
Has P fields = AllByRecursion (λ (f : Field). P f.number) fields

-- a field that may be left out
maybe : (P : Field → Type 0) (f : Field) → P f → AllByRecursion P (present (f ∷ []))
maybe P f p = elim (is_default f.held) as (λ b. AllByRecursion P (cond (not b) (f ∷ []) [])) [ true ↦ tt | false ↦ (p, tt) ]

-- the fields of a row, one for each value, have its number
row_has : {V : Type 0} (P : ℕ → Type 0) (number : ℕ) (text : V → List ℕ) → P number → (xs : List V) → Has P (map (λ x. bytes_field number (text x)) xs)
row_has P number text p [] = tt
row_has P number text p (x ∷ xs) = (p, row_has P number text p xs)

higher : (least number : ℕ) → least < number → (fields : List Field) → Has (λ n. number < n) fields → Has (λ n. least < n) fields
higher least number lt = all_weaker (λ (f : Field). number < f.number) (λ (f : Field). least < f.number) (λ f (more : number < f.number). omega (arith, lt, more))

low_others : (least number : ℕ) → least < number → (fields : List Field) → Has (λ n. n ≤ least) fields → Has (λ n. n ≢ number) fields
low_others least number lt = all_weaker (λ (f : Field). f.number ≤ least) (λ (f : Field). f.number ≢ number) (λ f (le : f.number ≤ least) (e : f.number ≡ number). absurd (omega (arith, le, lt, e)))

low_below : (least number : ℕ) → least < number → (fields : List Field) → Has (λ n. n ≤ least) fields → Has (λ n. n ≤ number) fields
low_below least number lt = all_weaker (λ (f : Field). f.number ≤ least) (λ (f : Field). f.number ≤ number) (λ f (le : f.number ≤ least). omega (arith, le, lt))

high_others : (number : ℕ) (fields : List Field) → Has (λ n. number < n) fields → Has (λ n. n ≢ number) fields
high_others number = all_weaker (λ (f : Field). number < f.number) (λ (f : Field). f.number ≢ number) (λ f (lt : number < f.number) (e : f.number ≡ number). absurd (omega (arith, lt, e)))

-- all numbers that are written are above the one that the descriptor's rise from
numbers_above : (descriptor : Descriptor) (least : ℕ) (v : Values descriptor) → RisesFrom least descriptor → Has (λ n. least < n) (canonical_fields descriptor v)
numbers_above NoMore least v rises = tt
numbers_above (One number type others) least v rises =
    all_append (λ (f : Field). least < f.number) _ _ (maybe (λ f. least < f.number) (record { number = number; held = scalar_held type v.0 }) rises.0) (higher least number rises.0 _ (numbers_above others number v.1 rises.2))
numbers_above (Strings number others) least v rises =
    all_append (λ (f : Field). least < f.number) _ _ (row_has (λ n. least < n) number (λ x. x) rises.0 v.0) (higher least number rises.0 _ (numbers_above others number v.1 rises.2))
numbers_above (Message number inner others) least v rises =
    all_append (λ (f : Field). least < f.number) _ _ (row_has (λ n. least < n) number (λ x. fields_text (canonical_fields inner x)) rises.0 (elements v.0)) (higher least number rises.0 _ (numbers_above others number v.1 rises.3))
numbers_above (Messages number inner others) least v rises =
    all_append (λ (f : Field). least < f.number) _ _ (row_has (λ n. least < n) number (λ x. fields_text (canonical_fields inner x)) rises.0 v.0) (higher least number rises.0 _ (numbers_above others number v.1 rises.3))

-- ---- fields of other numbers mean nothing

module _ {A : Type 0} (thing : Held → Option A) (number : ℕ) where
  none_held : (fields : List Field) → Has (λ n. n ≢ number) fields → (all_hold thing number fields ≡ true) × (things_of thing number fields ≡ [])
  none_held [] h = (refl, refl)
  none_held (f ∷ fields) h =
      let later = none_held fields h.1 in
      let other = ne_eqb f.number number h.0 in
      (rw (other, later.0) refl, rw (other, later.1) refl)

  held_both : (front behind : List Field)
      → (all_hold thing number (front ++ behind) ≡ (all_hold thing number front && all_hold thing number behind)) × (things_of thing number (front ++ behind) ≡ things_of thing number front ++ things_of thing number behind)
  held_both front behind =
      (list_all-append (λ (g : Field). not (g.number == number) || is_there (thing g.held)) front behind, filter_map-append (λ (g : Field). cond (g.number == number) (thing g.held) None) front behind)

  none_behind : (front behind : List Field) → Has (λ n. n ≢ number) behind
      → (all_hold thing number (front ++ behind) ≡ all_hold thing number front) × (things_of thing number (front ++ behind) ≡ things_of thing number front)
  none_behind front behind h =
      let none = none_held behind h in
      let both = held_both front behind in
      (both.0 ∙ ap (λ b. all_hold thing number front && b) none.0 ∙ and_true (all_hold thing number front), both.1 ∙ ap (λ l. things_of thing number front ++ l) none.1 ∙ append-nil _)
    where
      and_true : (b : Bool) → (b && true) ≡ b
      and_true true = refl
      and_true false = refl

  none_in_front : (front behind : List Field) → Has (λ n. n ≢ number) front
      → (all_hold thing number (front ++ behind) ≡ all_hold thing number behind) × (things_of thing number (front ++ behind) ≡ things_of thing number behind)
  none_in_front front behind h =
      let none = none_held front h in
      let both = held_both front behind in
      (both.0 ∙ ap (λ b. b && all_hold thing number behind) none.0, both.1 ∙ ap (λ l. l ++ things_of thing number behind) none.1)

  -- where two lists hold the same of the number, they mean the same
  meant_same : (default : A) (xs ys : List Field) → (all_hold thing number xs ≡ all_hold thing number ys) × (things_of thing number xs ≡ things_of thing number ys) → meant thing default number xs ≡ meant thing default number ys
  meant_same default xs ys e = λ i. cond (e.0 i) (Some (last_or default (e.1 i))) None

  all_meant_same : (xs ys : List Field) → (all_hold thing number xs ≡ all_hold thing number ys) × (things_of thing number xs ≡ things_of thing number ys) → all_meant thing number xs ≡ all_meant thing number ys
  all_meant_same xs ys e = λ i. cond (e.0 i) (Some (e.1 i)) None

-- fields of numbers below those of a descriptor are passed over
passed_over : (descriptor : Descriptor) (least : ℕ) (front fields : List Field) (v : Values descriptor) → RisesFrom least descriptor → Has (λ n. n ≤ least) front → Means descriptor fields v → Means descriptor (front ++ fields) v
passed_over NoMore least front fields v rises low m = tt
passed_over (One number type others) least front fields v rises low m =
    (meant_same (scalar_in type) number (default_of type) (front ++ fields) fields (none_in_front (scalar_in type) number front fields (low_others least number rises.0 front low)) ∙ m.0, passed_over others number front fields v.1 rises.2 (low_below least number rises.0 front low) m.1)
passed_over (Strings number others) least front fields v rises low m =
    (all_meant_same (scalar_in TypeString) number (front ++ fields) fields (none_in_front (scalar_in TypeString) number front fields (low_others least number rises.0 front low)) ∙ m.0, passed_over others number front fields v.1 rises.2 (low_below least number rises.0 front low) m.1)
passed_over (Message number inner others) least front fields v rises low m =
    ((m.0.0, all_meant_same bytes_in number (front ++ fields) fields (none_in_front bytes_in number front fields (low_others least number rises.0 front low)) ∙ m.0.1, m.0.2), passed_over others number front fields v.1 rises.3 (low_below least number rises.0 front low) m.1)
passed_over (Messages number inner others) least front fields v rises low m =
    ((m.0.0, all_meant_same bytes_in number (front ++ fields) fields (none_in_front bytes_in number front fields (low_others least number rises.0 front low)) ∙ m.0.1, m.0.2), passed_over others number front fields v.1 rises.3 (low_below least number rises.0 front low) m.1)

-- ---- one value

unsigned_fits : (z : ℤ) → FitsSigned w64 z → cast_unsigned w64 z < 2 ^ 64
unsigned_fits (pos n) fits = omega (arith, fits.sfits)
unsigned_fits (negsuc n) fits = omega arith

enum_is_int64 : (z : ℤ) → FitsSigned w32 z → FitsSigned w64 z
enum_is_int64 (pos n) fits = record { sfits = omega (arith, fits.sfits) }
enum_is_int64 (negsuc n) fits = record { sfits = omega (arith, fits.sfits) }

-- the low 32 bits of an enumeration's 64
low_bits : (z : ℤ) → FitsSigned w32 z → cast_unsigned w64 z % 2 ^ 32 ≡ cast_unsigned w32 z
low_bits (pos n) fits = omega (arith, fits.sfits)
low_bits (negsuc n) fits = omega (arith, fits.sfits)

zero_bits : (z : ℤ) → FitsSigned w64 z → (cast_unsigned w64 z == 0) ≡ true → pos 0 ≡ z
zero_bits (pos n) fits e = ap pos (sym (eqb-true n 0 e))
zero_bits (negsuc n) fits e = absurd (omega (arith, fits.sfits, eqb-true (2 ^ 64 - suc n) 0 e))

scalar_fits : (type : ScalarType) (x : Scalar type) → FitsScalar type x → FitsHeld (scalar_held type x)
scalar_fits TypeEnum z fits = unsigned_fits z (enum_is_int64 z fits)
scalar_fits TypeInt64 z fits = unsigned_fits z fits
scalar_fits TypeUint64 n fits = fits
scalar_fits TypeBool true fits = omega arith
scalar_fits TypeBool false fits = omega arith
scalar_fits TypeBytes bytes fits = fits
scalar_fits TypeString bytes fits = fits.1

-- what is written for a value is read as it
scalar_again : (type : ScalarType) (x : Scalar type) → FitsScalar type x → scalar_in type (scalar_held type x) ≡ Some x
scalar_again TypeEnum z fits = ap Some (ap (cast_signed w32) (low_bits z fits) ∙ to_z-of_z w32 z fits)
scalar_again TypeInt64 z fits = ap Some (to_z-of_z w64 z fits)
scalar_again TypeUint64 n fits = refl
scalar_again TypeBool true fits = refl
scalar_again TypeBool false fits = refl
scalar_again TypeBytes bytes fits = refl
scalar_again TypeString bytes fits = ap (λ b. cond b (Some bytes) None) (is_utf8-from_IsUtf8 bytes fits.0)

-- what is left out is the type's default
scalar_default : (type : ScalarType) (x : Scalar type) → FitsScalar type x → is_default (scalar_held type x) ≡ true → default_of type ≡ x
scalar_default TypeEnum z fits e = zero_bits z (enum_is_int64 z fits) e
scalar_default TypeInt64 z fits e = zero_bits z fits e
scalar_default TypeUint64 n fits e = sym (eqb-true n 0 e)
scalar_default TypeBool true fits e = absurd cc
scalar_default TypeBool false fits e = refl
scalar_default TypeBytes bytes fits e = sym (nil_from_length bytes (eqb-true _ _ e))
scalar_default TypeString bytes fits e = sym (nil_from_length bytes (eqb-true _ _ e))

-- ---- the fields of one row

-- a single field that is written, or left out as its default
single_means : (type : ScalarType) (number : ℕ) (x : Scalar type) → FitsScalar type x → meant (scalar_in type) (default_of type) number (present (record { number = number; held = scalar_held type x } ∷ [])) ≡ Some x
single_means type number x fits = at (is_default (scalar_held type x)) refl
  where
    at : (b : Bool) → is_default (scalar_held type x) ≡ b → meant (scalar_in type) (default_of type) number (cond (not b) (record { number = number; held = scalar_held type x } ∷ []) []) ≡ Some x
    at true e = ap Some (scalar_default type x fits e)
    at false e = rw (eq-eqb number number refl, scalar_again type x fits) refl

module _ {V : Type 0} (thing : Held → Option (List ℕ)) (number : ℕ) (text : V → List ℕ) where
  -- bytes for each value of a list
  all_held : (xs : List V) → AllByRecursion (λ x. thing (Bytes (text x)) ≡ Some (text x)) xs
      → (all_hold thing number (map (λ x. bytes_field number (text x)) xs) ≡ true) × (things_of thing number (map (λ x. bytes_field number (text x)) xs) ≡ map text xs)
  all_held [] h = (refl, refl)
  all_held (x ∷ xs) h =
      let later = all_held xs h.1 in
      let here = eq-eqb number number refl in
      (rw (here, h.0, later.0) refl, rw (here, h.0, later.1) refl)

  all_mean : (xs : List V) → AllByRecursion (λ x. thing (Bytes (text x)) ≡ Some (text x)) xs → all_meant thing number (map (λ x. bytes_field number (text x)) xs) ≡ Some (map text xs)
  all_mean xs h = let e = all_held xs h in λ i. cond (e.0 i) (Some (e.1 i)) None

strings_mean : (number : ℕ) (xs : List (List ℕ)) → AllByRecursion (FitsScalar TypeString) xs → all_meant (scalar_in TypeString) number (map (bytes_field number) xs) ≡ Some xs
strings_mean number xs fits =
    all_mean (scalar_in TypeString) number (λ x. x) xs (all_weaker (FitsScalar TypeString) (λ x. scalar_in TypeString (Bytes x) ≡ Some x) (scalar_again TypeString) xs fits) ∙ ap Some (map-id xs)

-- ---- embedded messages

module _ {V : Type 0} (means : List Field → V → Type 0) (Fitting : V → Type 0) (written : V → List Field)
    (fit : (x : V) → Fitting x → AllByRecursion FitsField (written x)) (again : (x : V) → Fitting x → means (written x) x) where
  -- what is written for an embedded message is one text, and for a list of them a text each
  merge_written : (o : Option V) → AllByRecursion (FitsEmbedded Fitting written) (elements o) → Merge means (map (λ x. fields_text (written x)) (elements o)) o
  merge_written None fits = refl
  merge_written (Some x) fits =
      (λ e. absurd cc, (written x ∷ [], (fields_text-encodes (written x) (fit x fits.0.0), tt), subst (λ (l : List Field). means l x) (sym (append-nil (written x))) (again x fits.0.0)))

  each_written : (xs : List V) → AllByRecursion (FitsEmbedded Fitting written) xs → EachMeans means (map (λ x. fields_text (written x)) xs) xs
  each_written [] fits = tt
  each_written (x ∷ xs) fits = ((written x, fields_text-encodes (written x) (fit x fits.0.0), again x fits.0.0), each_written xs fits.1)

-- ---- messages of a descriptor

row_fits : {V : Type 0} (Fitting : V → Type 0) (number : ℕ) (text : V → List ℕ) → IsFieldNumber number → ((x : V) → Fitting x → length (text x) < 2 ^ 64) → (xs : List V) → AllByRecursion Fitting xs
    → AllByRecursion FitsField (map (λ x. bytes_field number (text x)) xs)
row_fits Fitting number text is short [] h = tt
row_fits Fitting number text is short (x ∷ xs) h = (record { number = is; held = short x h.0 }, row_fits Fitting number text is short xs h.1)

-- all that is written has an encoding
pub canonical_fit : (descriptor : Descriptor) (least : ℕ) (v : Values descriptor) → RisesFrom least descriptor → Fits descriptor v → AllByRecursion FitsField (canonical_fields descriptor v)
canonical_fit NoMore least v rises fits = tt
canonical_fit (One number type others) least v rises fits =
    all_append FitsField _ _ (maybe FitsField (record { number = number; held = scalar_held type v.0 }) (record { number = rises.1; held = scalar_fits type v.0 fits.0 })) (canonical_fit others number v.1 rises.2 fits.1)
canonical_fit (Strings number others) least v rises fits =
    all_append FitsField _ _ (row_fits (FitsScalar TypeString) number (λ x. x) rises.1 (λ x h. h.1) v.0 fits.0) (canonical_fit others number v.1 rises.2 fits.1)
canonical_fit (Message number inner others) least v rises fits =
    all_append FitsField _ _
    (row_fits (FitsEmbedded (Fits inner) (canonical_fields inner)) number (λ x. fields_text (canonical_fields inner x)) rises.1 (λ x h. h.1) (elements v.0) fits.0)
    (canonical_fit others number v.1 rises.3 fits.1)
canonical_fit (Messages number inner others) least v rises fits =
    all_append FitsField _ _
    (row_fits (FitsEmbedded (Fits inner) (canonical_fields inner)) number (λ x. fields_text (canonical_fields inner x)) rises.1 (λ x h. h.1) v.0 fits.0)
    (canonical_fit others number v.1 rises.3 fits.1)

-- what is written means the message
pub canonical_means : (descriptor : Descriptor) (least : ℕ) (v : Values descriptor) → RisesFrom least descriptor → Fits descriptor v → Means descriptor (canonical_fields descriptor v) v
canonical_means NoMore least v rises fits = tt
canonical_means (One number type others) least v rises fits =
    let f : Field = record { number = number; held = scalar_held type v.0 } in
    let rest = canonical_fields others v.1 in (
      meant_same (scalar_in type) number (default_of type) (present (f ∷ []) ++ rest) (present (f ∷ [])) (none_behind (scalar_in type) number (present (f ∷ [])) rest (high_others number rest (numbers_above others number v.1 rises.2))) ∙ single_means type number v.0 fits.0,
      passed_over others number (present (f ∷ [])) rest v.1 rises.2 (maybe (λ g. g.number ≤ number) f (omega arith)) (canonical_means others number v.1 rises.2 fits.1),
    )
canonical_means (Strings number others) least v rises fits =
    let row = map (bytes_field number) v.0 in
    let rest = canonical_fields others v.1 in (
      all_meant_same (scalar_in TypeString) number (row ++ rest) row (none_behind (scalar_in TypeString) number row rest (high_others number rest (numbers_above others number v.1 rises.2))) ∙ strings_mean number v.0 fits.0,
      passed_over others number row rest v.1 rises.2 (row_has (λ n. n ≤ number) number (λ x. x) (omega arith) v.0) (canonical_means others number v.1 rises.2 fits.1),
    )
canonical_means (Message number inner others) least v rises fits =
    let text : Values inner → List ℕ = λ x. fields_text (canonical_fields inner x) in
    let row = map (λ x. bytes_field number (text x)) (elements v.0) in
    let rest = canonical_fields others v.1 in (
      (
        map text (elements v.0),
        all_meant_same bytes_in number (row ++ rest) row (none_behind bytes_in number row rest (high_others number rest (numbers_above others number v.1 rises.3))) ∙ all_mean bytes_in number text (elements v.0) (every _ (λ x. refl) (elements v.0)),
        merge_written (Means inner) (Fits inner) (canonical_fields inner) (λ x. canonical_fit inner 0 x rises.2) (λ x. canonical_means inner 0 x rises.2) v.0 fits.0,
      ),
      passed_over others number row rest v.1 rises.3 (row_has (λ n. n ≤ number) number text (omega arith) (elements v.0)) (canonical_means others number v.1 rises.3 fits.1),
    )
canonical_means (Messages number inner others) least v rises fits =
    let text : Values inner → List ℕ = λ x. fields_text (canonical_fields inner x) in
    let row = map (λ x. bytes_field number (text x)) v.0 in
    let rest = canonical_fields others v.1 in (
      (
        map text v.0,
        all_meant_same bytes_in number (row ++ rest) row (none_behind bytes_in number row rest (high_others number rest (numbers_above others number v.1 rises.3))) ∙ all_mean bytes_in number text v.0 (every _ (λ x. refl) v.0),
        each_written (Means inner) (Fits inner) (canonical_fields inner) (λ x. canonical_fit inner 0 x rises.2) (λ x. canonical_means inner 0 x rises.2) v.0 fits.0,
      ),
      passed_over others number row rest v.1 rises.3 (row_has (λ n. n ≤ number) number text (omega arith) v.0) (canonical_means others number v.1 rises.3 fits.1),
    )

-- the one written encoding is a message of the descriptor
pub canonical_is_message : (descriptor : Descriptor) (v : Values descriptor) → RisesFrom 0 descriptor → Fits descriptor v → IsMessage descriptor (canonical descriptor v) v
canonical_is_message descriptor v rises fits =
    record { fields = canonical_fields descriptor v; encodes = fields_text-encodes (canonical_fields descriptor v) (canonical_fit descriptor 0 v rises fits); means = canonical_means descriptor 0 v rises fits }
