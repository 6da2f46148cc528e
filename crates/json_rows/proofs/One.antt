-- A value tells one cell of a field at most.
use Rattle.std.proofs.Common.{◌≡◌, inl, inr, ℕ, ℤ, pos, ◌*◌, ◌^◌, ◌<◌, Bool, true, false, List, [], ◌∷◌, Ok, Some, refl, sym, ap, ap₂, subst, ◌∙◌, arith}
use Rattle.std.specs.Prelude.{Float}
use Rattle.std.specs.List.{AllZip}
use Rattle.std.specs.Float.{Format, binary32, binary64, float_is_finite, round_to_format}
use lib.Ieee.{to_bits, of_bits, top}
use lib.Ieee.Bits.{to_bits-of_bits}
use Rattle.json_rows.proofs.Bits.{not_nan}
use Rattle.std.proofs.lemmas.Option.{same_Some}
use Rattle.std.proofs.lemmas.Int.{ints}
use Rattle.byteorder.specs.Endian.{little_bytes}
use Rattle.serde_json.specs.Data.{Data, string}
use Rattle.serde_json.specs.Find.{as_bool, as_str}
use Rattle.hex.specs.Hex.{decode_of}
use Rattle.hex.proofs.HexLemmas.{decode_of-same}
use Rattle.header_types.specs.declared.field_type.BitWidth.{BitWidth}
use Rattle.header_types.specs.Fields.{FieldHead, Tree, tree, Forest, no_more, more}
use Rattle.batch_types.specs.Cells.{Cell, bit_cell, bytes_cell, list_cell, tuple_cell, cells_of}
use Rattle.batch_types.specs.Layouts.{int_size}
use Rattle.json_rows.specs.declared.form.Form.{Form}
use Rattle.json_rows.specs.declared.form.Form.TheVariants as form
use Rattle.json_rows.specs.Forms.{form_of}
use Rattle.json_rows.specs.declared.non_finite.NonFinite.{NonFinite}
use Rattle.json_rows.specs.declared.non_finite.NonFinite.TheVariants.{Nan, Infinity, MinusInfinity}
use Rattle.json_rows.specs.NonFinites.{TellsNonFinite, text_of, double_bits_of, single_bits_of}
use Rattle.json_rows.specs.Numbers.{AreBytesOf, StandsAs, TellsWhole, TellsDouble, TellsFiniteDouble, TellsFiniteSingle, TellsSingle, float_told, half_of}
use Rattle.json_rows.specs.Cells.{TellsBool, TellsText, TellsBytes, TellsNull, TellsElements, TellsCell, TellsElement, TellsFields, TellsForm, TellsMembers, IsBytesCell, name_of, told_at}
use Rattle.json_rows.proofs.Told.{no_form_of_null, same_array}
use Rattle.json_rows.proofs.Zipped.{zipped_are_one}

-- ---- flat values

stands_one : (half : ℕ) (signed : Bool) (z : ℤ) (n m : ℕ) → StandsAs half signed z n → StandsAs half signed z m → n ≡ m
stands_one half true z n m (inl p) (inl q) = let e : pos n ≡ pos m = sym p.0 ∙ q.0 in cc
stands_one half true z n m (inl p) (inr q) = let no : ⊥ = omega (arith, ints, p.0, p.1, q.0, q.1, q.2) in absurd no
stands_one half true z n m (inr p) (inl q) = let no : ⊥ = omega (arith, ints, p.0, p.1, p.2, q.0, q.1) in absurd no
stands_one half true z n m (inr p) (inr q) = omega (arith, ints, p.0, q.0)
stands_one half false z n m p q = let e : pos n ≡ pos m = sym p.0 ∙ q.0 in cc

whole_one : (width : BitWidth) (signed : Bool) (d : Data) (a b : List ℕ) → TellsWhole width signed d a → TellsWhole width signed d b → a ≡ b
whole_one width signed d a b p q =
    let whole : p.whole ≡ q.whole = same_Some p.whole q.whole (sym p.told ∙ q.told) in
    let stands = stands_one (half_of width) signed q.whole p.stands q.stands (subst (λ (z : ℤ). StandsAs (half_of width) signed z p.stands) whole p.within) q.within in
    p.bytes_are ∙ ap (little_bytes (int_size width)) stands ∙ sym q.bytes_are

-- a float that is finite stands in bits in one way
stands_alike : (format : Format) (size : ℕ) (x : Float) (a b : List ℕ) → 256 ^ size ≡ 2 * top format → AreBytesOf format size x a → AreBytesOf format size x b → a ≡ b
stands_alike format size x a b whole p q =
    let n = to_bits-of_bits format p.stands (subst (λ (m : ℕ). p.stands < m) whole p.within) (not_nan (of_bits format p.stands) (ap float_is_finite p.value_is ∙ p.finite)) in
    let m = to_bits-of_bits format q.stands (subst (λ (m : ℕ). q.stands < m) whole q.within) (not_nan (of_bits format q.stands) (ap float_is_finite q.value_is ∙ q.finite)) in
    p.bytes_are ∙ ap (little_bytes size) (sym n ∙ ap (to_bits format) (p.value_is ∙ sym q.value_is) ∙ m) ∙ sym q.bytes_are

string_one : (d : Data) (a b : List ℕ) → d ≡ string a → d ≡ string b → a ≡ b
string_one d a b p q = same_Some a b (ap as_str (sym p ∙ q))

finite_double_one : (d : Data) (a b : List ℕ) → TellsFiniteDouble d a → TellsFiniteDouble d b → a ≡ b
finite_double_one d a b p q =
    let same : p.double ≡ q.double = same_Some p.double q.double (sym p.told ∙ q.told) in
    stands_alike binary64 8 q.double a b refl (subst (λ (x : Float). AreBytesOf binary64 8 x a) same p.stands) q.stands

finite_single_one : (d : Data) (a b : List ℕ) → TellsFiniteSingle d a → TellsFiniteSingle d b → a ≡ b
finite_single_one d a b p q =
    let same : p.double ≡ q.double = same_Some p.double q.double (sym p.told ∙ q.told) in
    stands_alike binary32 4 (round_to_format binary32 q.double) a b refl
    (subst (λ (x : Float). AreBytesOf binary32 4 (round_to_format binary32 x) a) same p.stands) q.stands

-- ---- floats that are no finite numbers

non_finite_alike : (m n : NonFinite) → text_of m ≡ text_of n → m ≡ n
non_finite_alike Nan Nan same = refl
non_finite_alike Nan Infinity same = cc
non_finite_alike Nan MinusInfinity same = cc
non_finite_alike Infinity Nan same = cc
non_finite_alike Infinity Infinity same = refl
non_finite_alike Infinity MinusInfinity same = cc
non_finite_alike MinusInfinity Nan same = cc
non_finite_alike MinusInfinity Infinity same = cc
non_finite_alike MinusInfinity MinusInfinity same = refl

non_finite_one : (bits : NonFinite → ℕ) (size : ℕ) (d : Data) (a b : List ℕ) → TellsNonFinite bits size d a → TellsNonFinite bits size d b → a ≡ b
non_finite_one bits size d a b p q =
    let same : p.non_finite ≡ q.non_finite =
    non_finite_alike p.non_finite q.non_finite (string_one d (text_of p.non_finite) (text_of q.non_finite) p.told q.told) in
    p.bytes_are ∙ ap (λ (m : NonFinite). little_bytes size (bits m)) same ∙ sym q.bytes_are

-- a text is no number
no_number : (d : Data) (text : List ℕ) (x : Float) → d ≡ string text → float_told d ≡ Some x → ⊥
no_number d text x is told = let none : float_told (string text) ≡ Some x = sym (ap float_told is) ∙ told in cc

double_one : (d : Data) (a b : List ℕ) → TellsDouble d a → TellsDouble d b → a ≡ b
double_one d a b (inl p) (inl q) = finite_double_one d a b p q
double_one d a b (inl p) (inr q) = absurd (no_number d (text_of q.non_finite) p.double q.told p.told)
double_one d a b (inr p) (inl q) = absurd (no_number d (text_of p.non_finite) q.double p.told q.told)
double_one d a b (inr p) (inr q) = non_finite_one double_bits_of 8 d a b p q

single_one : (d : Data) (a b : List ℕ) → TellsSingle d a → TellsSingle d b → a ≡ b
single_one d a b (inl p) (inl q) = finite_single_one d a b p q
single_one d a b (inl p) (inr q) = absurd (no_number d (text_of q.non_finite) p.double q.told p.told)
single_one d a b (inr p) (inl q) = absurd (no_number d (text_of p.non_finite) q.double p.told q.told)
single_one d a b (inr p) (inr q) = non_finite_one single_bits_of 4 d a b p q

text_one : (d : Data) (a b : List ℕ) → TellsText d a → TellsText d b → a ≡ b
text_one d a b p q = string_one d a b p.told q.told

bytes_one : (d : Data) (a b : List ℕ) → TellsBytes d a → TellsBytes d b → a ≡ b
bytes_one d a b p q =
    decode_of-same q.digits a b (subst (λ (s : List ℕ). decode_of s ≡ Ok a) (string_one d p.digits q.digits p.told q.told) p.decoded) q.decoded

bool_one : (d : Data) (a b : Cell) → TellsBool d a → TellsBool d b → a ≡ b
bool_one d a b p q = p.cell_is ∙ ap bit_cell (same_Some p.bit q.bit (ap as_bool (sym p.told ∙ q.told))) ∙ sym q.cell_is

bytes_cell_one : (Told : List ℕ → Type 0) → ((a b : List ℕ) → Told a → Told b → a ≡ b) → (x y : Cell) → IsBytesCell Told x → IsBytesCell Told y → x ≡ y
bytes_cell_one Told one x y p q = p.2 ∙ ap bytes_cell (one p.0 q.0 p.1 q.1) ∙ sym q.2

-- ---- values with others inside them

elements_one : (Element : Data → Cell → Type 0) → ((d : Data) (a b : Cell) → Element d a → Element d b → a ≡ b)
    → (d : Data) (a b : List Cell) → TellsElements Element d a → TellsElements Element d b → a ≡ b
elements_one Element one d a b p q =
    zipped_are_one Element one q.values a b
    (subst (λ (ds : List Data). AllZip Element ds a) (same_array d p.values q.values p.told q.told) p.each) q.each

form_one : (f : Form) (Element : Data → Cell → Type 0) (Fields : Data → List Cell → Type 0)
    → ((d : Data) (a b : Cell) → Element d a → Element d b → a ≡ b) → ((d : Data) (a b : List Cell) → Fields d a → Fields d b → a ≡ b)
    → (d : Data) (a b : Cell) → TellsForm f Element Fields d a → TellsForm f Element Fields d b → a ≡ b
form_one form.Null E F e f d a b p q = absurd p
form_one form.Bool E F e f d a b p q = bool_one d a b p q
form_one (form.Whole width signed) E F e f d a b p q = bytes_cell_one (TellsWhole width signed d) (whole_one width signed d) a b p q
form_one form.Single E F e f d a b p q = bytes_cell_one (TellsSingle d) (single_one d) a b p q
form_one form.Double E F e f d a b p q = bytes_cell_one (TellsDouble d) (double_one d) a b p q
form_one form.Text E F e f d a b p q = bytes_cell_one (TellsText d) (text_one d) a b p q
form_one form.Bytes E F e f d a b p q = bytes_cell_one (TellsBytes d) (bytes_one d) a b p q
form_one (form.SizedBytes size) E F e f d a b p q = p.2 ∙ ap bytes_cell (bytes_one d p.0 q.0 p.1.0 q.1.0) ∙ sym q.2
form_one form.List E F e f d a b p q = p.2 ∙ ap (λ (cells : List Cell). list_cell (cells_of cells)) (elements_one E e d p.0 q.0 p.1 q.1) ∙ sym q.2
form_one (form.SizedList size) E F e f d a b p q = p.3 ∙ ap (λ (cells : List Cell). list_cell (cells_of cells)) (elements_one E e d p.0 q.0 p.1 q.1) ∙ sym q.3
form_one form.Struct E F e f d a b p q = p.2 ∙ ap (λ (cells : List Cell). tuple_cell (cells_of cells)) (f d p.0 q.0 p.1 q.1) ∙ sym q.2
form_one form.Unsupported E F e f d a b p q = absurd p

-- ---- fields

null_not : (field : FieldHead) (inside : Forest) (d : Data) (a b : Cell) → TellsNull field d a
    → TellsForm (form_of field.data_type) (TellsElement inside) (TellsFields inside) d b → ⊥
null_not field inside d a b none told =
    no_form_of_null (form_of field.data_type) inside b
    (subst (λ (e : Data). TellsForm (form_of field.data_type) (TellsElement inside) (TellsFields inside) e b) none.told told)

mutual
  pub one_cell : (t : Tree) (d : Data) (a b : Cell) → TellsCell t d a → TellsCell t d b → a ≡ b
  one_cell (tree field entries inside) d a b (inl p) (inl q) = p.cell_is ∙ sym q.cell_is
  one_cell (tree field entries inside) d a b (inl p) (inr q) = absurd (null_not field inside d a b p q)
  one_cell (tree field entries inside) d a b (inr p) (inl q) = absurd (null_not field inside d b a q p)
  one_cell (tree field entries inside) d a b (inr p) (inr q) =
      form_one (form_of field.data_type) (TellsElement inside) (TellsFields inside) (one_element inside)
      (λ e x y s t. one_members inside e x y s.1 t.1) d a b p q

  one_element : (inside : Forest) (d : Data) (a b : Cell) → TellsElement inside d a → TellsElement inside d b → a ≡ b
  one_element no_more d a b p q = absurd p
  one_element (more t rest) d a b p q = one_cell t d a b p q

  one_members : (inside : Forest) (d : Data) (a b : List Cell) → TellsMembers inside d a → TellsMembers inside d b → a ≡ b
  one_members no_more d [] [] p q = refl
  one_members no_more d [] (y ∷ b) p q = absurd q
  one_members no_more d (x ∷ a) b p q = absurd p
  one_members (more t rest) d [] b p q = absurd p
  one_members (more t rest) d (x ∷ a) [] p q = absurd q
  one_members (more t rest) d (x ∷ a) (y ∷ b) p q =
      ap₂ (λ (c : Cell) (cs : List Cell). c ∷ cs) (one_cell t (told_at (name_of t) d) x y p.0 q.0) (one_members rest d a b p.1 q.1)

pub one_row : (fields : Forest) (d : Data) (a b : List Cell) → TellsFields fields d a → TellsFields fields d b → a ≡ b
one_row fields d a b p q = one_members fields d a b p.1 q.1
