-- What the words of types are made of, and that white space is passed over in one way.
use Rattle.std.proofs.Common.{◌≡◌, ◌≢◌, ◌<◌, ◌==◌, ℕ, refl, sym, ap, subst, ◌∙◌, arith, Bool, true, false, Option, Some, None, Bor, codes, length}
use Rattle.std.specs.Bool.{⊤}
use Rattle.std.specs.List.{position_or_len, before_first, after_first}
use Rattle.std.specs.Str.{IsTrimAscii}
use Rattle.std.proofs.lemmas.Str.Ascii.{trim_ascii_is}
use Rattle.std.proofs.lemmas.Str.Pattern.{IsSplitOnceResult, split_once_first}
use Rattle.header_types.specs.declared.field_type.BitWidth.TheVariants.{Eight, Sixteen, ThirtyTwo, SixtyFour}
use Rattle.header_types.specs.declared.field_type.Precision.TheVariants.{Half, Single, Double}
use Rattle.header_types.specs.declared.field_type.DateUnit.TheVariants as date
use Rattle.header_types.specs.declared.field_type.TimeUnit.TheVariants.{Second, Millisecond, Microsecond, Nanosecond}
use Rattle.header_types.specs.Fields.{Text, DataType, FieldHead, null_type, int_type, floating_point_type, binary_type, utf8_type, bool_type, decimal_type, date_type, time_type, timestamp_type, list_type, struct_type, fixed_size_binary_type, fixed_size_list_type, duration_type}
use Rattle.schema_words.specs.Spelling.{plain_words, is_space, is_colon, SpellsField, SpellsType}

-- without the white space round it a text is one text
pub trimmed_is_one : (text one other : Text) → IsTrimAscii text one → IsTrimAscii text other → one ≡ other
trimmed_is_one text one other is_one is_other =
    trim_ascii_is text one _ refl is_one ∙ sym (trim_ascii_is text other _ refl is_other)

abbrev pub LacksSpace : Option Text → Type 0
LacksSpace None = ⊤
LacksSpace (Some words) = position_or_len is_space words ≡ length words

lacks_space : (t : DataType) → LacksSpace (plain_words t)
lacks_space null_type = refl
lacks_space (int_type Eight true) = refl
lacks_space (int_type Sixteen true) = refl
lacks_space (int_type ThirtyTwo true) = refl
lacks_space (int_type SixtyFour true) = refl
lacks_space (int_type Eight false) = refl
lacks_space (int_type Sixteen false) = refl
lacks_space (int_type ThirtyTwo false) = refl
lacks_space (int_type SixtyFour false) = refl
lacks_space (floating_point_type Half) = refl
lacks_space (floating_point_type Single) = refl
lacks_space (floating_point_type Double) = refl
lacks_space binary_type = refl
lacks_space utf8_type = refl
lacks_space bool_type = refl
lacks_space (date_type date.Day) = refl
lacks_space (date_type date.Millisecond) = refl
lacks_space (time_type Second) = refl
lacks_space (time_type Millisecond) = refl
lacks_space (time_type Microsecond) = refl
lacks_space (time_type Nanosecond) = refl
lacks_space (timestamp_type Second None) = refl
lacks_space (timestamp_type Millisecond None) = refl
lacks_space (timestamp_type Microsecond None) = refl
lacks_space (timestamp_type Nanosecond None) = refl
lacks_space (duration_type Second) = refl
lacks_space (duration_type Millisecond) = refl
lacks_space (duration_type Microsecond) = refl
lacks_space (duration_type Nanosecond) = refl
lacks_space (decimal_type _ _ _) = tt
lacks_space list_type = tt
lacks_space struct_type = tt
lacks_space (fixed_size_binary_type _) = tt
lacks_space (fixed_size_list_type _) = tt
lacks_space (timestamp_type Second (Some _)) = tt
lacks_space (timestamp_type Millisecond (Some _)) = tt
lacks_space (timestamp_type Microsecond (Some _)) = tt
lacks_space (timestamp_type Nanosecond (Some _)) = tt

-- no space stands in the words of a type
pub words_lack_space : (t : DataType) (words : Text) → plain_words t ≡ Some words → position_or_len is_space words ≡ length words
words_lack_space t words same = subst LacksSpace same (lacks_space t)

-- ---- cut at a byte

-- nothing is cut: the byte is not there
pub uncut : (byte : ℕ) (text : Text) (cut : Option (Bor Text × Bor Text)) → IsSplitOnceResult byte text cut → byte < 128 → cut ≡ None
    → position_or_len (λ b. b == byte) text ≡ length text
uncut byte text cut cases small is =
    split_once_first byte text None (subst (λ (it : Option (Bor Text × Bor Text)). IsSplitOnceResult byte text it) is cases) small

-- the text is cut at the first such byte
pub cut_at : (byte : ℕ) (text : Text) (cut : Option (Bor Text × Bor Text)) → IsSplitOnceResult byte text cut → byte < 128
    → (pair : Bor Text × Bor Text) → cut ≡ Some pair → (position_or_len (λ b. b == byte) text < length text)
    × (pair.0.now ≡ before_first (λ b. b == byte) text) × (pair.1.now ≡ after_first (λ b. b == byte) text)
cut_at byte text cut cases small pair is =
    split_once_first byte text (Some pair) (subst (λ (it : Option (Bor Text × Bor Text)). IsSplitOnceResult byte text it) is cases) small

-- ---- what is said of a field

-- without a space it names a type, or nothing is said
pub unmarked : (said : Text) → position_or_len is_space said ≡ length said → ((t : DataType) → plain_words t ≢ Some said)
    → (t : DataType) (nullable : Bool) → SpellsType said t nullable → ⊥
unmarked said none no_type t true same = no_type t same
unmarked said none no_type t false spells =
    let short : position_or_len is_space said < length said = spells.0 in
    omega arith

-- with a space, what stands before it names a type, or nothing is said
pub untyped : (said words : Text) → position_or_len is_space said < length said → words ≡ before_first is_space said
    → ((t : DataType) → plain_words t ≢ Some words) → (t : DataType) (nullable : Bool) → SpellsType said t nullable → ⊥
untyped said words short is no_type t true same =
    let whole : position_or_len is_space said ≡ length said = words_lack_space t said same in
    omega arith
untyped said words short is no_type t false spells = no_type t (spells.1 ∙ ap (λ w. Some w) (sym is))

-- with a space, what stands behind it is `not null`, or nothing is said
pub mismarked : (said mark : Text) → position_or_len is_space said < length said → mark ≡ after_first is_space said
    → (IsTrimAscii mark (codes "not null") → ⊥) → (t : DataType) (nullable : Bool) → SpellsType said t nullable → ⊥
mismarked said mark short is no_mark t true same =
    let whole : position_or_len is_space said ≡ length said = words_lack_space t said same in
    omega arith
mismarked said mark short is no_mark t false spells =
    no_mark (subst (λ (it : Text). IsTrimAscii it (codes "not null")) (sym is) spells.2)

-- ---- fields

-- nothing is said behind the colon: no field
pub unsaid : (part said : Text) → IsTrimAscii (after_first is_colon part) said
    → ((t : DataType) (nullable : Bool) → SpellsType said t nullable → ⊥) → (head : FieldHead) → SpellsField part head → ⊥
unsaid part said is none head spells = none head.data_type head.nullable
    (subst (λ (it : Text). SpellsType it head.data_type head.nullable)
    (trimmed_is_one (after_first is_colon part) spells.said said spells.behind is) spells.type_said)
