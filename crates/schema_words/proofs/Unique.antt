-- That words tell one schema at most.
use Rattle.std.proofs.Common.{◌≡◌, ◌<◌, nat_eq, refl, sym, ap, subst, ◌∙◌, arith, Bool, true, false, if◌then◌else◌, List, [], ◌∷◌, Option, Some, None, codes, length}
use Rattle.std.specs.Bool.{⊤}
use Rattle.std.specs.Cmp.Lexicographic.{pointwise}
use Rattle.std.specs.List.{position_or_len, before_first, after_first}
use Rattle.header_types.specs.declared.field_type.BitWidth.TheVariants.{Eight, Sixteen, ThirtyTwo, SixtyFour}
use Rattle.header_types.specs.declared.field_type.Precision.TheVariants.{Half, Single, Double}
use Rattle.header_types.specs.declared.field_type.DateUnit.TheVariants as date
use Rattle.header_types.specs.declared.field_type.TimeUnit.TheVariants.{Second, Millisecond, Microsecond, Nanosecond}
use Rattle.header_types.specs.Fields.{Text, DataType, null_type, int_type, floating_point_type, binary_type, utf8_type, bool_type, decimal_type, date_type, time_type, timestamp_type, list_type, struct_type, fixed_size_binary_type, fixed_size_list_type, duration_type}
use Rattle.header_types.specs.Fields.{FieldHead, Forest, tree, no_more, more, SchemaTree}
use Rattle.schema_words.specs.Spelling.{plain_words, is_space, is_colon, SpellsField, SpellsFields, SpellsSchema, SpellsType}
use Rattle.schema_words.proofs.Wording.{trimmed_is_one, words_lack_space}

-- the types by their words
named_types : List (Text × DataType)
named_types =
    (codes "null", null_type) ∷
    (codes "binary", binary_type) ∷
    (codes "utf8", utf8_type) ∷
    (codes "bool", bool_type) ∷
    (codes "int8", int_type Eight true) ∷
    (codes "int16", int_type Sixteen true) ∷
    (codes "int32", int_type ThirtyTwo true) ∷
    (codes "int64", int_type SixtyFour true) ∷
    (codes "uint8", int_type Eight false) ∷
    (codes "uint16", int_type Sixteen false) ∷
    (codes "uint32", int_type ThirtyTwo false) ∷
    (codes "uint64", int_type SixtyFour false) ∷
    (codes "float16", floating_point_type Half) ∷
    (codes "float32", floating_point_type Single) ∷
    (codes "float64", floating_point_type Double) ∷
    (codes "date32", date_type date.Day) ∷
    (codes "date64", date_type date.Millisecond) ∷
    (codes "time32[s]", time_type Second) ∷
    (codes "time32[ms]", time_type Millisecond) ∷
    (codes "time64[us]", time_type Microsecond) ∷
    (codes "time64[ns]", time_type Nanosecond) ∷
    (codes "timestamp[s]", timestamp_type Second None) ∷
    (codes "timestamp[ms]", timestamp_type Millisecond None) ∷
    (codes "timestamp[us]", timestamp_type Microsecond None) ∷
    (codes "timestamp[ns]", timestamp_type Nanosecond None) ∷
    (codes "duration[s]", duration_type Second) ∷
    (codes "duration[ms]", duration_type Millisecond) ∷
    (codes "duration[us]", duration_type Microsecond) ∷
    (codes "duration[ns]", duration_type Nanosecond) ∷
    []

named_in : List (Text × DataType) → Text → Option DataType
named_in [] words = None
named_in (entry ∷ entries) words = if pointwise nat_eq entry.0 words then Some entry.1 else named_in entries words

abbrev IsNamed : DataType → Option Text → Type 0
IsNamed t None = ⊤
IsNamed t (Some words) = named_in named_types words ≡ Some t

each_named : (t : DataType) → IsNamed t (plain_words t)
unfolding named_in named_types
each_named null_type = refl
each_named binary_type = refl
each_named utf8_type = refl
each_named bool_type = refl
each_named (int_type Eight true) = refl
each_named (int_type Sixteen true) = refl
each_named (int_type ThirtyTwo true) = refl
each_named (int_type SixtyFour true) = refl
each_named (int_type Eight false) = refl
each_named (int_type Sixteen false) = refl
each_named (int_type ThirtyTwo false) = refl
each_named (int_type SixtyFour false) = refl
each_named (floating_point_type Half) = refl
each_named (floating_point_type Single) = refl
each_named (floating_point_type Double) = refl
each_named (date_type date.Day) = refl
each_named (date_type date.Millisecond) = refl
each_named (time_type Second) = refl
each_named (time_type Millisecond) = refl
each_named (time_type Microsecond) = refl
each_named (time_type Nanosecond) = refl
each_named (timestamp_type Second None) = refl
each_named (timestamp_type Millisecond None) = refl
each_named (timestamp_type Microsecond None) = refl
each_named (timestamp_type Nanosecond None) = refl
each_named (duration_type Second) = refl
each_named (duration_type Millisecond) = refl
each_named (duration_type Microsecond) = refl
each_named (duration_type Nanosecond) = refl
each_named (decimal_type _ _ _) = tt
each_named list_type = tt
each_named struct_type = tt
each_named (fixed_size_binary_type _) = tt
each_named (fixed_size_list_type _) = tt
each_named (timestamp_type Second (Some _)) = tt
each_named (timestamp_type Millisecond (Some _)) = tt
each_named (timestamp_type Microsecond (Some _)) = tt
each_named (timestamp_type Nanosecond (Some _)) = tt

-- no two types have the same words
type_is_one : (t u : DataType) (words : Text) → plain_words t ≡ Some words → plain_words u ≡ Some words → t ≡ u
type_is_one t u words one other = some_is t u
    (sym (subst (IsNamed t) one (each_named t)) ∙ subst (IsNamed u) other (each_named u))
  where
    whole : Option DataType → DataType
    whole (Some it) = it
    whole None = t

    some_is : (t u : DataType) → Some t ≡ Some u → t ≡ u
    some_is t u same = ap whole same

said_is_one : (said : Text) (t u : DataType) (m n : Bool) → SpellsType said t m → SpellsType said u n → (t ≡ u) × (m ≡ n)
said_is_one said t u true true one other = (type_is_one t u said one other, refl)
said_is_one said t u true false one other =
    let whole : position_or_len is_space said ≡ length said = words_lack_space t said one in
    let short : position_or_len is_space said < length said = other.0 in
    absurd (omega arith)
said_is_one said t u false true one other =
    let whole : position_or_len is_space said ≡ length said = words_lack_space u said other in
    let short : position_or_len is_space said < length said = one.0 in
    absurd (omega arith)
said_is_one said t u false false one other = (type_is_one t u (before_first is_space said) one.1 other.1, refl)

field_is_one : (part : Text) (one other : FieldHead) → SpellsField part one → SpellsField part other → one ≡ other
field_is_one part one other told again =
    ap (λ n. record { name = n; nullable = one.nullable; data_type = one.data_type }) name
    ∙ ap (λ n. record { name = other.name; nullable = n; data_type = one.data_type }) same.1
    ∙ ap (λ t. record { name = other.name; nullable = other.nullable; data_type = t }) same.0
  where
    name : one.name ≡ other.name
    name = trimmed_is_one (before_first is_colon part) one.name other.name told.name again.name

    said : told.said ≡ again.said
    said = trimmed_is_one (after_first is_colon part) told.said again.said told.behind again.behind

    same : (one.data_type ≡ other.data_type) × (one.nullable ≡ other.nullable)
    same = said_is_one again.said one.data_type other.data_type one.nullable other.nullable
        (subst (λ (it : Text). SpellsType it one.data_type one.nullable) said told.type_said) again.type_said

fields_are_one : (parts : List Text) (one other : Forest) → SpellsFields parts one → SpellsFields parts other → one ≡ other
fields_are_one [] no_more no_more told again = refl
fields_are_one [] (more _ _) _ told again = absurd told
fields_are_one [] no_more (more _ _) told again = absurd again
fields_are_one (_ ∷ _) no_more _ told again = absurd told
fields_are_one (_ ∷ _) (more _ _) no_more told again = absurd again
fields_are_one (part ∷ parts) (more (tree h es fs) rest) (more (tree g ds gs) others) told again =
    ap (λ head. more (tree head es fs) rest) (field_is_one part h g told.0 again.0)
    ∙ ap (λ entries. more (tree g entries fs) rest) (told.1 ∙ sym again.1)
    ∙ ap (λ inside. more (tree g ds inside) rest) (told.2 ∙ sym again.2)
    ∙ ap (λ behind. more (tree g ds gs) behind) (fields_are_one parts rest others told.3 again.3)

pub schema_is_one : (words : Text) (one other : SchemaTree) → SpellsSchema words one → SpellsSchema words other → one ≡ other
schema_is_one words one other told again =
    ap (λ fields. record { fields = fields; metadata = one.metadata }) (fields_are_one _ one.fields other.fields told.fields again.fields)
    ∙ ap (λ entries. record { fields = other.fields; metadata = entries }) (told.metadata ∙ sym again.metadata)
