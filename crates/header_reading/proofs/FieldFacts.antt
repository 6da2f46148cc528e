-- Types and fields.
use Rattle.std.proofs.Common.{◌≡◌, ℕ, ◌⊎◌, inl, inr, Bool, true, false, not, ◌==◌, if◌then◌else◌, List, Option, Some}
use Rattle.std.proofs.Common.{None, refl, sym, ap, ◌∙◌, subst}
use Rattle.std.specs.Option.{option_map, option_and_then}
use Rattle.flat_places.specs.Table.{ShowsField}
use Rattle.header_types.specs.declared.field_type.Ty.{Ty}
use Rattle.header_types.specs.declared.field_type.TimeUnit.{TimeUnit}
use Rattle.header_types.specs.declared.fault.MetaFault.{MetaFault}
use Rattle.header_types.specs.declared.fault.MetaFault.TheVariants.{BadHeader}
use Rattle.header_types.specs.Fields.{Text, DataType, null_type, int_type, floating_point_type, binary_type, utf8_type}
use Rattle.header_types.specs.Fields.{bool_type, decimal_type, date_type, time_type, timestamp_type, list_type}
use Rattle.header_types.specs.Fields.{struct_type, fixed_size_binary_type, fixed_size_list_type, duration_type}
use Rattle.header_types.specs.Fields.{FieldHead}
use Rattle.header_types.specs.Views.{data_type_of}
use Rattle.header_types.specs.Slots.{ShowsNumber, ShowsString, VectorRef, ShowsVectorRef, FieldSlotFault}
use Rattle.header_types.specs.Slots.{VectorRefFault}
use Rattle.header_types.specs.TypeIds.{has_timezone, bit_width_of, precision_of, decimal_width_of, date_unit_of}
use Rattle.header_types.specs.TypeIds.{time_unit_of, time_bits, int32_of, size_of, time_from, data_type_from}
use Rattle.header_types.specs.TypeIds.{AllowsChildren}
use Rattle.header_types.specs.Shown.{or_empty, ShowsParameters, ShowsTimezone, ShowsDataType, ShowsFieldHead}
use Rattle.header_reading.specs.Faults.{HasWrongParameters, TypeFault, DataTypeFault, OwnFault, FieldFault}
use Rattle.header_reading.specs.FieldRefView.{with_timezone}

-- ---- the time zone of a type

branch : (timezone : Option Text) (test : Bool) (x y x' y' : Option DataType)
    → x ≡ option_map (λ s. with_timezone s timezone) x'
    → y ≡ option_map (λ s. with_timezone s timezone) y'
    → (if test then x else y) ≡ option_map (λ s. with_timezone s timezone) (if test then x' else y')
branch timezone true x y x' y' p q = p
branch timezone false x y x' y' p q = q

mapped : {A : Type 0} (timezone : Option Text) (f : A → DataType) → ((x : A) → with_timezone (f x) timezone ≡ f x)
    → (o : Option A)
    → option_map f o ≡ option_map (λ s. with_timezone s timezone) (option_map f o)
mapped timezone f same None = refl
mapped timezone f same (Some x) = ap Some (sym (same x))

timed : (timezone : Option Text) (bits : ℕ) (o : Option TimeUnit)
    → option_and_then (time_from bits) o ≡ option_map (λ s. with_timezone s timezone)
    (option_and_then (time_from bits) o)
timed timezone bits None = refl
timed timezone bits (Some unit) = branch timezone (bits == time_bits unit) _ _ _ _ refl refl

stamped : (timezone : Option Text) (o : Option TimeUnit)
    → option_map (λ unit. timestamp_type unit timezone) o ≡ option_map (λ s. with_timezone s timezone)
    (option_map (λ unit. timestamp_type unit None) o)
stamped timezone None = refl
stamped timezone (Some unit) = refl

-- a type with a time zone is that with none, given the time zone
pub zoned : (type_id a b c : ℕ) (timezone : Option Text)
    → data_type_from type_id a b c timezone ≡ option_map (λ s. with_timezone s timezone)
    (data_type_from type_id a b c None)
zoned type_id a b c timezone =
    branch timezone (type_id == 1) _ _ _ _ refl
    (branch timezone (type_id == 2) _ _ _ _ (mapped timezone (λ bits. int_type bits (not (b == 0))) (λ x. refl)
    (bit_width_of a))
    (branch timezone (type_id == 3) _ _ _ _ (mapped timezone floating_point_type (λ x. refl) (precision_of a))
    (branch timezone (type_id == 4) _ _ _ _ refl
    (branch timezone (type_id == 5) _ _ _ _ refl
    (branch timezone (type_id == 6) _ _ _ _ refl
    (branch timezone (type_id == 7) _ _ _ _ (mapped timezone (decimal_type (int32_of a) (int32_of b)) (λ x. refl)
    (decimal_width_of c))
    (branch timezone (type_id == 8) _ _ _ _ (mapped timezone date_type (λ x. refl) (date_unit_of a))
    (branch timezone (type_id == 9) _ _ _ _ (timed timezone b (time_unit_of a))
    (branch timezone (type_id == 10) _ _ _ _ (stamped timezone (time_unit_of a))
    (branch timezone (type_id == 12) _ _ _ _ refl
    (branch timezone (type_id == 13) _ _ _ _ refl
    (branch timezone (type_id == 15) _ _ _ _ (mapped timezone fixed_size_binary_type (λ x. refl) (size_of a))
    (branch timezone (type_id == 16) _ _ _ _ (mapped timezone fixed_size_list_type (λ x. refl) (size_of a))
    (branch timezone (type_id == 18) _ _ _ _ (mapped timezone duration_type (λ x. refl) (time_unit_of a))
    refl))))))))))))))

-- the parameters of a type, and what they say
pub data_type_shown : (text : List ℕ) (table type_id a b c : ℕ) (ty : Ty) (timezone : Option Text)
    → ShowsParameters text table type_id a b c
    → ShowsTimezone text table (has_timezone type_id) timezone
    → Some (data_type_of ty) ≡ data_type_from type_id a b c None
    → ShowsDataType text table type_id (with_timezone (data_type_of ty) timezone)
data_type_shown text table type_id a b c ty timezone numbers shown means = record {
  a = a;
  b = b;
  c = c;
  timezone = timezone;
  numbers = numbers;
  zone = shown;
  means = zoned type_id a b c timezone ∙ ap (option_map (λ s. with_timezone s timezone)) (sym means);
}

-- and they may say nothing
pub parameters_wrong : (text : List ℕ) (table type_id a b c : ℕ) → ShowsParameters text table type_id a b c
    → None ≡ data_type_from type_id a b c None
    → HasWrongParameters text table type_id
parameters_wrong text table type_id a b c numbers means =
    record { a = a; b = b; c = c; numbers = numbers; wrong = sym means }

-- what is wrong with a type, and what is wrong with its field
pub type_fault : (text : List ℕ) (table type_id : ℕ) (e : MetaFault) → ShowsNumber text table 2 1 0 type_id
    → TypeFault text table type_id e
    → DataTypeFault text table e
type_fault text table type_id e shown fault = inr (type_id, shown, inr fault)

-- ---- the parts of a field's fault

pub data_type_fault : (text : List ℕ) (table : ℕ) (e : MetaFault) → DataTypeFault text table e → FieldFault text table e
data_type_fault text table e fault = inr (inr (inl fault))

pub dictionary_fault : (text : List ℕ) (table : ℕ) (e : MetaFault)
    → FieldSlotFault text table 4 e ⊎ OwnFault text table e → FieldFault text table e
dictionary_fault text table e (inl fault) = inr (inr (inr (inl fault)))
dictionary_fault text table e (inr fault) = inr (inr (inr (inr (inr (inr fault)))))

pub children_fault : (text : List ℕ) (table : ℕ) (e : MetaFault) → VectorRefFault text table 5 4 e
    → FieldFault text table e
children_fault text table e fault = inr (inr (inr (inr (inl fault))))

pub metadata_fault : (text : List ℕ) (table : ℕ) (e : MetaFault) → VectorRefFault text table 6 4 e
    → FieldFault text table e
metadata_fault text table e fault = inr (inr (inr (inr (inr (inl (inl fault))))))

-- ---- the fields inside a field

allows_zoned : (data_type : DataType) (timezone : Option Text) (count : ℕ) → AllowsChildren data_type count
    → AllowsChildren (with_timezone data_type timezone) count
allows_zoned null_type timezone count allowed = allowed
allows_zoned (int_type width signed) timezone count allowed = allowed
allows_zoned (floating_point_type precision) timezone count allowed = allowed
allows_zoned binary_type timezone count allowed = allowed
allows_zoned utf8_type timezone count allowed = allowed
allows_zoned bool_type timezone count allowed = allowed
allows_zoned (decimal_type precision scale width) timezone count allowed = allowed
allows_zoned (date_type unit) timezone count allowed = allowed
allows_zoned (time_type unit) timezone count allowed = allowed
allows_zoned (timestamp_type unit old) timezone count allowed = allowed
allows_zoned list_type timezone count allowed = allowed
allows_zoned struct_type timezone count allowed = allowed
allows_zoned (fixed_size_binary_type byte_width) timezone count allowed = allowed
allows_zoned (fixed_size_list_type list_size) timezone count allowed = allowed
allows_zoned (duration_type unit) timezone count allowed = allowed

zoned_allows : (data_type : DataType) (timezone : Option Text) (count : ℕ)
    → AllowsChildren (with_timezone data_type timezone) count → AllowsChildren data_type count
zoned_allows null_type timezone count allowed = allowed
zoned_allows (int_type width signed) timezone count allowed = allowed
zoned_allows (floating_point_type precision) timezone count allowed = allowed
zoned_allows binary_type timezone count allowed = allowed
zoned_allows utf8_type timezone count allowed = allowed
zoned_allows bool_type timezone count allowed = allowed
zoned_allows (decimal_type precision scale width) timezone count allowed = allowed
zoned_allows (date_type unit) timezone count allowed = allowed
zoned_allows (time_type unit) timezone count allowed = allowed
zoned_allows (timestamp_type unit old) timezone count allowed = allowed
zoned_allows list_type timezone count allowed = allowed
zoned_allows struct_type timezone count allowed = allowed
zoned_allows (fixed_size_binary_type byte_width) timezone count allowed = allowed
zoned_allows (fixed_size_list_type list_size) timezone count allowed = allowed
zoned_allows (duration_type unit) timezone count allowed = allowed

pub wrong_children : (text : List ℕ) (table type_id : ℕ) (ty : Ty) (timezone : Option Text) (children : VectorRef)
    → ShowsNumber text table 2 1 0 type_id
    → ShowsDataType text table type_id (with_timezone (data_type_of ty) timezone)
    → ShowsVectorRef text table 5 4 children
    → (¬ AllowsChildren (data_type_of ty) children.count) → FieldFault text table BadHeader
wrong_children text table type_id ty timezone children type_id_shown data_type_shown children_shown wrong =
    inr (inr (inr (inr (inr (inr (record {
      type_id = type_id;
      data_type = with_timezone (data_type_of ty) timezone;
      children = children;
      type_id_shown = type_id_shown;
      data_type_shown = data_type_shown;
      children_shown = children_shown;
      wrong = λ allowed. wrong (zoned_allows (data_type_of ty) timezone children.count allowed);
    }))))))

-- ---- a field

pub field_shown : (text : List ℕ) (table : ℕ) (field : FieldHead) (name : Option Text) (nullable type_id : ℕ) (ty : Ty)
    (timezone : Option Text) (children metadata : VectorRef)
    → ShowsString text table 0 name → field.name ≡ or_empty name → ShowsNumber text table 1 1 0 nullable
    → field.nullable ≡ not (nullable == 0)
    → ShowsNumber text table 2 1 0 type_id → field.data_type ≡ with_timezone (data_type_of ty) timezone
    → ShowsDataType text table type_id field.data_type
    → ShowsField text table 4 None → ShowsVectorRef text table 5 4 children
    → AllowsChildren (data_type_of ty) children.count → ShowsVectorRef text table 6 4 metadata
    → ShowsFieldHead text table field children metadata
field_shown text table field name nullable type_id ty timezone children metadata name_shown named nullable_shown
    may_be_null type_id_shown is data_type_shown no_dictionary children_shown allowed metadata_shown =
    record {
      name = name;
      nullable = nullable;
      type_id = type_id;
      name_shown = name_shown;
      named = named;
      nullable_shown = nullable_shown;
      may_be_null = may_be_null;
      type_id_shown = type_id_shown;
      data_type_shown = data_type_shown;
      no_dictionary = no_dictionary;
      children_shown = children_shown;
      allowed = subst (λ (s : DataType). AllowsChildren s children.count) (sym is)
          (allows_zoned (data_type_of ty) timezone children.count allowed);
      metadata_shown = metadata_shown;
    }
