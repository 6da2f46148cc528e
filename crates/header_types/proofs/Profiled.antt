-- What a text shows is in profile.
use Rattle.std.proofs.Common.{◌≡◌, ℕ, ◌+◌, ℤ, pos, not, ◌==◌, Bool, true, false, nat_lt, if◌then◌else◌, ◌^◌, List}
use Rattle.std.proofs.Common.{Option, Some, None, arith, sym, subst}
use Rattle.std.proofs.lemmas.Int.{ints}
use Rattle.std.specs.Option.{option_map, option_and_then}
use Rattle.header_types.specs.declared.field_type.TimeUnit.{TimeUnit}
use Rattle.header_types.specs.Fields.{Text, DataType, int_type, floating_point_type, decimal_type, date_type, time_type}
use Rattle.header_types.specs.Fields.{timestamp_type, fixed_size_binary_type, fixed_size_list_type, duration_type, Tree}
use Rattle.header_types.specs.Fields.{tree, Forest, no_more, more, SchemaTree}
use Rattle.header_types.specs.TypeIds.{bit_width_of, precision_of, decimal_width_of, date_unit_of, time_unit_of}
use Rattle.header_types.specs.TypeIds.{time_bits, int32_of, time_from, data_type_from, AllowsChildren}
use Rattle.header_types.specs.Shown.{ShowsDataType, ShowsTree, ShowsForest}
use Rattle.header_types.specs.Header.{schema_header, ShowsHeader}
use Rattle.header_types.specs.Profile.{IsSized, IsWellFormedTree, IsWellFormedForest, InProfile}

-- ---- sizes

abbrev SizedIf : Option DataType → Type 0
SizedIf None = Unit {0}
SizedIf (Some data_type) = IsSized data_type

either : (test : Bool) (x y : Option DataType) → SizedIf x → SizedIf y → SizedIf (if test then x else y)
either true x y p q = p
either false x y p q = q

each : {A : Type 0} (f : A → DataType) → ((x : A) → IsSized (f x)) → (o : Option A) → SizedIf (option_map f o)
each f all None = tt
each f all (Some x) = all x

-- a size that was read is not negative
sizes : (f : ℤ → DataType) → ((n : ℕ) → IsSized (f (pos n))) → (test : Bool) (n : ℕ)
    → SizedIf (option_map f (if test then Some (pos n) else None))
sizes f all true n = all n
sizes f all false n = tt

timed : (bits : ℕ) (o : Option TimeUnit) → SizedIf (option_and_then (time_from bits) o)
timed bits None = tt
timed bits (Some unit) = either (bits == time_bits unit) (Some (time_type unit)) None tt tt

sized_from : (type_id a b c : ℕ) (timezone : Option Text) → SizedIf (data_type_from type_id a b c timezone)
sized_from type_id a b c timezone =
    either (type_id == 1) _ _ tt
    (either (type_id == 2) _ _ (each (λ bits. int_type bits (not (b == 0))) (λ x. tt) (bit_width_of a))
    (either (type_id == 3) _ _ (each floating_point_type (λ x. tt) (precision_of a))
    (either (type_id == 4) _ _ tt
    (either (type_id == 5) _ _ tt
    (either (type_id == 6) _ _ tt
    (either (type_id == 7) _ _ (each (decimal_type (int32_of a) (int32_of b)) (λ x. tt) (decimal_width_of c))
    (either (type_id == 8) _ _ (each date_type (λ x. tt) (date_unit_of a))
    (either (type_id == 9) _ _ (timed b (time_unit_of a))
    (either (type_id == 10) _ _ (each (λ unit. timestamp_type unit timezone) (λ x. tt) (time_unit_of a))
    (either (type_id == 12) _ _ tt
    (either (type_id == 13) _ _ tt
    (either (type_id == 15) _ _ (sizes fixed_size_binary_type (λ n. omega (arith, ints)) (nat_lt a (2 ^ 31)) a)
    (either (type_id == 16) _ _ (sizes fixed_size_list_type (λ n. omega (arith, ints)) (nat_lt a (2 ^ 31)) a)
    (either (type_id == 18) _ _ (each duration_type (λ x. tt) (time_unit_of a)) tt))))))))))))))

sized_shown : (text : List ℕ) (table type_id : ℕ) (data_type : DataType) → ShowsDataType text table type_id data_type
    → IsSized data_type
sized_shown text table type_id data_type h = subst SizedIf h.means (sized_from type_id h.a h.b h.c h.timezone)

-- ---- schemas

mutual
  tree_well_formed : (text : List ℕ) (table : ℕ) (t : Tree) → ShowsTree text table t → IsWellFormedTree t
  tree_well_formed text table (tree field entries inner)
      (children, metadata, shown, all, entries_shown, every, inner_shown) = (
        subst (AllowsChildren field.data_type) (sym every) shown.allowed,
        sized_shown text table shown.type_id field.data_type shown.data_type_shown,
        forest_well_formed text children.first inner inner_shown,
      )

  forest_well_formed : (text : List ℕ) (place : ℕ) (f : Forest) → ShowsForest text place f → IsWellFormedForest f
  forest_well_formed text place no_more shown = tt
  forest_well_formed text place (more t rest) ((table, refers, there), others) =
      (tree_well_formed text table t there, forest_well_formed text (place + 4) rest others)

pub in_profile : (text : List ℕ) (schema : SchemaTree) → ShowsHeader text (schema_header schema) → InProfile schema
in_profile text schema (message, table, is, shown) = record {
  not_deep = shown.not_deep;
  within = shown.within;
  well_formed = forest_well_formed text shown.fields.first schema.fields shown.shown;
}
