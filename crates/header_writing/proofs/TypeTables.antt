-- Tables of types that are written, from the steps that write them.
use Rattle.std.proofs.Common.{◌≡◌, ◌≤◌, ℕ, ◌+◌, ℤ, List, [], ◌∷◌, length, Some, Result, Ok, Err, OnOk, arith, sym, ap}
use Rattle.std.proofs.Common.{◌∙◌}
use Rattle.std.specs.declared.alloc.AllocError.{AllocError}
use Rattle.header_types.specs.declared.field_type.DecimalWidth.{DecimalWidth}
use Rattle.header_types.specs.declared.field_type.TimeUnit.{TimeUnit}
use Rattle.header_types.specs.declared.field_type.Ty.{Ty}
use Rattle.header_types.specs.declared.field_type.Ty.TheVariants.{Decimal}
use Rattle.header_writing.specs.declared.layout.Cell.TheVariants.{Short, Word}
use Rattle.header_types.specs.Fields.{Text, decimal_type}
use Rattle.header_writing.specs.Objects.{string_object, no_cells, reference, table_lead}
use Rattle.header_writing.specs.Canonical.{number, gap, int32_number, decimal_bits, time_unit_number, timestamp_table}
use Rattle.header_writing.specs.Canonical.{type_object}
use Rattle.header_writing.specs.Filling.{with_object, table_begun}
use Rattle.header_types.specs.Views.{data_type_of}
use Rattle.header_writing.specs.Written.{cells_bytes}
use Rattle.header_writing.proofs.Filling.{table_filled}

-- three numbers of four bytes, which are those of a decimal number
pub decimal_put : (t t1 : List ℕ) (from first : ℕ) (precision scale : ℤ) (width : DecimalWidth) (a b c : ℕ)
    → from + 4 ≤ length t
    → first ≡ length t + table_lead (length t) (10 ∷ 16 ∷ 4 ∷ 8 ∷ 12 ∷ []) + 4
    → a ≡ int32_number precision → b ≡ int32_number scale → c ≡ decimal_bits width
    → t1 ≡ table_begun t from (10 ∷ 16 ∷ 4 ∷ 8 ∷ 12 ∷ []) (cells_bytes (Word a ∷ Word b ∷ Word c ∷ []))
    → t1 ≡ with_object t from (type_object (decimal_type precision scale width))
decimal_put t t1 from first precision scale width a b c within here is_precision is_scale is_width begun =
    let numbers : List ℕ = 10 ∷ 16 ∷ 4 ∷ 8 ∷ 12 ∷ [] in
    begun
    ∙ ap (λ (n : ℕ). table_begun t from numbers (cells_bytes (Word n ∷ Word b ∷ Word c ∷ []))) is_precision
    ∙ ap (λ (n : ℕ). table_begun t from numbers (cells_bytes (Word (int32_number precision) ∷ Word n ∷ Word c ∷ [])))
    is_scale
    ∙ ap (λ (n : ℕ). table_begun t from numbers
    (cells_bytes (Word (int32_number precision) ∷ Word (int32_number scale) ∷ Word n ∷ []))) is_width
    ∙ table_filled t numbers (number 4 (int32_number precision)
    (number 4 (int32_number scale) (number 4 (decimal_bits width) no_cells)))
    from first within here

-- a unit and a blank reference, which is set to the time zone
pub timestamp_put : (t t1 t2 : List ℕ) (from first : ℕ) (unit : TimeUnit) (timezone zone : Text) (a : ℕ)
    → from + 4 ≤ length t
    → first ≡ length t + table_lead (length t) (8 ∷ 12 ∷ 4 ∷ 8 ∷ []) + 4 → a ≡ time_unit_number unit → zone ≡ timezone
    → t1 ≡ table_begun t from (8 ∷ 12 ∷ 4 ∷ 8 ∷ []) (cells_bytes (Short a ∷ Short 0 ∷ Word 0 ∷ []))
    → t2 ≡ with_object t1 (first + 4) (string_object zone)
    → t2 ≡ with_object t from (timestamp_table unit (Some timezone))
timestamp_put t t1 t2 from first unit timezone zone a within here is_unit is_zone begun put =
    let numbers : List ℕ = 8 ∷ 12 ∷ 4 ∷ 8 ∷ [] in
    let whole = number 2 (time_unit_number unit) (gap 2 (reference (string_object timezone) no_cells)) in
    let same : first + 4 ≡ first + 2 + 2 = omega arith in
    put
    ∙ ap (λ (x : Text). with_object t1 (first + 4) (string_object x)) is_zone
    ∙ ap (λ (n : ℕ). with_object t1 n (string_object timezone)) same
    ∙ ap (λ (x : List ℕ). with_object x (first + 2 + 2) (string_object timezone)) begun
    ∙ ap (λ (n : ℕ). with_object (table_begun t from numbers (cells_bytes (Short n ∷ Short 0 ∷ Word 0 ∷ [])))
    (first + 2 + 2) (string_object timezone)) is_unit
    ∙ table_filled t numbers whole from first within here

-- what holds of a call that did not fail
pub on_ok : {P Q : Type 0} (r : Result (Unit {0}) AllocError) → (P → Q) → OnOk r P → OnOk r Q
on_ok (Ok x) follows p = follows p
on_ok (Err e) follows p = tt

-- the same of a type that a reference shows to be a decimal number
pub decimal_seen : (r : Result (Unit {0}) AllocError) (t t1 : List ℕ) (from : ℕ) (ty : Ty) (precision scale p s : ℤ)
    (width : DecimalWidth)
    → ty ≡ Decimal precision scale width → p ≡ precision → s ≡ scale
    → OnOk r (t1 ≡ with_object t from (type_object (decimal_type p s width)))
    → OnOk r (t1 ≡ with_object t from (type_object (data_type_of ty)))
decimal_seen r t t1 from ty precision scale p s width is is_precision is_scale =
    on_ok r
    (λ put.
    put
    ∙ ap (λ (x : ℤ). with_object t from (type_object (decimal_type x s width))) is_precision
    ∙ ap (λ (x : ℤ). with_object t from (type_object (decimal_type precision x width))) is_scale
    ∙ sym (ap (λ (x : Ty). with_object t from (type_object (data_type_of x))) is))
