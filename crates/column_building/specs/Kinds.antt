-- Layouts that hold lists, and the one of structs: tools of the proofs.
use Rattle.std.specs.Prelude.{◌≡◌, ℕ}
use Rattle.batch_types.specs.Layouts.{Layout, null_layout, bits_layout, bytes_layout, binary_layout, utf8_layout}
use Rattle.batch_types.specs.Layouts.{list_layout, fixed_size_list_layout, struct_layout}

-- it holds lists of so many elements
abbrev pub IsListOf : Layout → ℕ → Type 0
IsListOf null_layout count = ⊥
IsListOf bits_layout count = ⊥
IsListOf (bytes_layout size) count = ⊥
IsListOf (binary_layout offset) count = ⊥
IsListOf (utf8_layout offset) count = ⊥
IsListOf (list_layout offset) count = Unit {0}
IsListOf (fixed_size_list_layout size) count = count ≡ size
IsListOf struct_layout count = ⊥

abbrev pub IsStruct : Layout → Type 0
IsStruct null_layout = ⊥
IsStruct bits_layout = ⊥
IsStruct (bytes_layout size) = ⊥
IsStruct (binary_layout offset) = ⊥
IsStruct (utf8_layout offset) = ⊥
IsStruct (list_layout offset) = ⊥
IsStruct (fixed_size_list_layout size) = ⊥
IsStruct struct_layout = Unit {0}
