-- What is wrong with a place that does not show what was asked for: FlatBuffers, "FlatBuffer Internals". Only bytes
-- that the value needs are asked for.
use Rattle.std.specs.Prelude.{ℕ, ℤ, pos, ◌+◌, ◌*◌, ◌<ℤ◌, ◌<◌, ◌⊎◌, List, length, IsUtf8}
use Rattle.flat_places.specs.declared.fault.PlaceFault.{PlaceFault}
use Rattle.flat_places.specs.declared.fault.PlaceFault.TheVariants.{OutOfBounds, NotUtf8, SmallVtable}
use Rattle.flat_places.specs.Held.{Holds}
use Rattle.flat_places.specs.Number.{ShowsUint, ShowsInt}
use Rattle.flat_places.specs.Table.{ShowsVtable, ShowsTable, HasSlot, slot_place, sizes_len}

-- the text ends before the last of so many bytes from the place on
abbrev pub IsCut : List ℕ → ℕ → ℕ → Type 0
IsCut text place size = length text < place + size

-- a number of so many bytes, or a reference of four
abbrev pub NumberFault : List ℕ → ℕ → ℕ → PlaceFault → Type 0
NumberFault text place size OutOfBounds = IsCut text place size
NumberFault text place size NotUtf8 = ⊥
NumberFault text place size SmallVtable = ⊥

-- a vector of elements of so many bytes
abbrev pub VectorFault : List ℕ → ℕ → ℕ → PlaceFault → Type 0
VectorFault text place size OutOfBounds =
    IsCut text place 4 ⊎ ((count : ℕ) × ShowsUint text place 4 count × IsCut text (place + 4) (count * size))
VectorFault text place size NotUtf8 = ⊥
VectorFault text place size SmallVtable = ⊥

-- a string
abbrev pub TextFault : List ℕ → ℕ → PlaceFault → Type 0
TextFault text place OutOfBounds = VectorFault text place 1 OutOfBounds
TextFault text place NotUtf8 =
    (bytes : List ℕ) × ShowsUint text place 4 (length bytes) × Holds text (place + 4) bytes × (¬ IsUtf8 bytes)
TextFault text place SmallVtable = ⊥

-- the vtable would begin before the text does
abbrev pub BeginsBefore : List ℕ → ℕ → Type 0
BeginsBefore text table = (offset : ℤ) × ShowsInt text table 4 offset × (pos table <ℤ offset)

-- the way from a table to its vtable
abbrev pub VtableFault : List ℕ → ℕ → PlaceFault → Type 0
VtableFault text table OutOfBounds = IsCut text table 4 ⊎ BeginsBefore text table
VtableFault text table NotUtf8 = ⊥
VtableFault text table SmallVtable = ⊥

-- the vtable's own size
abbrev pub IsCutSize : List ℕ → ℕ → Type 0
IsCutSize text table = (vtable : ℕ) × ShowsVtable text table vtable × IsCut text vtable 2

-- a table and its vtable, as far as its own size
abbrev pub TableFault : List ℕ → ℕ → PlaceFault → Type 0
TableFault text table OutOfBounds = VtableFault text table OutOfBounds ⊎ IsCutSize text table
TableFault text table NotUtf8 = ⊥
TableFault text table SmallVtable = (vtable own_size : ℕ) × ShowsTable text table vtable own_size
    × (own_size < sizes_len)

-- the slot of field n, where the vtable is long enough for it
abbrev pub IsCutSlot : List ℕ → ℕ → ℕ → Type 0
IsCutSlot text table n =
    (vtable own_size : ℕ) × ShowsTable text table vtable own_size × HasSlot own_size n
    × IsCut text (slot_place vtable n) 2

-- field n of a table that is there
abbrev pub CutSlotFault : List ℕ → ℕ → ℕ → PlaceFault → Type 0
CutSlotFault text table n OutOfBounds = IsCutSlot text table n
CutSlotFault text table n NotUtf8 = ⊥
CutSlotFault text table n SmallVtable = ⊥

-- field n of a table
abbrev pub SlotFault : List ℕ → ℕ → ℕ → PlaceFault → Type 0
SlotFault text table n OutOfBounds = TableFault text table OutOfBounds ⊎ IsCutSlot text table n
SlotFault text table n NotUtf8 = ⊥
SlotFault text table n SmallVtable = TableFault text table SmallVtable
