-- Tables and their vtables: FlatBuffers, "FlatBuffer Internals", "Tables". Nothing is said of a vtable's second number,
-- its table's size, nor of slots that nobody asks for.
use Rattle.std.specs.Prelude.{◌≡◌, ℕ, ℤ, pos, ◌+◌, ◌*◌, ◌-ℤ◌, ◌<◌, ◌≤◌, ◌⊎◌, List, Option, Some, None}
use Rattle.flat_places.specs.Number.{ShowsUint, ShowsInt}

-- a table begins with a signed number of four bytes, and its vtable stands at the table's place minus that number
pub record ShowsVtable (text : List ℕ) (table vtable : ℕ) : Type 0 where
  pub offset : ℤ
  pub shown : ShowsInt text table 4 offset
  pub subtracted : pos vtable ≡ pos table -ℤ offset

-- at the place stands a table with this vtable, whose first two bytes are the vtable's own size in bytes
pub record ShowsTable (text : List ℕ) (table vtable own_size : ℕ) : Type 0 where
  pub leads : ShowsVtable text table vtable
  pub size : ShowsUint text vtable 2 own_size

-- the vtable's two sizes, in bytes
abbrev pub sizes_len : ℕ
sizes_len = 4

-- where the slot of field n stands, behind the two sizes and the slots before it
abbrev pub slot_place : ℕ → ℕ → ℕ
slot_place vtable n = vtable + 4 + 2 * n

-- a vtable of this size has the slot of field n
abbrev pub HasSlot : ℕ → ℕ → Type 0
HasSlot own_size n = 6 + 2 * n ≤ own_size

-- what the vtable says of field n: absent, where its slot is missing or holds 0, or so many bytes behind the table's
-- place
abbrev pub SlotSays : List ℕ → ℕ → ℕ → ℕ → ℕ → Option ℕ → Type 0
SlotSays text table vtable own_size n None = (own_size < 6 + 2 * n) ⊎ ShowsUint text (slot_place vtable n) 2 0
SlotSays text table vtable own_size n (Some place) =
    (offset : ℕ) × HasSlot own_size n × (0 < offset) × ShowsUint text (slot_place vtable n) 2 offset
    × (place ≡ table + offset)

-- where field n of the table stands, or that it is absent
pub record ShowsField (text : List ℕ) (table n : ℕ) (field : Option ℕ) : Type 0 where
  pub vtable : ℕ
  pub own_size : ℕ
  pub shown : ShowsTable text table vtable own_size
  pub whole : sizes_len ≤ own_size
  pub says : SlotSays text table vtable own_size n field

-- at the place stands a table, whose vtable has room for its two sizes
abbrev pub HasTable : List ℕ → ℕ → Type 0
HasTable text table = (vtable own_size : ℕ) × ShowsTable text table vtable own_size × (sizes_len ≤ own_size)

-- what a view of a table sees: the bytes, and where in them the table stands
pub record Seen : Type 0 where
  pub buf : List ℕ
  pub place : ℕ
