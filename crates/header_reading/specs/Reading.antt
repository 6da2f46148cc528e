-- What the program reads of a message before its parts are put together: a tool of the proofs. What a text shows is
-- defined in `Header`, and faults in `Faults`.
use Rattle.std.specs.Prelude.{◌≡◌, ◌⊎◌, ℕ, ◌+◌, ◌*◌, ℤ, Bool, List, Option, is_some}
use Rattle.flat_places.specs.Number.{ShowsReference}
use Rattle.flat_places.specs.Table.{ShowsField}
use Rattle.flat_places.specs.Fault.{NumberFault}
use Rattle.header_types.specs.declared.fault.MetaFault.{MetaFault}
use Rattle.header_types.specs.Slots.{ShowsNumber, VectorRef, ShowsVectorRef, FromPlaceFault, SlotNumberFault}
use Rattle.header_types.specs.Header.{int64_of, ShowsInt64, Head, ShowsBatch}
use Rattle.header_reading.specs.Faults.{BatchFault, MessageFault}

-- ---- batches

-- field n of the table is this signed number of eight bytes, and 0 where it is absent
abbrev pub ShowsLong : List ℕ → ℕ → ℕ → ℤ → Type 0
ShowsLong text table n z = (bits : ℕ) × ShowsNumber text table n 8 0 bits × (z ≡ int64_of bits)

-- the table shows this batch, and its message how many bytes the body has
abbrev pub ShowsBatchIn : List ℕ → ℕ → ℕ → Head → Type 0
ShowsBatchIn text message table head = ShowsBatch text table head × ShowsLong text message 3 head.body_length

-- the table says whether the buffers are compressed
abbrev pub ShowsCompression : List ℕ → ℕ → Bool → Type 0
ShowsCompression text table compressed = (field : Option ℕ) × ShowsField text table 3 field
    × (compressed ≡ is_some field)

-- the same of a batch, but for the structs of its two vectors
pub record ShowsBatchParts (text : List ℕ) (message table : ℕ) (length : ℤ) (nodes buffers : VectorRef)
    (compressed : Bool) (body_length : ℤ) : Type 0 where
  pub length_shown : ShowsLong text table 0 length
  pub nodes_shown : ShowsVectorRef text table 1 16 nodes
  pub buffers_shown : ShowsVectorRef text table 2 16 buffers
  pub compression : Option ℕ
  pub compression_shown : ShowsField text table 3 compression
  pub compressed_is : compressed ≡ is_some compression
  pub body_shown : ShowsLong text message 3 body_length

abbrev pub BatchFaultIn : List ℕ → ℕ → ℕ → MetaFault → Type 0
BatchFaultIn text message table fault = BatchFault text table fault ⊎ SlotNumberFault text message 3 8 fault

-- at index i of the vector stands this struct of two numbers
abbrev pub IsPairAt : List ℕ → ℕ → ℕ → ℤ × ℤ → Type 0
IsPairAt text first i pair = ShowsInt64 text (first + 16 * i) pair.0 × ShowsInt64 text (first + 16 * i + 8) pair.1

-- ---- messages

-- what is wrong with a text before its header
abbrev pub RootFault : List ℕ → MetaFault → Type 0
RootFault text fault =
    FromPlaceFault (NumberFault text 0 4) fault
    ⊎ ((message : ℕ) × ShowsReference text 0 message × MessageFault text message fault)
