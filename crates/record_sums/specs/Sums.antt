-- Sums of a node's records, in a file beside these: an entry of 24 bytes for each record, in the order in which they were kept.
-- An entry is the record's digest (MD5, RFC 1321), and behind it what seals it: eight bytes that fit this digest at this
-- number alone, so that an entry which a crash left in part is none. The file is this service's own.
use Rattle.std.specs.Prelude.{◌≡◌, ◌≢◌, ℕ, ◌*◌, ◌<◌, Some, List, ◌++◌, length, take, drop, slice_get}
use Rattle.std.specs.Int.{w64, to_le_bytes}
use Rattle.md5.specs.Md5.{md5}
use Rattle.ballots.specs.Record.{canonical_record}
use Rattle.ballots.specs.declared.record.Record.{Record}

-- the digest of a record's bytes, as they are written
abbrev pub sum_of : Record → List ℕ
sum_of told = md5 (canonical_record told)

-- what seals the sum of the record of this number
abbrev pub seal_of : ℕ → List ℕ → List ℕ
seal_of number sum = take 8 (md5 (to_le_bytes w64 number ++ sum))

-- the entry of the record of this number
abbrev pub entry_of : ℕ → Record → List ℕ
entry_of number told = sum_of told ++ seal_of number (sum_of told)

-- these bytes are an entry of this number, of whichever record: the last eight seal the others
pub record IsEntry (number : ℕ) (bytes : List ℕ) : Type 0 where
  pub whole : length bytes ≡ 24
  pub sealed : drop 16 bytes ≡ seal_of number (take 16 bytes)

-- the bytes of the file that an entry of this number takes, or those that there are
abbrev pub bytes_at : List ℕ → ℕ → List ℕ
bytes_at file number = take 24 (drop (24 * number) file)

-- an entry stands at this number that is not the record's
pub record IsMisfit (file : List ℕ) (records : List Record) (number : ℕ) : Type 0 where
  pub stands : IsEntry number (bytes_at file number)
  pub differs : (told : Record) → slice_get records number ≡ Some told → bytes_at file number ≢ entry_of number told

-- the file's entries are those of these records: each that stands is the record's, and none is of a record that is not there
abbrev pub Fits : List ℕ → List Record → Type 0
Fits file records = (number : ℕ) → IsMisfit file records number → ⊥

-- the first entry that is not the record's
pub record IsFirstMisfit (file : List ℕ) (records : List Record) (number : ℕ) : Type 0 where
  pub misfit : IsMisfit file records number
  pub before : (other : ℕ) → other < number → IsMisfit file records other → ⊥

-- each of these records has its entry
abbrev pub HasAll : List ℕ → List Record → Type 0
HasAll file records =
    (number : ℕ) (told : Record) → slice_get records number ≡ Some told → bytes_at file number ≡ entry_of number told

-- the file has the sum of each of these records, and no other
pub record IsEntered (file : List ℕ) (records : List Record) : Type 0 where
  pub fits : Fits file records
  pub all : HasAll file records
