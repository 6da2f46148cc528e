-- A disk in memory, as its first bytes and the calls since then: a disk to try others with. What a crash leaves of a
-- write that is not synced is one of three that it is told; POSIX, "fsync", allows any.
use Rattle.std.specs.Prelude.{◌≡◌, ℕ, ◌+◌, ◌-◌, ◌≤◌, List, [], ◌∷◌, ◌++◌, length, take, drop, replicate, Vec}
use Rattle.std.specs.declared.alloc.Global.{Global}
use Rattle.disk_records.specs.declared.memory_disk.Pick.{Pick}
use Rattle.disk_records.specs.declared.memory_disk.Pick.TheVariants.{Written, Unwritten, Filled}
use Rattle.disk_records.specs.declared.memory_disk.Call.{Call}
use Rattle.disk_records.specs.declared.memory_disk.MemoryDisk.{MemoryDisk}
use Rattle.disk_records.specs.declared.memory_disk.Call.TheVariants.{Write, Sync}

-- the file with these bytes at this place; where the file is shorter, bytes ff stand between
abbrev pub laid_at : List ℕ → ℕ → List ℕ → List ℕ
laid_at file at bytes = take at file ++ (replicate (at - length file) 255 ++ (bytes ++ drop (at + length bytes) file))

-- the file after these calls
abbrev pub content_after : List ℕ → List Call → List ℕ
content_after file [] = file
content_after file (Write at bytes ∷ later) = content_after (laid_at file at bytes.items) later
content_after file (Sync ∷ later) = content_after file later

-- what is left of a write that is not synced: the bytes, or what was there before, or bytes ff
abbrev pub picked : Pick → List ℕ → ℕ → List ℕ → List ℕ
picked Written file at bytes = laid_at file at bytes
picked Unwritten file at bytes = file
picked Filled file at bytes = laid_at file at (replicate (length bytes) 255)

-- What a crash leaves after these calls. `content` is what a read finds before them, and `left` what a crash leaves
-- then.
abbrev pub crashed : Pick → List ℕ → List ℕ → List Call → List ℕ
crashed pick content left [] = left
crashed pick content left (Write at bytes ∷ later) =
    crashed pick (laid_at content at bytes.items) (picked pick left at bytes.items) later
crashed pick content left (Sync ∷ later) = crashed pick content content later

-- one call more: these bytes were written at this place
abbrev pub IsWriteOf : List Call → List Call → ℕ → List ℕ → Type 0
IsWriteOf old new at bytes = (copy : Vec ℕ Global) × (copy.items ≡ bytes) × (new ≡ old ++ Write at copy ∷ [])

-- what a crash leaves of this disk
abbrev pub left_of : Pick → MemoryDisk → List ℕ
left_of pick disk = crashed pick disk.first.items disk.first.items disk.calls.items

-- a crash leaves this, whichever it is told
abbrev pub IsCrashed : List ℕ → List Call → List ℕ → Type 0
IsCrashed first calls file = (pick : Pick) × (file ≡ crashed pick first first calls)

-- a crash might have left this after one of the calls, and not before so many of them
pub record WasCrashed (first : List ℕ) (calls : List Call) (since : ℕ) (file : List ℕ) : Type 0 where
  pub count : ℕ
  pub from : since ≤ count
  pub upto : count ≤ length calls
  pub left : IsCrashed first (take count calls) file
