-- That a disk in memory is one: a crash may leave what a read finds, and the crashes of this moment are those since
-- then. The definitions are those of `MemoryDisk`, a disk to try others with (POSIX, "fsync").
use Rattle.std.specs.Prelude.{◌≡◌, ℕ, ◌≤◌, List, [], ◌∷◌, length}
use Rattle.std.proofs.Common.{arith, sym, subst, refl}
use Rattle.std.proofs.lemmas.List.{take_all}
use Rattle.disk_records.specs.declared.memory_disk.Pick.TheVariants.{Written}
use Rattle.disk_records.specs.declared.memory_disk.Call.{Call}
use Rattle.disk_records.specs.declared.memory_disk.Call.TheVariants.{Write, Sync}
use Rattle.disk_records.specs.MemoryDisk.{laid_at, content_after, crashed, IsCrashed, WasCrashed}

-- where all writes stand, a crash leaves what a read finds
pub all_written : (file : List ℕ) (calls : List Call) → content_after file calls ≡ crashed Written file file calls
all_written file [] = refl
all_written file (Write at bytes ∷ later) = all_written (laid_at file at bytes.items) later
all_written file (Sync ∷ later) = all_written file later

pub content_left : (first : List ℕ) (calls : List Call) → IsCrashed first calls (content_after first calls)
content_left first calls = (Written, all_written first calls)

pub crashed_now : (first : List ℕ) (calls : List Call) (since : ℕ) (file : List ℕ) → since ≤ length calls
    → IsCrashed first calls file → WasCrashed first calls since file
crashed_now first calls since file le left = record {
  count = length calls;
  from = le;
  upto = omega arith;
  left =
      let P : List Call → Type 0 = λ l. IsCrashed first l file in
      subst P (sym (take_all (length calls) calls (omega arith))) left;
}

pub only_crashed_now : (first : List ℕ) (calls : List Call) (file : List ℕ) → WasCrashed first calls (length calls) file
    → IsCrashed first calls file
only_crashed_now first calls file was =
    let P : List Call → Type 0 = λ l. IsCrashed first l file in subst P (take_all was.count calls was.from) was.left
