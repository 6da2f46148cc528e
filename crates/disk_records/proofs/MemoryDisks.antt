-- What a disk in memory holds, and what a crash leaves of it, one call later.
use Rattle.std.proofs.Common.{◌≡◌, ◌⊎◌, inl, inr, ℕ, ◌+◌, ◌-◌, ◌≤◌, List, [], ◌∷◌, ◌++◌, length, take, drop, replicate, refl, sym, ap, subst, ◌∙◌, arith, append_assoc, length-append, Result, Ok, Err, Vec}
use Rattle.std.specs.Prelude.{OnOk, OnErr, IfOk}
use Rattle.std.proofs.lemmas.List.{take_at, drop_at, take_all, take_min, take-append-le, length-take, length-drop, length-replicate, length_push}
use Rattle.std.proofs.lemmas.Bool.{cases_lt}
use Rattle.std.specs.declared.alloc.Global.{Global}
use Rattle.disk_records.specs.declared.memory_disk.Pick.{Pick}
use Rattle.disk_records.specs.declared.memory_disk.Pick.TheVariants.{Written, Unwritten, Filled}
use Rattle.disk_records.specs.declared.memory_disk.Call.{Call}
use Rattle.disk_records.specs.declared.memory_disk.Call.TheVariants.{Write, Sync}
use Rattle.disk_records.specs.Disk.{written_at, IsTorn, MayBeTorn, LeavesOnly, CrashLeaves}
use Rattle.disk_records.specs.MemoryDisk.{laid_at, content_after, picked, crashed, IsWriteOf, IsCrashed, WasCrashed}
use Rattle.disk_records.specs.MemoryDiskLaws.{all_written, only_crashed_now}

-- ---- one call more

content_write : (file : List ℕ) (calls : List Call) (at : ℕ) (copy : Vec ℕ Global)
    → content_after file (calls ++ Write at copy ∷ []) ≡ laid_at (content_after file calls) at copy.items
content_write file [] at copy = refl
content_write file (Write place bytes ∷ later) at copy = content_write (laid_at file place bytes.items) later at copy
content_write file (Sync ∷ later) at copy = content_write file later at copy

content_sync : (file : List ℕ) (calls : List Call) → content_after file (calls ++ Sync ∷ []) ≡ content_after file calls
content_sync file [] = refl
content_sync file (Write place bytes ∷ later) = content_sync (laid_at file place bytes.items) later
content_sync file (Sync ∷ later) = content_sync file later

crashed_write : (pick : Pick) (content left : List ℕ) (calls : List Call) (at : ℕ) (copy : Vec ℕ Global)
    → crashed pick content left (calls ++ Write at copy ∷ []) ≡ picked pick (crashed pick content left calls) at
    copy.items
crashed_write pick content left [] at copy = refl
crashed_write pick content left (Write place bytes ∷ later) at copy =
    crashed_write pick (laid_at content place bytes.items) (picked pick left place bytes.items) later at copy
crashed_write pick content left (Sync ∷ later) at copy = crashed_write pick content content later at copy

crashed_sync : (pick : Pick) (content left : List ℕ) (calls : List Call)
    → crashed pick content left (calls ++ Sync ∷ []) ≡ content_after content calls
crashed_sync pick content left [] = refl
crashed_sync pick content left (Write place bytes ∷ later) =
    crashed_sync pick (laid_at content place bytes.items) (picked pick left place bytes.items) later
crashed_sync pick content left (Sync ∷ later) = crashed_sync pick content content later

-- ---- a write

laid_within : (file : List ℕ) (at : ℕ) (bytes : List ℕ) → at ≤ length file
    → laid_at file at bytes ≡ written_at file at bytes
laid_within file at bytes le =
    let none : at - length file ≡ 0 = omega (arith, le) in
    ap (λ n. take at file ++ (replicate n 255 ++ (bytes ++ drop (at + length bytes) file))) none

torn_same : (at count : ℕ) (file : List ℕ) → IsTorn at count file file
torn_same at count file = record {
  before = ap (λ n. take n file) (length-take at file) ∙ take_min at file;
  after = refl;
  no_shorter = omega arith;
  no_longer = omega arith;
}

laid_parts : (file : List ℕ) (at : ℕ) (bytes : List ℕ)
    → laid_at file at bytes ≡ (take at file ++ (replicate (at - length file) 255 ++ bytes)) ++ drop
    (at + length bytes) file
laid_parts file at bytes =
    let pad = replicate (at - length file) 255 in
    let rest = drop (at + length bytes) file in
    ap (λ l. take at file ++ l) (sym (append_assoc pad bytes rest)) ∙ sym
    (append_assoc (take at file) (pad ++ bytes) rest)

length_front : (file : List ℕ) (at : ℕ) (bytes : List ℕ)
    → length (take at file ++ (replicate (at - length file) 255 ++ bytes)) ≡ at + length bytes
length_front file at bytes =
    let byte : ℕ = 255 in
    let pad = replicate (at - length file) byte in
    omega (
      arith,
      length-append (take at file) (pad ++ bytes),
      length-append pad bytes,
      length-take at file,
      length-replicate (at - length file) byte,
    )

torn_laid : (file : List ℕ) (at : ℕ) (bytes : List ℕ) → IsTorn at (length bytes) file (laid_at file at bytes)
torn_laid file at bytes =
    let front = take at file ++ (replicate (at - length file) 255 ++ bytes) in
    let rest = drop (at + length bytes) file in
    let long = length_front file at bytes in
    let all = ap length (laid_parts file at bytes) ∙ length-append front rest in
    let end = length-drop (at + length bytes) file in
    record {
      before = take_at (take at file) (replicate (at - length file) 255 ++ (bytes ++ rest)) (length (take at file))
          refl;
      after = ap (drop (at + length bytes)) (laid_parts file at bytes) ∙ drop_at front rest (at + length bytes) long;
      no_shorter = omega (arith, all, long, end);
      no_longer = omega (arith, all, long, end);
    }

torn_picked : (pick : Pick) (file : List ℕ) (at : ℕ) (bytes : List ℕ)
    → IsTorn at (length bytes) file (picked pick file at bytes)
torn_picked Written file at bytes = torn_laid file at bytes
torn_picked Unwritten file at bytes = torn_same at (length bytes) file
torn_picked Filled file at bytes =
    let fill = replicate (length bytes) 255 in
    let P : ℕ → Type 0 = λ n. IsTorn at n file (laid_at file at fill) in
    subst P (length-replicate (length bytes) 255) (torn_laid file at fill)

-- ---- crashes

pub rests : (first : List ℕ) (calls : List Call) (P : List ℕ → Type 0)
    → ((file : List ℕ) → IsCrashed first calls file → P file)
    → CrashLeaves (length calls) (length calls) (WasCrashed first calls) (WasCrashed first calls) P
rests first calls P here = record {
  later = omega arith;
  leaves = λ file was. here file (only_crashed_now first calls file was);
  before = λ t file le was. inl was;
  remembers = λ t file le was. was;
}

-- the calls so far, of one more
take_earlier : (calls : List Call) (call : Call) (count : ℕ) → count ≤ length calls
    → take count (calls ++ call ∷ []) ≡ take count calls
take_earlier calls call count le = take-append-le count calls (call ∷ []) le

earlier_or_now : (first : List ℕ) (calls : List Call) (call : Call) (t : ℕ) (file : List ℕ)
    → WasCrashed first (calls ++ call ∷ []) t file
    → WasCrashed first calls t file ⊎ IsCrashed first (calls ++ call ∷ []) file
earlier_or_now first calls call t file was =
    let P : List Call → Type 0 = λ l. IsCrashed first l file in
    elim (cases_lt (length calls) was.count) as (λ _. WasCrashed first calls t file ⊎ IsCrashed first
    (calls ++ call ∷ []) file) [
      | inl last ↦
          let long = length_push calls call in
          inr (subst P (take_all was.count (calls ++ call ∷ []) (omega (arith, long, last))) was.left)
      | inr le ↦ inl (record {
        count = was.count;
        from = was.from;
        upto = le;
        left = subst P (take_earlier calls call was.count le) was.left;
      })
    ]

pushed : (first : List ℕ) (calls : List Call) (call : Call) (P : List ℕ → Type 0)
    → ((file : List ℕ) → IsCrashed first calls file → P file)
    → ((file : List ℕ) → IsCrashed first (calls ++ call ∷ []) file → P file)
    → CrashLeaves (length calls) (length (calls ++ call ∷ [])) (WasCrashed first calls)
    (WasCrashed first (calls ++ call ∷ [])) P
pushed first calls call P old new = record {
  later = omega (arith, length_push calls call);
  leaves = λ file was. elim (earlier_or_now first calls call (length calls) file was) [
    | inl earlier ↦ old file (only_crashed_now first calls file earlier)
    | inr now ↦ new file now
  ];
  before = λ t file le was. elim (earlier_or_now first calls call t file was)
      [ inl earlier ↦ inl earlier | inr now ↦ inr (new file now) ];
  remembers = λ t file le was.
      let P : List Call → Type 0 = λ l. IsCrashed first l file in
      let upto = was.upto in
      record {
        count = was.count;
        from = was.from;
        upto = omega (arith, upto, length_push calls call);
        left = subst P (sym (take_earlier calls call was.count was.upto)) was.left;
      };
}

-- ---- the calls of the disk

-- what a crash leaves where nothing is written
pub may_be_torn : (first : List ℕ) (calls : List Call) (at count : ℕ) (file : List ℕ) → IsCrashed first calls file
    → MayBeTorn at count (IsCrashed first calls) file
may_be_torn first calls at count file left = (file, left, torn_same at count file)

write_tears : (first : List ℕ) (calls : List Call) (at : ℕ) (copy : Vec ℕ Global) (file : List ℕ)
    → IsCrashed first (calls ++ Write at copy ∷ []) file → MayBeTorn at (length copy.items) (IsCrashed first calls) file
write_tears first calls at copy file left =
    let before = crashed left.0 first first calls in
    let P : List ℕ → Type 0 = λ l. IsTorn at (length copy.items) before l in (
      before,
      (left.0, refl),
      subst P (sym (left.1 ∙ crashed_write left.0 first first calls at copy))
          (torn_picked left.0 before at copy.items),
    )

-- a write, done or refused
pub write_crash : {T E : Type 0} (done : Result T E) (first : List ℕ) (old new : List Call) (at : ℕ) (bytes : List ℕ)
    → OnOk done (IsWriteOf old new at bytes) → OnErr done (new ≡ old)
    → CrashLeaves (length old) (length new) (WasCrashed first old) (WasCrashed first new)
    (MayBeTorn at (length bytes) (IsCrashed first old))
write_crash (Ok _) first old new at bytes ok err =
    let P : List Call → Type 0 = λ l. CrashLeaves (length old) (length l) (WasCrashed first old) (WasCrashed first l)
    (MayBeTorn at (length bytes) (IsCrashed first old)) in
    let Q : List ℕ → Type 0 = λ l. (file : List ℕ) → IsCrashed first (old ++ Write at ok.0 ∷ []) file → MayBeTorn at
    (length l) (IsCrashed first old) file in
    subst P (sym ok.2) (pushed first old (Write at ok.0) (MayBeTorn at (length bytes) (IsCrashed first old))
    (may_be_torn first old at (length bytes)) (subst Q ok.1 (write_tears first old at ok.0)))
write_crash (Err _) first old new at bytes ok err =
    let P : List Call → Type 0 = λ l. CrashLeaves (length old) (length l) (WasCrashed first old) (WasCrashed first l)
    (MayBeTorn at (length bytes) (IsCrashed first old)) in
    subst P (sym err) (rests first old (MayBeTorn at (length bytes) (IsCrashed first old))
    (may_be_torn first old at (length bytes)))

-- what was done, where it was not refused
pub done_where_ok : {T E F : Type 0} (answer : Result T F) (done : Result T E) (P : Type 0)
    → IfOk answer (λ given. done ≡ Ok given) → OnOk done P → OnOk answer P
done_where_ok {T = T} {E = E} (Ok given) done P is has =
    let Q : Result T E → Type 0 = λ r. OnOk r P in subst Q is has
done_where_ok (Err _) done P is has = tt

pub write_done : {T E : Type 0} (done : Result T E) (first : List ℕ) (old new : List Call) (at : ℕ) (bytes : List ℕ)
    → at ≤ length (content_after first old) → OnOk done (IsWriteOf old new at bytes)
    → OnOk done (content_after first new ≡ written_at (content_after first old) at bytes)
write_done (Ok _) first old new at bytes within ok =
    ap (content_after first) ok.2 ∙ content_write first old at ok.0
    ∙ laid_within (content_after first old) at ok.0.items within ∙ ap (written_at (content_after first old) at) ok.1
write_done (Err _) first old new at bytes within ok = tt

abbrev pub IsSynced : List Call → List Call → Type 0
IsSynced old new = new ≡ old ++ Sync ∷ []

sync_leaves : (first : List ℕ) (calls : List Call) (file : List ℕ) → IsCrashed first (calls ++ Sync ∷ []) file
    → file ≡ content_after first calls
sync_leaves first calls file left = left.1 ∙ crashed_sync left.0 first first calls

pub sync_stands : {T E : Type 0} (done : Result T E) (first : List ℕ) (old new : List Call)
    → OnOk done (IsSynced old new)
    → OnOk done (LeavesOnly (content_after first old) (IsCrashed first new))
sync_stands (Ok _) first old new ok =
    let P : List Call → Type 0 = λ l. LeavesOnly (content_after first old) (IsCrashed first l) in
    subst P (sym ok) (sync_leaves first old)
sync_stands (Err _) first old new ok = tt

pub sync_same : {T E : Type 0} (done : Result T E) (first : List ℕ) (old new : List Call) → OnOk done (IsSynced old new)
    → OnOk done (content_after first new ≡ content_after first old)
sync_same (Ok _) first old new ok = ap (content_after first) ok ∙ content_sync first old
sync_same (Err _) first old new ok = tt

-- what a crash leaves behind a sync, it might have left before
sync_no_more : (first : List ℕ) (calls : List Call) (file : List ℕ) → IsCrashed first (calls ++ Sync ∷ []) file
    → IsCrashed first calls file
sync_no_more first calls file left =
    (Written, sync_leaves first calls file left ∙ all_written first calls)

pub sync_crash : {T E : Type 0} (done : Result T E) (first : List ℕ) (old new : List Call)
    → OnOk done (IsSynced old new)
    → OnErr done (new ≡ old)
    → CrashLeaves (length old) (length new) (WasCrashed first old) (WasCrashed first new) (IsCrashed first old)
sync_crash (Ok _) first old new ok err =
    let P : List Call → Type 0 = λ l. CrashLeaves (length old) (length l) (WasCrashed first old) (WasCrashed first l)
    (IsCrashed first old) in
    subst P (sym ok) (pushed first old Sync (IsCrashed first old) (λ file left. left) (sync_no_more first old))
sync_crash (Err _) first old new ok err =
    let P : List Call → Type 0 = λ l. CrashLeaves (length old) (length l) (WasCrashed first old) (WasCrashed first l)
    (IsCrashed first old) in
    subst P (sym err) (rests first old (IsCrashed first old) (λ file left. left))
