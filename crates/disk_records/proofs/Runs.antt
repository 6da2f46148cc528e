-- What a crash leaves over one call of a disk after another.
use Rattle.std.proofs.Common.{◌≡◌, inl, inr, ℕ, ◌+◌, ◌≤◌, List, [], ◌∷◌, ◌++◌, length, take, drop, get_or, sym, ap, ◌∙◌, arith, length-append, take-append-drop}
use Rattle.std.proofs.lemmas.List.{drop_at, drop_more, take-take, take-append-le, length-take-le}
use Rattle.disk_records.specs.RecordFile.{with_block}
use Rattle.disk_records.specs.Disk.{written_at, IsTorn, CrashLeaves}
use Rattle.disk_records.specs.DiskCalls.{IsAddedOrNot}

-- ---- crashes over several calls

module _ {D : Type 0} (moment : D → ℕ) (since : D → ℕ → List ℕ → Type 0) (may_leave : D → List ℕ → Type 0)
    (counts_now : (disk : D) (t : ℕ) (file : List ℕ) → t ≤ moment disk → may_leave disk file → since disk t file) where
  abbrev pub Crash : D → D → (List ℕ → Type 0) → Type 0
  Crash old new P = CrashLeaves (moment old) (moment new) (since old) (since new) P

  -- what a crash leaves at the end, it leaves at some moment
  pub at_end : (old new : D) (P : List ℕ → Type 0) → Crash old new P → (file : List ℕ) → may_leave new file → P file
  at_end old new P crash file left = crash.leaves file (counts_now new (moment old) file crash.later left)

  pub goes_on : (old mid new : D) (P Q R : List ℕ → Type 0) → Crash old mid P → Crash mid new Q
      → ((file : List ℕ) → P file → R file) → ((file : List ℕ) → Q file → R file) → Crash old new R
  goes_on old mid new P Q R first second early late = record {
    later = let a = first.later in let b = second.later in omega (arith, a, b);
    leaves = λ file left. elim (second.before (moment old) file first.later left) [
      | inl earlier ↦ early file (first.leaves file earlier)
      | inr now ↦ late file now
    ];
    before = λ t file le left. let a = first.later in
        elim (second.before t file (omega (arith, le, a)) left) [
          | inl earlier ↦ elim (first.before t file le earlier) [ inl past ↦ inl past | inr now ↦ inr (early file now) ]
          | inr now ↦ inr (late file now)
        ];
    remembers = λ t file le left. let a = first.later in
        second.remembers t file (omega (arith, le, a)) (first.remembers t file le left);
  }

-- ---- what is written

pub front_stays : (at count : ℕ) (old new : List ℕ) → at ≤ length old → IsTorn at count old new
    → take at new ≡ take at old
front_stays at count old new le torn =
    let long : length (take at old) ≡ at = length-take-le at old le in
    ap (λ n. take n new) (sym long) ∙ torn.before

-- ---- a block behind a gate

-- the file with the block behind its gate, as it stands before the gate is opened
abbrev pub staged : List ℕ → ℕ → List ℕ → List ℕ
staged content gate block = written_at content (gate + 1) block

pub staged_is_within : (content : List ℕ) (gate : ℕ) (block : List ℕ) → gate + 1 ≤ length content
    → gate + 1 ≤ length (staged content gate block)
staged_is_within content gate block le =
    let long = length-take-le (gate + 1) content le in
    omega (arith, long, length-append (take (gate + 1) content) (block ++ drop (gate + 1 + length block) content))

staged_front : (content : List ℕ) (gate : ℕ) (block : List ℕ) → gate + 1 ≤ length content
    → take gate (staged content gate block) ≡ take gate content
staged_front content gate block le =
    let front = take (gate + 1) content in
    let long = length-take-le (gate + 1) content le in
    take-append-le gate front (block ++ drop (gate + 1 + length block) content) (omega (arith, long))
    ∙ take-take gate (gate + 1) content (omega arith)

staged_behind : (content : List ℕ) (gate : ℕ) (block : List ℕ) → gate + 1 ≤ length content
    → drop (gate + 1) (staged content gate block) ≡ block ++ drop (gate + 1 + length block) content
staged_behind content gate block le =
    drop_at (take (gate + 1) content) (block ++ drop (gate + 1 + length block) content) (gate + 1)
    (length-take-le (gate + 1) content le)

pub opened : (content : List ℕ) (gate byte : ℕ) (block : List ℕ) → gate + 1 ≤ length content
    → written_at (staged content gate block) gate (byte ∷ []) ≡ with_block content gate byte block
opened content gate byte block le =
    ap (λ l. l ++ byte ∷ drop (gate + 1) (staged content gate block)) (staged_front content gate block le)
    ∙ ap (λ l. take gate content ++ byte ∷ l) (staged_behind content gate block le)

-- a torn gate is some byte, with all else as it was
torn_gate : (old new : List ℕ) (gate : ℕ) → gate + 1 ≤ length old → IsTorn gate 1 old new
    → new ≡ written_at old gate (get_or new gate 0 ∷ [])
torn_gate old new gate le torn =
    let some = torn.no_shorter in
    sym (take-append-drop gate new)
    ∙ ap (λ l. l ++ drop gate new) (front_stays gate 1 old new (omega (arith, le)) torn)
    ∙ ap (λ l. take gate old ++ l) (drop_more new gate 0 (omega (arith, some, le)) ∙ ap (λ l. get_or new gate 0 ∷ l)
    torn.after)

pub torn_open : (content : List ℕ) (gate : ℕ) (block : List ℕ) → gate + 1 ≤ length content → (file : List ℕ)
    → IsTorn gate 1 (staged content gate block) file → IsAddedOrNot content gate block file
torn_open content gate block le file torn =
    let byte = get_or file gate 0 in
    inr (
      byte,
      torn_gate (staged content gate block) file gate (staged_is_within content gate block le) torn
          ∙ opened content gate byte block le,
    )

pub torn_behind : (content : List ℕ) (gate : ℕ) (block : List ℕ) → gate + 1 ≤ length content → (file : List ℕ)
    → IsTorn (gate + 1) (length block) content file → IsAddedOrNot content gate block file
torn_behind content gate block le file torn = inl (front_stays (gate + 1) (length block) content file le torn)
