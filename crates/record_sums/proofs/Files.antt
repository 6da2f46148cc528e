-- A file of sums that begins with the entries of all records.
use Rattle.std.proofs.Common.{◌≡◌, ℕ, zero, suc, ◌+◌, ◌*◌, ◌≤◌, List, [], ◌∷◌, ◌++◌, length, take, drop, slice_get, Option, Some, None, inl, inr, refl, sym, ap, subst, ◌∙◌, arith, append_assoc, length-append}
use Rattle.std.proofs.lemmas.List.{length-take, take-append-drop, take_at, drop_at, drop-drop}
use Rattle.std.proofs.lemmas.Slice.{drop-append-drop}
use Rattle.std.proofs.lemmas.Option.{same_Some, slice_get_within}
use Rattle.std.proofs.lemmas.Bool.{cases_lt}
use Rattle.std.specs.Int.{w64, to_le_bytes}
use Rattle.md5.specs.Md5.{md5}
use Rattle.md5.proofs.StandardFacts.{length-md5}
use Rattle.disk_records.specs.Disk.{written_at}
use Rattle.ballots.specs.Record.{canonical_record}
use Rattle.ballots.specs.declared.record.Record.{Record}
use Rattle.record_sums.specs.Sums.{IsEntered, IsEntry, IsMisfit, Fits, HasAll, bytes_at, entry_of, seal_of, sum_of}
use Rattle.record_sums.specs.Entering.{AreEntries, entries_text}
use Rattle.record_sums.proofs.Entries.{no_record, some_is_none}

-- ---- an entry has 24 bytes

pub entry_is_sized : (number : ℕ) (told : Record) → length (entry_of number told) ≡ 24
entry_is_sized number told =
    let sum = sum_of told in
    let sealing = md5 (to_le_bytes w64 number ++ sum) in
    omega (arith, length-append sum (seal_of number sum), length-md5 (canonical_record told), length-take 8 sealing, length-md5 (to_le_bytes w64 number ++ sum))

abbrev pub AreSized : List (List ℕ) → Type 0
AreSized entries = (number : ℕ) (entry : List ℕ) → slice_get entries number ≡ Some entry → length entry ≡ 24

sized_at : (entries : List (List ℕ)) (records : List Record) (number : ℕ) (entry : List ℕ) (found : Option Record) → AreEntries entries records
    → slice_get entries number ≡ Some entry → slice_get records number ≡ found → length entry ≡ 24
sized_at entries records number entry None are at found =
    absurd (no_record records number (omega (arith, slice_get_within entries number entry at, are.all)) found)
sized_at entries records number entry (Some told) are at found =
    ap length (same_Some entry (entry_of number told) (sym at ∙ are.each number told found)) ∙ entry_is_sized number told

pub are_sized : (entries : List (List ℕ)) (records : List Record) → AreEntries entries records → AreSized entries
are_sized entries records are number entry at = sized_at entries records number entry (slice_get records number) are at refl

-- ---- where the entries stand

pub text_length : (entries : List (List ℕ)) → AreSized entries → length (entries_text entries) ≡ 24 * length entries
text_length [] sized = refl
text_length (first ∷ later) sized =
    omega (arith, length-append first (entries_text later), sized 0 first refl, text_length later (λ number. sized (suc number)))

at_text : (entries : List (List ℕ)) (rest : List ℕ) (number : ℕ) (entry : List ℕ) → AreSized entries → slice_get entries number ≡ Some entry
    → bytes_at (entries_text entries ++ rest) number ≡ entry
at_text [] rest number entry sized at = absurd (some_is_none entry (sym at))
at_text (first ∷ later) rest zero entry sized at =
    ap (take 24) (append_assoc first (entries_text later) rest)
    ∙ take_at first (entries_text later ++ rest) 24 (sized 0 first refl)
    ∙ same_Some first entry at
at_text (first ∷ later) rest (suc number) entry sized at =
    let behind = entries_text later ++ rest in
    let place : 24 * suc number ≡ 24 + 24 * number = omega arith in
    ap (λ (l : List ℕ). take 24 (drop (24 * suc number) l)) (append_assoc first (entries_text later) rest)
    ∙ ap (λ (n : ℕ). take 24 (drop n (first ++ behind))) place
    ∙ ap (take 24) (sym (drop-drop (24 * number) 24 (first ++ behind)))
    ∙ ap (λ (l : List ℕ). take 24 (drop (24 * number) l)) (drop_at first behind 24 (sized 0 first refl))
    ∙ at_text later rest number entry (λ k. sized (suc k)) at

none_is_beyond : (records : List Record) (number : ℕ) → slice_get records number ≡ None → length records ≤ number
none_is_beyond records number none =
    elim (cases_lt number (length records)) as (λ _. length records ≤ number) [
      | inl inside ↦ absurd (no_record records number inside none)
      | inr beyond ↦ beyond
    ]

-- ---- the file has the sums of all records, and no other

all_stand : (file new : List ℕ) (entries : List (List ℕ)) (records : List Record) → AreEntries entries records
    → new ≡ entries_text entries ++ drop (length (entries_text entries)) file → HasAll new records
all_stand file new entries records are is number told found =
    ap (λ (l : List ℕ). bytes_at l number) is
    ∙ at_text entries (drop (length (entries_text entries)) file) number (entry_of number told) (are_sized entries records are) (are.each number told found)

pub misfit_before : (file new : List ℕ) (records : List Record) (number : ℕ) → bytes_at new number ≡ bytes_at file number
    → IsMisfit new records number → IsMisfit file records number
misfit_before file new records number same misfit = record {
  stands = subst (IsEntry number) same misfit.stands;
  differs = λ told found is. misfit.differs told found (same ∙ is);
}

entered_at : (file new : List ℕ) (entries : List (List ℕ)) (records : List Record) (number : ℕ) (found : Option Record) → AreEntries entries records
    → new ≡ entries_text entries ++ drop (length (entries_text entries)) file → Fits file records → slice_get records number ≡ found
    → IsMisfit new records number → ⊥
entered_at file new entries records number None are is fits found misfit =
    let text = entries_text entries in
    let beyond : length text ≤ 24 * number =
    omega (arith, text_length entries (are_sized entries records are), are.all, none_is_beyond records number found) in
    let same : bytes_at new number ≡ bytes_at file number =
    ap (λ (l : List ℕ). bytes_at l number) is ∙ ap (take 24) (drop-append-drop (length text) file text (24 * number) beyond refl) in
    fits number (misfit_before file new records number same misfit)
entered_at file new entries records number (Some told) are is fits found misfit =
    misfit.differs told found (all_stand file new entries records are is number told found)

pub entered : (file new : List ℕ) (entries : List (List ℕ)) (records : List Record) → AreEntries entries records
    → new ≡ entries_text entries ++ drop (length (entries_text entries)) file → Fits file records → IsEntered new records
entered file new entries records are is fits = record {
  fits = λ number misfit. entered_at file new entries records number (slice_get records number) are is fits refl misfit;
  all = all_stand file new entries records are is;
}

pub reaches : (file new : List ℕ) (entries : List (List ℕ)) (records : List Record) → AreEntries entries records
    → new ≡ entries_text entries ++ drop (length (entries_text entries)) file → 24 * length records ≤ length new
reaches file new entries records are is =
    let text = entries_text entries in
    omega (arith, ap length is, length-append text (drop (length text) file), text_length entries (are_sized entries records are), are.all)

-- ---- the steps of entering all

pub settled : (file found text : List ℕ) → file ≡ found → take (length text) found ≡ text → file ≡ text ++ drop (length text) file
settled file found text same begins =
    sym (take-append-drop (length text) file)
    ∙ ap (λ (l : List ℕ). l ++ drop (length text) file) (ap (take (length text)) same ∙ begins)

as_settled : (old mid new text : List ℕ) (entries : List (List ℕ)) → mid ≡ old → text ≡ entries_text entries
    → new ≡ text ++ drop (length text) mid → new ≡ entries_text entries ++ drop (length (entries_text entries)) old
as_settled old mid new text entries same spelled is =
    is ∙ ap (λ (l : List ℕ). l ++ drop (length l) mid) spelled
    ∙ ap (λ (l : List ℕ). entries_text entries ++ drop (length (entries_text entries)) l) same

-- what is written at the front takes the place of as many bytes
at_front : (file text : List ℕ) → written_at file 0 text ≡ text ++ drop (length text) file
at_front file text =
    let same : 0 + length text ≡ length text = omega arith in
    ap (λ (n : ℕ). text ++ drop n file) same

-- a file that begins with the entries of all records has the sums of all
pub all_there : (old mid found text : List ℕ) (entries : List (List ℕ)) (records : List Record) → found ≡ old → mid ≡ old
    → AreEntries entries records → Fits found records → text ≡ entries_text entries → take (length text) found ≡ text
    → (mid ≡ old) × Fits old records × IsEntered old records
all_there old mid found text entries records read same are fits spelled begins =
    let before = subst (λ (l : List ℕ). Fits l records) read fits in
    (same, before, entered old old entries records are (as_settled old old old text entries refl spelled (settled old found text (sym read) begins)) before)

-- and so has one in which they are written there
pub all_missing : (old mid found text : List ℕ) (entries : List (List ℕ)) (records : List Record) → found ≡ old → mid ≡ old
    → AreEntries entries records → Fits found records → text ≡ entries_text entries
    → (mid ≡ old) × Fits old records × IsEntered (written_at old 0 text) records
all_missing old mid found text entries records read same are fits spelled =
    let before = subst (λ (l : List ℕ). Fits l records) read fits in (
      same,
      before,
      entered old (written_at old 0 text) entries records are
          (as_settled old old (written_at old 0 text) text entries refl spelled (at_front old text)) before,
    )

pub there_reach : (old mid found text : List ℕ) (entries : List (List ℕ)) (records : List Record) → found ≡ old → mid ≡ old
    → AreEntries entries records → text ≡ entries_text entries → take (length text) found ≡ text → 24 * length records ≤ length mid
there_reach old mid found text entries records read same are spelled begins =
    let within = reaches old old entries records are (as_settled old old old text entries refl spelled (settled old found text (sym read) begins)) in
    omega (arith, within, ap length same)

pub missing_reach : (mid text : List ℕ) (entries : List (List ℕ)) (records : List Record) → AreEntries entries records
    → text ≡ entries_text entries → 24 * length records ≤ length (written_at mid 0 text)
missing_reach mid text entries records are spelled =
    reaches mid (written_at mid 0 text) entries records are (as_settled mid mid (written_at mid 0 text) text entries refl spelled (at_front mid text))
