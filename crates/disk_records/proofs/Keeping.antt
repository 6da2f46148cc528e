-- What is found while a record is kept behind a closed gate.
use Rattle.std.proofs.Common.{◌≡◌, ◌≢◌, ◌⊎◌, inl, inr, ℕ, ◌+◌, ◌^◌, ◌<◌, ◌≤◌, List, [], ◌∷◌, ◌++◌, length, take, Some, None, sym, ap, subst, ◌∙◌, arith}
use Rattle.std.specs.Coded.{le_prop}
use Rattle.std.proofs.lemmas.Bool.{cases_eq}
use mathlib.Core.Logic.{∥∥₁_elim, ∥∥₁_map}
use Rattle.ballots.specs.declared.record.Record.{Record}
use Rattle.ballots.specs.Record.{IsRecordText, canonical_record}
use Rattle.stable_records.specs.Found.{Found, IsWith, IsWithOrWithout, AddsRecord}
use Rattle.disk_records.specs.RecordFile.{IsClosedAt, FileMeans, FileGives, behind_gate, with_block}
use Rattle.disk_records.specs.Disk.{LeavesOnly}
use Rattle.disk_records.specs.DiskCalls.{IsSettled, IsAddedOrNot}
use Rattle.disk_records.specs.Ready.{FoundIn, IsReadyAt, FileMeans-prop, records_of, stands_of}
use Rattle.disk_records.proofs.CallerLemmas.{closed_means, gate_is_within, closed_stays, shut_at, opened_at, length-behind_gate}

-- a file means one list of records at most
abbrev pub FilesMeanOne : Type 0
FilesMeanOne = (file : List ℕ) (one other : List Record) → FileMeans file one → FileMeans file other → one ≡ other

-- what a file gives that means these records
pub gives_these : FilesMeanOne → (file : List ℕ) (records : List Record) → FileMeans file records → (found : Found)
    → FileGives file found → found ≡ Some records
gives_these one file records means (Some other) gives = ap (λ l. Some l) (one file other records gives means)
gives_these one file records means None nothing = absurd (nothing records means)

-- these bytes are a record's, as a keep writes them
pub record IsTextOf (block : List ℕ) (told : Record) : Type 0 where
  pub text : List ℕ
  pub bytes : block ≡ behind_gate text
  pub fits : length text < 2 ^ 32
  pub means : IsRecordText text told

pub text_of : (block items : List ℕ) (told : Record) → block ≡ items → items ≡ behind_gate (canonical_record told)
    → length (canonical_record told) < 2 ^ 32 → IsRecordText (canonical_record told) told → IsTextOf block told
text_of block items told same bytes fits means =
    record { text = canonical_record told; bytes = same ∙ bytes; fits = fits; means = means }

module _ (content : List ℕ) (may_leave : List ℕ → Type 0) (gate : ℕ)
    (ready : ∥ IsReadyAt content may_leave gate ∥₁) where
  abbrev records : List Record
  records = (records_of content may_leave gate ready).0

  means : FileMeans content records
  means = (records_of content may_leave gate ready).1.0

  alone : (other : List Record) → FileMeans content other → other ≡ records
  alone = (records_of content may_leave gate ready).1.1

  pub is_within : gate + 1 ≤ length content
  is_within = ∥∥₁_elim ready le_prop (λ r. gate_is_within content r.records gate r.closed)

  -- what the closed gate behind the records shows
  by_gate : (file : List ℕ) (other : List Record) → (IsClosedAt content records gate → FileMeans file other)
      → FileMeans file other
  by_gate file other shows = ∥∥₁_elim ready (FileMeans-prop file other) (λ r.
      let P : List Record → Type 0 = λ l. IsClosedAt content l gate in
      shows (subst P (alone r.records r.means) r.closed))

  gate_stands : (file : List ℕ) → take (gate + 1) file ≡ take (gate + 1) content → FileMeans file records
  gate_stands file same = by_gate file records (λ closed.
      closed_means file records gate (closed_stays content file records gate closed same))

  gate_shut : (block : List ℕ) (byte : ℕ) → byte ≢ 1 → FileMeans (with_block content gate byte block) records
  gate_shut block byte shut = by_gate (with_block content gate byte block) records (λ closed.
      closed_means (with_block content gate byte block) records gate
      (shut_at content block records gate byte closed shut))

  gate_open : (block : List ℕ) (told : Record) → IsTextOf block told
      → FileMeans (with_block content gate 1 block) (records ++ told ∷ [])
  gate_open block told t =
      let P : List ℕ → Type 0 = λ l. FileMeans (with_block content gate 1 l) (records ++ told ∷ []) in
      let file = with_block content gate 1 (behind_gate t.text) in
      subst P (sym t.bytes) (by_gate file (records ++ told ∷ []) (λ closed.
      closed_means file (records ++ told ∷ []) (gate + 5 + length t.text)
      (opened_at content t.text records told gate closed t.fits t.means)))

  added_or_not : (block : List ℕ) (told : Record) → IsTextOf block told → (file : List ℕ)
      → IsAddedOrNot content gate block file
      → FileMeans file records ⊎ FileMeans file (records ++ told ∷ [])
  added_or_not block told t file (inl same) = inl (gate_stands file same)
  added_or_not block told t file (inr gates) =
      elim (cases_eq gates.0 1) as (λ _. FileMeans file records ⊎ FileMeans file (records ++ told ∷ [])) [
        | inl is_open ↦
            let P : List ℕ → Type 0 = λ l. FileMeans l (records ++ told ∷ []) in
            inr (subst P (sym (gates.1 ∙ ap (λ byte. with_block content gate byte block) is_open))
            (gate_open block told t))
        | inr shut ↦
            let P : List ℕ → Type 0 = λ l. FileMeans l records in
            inl (subst P (sym gates.1) (gate_shut block gates.0 shut))
      ]

  module _ (one : FilesMeanOne) (here : may_leave content) (block : List ℕ) (told : Record)
      (t : IsTextOf block told) where
    found_before : (found : Found) → found ≡ Some records → FoundIn may_leave found
    found_before found is =
        let P : Found → Type 0 = λ f. FileGives content f in (content, here, subst P (sym is) means)

    found_with : (found : Found) → found ≡ Some (records ++ told ∷ []) → IsWith told (FoundIn may_leave) found
    found_with found is = (records, (content, here, means), is)

    -- whatever a crash leaves
    pub with_or_without : (file : List ℕ) → IsAddedOrNot content gate block file → (found : Found)
        → FileGives file found
        → IsWithOrWithout told (FoundIn may_leave) found
    with_or_without file added found gives = elim (added_or_not block told t file added) [
      | inl before ↦ inl (found_before found (gives_these one file records before found gives))
      | inr with ↦ inr (found_with found (gives_these one file (records ++ told ∷ []) with found gives))
    ]

    -- ---- the record is kept

    module _ (after : List ℕ) (may_be_left : List ℕ → Type 0)
        (settled : IsSettled after may_be_left (with_block content gate 1 block)) where
      after_means : FileMeans after (records ++ told ∷ [])
      after_means =
          let P : List ℕ → Type 0 = λ l. FileMeans l (records ++ told ∷ []) in
          subst P (sym settled.bytes) (gate_open block told t)

      -- whatever it meant before
      pub file_means : (before : List Record) → FileMeans content before → FileMeans after (before ++ told ∷ [])
      file_means before meant =
          let P : List Record → Type 0 = λ l. FileMeans after (l ++ told ∷ []) in
          subst P (sym (alone before meant)) after_means

      pub after_stands : LeavesOnly after may_be_left
      after_stands file left = settled.stands file left ∙ sym settled.bytes

      found_after : (found : Found) → FoundIn may_be_left found → found ≡ Some (records ++ told ∷ [])
      found_after found found_here =
          let P : List ℕ → Type 0 = λ l. FileGives l found in
          gives_these one after (records ++ told ∷ []) after_means found
          (subst P (after_stands found_here.0 found_here.1) found_here.2)

      before_is : (before : List Record) → FoundIn may_leave (Some before) → before ≡ records
      before_is before found_here =
          let P : List ℕ → Type 0 = λ l. FileMeans l before in
          alone before (subst P (stands_of content may_leave gate ready found_here.0 found_here.1) found_here.2)

      pub record_is_added : may_be_left after → AddsRecord told (FoundIn may_leave) (FoundIn may_be_left)
      record_is_added stays = record {
        each = λ before found_here.
            let P : List Record → Type 0 = λ l. FileMeans after (l ++ told ∷ []) in
            (after, stays, subst P (sym (before_is before found_here)) after_means);
        nothing_else = λ found found_here. found_with found (found_after found found_here);
      }

      -- and the next one may be kept behind it
      pub next_gate : ∥ IsReadyAt after may_be_left (gate + length block) ∥₁
      next_gate = ∥∥₁_map ready (λ r.
          let kept = r.records ++ told ∷ [] in
          let P : List ℕ → Type 0 = λ l. IsClosedAt l kept (gate + 5 + length t.text) in
          let Q : ℕ → Type 0 = λ n. IsClosedAt after kept n in
          let is : after ≡ with_block content gate 1 (behind_gate t.text) =
          settled.bytes ∙ ap (with_block content gate 1) t.bytes in
          let place : gate + 5 + length t.text ≡ gate + length block = let l = ap length t.bytes in omega
          (arith, l, length-behind_gate t.text) in
          let closed = subst Q place (subst P (sym is) (opened_at content t.text r.records told gate r.closed t.fits
          t.means)) in
          let means_kept = closed_means after kept (gate + length block) closed in
          let ready_next : IsReadyAt after may_be_left (gate + length block) = record {
            records = kept;
            closed = closed;
            means = means_kept;
            alone = λ other also. one after other kept also means_kept;
            stands = after_stands;
          } in
          ready_next)
