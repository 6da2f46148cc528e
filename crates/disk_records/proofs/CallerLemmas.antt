-- For whoever stands on a file of records: what it means, and what it means with one record more.
use Rattle.std.proofs.Common.{◌≡◌, ◌≢◌, inl, inr, ℕ, ◌+◌, ◌^◌, ◌<◌, ◌≤◌, List, [], ◌∷◌, ◌++◌, length, take, drop, refl, sym, ap, ◌∙◌, arith, append_assoc, length-append, take-append-drop}
use Rattle.std.proofs.lemmas.List.{take_at}
use Rattle.std.proofs.lemmas.Bool.{cases_lt}
use mathlib.Core.Logic.{∥∥₁_elim}
use Rattle.byteorder.specs.Endian.{little_bytes}
use Rattle.ballots.specs.declared.record.Record.{Record}
use Rattle.ballots.specs.Record.{IsRecordText}
use Rattle.disk_records.specs.RecordFile.{AreBlocks, IsClosedAt, FileMeans, behind_gate, with_block}
use Rattle.disk_records.specs.Ready.{Records-set}
use Rattle.disk_records.proofs.Blocks.{RecordsAreOne, block_parts, blocks_push, closed_same}

-- no bytes are no records
no_blocks : (front : List ℕ) (records : List Record) → AreBlocks front records → length front ≡ 0 → records ≡ []
no_blocks front [] are none = refl
no_blocks front (told ∷ later) are none =
    let e = are.4 ∙ block_parts are.0 are.1 told are.2 in
    let l = ap length e in absurd (omega (arith, l, none))

pub closed_means : (file : List ℕ) (records : List Record) (gate : ℕ) → IsClosedAt file records gate
    → FileMeans file records
closed_means file records gate c =
    elim (cases_lt 1 (length file)) as (λ _. FileMeans file records) [
      | inl long ↦ inr (long, ∣ (gate, c) ∣₁)
      | inr short ↦
          let l = ap length c.parts in
          let m = length-append c.front (c.closing ∷ c.behind) in
          inl (short, no_blocks c.front records c.blocks (omega (arith, l, m, short)))
    ]

pub means_same : RecordsAreOne → (file : List ℕ) (records other : List Record) → FileMeans file records
    → FileMeans file other → records ≡ other
means_same one file records other (inl a) (inl b) = a.1 ∙ sym b.1
means_same one file records other (inl a) (inr b) = let s = a.0 in let l = b.0 in absurd (omega (arith, s, l))
means_same one file records other (inr a) (inl b) = let s = b.0 in let l = a.0 in absurd (omega (arith, s, l))
means_same one file records other (inr a) (inr b) =
    ∥∥₁_elim a.1 (Records-set records other) (λ x. ∥∥₁_elim b.1 (Records-set records other) (λ y.
    closed_same one file other records y.0 x.0 y.1 x.1))

-- ---- the closed gate's place

-- the bytes up to the closed gate, and with it
pub take_front : (file : List ℕ) (records : List Record) (gate : ℕ) (c : IsClosedAt file records gate)
    → take gate file ≡ c.front
take_front file records gate c = ap (take gate) c.parts ∙ take_at c.front (c.closing ∷ c.behind) gate c.place

take_with_gate : (file : List ℕ) (records : List Record) (gate : ℕ) (c : IsClosedAt file records gate)
    → take (gate + 1) file ≡ c.front ++ c.closing ∷ []
take_with_gate file records gate c =
    let split : file ≡ (c.front ++ c.closing ∷ []) ++ c.behind = c.parts ∙ sym
    (append_assoc c.front (c.closing ∷ []) c.behind) in
    let p = c.place in
    let long : length (c.front ++ c.closing ∷ []) ≡ gate + 1 = omega
    (arith, length-append c.front (c.closing ∷ []), p) in
    ap (take (gate + 1)) split ∙ take_at (c.front ++ c.closing ∷ []) c.behind (gate + 1) long

pub gate_is_within : (file : List ℕ) (records : List Record) (gate : ℕ) → IsClosedAt file records gate
    → gate + 1 ≤ length file
gate_is_within file records gate c =
    let l = ap length c.parts in
    let p = c.place in
    omega (arith, l, p, length-append c.front (c.closing ∷ c.behind))

-- as long as the gate stands, what is behind it changes nothing
pub closed_stays : (file other : List ℕ) (records : List Record) (gate : ℕ) → IsClosedAt file records gate
    → take (gate + 1) other ≡ take (gate + 1) file → IsClosedAt other records gate
closed_stays file other records gate c same = record {
  front = c.front;
  closing = c.closing;
  behind = drop (gate + 1) other;
  parts = sym (take-append-drop (gate + 1) other)
      ∙ ap (λ l. l ++ drop (gate + 1) other) (same ∙ take_with_gate file records gate c)
      ∙ append_assoc c.front (c.closing ∷ []) (drop (gate + 1) other);
  place = c.place;
  blocks = c.blocks;
  closed = c.closed;
}

pub shut_at : (file block : List ℕ) (records : List Record) (gate byte : ℕ) → IsClosedAt file records gate → byte ≢ 1
    → IsClosedAt (with_block file gate byte block) records gate
shut_at file block records gate byte c shut = record {
  front = c.front;
  closing = byte;
  behind = block ++ drop (gate + 1 + length block) file;
  parts = ap (λ l. l ++ byte ∷ (block ++ drop (gate + 1 + length block) file)) (take_front file records gate c);
  place = c.place;
  blocks = c.blocks;
  closed = shut;
}

-- ---- one record more

opened_parts : (front text rest : List ℕ)
    → front ++ 1 ∷ (behind_gate text ++ rest)
    ≡ (front ++ 1 ∷ (little_bytes 4 (length text) ++ text)) ++ 0 ∷ rest
opened_parts front text rest =
    ap (λ l. front ++ 1 ∷ (little_bytes 4 (length text) ++ l)) (append_assoc text (0 ∷ []) rest)
    ∙ sym (append_assoc front (1 ∷ (little_bytes 4 (length text) ++ text)) (0 ∷ rest))

pub opened_at : (file text : List ℕ) (records : List Record) (told : Record) (gate : ℕ) → IsClosedAt file records gate
    → length text < 2 ^ 32 → IsRecordText text told
    → IsClosedAt (with_block file gate 1 (behind_gate text)) (records ++ told ∷ []) (gate + 5 + length text)
opened_at file text records told gate c fits means =
    let block = 1 ∷ (little_bytes 4 (length text) ++ text) in
    let rest = drop (gate + 1 + length (behind_gate text)) file in
    let p = c.place in
    record {
      front = c.front ++ block;
      closing = 0;
      behind = rest;
      parts = ap (λ l. l ++ 1 ∷ (behind_gate text ++ rest)) (take_front file records gate c) ∙ opened_parts c.front
          text rest;
      place = omega (arith, p, length-append c.front block);
      blocks = blocks_push c.front block records told c.blocks
          (record { text = text; fits = fits; spelled = refl; means = means });
      closed = λ e. absurd (omega (arith, e));
    }

pub length-behind_gate : (text : List ℕ) → length (behind_gate text) ≡ 5 + length text
length-behind_gate text = omega (arith, length-append text (0 ∷ []))
