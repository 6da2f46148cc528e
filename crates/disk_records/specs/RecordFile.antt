-- What a file of records means. Lamport, "Paxos Made Simple", section 2.5, has an acceptor record its response in
-- stable storage before it sends it; the bytes are this service's own. A file is read gate by gate. An open gate is a
-- byte 01, and a record stands behind it; any other byte is a closed gate, and what stands behind that means nothing.
use Rattle.std.specs.Prelude.{◌≡◌, ◌≢◌, ◌⊎◌, ℕ, ◌+◌, ◌^◌, ◌<◌, ◌≤◌, List, [], ◌∷◌, ◌++◌, length, take, drop, Some, None}
use Rattle.byteorder.specs.Endian.{little_bytes}
use Rattle.ballots.specs.declared.record.Record.{Record}
use Rattle.ballots.specs.Record.{IsRecordText}
use Rattle.stable_records.specs.Found.{Found}

-- An open gate and its record: 01, the length of the record's bytes in four bytes with the lowest first, and the bytes.
pub record IsBlock (block : List ℕ) (told : Record) : Type 0 where
  pub text : List ℕ
  pub fits : length text < 2 ^ 32
  pub spelled : block ≡ 1 ∷ (little_bytes 4 (length text) ++ text)
  pub means : IsRecordText text told

-- open gates with these records, one behind the other
abbrev pub AreBlocks : List ℕ → List Record → Type 0
AreBlocks front [] = front ≡ []
AreBlocks front (told ∷ later) =
    (block : List ℕ) × (rest : List ℕ) × IsBlock block told × AreBlocks rest later × (front ≡ block ++ rest)

-- open gates with these records, and behind them, at this place of the file, a closed gate
pub record IsClosedAt (file : List ℕ) (records : List Record) (gate : ℕ) : Type 0 where
  pub front : List ℕ
  pub closing : ℕ
  pub behind : List ℕ
  pub parts : file ≡ front ++ closing ∷ behind
  pub place : length front ≡ gate
  pub blocks : AreBlocks front records
  pub closed : closing ≢ 1

-- These records stand behind the open gates up to the first closed one.
abbrev pub GatesMean : List ℕ → List Record → Type 0
GatesMean file records = (gate : ℕ) × IsClosedAt file records gate

-- What a whole file means: one of at most a byte is new, and means no records. A longer one is read gate by gate; where
-- an open gate has no whole record with a gate behind it, it has no meaning. (The bars say that it can be read so, and
-- not how.)
abbrev pub FileMeans : List ℕ → List Record → Type 0
FileMeans file records = ((length file ≤ 1) × (records ≡ [])) ⊎ ((1 < length file) × ∥ GatesMean file records ∥₁)

-- what a recall finds in a file: the records that it means, or that it means none
abbrev pub FileGives : List ℕ → Found → Type 0
FileGives file (Some records) = FileMeans file records
FileGives file None = (records : List Record) → FileMeans file records → ⊥

-- ---- one record more

-- what a keep writes behind the closed gate: the length, the record's bytes, and a closed gate
abbrev pub behind_gate : List ℕ → List ℕ
behind_gate text = little_bytes 4 (length text) ++ (text ++ 0 ∷ [])

-- the file with this byte as its gate at this place, and with these bytes behind it
abbrev pub with_block : List ℕ → ℕ → ℕ → List ℕ → List ℕ
with_block file gate byte block = take gate file ++ byte ∷ (block ++ drop (gate + 1 + length block) file)
