-- What open gates and their records mean, and what stands behind them.
use Rattle.std.proofs.Common.{◌≡◌, ◌≢◌, ℕ, ◌^◌, ◌<◌, List, [], ◌∷◌, ◌++◌, length, take, drop, refl, sym, ap, subst, ◌∙◌, append_assoc, append-nil}
use Rattle.std.proofs.lemmas.List.{take_at, drop_at}
use Rattle.std.proofs.lemmas.Nat.{from_le_bytes-to_le_bytes_4}
use Rattle.std.specs.Int.{w32, from_le_bytes}
use Rattle.byteorder.specs.Endian.{little_bytes}
use Rattle.ballots.specs.declared.record.Record.{Record}
use Rattle.ballots.specs.Record.{IsRecordText}
use Rattle.disk_records.specs.RecordFile.{IsBlock, AreBlocks, IsClosedAt, GatesMean}

-- a text means one record at most
abbrev pub RecordsAreOne : Type 0
RecordsAreOne = (text : List ℕ) (r q : Record) → IsRecordText text r → IsRecordText text q → r ≡ q

-- ---- lists

-- two lists that begin with parts of one length have the same parts
pub same_front : {X : Type 0} (a b x y : List X) → length a ≡ length b → a ++ x ≡ b ++ y → a ≡ b
same_front a b x y same e = sym (take_at a x (length b) same) ∙ ap (take (length b)) e ∙ take_at b y (length b) refl

pub same_behind : {X : Type 0} (a b x y : List X) → length a ≡ length b → a ++ x ≡ b ++ y → x ≡ y
same_behind a b x y same e = sym (drop_at a x (length b) same) ∙ ap (drop (length b)) e ∙ drop_at b y (length b) refl

pub same_first : (a b : ℕ) (x y : List ℕ) → a ∷ x ≡ b ∷ y → a ≡ b
same_first a b x y e = cc

pub same_rest : (a b : ℕ) (x y : List ℕ) → a ∷ x ≡ b ∷ y → x ≡ y
same_rest a b x y e = cc

-- ---- one block

-- four bytes spell one number
little_same : (m n : ℕ) → m < 2 ^ 32 → n < 2 ^ 32 → little_bytes 4 m ≡ little_bytes 4 n → m ≡ n
little_same m n fits_m fits_n e =
    sym (from_le_bytes-to_le_bytes_4 m fits_m) ∙ ap (from_le_bytes w32) e ∙ from_le_bytes-to_le_bytes_4 n fits_n

-- what stands behind a length
pub cut_same : (text other later more : List ℕ) → length text < 2 ^ 32 → length other < 2 ^ 32
    → little_bytes 4 (length text) ++ (text ++ later) ≡ little_bytes 4 (length other) ++ (other ++ more)
    → (text ≡ other) × (later ≡ more)
cut_same text other later more fits too e =
    let number = same_front (little_bytes 4 (length text)) (little_bytes 4 (length other)) (text ++ later)
    (other ++ more) refl e in
    let rest = same_behind (little_bytes 4 (length text)) (little_bytes 4 (length other)) (text ++ later)
    (other ++ more) refl e in
    let long : length text ≡ length other = little_same (length text) (length other) fits too number in
    (same_front text other later more long rest, same_behind text other later more long rest)

-- a block and what stands behind it, gate first
pub block_parts : (block rest : List ℕ) (told : Record) (b : IsBlock block told)
    → block ++ rest ≡ 1 ∷ (little_bytes 4 (length b.text) ++ (b.text ++ rest))
block_parts block rest told b = ap (λ l. l ++ rest) b.spelled

-- where two blocks stand at one place, they are of one record, and the same stands behind them
pub block_same : RecordsAreOne → (block other rest more : List ℕ) (told said : Record) → IsBlock block told
    → IsBlock other said → block ++ rest ≡ other ++ more → (told ≡ said) × (rest ≡ more)
block_same one block other rest more told said b o e =
    let spelled = sym (block_parts block rest told b) ∙ e ∙ block_parts other more said o in
    let parts = cut_same b.text o.text rest more b.fits o.fits (same_rest 1 1 _ _ spelled) in
    let P : List ℕ → Type 0 = λ l. IsRecordText l told in
    (one o.text told said (subst P parts.0 b.means) o.means, parts.1)

-- ---- blocks

pub blocks_push : (front block : List ℕ) (records : List Record) (told : Record) → AreBlocks front records
    → IsBlock block told → AreBlocks (front ++ block) (records ++ told ∷ [])
blocks_push front block [] told are b = (
  block,
  [],
  b,
  refl,
  ap (λ l. l ++ block) are ∙ sym (append-nil block),
)
blocks_push front block (first ∷ later) told are b = (
  are.0,
  are.1 ++ block,
  are.2,
  blocks_push are.1 block later told are.3 b,
  ap (λ l. l ++ block) are.4 ∙ append_assoc are.0 are.1 block,
)

-- a closed gate is no block
closed_is_no_block : (closing : ℕ) (behind block rest : List ℕ) (told : Record) → IsBlock block told → closing ≢ 1
    → closing ∷ behind ≡ block ++ rest → ⊥
closed_is_no_block closing behind block rest told b shut e =
    shut (same_first closing 1 behind _ (e ∙ block_parts block rest told b))

-- what stands behind the first block of a file that has one
pub closed_behind : RecordsAreOne → (block rest : List ℕ) (told : Record) (records : List Record) (gate : ℕ)
    → IsBlock block told → IsClosedAt (block ++ rest) records gate
    → (later : List Record) × (records ≡ told ∷ later) × GatesMean rest later
closed_behind one block rest told [] gate b c =
    let e : block ++ rest ≡ c.closing ∷ c.behind = c.parts ∙ ap (λ l. l ++ c.closing ∷ c.behind) c.blocks in
    absurd (closed_is_no_block c.closing c.behind block rest told b c.closed (sym e))
closed_behind one block rest told (first ∷ later) gate b c =
    let blocks = c.blocks in
    let e : block ++ rest ≡ blocks.0 ++ (blocks.1 ++ c.closing ∷ c.behind) =
    c.parts ∙ ap (λ l. l ++ c.closing ∷ c.behind) blocks.4 ∙ append_assoc blocks.0 blocks.1 (c.closing ∷ c.behind) in
    let same = block_same one block blocks.0 rest (blocks.1 ++ c.closing ∷ c.behind) told first b blocks.2 e in (
      later,
      ap (λ r. r ∷ later) (sym same.0),
      (
        length blocks.1,
        record {
          front = blocks.1;
          closing = c.closing;
          behind = c.behind;
          parts = same.1;
          place = refl;
          blocks = blocks.3;
          closed = c.closed;
        },
      ),
    )

-- and behind all blocks in front
pub closed_behind_all : RecordsAreOne → (front rest : List ℕ) (done records : List Record) (gate : ℕ)
    → AreBlocks front done → IsClosedAt (front ++ rest) records gate
    → (later : List Record) × (records ≡ done ++ later) × GatesMean rest later
closed_behind_all one front rest [] records gate are c =
    let P : List ℕ → Type 0 = λ l. IsClosedAt (l ++ rest) records gate in
    (records, refl, (gate, subst P are c))
closed_behind_all one front rest (told ∷ done) records gate are c =
    let P : List ℕ → Type 0 = λ l. IsClosedAt l records gate in
    let here = subst P (ap (λ l. l ++ rest) are.4 ∙ append_assoc are.0 are.1 rest) c in
    let first = closed_behind one are.0 (are.1 ++ rest) told records gate are.2 here in
    let more = closed_behind_all one are.1 rest done first.0 first.2.0 are.3 first.2.1 in
    (more.0, first.1 ∙ ap (λ l. told ∷ l) more.1, more.2)

-- ---- one meaning

no_more_behind_closed : RecordsAreOne → (closing : ℕ) (behind : List ℕ) (records : List Record) (gate : ℕ) → closing ≢ 1
    → IsClosedAt (closing ∷ behind) records gate → records ≡ []
no_more_behind_closed one closing behind [] gate shut c = refl
no_more_behind_closed one closing behind (first ∷ later) gate shut c =
    let blocks = c.blocks in
    let e : closing ∷ behind ≡ blocks.0 ++ (blocks.1 ++ c.closing ∷ c.behind) =
    c.parts ∙ ap (λ l. l ++ c.closing ∷ c.behind) blocks.4 ∙ append_assoc blocks.0 blocks.1 (c.closing ∷ c.behind) in
    absurd (closed_is_no_block closing behind blocks.0 (blocks.1 ++ c.closing ∷ c.behind) first blocks.2 shut e)

pub closed_same : RecordsAreOne → (file : List ℕ) (records other : List Record) (gate place : ℕ)
    → IsClosedAt file records gate → IsClosedAt file other place → other ≡ records
closed_same one file records other gate place c d =
    let P : List ℕ → Type 0 = λ l. IsClosedAt l other place in
    let rest = closed_behind_all one c.front (c.closing ∷ c.behind) records other place c.blocks (subst P c.parts d) in
    rest.1 ∙ ap (λ l. records ++ l) (no_more_behind_closed one c.closing c.behind rest.0 rest.2.0 c.closed rest.2.1)
    ∙ append-nil records
