-- The steps of a reading, joined.
use Rattle.std.proofs.Common.{◌≡◌, ◌⊎◌, inl, inr, ℕ, ◌<◌, List, [], ◌∷◌, ◌++◌, length, Result, Ok, Err, refl, sym, ap, subst, ◌∙◌, arith, append_assoc, length-append}
use Rattle.std.specs.Prelude.{⊤}
use Rattle.std.specs.Result.{IsErrAnd}
use Rattle.std.proofs.lemmas.Result.{err_from_is_err_and}
use mathlib.Core.Logic.{∥∥₁_elim}
use Rattle.byteorder.specs.Endian.{little_bytes}
use Rattle.ballots.specs.declared.record.Record.{Record}
use Rattle.ballots.specs.Record.{IsRecordText}
use Rattle.ballots.specs.declared.fault.MessageFault.{MessageFault}
use Rattle.ballots.specs.declared.fault.MessageFault.TheVariants.{Wire, BadKind, OutOfRange, OutOfMemory as RefusedMemory}
use Rattle.stable_records.specs.declared.fault.StoreFault.{StoreFault}
use Rattle.stable_records.specs.declared.fault.StoreFault.TheVariants.{Device, Damaged, Broken, OutOfMemory}
use Rattle.disk_records.specs.RecordFile.{AreBlocks, IsClosedAt, GatesMean, FileMeans}
use Rattle.disk_records.specs.Reading.{Reads, ReadsRecords, MeansNothing, IsCut, BeginsWith, BeginsWithNone, TakesBlock, IsReadAs}
use Rattle.disk_records.proofs.Blocks.{RecordsAreOne, block_parts, blocks_push, cut_same, closed_behind_all, same_rest, same_first}
use Rattle.disk_records.proofs.CallerLemmas.{closed_means}

-- a fault passed on
abbrev pub Tells : Type 0 → StoreFault → Type 0
Tells Nothing fault = Reads {T = ℕ} (λ _. ⊤) Nothing (Err fault)

pub passed_on : (N M : Type 0) (fault : StoreFault) → (N → M) → Tells N fault → Tells M fault
passed_on N M Device more reads = reads
passed_on N M Damaged more reads = more reads
passed_on N M Broken more reads = reads
passed_on N M OutOfMemory more reads = reads

-- and returned as it is
pub returned : {T : Type 0} (G : T → Type 0) (N : Type 0) (answer : Result T StoreFault) (fault : StoreFault)
    → IsErrAnd answer (λ f. f ≡ fault) → Tells N fault → Reads G N answer
returned {T = T} G N answer fault is tells =
    let p = err_from_is_err_and answer is in
    let P : Result T StoreFault → Type 0 = λ r. Reads G N r in
    subst P (sym (p.1 ∙ ap (λ (f : StoreFault). Err f) p.2)) tells

-- bytes with a fault are no record
abbrev Answers : MessageFault → Result Record MessageFault → Type 0
Answers wrong answer = let given : Result Record MessageFault = Err wrong in given ≡ answer

not_ok : (wrong : MessageFault) (told : Record) → Answers wrong (Ok told) → ⊥
not_ok wrong told e = cc

same_err : (wrong : MessageFault) → Answers wrong (Err RefusedMemory) → wrong ≡ RefusedMemory
same_err wrong e = cc

abbrev IsReadOnly : List ℕ → MessageFault → Type 0
IsReadOnly text wrong = (told : Record) → IsRecordText text told → Answers wrong (Ok told) ⊎ Answers wrong
    (Err RefusedMemory)

damaged : (text : List ℕ) (wrong : MessageFault) (fault : StoreFault) (H : Record → Type 0) → IsReadOnly text wrong
    → (wrong ≡ RefusedMemory → ⊥) → fault ≡ Damaged → Reads H (MeansNothing (IsRecordText text)) (Err fault)
damaged text wrong fault H only apart is =
    let P : StoreFault → Type 0 = λ f. Reads H (MeansNothing (IsRecordText text)) (Err f) in
    subst P (sym is) (λ told means. elim (only told means) [
      | inl e ↦ not_ok wrong told e
      | inr e ↦ apart
          (same_err wrong e)
    ])

pub not_read : (text : List ℕ) (wrong : MessageFault) (fault : StoreFault) (H : Record → Type 0) → IsReadOnly text wrong
    → IsReadAs wrong fault → Reads H (MeansNothing (IsRecordText text)) (Err fault)
not_read text (Wire wire) fault H only is = damaged text (Wire wire) fault H only (λ e. cc) is
not_read text BadKind fault H only is = damaged text BadKind fault H only (λ e. cc) is
not_read text OutOfRange fault H only is = damaged text OutOfRange fault H only (λ e. cc) is
not_read text RefusedMemory fault H only is = let P : StoreFault → Type 0 = λ f. Reads H
    (MeansNothing (IsRecordText text)) (Err f) in subst P (sym is) tt

-- ---- a block

pub begins_with : (after text later : List ℕ) (told : Record) → IsCut after text later → IsRecordText text told
    → BeginsWith (1 ∷ after) told later
begins_with after text later told cut means = record {
  block = 1 ∷ (little_bytes 4 (length text) ++ text);
  spells = record { text = text; fits = cut.fits; spelled = refl; means = means };
  parts = ap (λ l. 1 ∷ l) cut.parts;
  goes_on = cut.goes_on;
}

-- where a block begins, its bytes are cut
begins_cut : (after : List ℕ) (told : Record) (later : List ℕ) (b : BeginsWith (1 ∷ after) told later)
    → IsCut after b.spells.text later
begins_cut after told later b = record {
  fits = b.spells.fits;
  parts = same_rest 1 1 _ _ (b.parts ∙ block_parts b.block later told b.spells);
  goes_on = b.goes_on;
}

pub unread_begins_with_none : (after text later : List ℕ) → IsCut after text later → MeansNothing (IsRecordText text)
    → BeginsWithNone (1 ∷ after)
unread_begins_with_none after text later cut unread told more b =
    let other = begins_cut after told more b in
    let same = cut_same text b.spells.text later more cut.fits other.fits (sym cut.parts ∙ other.parts) in
    let P : List ℕ → Type 0 = λ l. IsRecordText l told in
    unread told (subst P (sym same.0) b.spells.means)

-- ---- the blocks in front

-- these records stand in front, and then these bytes
pub record IsReadTo (file : List ℕ) (records : List Record) (rest : List ℕ) : Type 0 where
  pub front : List ℕ
  pub blocks : AreBlocks front records
  pub parts : file ≡ front ++ rest
  pub goes_on : 0 < length rest

pub one_more_read : (file rest later : List ℕ) (old new : List Record) → IsReadTo file old rest
    → TakesBlock rest old new later
    → IsReadTo file new later
one_more_read file rest later old new so_far takes =
    let b = takes.begins in
    let P : List Record → Type 0 = λ l. IsReadTo file l later in
    subst P (sym takes.pushed) (record {
      front = so_far.front ++ b.block;
      blocks = blocks_push so_far.front b.block old takes.told so_far.blocks b.spells;
      parts = so_far.parts ∙ ap (λ l. so_far.front ++ l) b.parts ∙ sym (append_assoc so_far.front b.block later);
      goes_on = b.goes_on;
    })

-- an open gate with no block has no meaning
no_meaning : (rest : List ℕ) (records : List Record) → BeginsWithNone (1 ∷ rest) → GatesMean (1 ∷ rest) records → ⊥
no_meaning rest [] none means =
    let c = means.1 in
    c.closed (sym (same_first 1 c.closing rest c.behind (c.parts ∙ ap (λ l. l ++ c.closing ∷ c.behind) c.blocks)))
no_meaning rest (told ∷ later) none means =
    let c = means.1 in
    let blocks = c.blocks in
    let behind = blocks.1 ++ c.closing ∷ c.behind in
    none told behind (record {
      block = blocks.0;
      spells = blocks.2;
      parts = c.parts ∙ ap (λ l. l ++ c.closing ∷ c.behind) blocks.4 ∙ append_assoc blocks.0 blocks.1
          (c.closing ∷ c.behind);
      goes_on = omega (arith, length-append blocks.1 (c.closing ∷ c.behind));
    })

pub damaged_file : RecordsAreOne → (file rest : List ℕ) (done : List Record) → IsReadTo file done (1 ∷ rest)
    → BeginsWithNone (1 ∷ rest) → MeansNothing (GatesMean file)
damaged_file one file rest done so_far none records means =
    let P : List ℕ → Type 0 = λ l. IsClosedAt l records means.0 in
    let behind = closed_behind_all one so_far.front (1 ∷ rest) done records means.0 so_far.blocks
    (subst P so_far.parts means.1) in
    no_meaning rest behind.0 none behind.2

pub read_gates_whole : {T : Type 0} (file : List ℕ) (records : T → List Record) (gate : T → ℕ) → 1 < length file
    → (answer : Result T StoreFault) → Reads (λ read. IsClosedAt file (records read) (gate read))
    (MeansNothing (GatesMean file)) answer
    → Reads (λ read. ReadsRecords file (records read) (gate read)) (MeansNothing (FileMeans file)) answer
read_gates_whole file records gate long (Ok read) reads = record {
  means = closed_means file (records read) (gate read) reads;
  place = λ lt. reads;
  fresh = λ short. absurd (omega (arith, long, short));
}
read_gates_whole file records gate long (Err Device) reads = reads
read_gates_whole file records gate long (Err Damaged) reads = λ told means. elim means [
  | inl short ↦ let s = short.0 in absurd (omega (arith, long, s))
  | inr gates ↦ ∥∥₁_elim gates.1 (λ x y. absurd x) (λ means. reads told means)
]
read_gates_whole file records gate long (Err Broken) reads = reads
read_gates_whole file records gate long (Err OutOfMemory) reads = reads
