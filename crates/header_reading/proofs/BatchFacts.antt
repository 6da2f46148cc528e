-- Batches: the structs of their vectors, and that these are there without memory for them.
use Rattle.std.proofs.Common.{◌≡◌, ◌≤◌, ◌<◌, inl, inr, ℕ, zero, suc, ◌+◌, ◌*◌, ℤ, Bool, List, [], ◌∷◌, ◌++◌, length}
use Rattle.std.proofs.Common.{length-drop, take, drop, slice_index, Result, Ok, Err, IfErr, arith, refl, subst}
use Rattle.std.proofs.lemmas.List.{length-take-le}
use Rattle.flat_places.specs.Number.{ShowsUint}
use Rattle.flat_places.specs.Held.{Holds}
use Rattle.flat_places.specs.Table.{Seen}
use Rattle.flat_places.proofs.Bytes.{holds_taken, held_fit}
use Rattle.flat_places.proofs.Numbers.{uint_shown}
use Rattle.header_types.specs.declared.fault.MetaFault.{MetaFault}
use Rattle.header_types.specs.Slots.{VectorRef, VectorRefFault, SlotNumberFault}
use Rattle.header_types.specs.Header.{int64_of, ShowsInt64, ShowsPairs, Head}
use Rattle.header_reading.specs.Faults.{BatchFault}
use Rattle.header_reading.specs.Reading.{ShowsBatchIn, ShowsBatchParts, BatchFaultIn, IsPairAt}
use Rattle.header_reading.proofs.Walking.{vector_inside}

-- ---- faults

pub nodes_fault : (text : List ℕ) (message table : ℕ) (e : MetaFault) → VectorRefFault text table 1 16 e
    → BatchFaultIn text message table e
nodes_fault text message table e fault = inl (inr (inl fault))

pub buffers_fault : (text : List ℕ) (message table : ℕ) (e : MetaFault) → VectorRefFault text table 2 16 e
    → BatchFaultIn text message table e
buffers_fault text message table e fault = inl (inr (inr (inl fault)))

pub body_fault : (text : List ℕ) (message table : ℕ) (e : MetaFault) → SlotNumberFault text message 3 8 e
    → BatchFaultIn text message table e
body_fault text message table e fault = inr fault

-- ---- structs, one by one

pub pairs_append : (text : List ℕ) (place : ℕ) (pairs : List (ℤ × ℤ)) (pair : ℤ × ℤ) → ShowsPairs text place pairs
    → IsPairAt text place (length pairs) pair → ShowsPairs text place (pairs ++ pair ∷ [])
pairs_append text place [] pair shown (one, two) = (
  subst (λ k. ShowsInt64 text k pair.0) (omega arith) one,
  subst (λ k. ShowsInt64 text k pair.1)
      (omega arith) two,
  tt,
)
pairs_append text place (x ∷ xs) pair (first, second, rest) (one, two) = (
  first,
  second,
  pairs_append text (place + 16) xs pair rest (
    subst (λ k. ShowsInt64 text k pair.0) (omega arith) one,
    subst (λ k. ShowsInt64 text k pair.1)
        (omega arith) two,
  ),
)

-- ---- structs that are there

as_signed : (text : List ℕ) (place bits : ℕ) → ShowsUint text place 8 bits → (z : ℤ) × ShowsInt64 text place z
as_signed text place bits shown = (int64_of bits, (bits, shown, refl))

-- eight bytes of a text show a number
number_there : (text : List ℕ) (place : ℕ) → place + 8 ≤ length text → ((i : ℕ) → slice_index text i < 256)
    → (z : ℤ) × ShowsInt64 text place z
number_there text place inside fits =
    let bytes : List ℕ = take 8 (drop place text) in
    let held : Holds text place bytes = holds_taken text place 8 inside in
    let room : 8 ≤ length (drop place text) = simp length-drop (omega arith) in
    as_signed text place _ (uint_shown text place 8 bytes held (length-take-le 8 (drop place text) room)
    (held_fit text place bytes held fits))

-- a text that is long enough shows so many structs
pairs_there : (text : List ℕ) (place count : ℕ) → place + count * 16 ≤ length text
    → ((i : ℕ) → slice_index text i < 256)
    → (pairs : List (ℤ × ℤ)) × (length pairs ≡ count) × ShowsPairs text place pairs
pairs_there text place zero inside fits = ([], refl, tt)
pairs_there text place (suc count) inside fits =
    let one = number_there text place (omega arith) fits in
    let two = number_there text (place + 8) (omega arith) fits in
    let (rest, all, shown) = pairs_there text (place + 16) count (omega arith) fits in
    ((one.0, two.0) ∷ rest, omega (arith, all), (one.1, two.1, shown))

-- ---- a batch

batch_shown : (text : List ℕ) (message table : ℕ) (len : ℤ) (nodes buffers : VectorRef) (compressed : Bool) (body : ℤ)
    (ns bs : List (ℤ × ℤ))
    → ShowsBatchParts text message table len nodes buffers compressed body → length ns ≡ nodes.count
    → ShowsPairs text nodes.first ns
    → length bs ≡ buffers.count → ShowsPairs text buffers.first bs
    → ShowsBatchIn text message table (record {
      length = len;
      nodes = ns;
      buffers = bs;
      compressed =
          compressed;
      body_length = body;
    })
batch_shown text message table len nodes buffers compressed body ns bs parts all shown all' shown' = (
  record {
    rows = parts.length_shown.0;
    rows_shown = parts.length_shown.1;
    length_is = parts.length_shown.2;
    nodes_shown = record { vector = nodes; vector_shown = parts.nodes_shown; all = all; shown = shown };
    buffers_shown = record { vector = buffers; vector_shown = parts.buffers_shown; all = all'; shown = shown' };
    compression = parts.compression;
    compression_shown = parts.compression_shown;
    compressed_is = parts.compressed_is;
  },
  parts.body_shown,
)

pub batch_there : (text : List ℕ) (message table : ℕ) (len : ℤ) (nodes buffers : VectorRef) (compressed : Bool)
    (body : ℤ)
    → ShowsBatchParts text message table len nodes buffers compressed body → ((i : ℕ) → slice_index text i < 256)
    → (head : Head) × ShowsBatchIn text message table head
batch_there text message table len nodes buffers compressed body parts fits =
    let (ns, all, shown) = pairs_there text nodes.first nodes.count
    (vector_inside text table 1 16 nodes parts.nodes_shown) fits in
    let (bs, all', shown') = pairs_there text buffers.first buffers.count
    (vector_inside text table 2 16 buffers parts.buffers_shown) fits in (
      record { length = len; nodes = ns; buffers = bs; compressed = compressed; body_length = body },
      batch_shown text
          message table len nodes buffers compressed body ns bs parts all shown all' shown',
    )

-- what is wrong with a batch's table, seen once
pub batch_faults : {A : Type 0} (r : Result A MetaFault) (s : Seen) (text : List ℕ) (message table : ℕ)
    → s ≡ record { buf = text; place = table }
    → IfErr r (BatchFault s.buf s.place) → IfErr r (BatchFaultIn text message table)
batch_faults (Ok x) s text message table is fault = tt
batch_faults (Err e) s text message table is fault = inl (subst (λ (k : Seen). BatchFault k.buf k.place e) is fault)
