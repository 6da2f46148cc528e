-- What batches show, as they are laid out.
use Rattle.std.proofs.Common.{◌≡◌, ℕ, ℤ, pos, ◌+◌, ◌*◌, ◌^◌, ◌<◌, false, List, [], ◌∷◌, ◌++◌, length, Some, None, arith}
use Rattle.std.proofs.Common.{refl, sym, ◌∙◌, length-append}
use Rattle.std.specs.Prelude.{negsuc}
use Rattle.std.specs.List.{AllByRecursion}
use Rattle.std.specs.Int.{w64}
use Rattle.std.specs.Int.RustNames.{FitsSigned}
use Rattle.std.proofs.lemmas.Int.{to_z-of_z}
use Rattle.byteorder.specs.Endian.{little_bytes}
use Rattle.flat_places.specs.Held.{Holds}
use Rattle.header_types.specs.Slots.{ShowsReferenceField}
use Rattle.header_types.specs.Header.{ShowsInt64, ShowsPairs, ShowsPairsAt, Head, ShowsBatch, batch_header, batch_type}
use Rattle.header_types.specs.Header.{ShowsHeader}
use Rattle.header_writing.specs.Objects.{Object, Cells, no_cells, reference, cells_size, lead, laid}
use Rattle.header_writing.specs.Canonical.{number, gap, int64_number, pairs_text, pairs_object, batch_object}
use Rattle.header_writing.specs.Canonical.{header_text}
use Rattle.header_writing.specs.Written.{FitsPair, FitsHead}
use Rattle.header_writing.proofs.Filling.{length_little}
use Rattle.header_writing.proofs.Lying.{Lies, held_front, held_back, uint_lies, referred_lies, structs_lie, table_lies}
use Rattle.header_writing.proofs.Lying.{field_behind}
use Rattle.header_writing.proofs.NumbersShown.{number_shown, reference_shown, vector_at}
use Rattle.header_writing.proofs.TreesShown.{MessageLies, message_lies}

-- ---- structs

int64_fits : (z : ℤ) → FitsSigned w64 z → int64_number z < 256 ^ 8
int64_fits (pos n) fits = omega (arith, fits.sfits)
int64_fits (negsuc n) fits = omega arith

int64_held : (text : List ℕ) (place : ℕ) (z : ℤ) → FitsSigned w64 z → Holds text place (little_bytes 8 (int64_number z))
    → ShowsInt64 text place z
int64_held text place z fits held = (
  int64_number z,
  record { held = held; fits = int64_fits z fits },
  sym
      (to_z-of_z w64 z fits),
)

pub pairs_long : (pairs : List (ℤ × ℤ)) → length (pairs_text pairs) ≡ length pairs * 16
pairs_long [] = refl
pairs_long (pair ∷ rest) =
    let one : List ℕ = little_bytes 8 (int64_number pair.0) in
    let two : List ℕ = little_bytes 8 (int64_number pair.1) in
    length-append (one ++ two) (pairs_text rest)
    ∙ omega (
      arith,
      length-append one two,
      length_little 8 (int64_number pair.0),
      length_little 8
          (int64_number pair.1),
      pairs_long rest,
    )

pairs_held : (text : List ℕ) (place : ℕ) (pairs : List (ℤ × ℤ)) → AllByRecursion FitsPair pairs
    → Holds text place (pairs_text pairs)
    → ShowsPairs text place pairs
pairs_held text place [] fits held = tt
pairs_held text place (pair ∷ rest) fits held =
    let one : List ℕ = little_bytes 8 (int64_number pair.0) in
    let two : List ℕ = little_bytes 8 (int64_number pair.1) in
    let long : length one ≡ 8 = length_little 8 (int64_number pair.0) in
    let long' : length two ≡ 8 = length_little 8 (int64_number pair.1) in
    let both : length (one ++ two) ≡ 16 = length-append one two ∙ omega arith in
    let front : Holds text place (one ++ two) = held_front text place (one ++ two) (pairs_text rest) held in (
      int64_held text place pair.0 fits.0.0 (held_front text place one two front),
      int64_held text (place + 8) pair.1 fits.0.1 (held_back text place (place + 8) one two (omega arith) front),
      pairs_held text (place + 16) rest fits.1
          (held_back text place (place + 16) (one ++ two) (pairs_text rest) (omega arith) held),
    )

pairs_lie : (text : List ℕ) (table n place : ℕ) (pairs : List (ℤ × ℤ)) → AllByRecursion FitsPair pairs
    → Lies text place (pairs_object pairs)
    → ShowsReferenceField text table n (Some (place + lead place (pairs_object pairs)))
    → ShowsPairsAt text table n pairs
pairs_lie text table n place pairs fits lies referred =
    let target : ℕ = place + lead place (pairs_object pairs) in
    let (shown, held) = structs_lie text place (length pairs) 16 (pairs_text pairs) lies (pairs_long pairs)
    (omega arith) in
    record {
      vector = record { first = target + 4; count = length pairs };
      vector_shown = vector_at text table n target 16 (target + 4) (length pairs) referred shown;
      all = refl;
      shown = pairs_held text (target + 4) pairs fits held;
    }

-- ---- batches

batch_lies : (text : List ℕ) (place : ℕ) (head : Head) → head.compressed ≡ false → FitsHead head
    → Lies text place (batch_object head)
    → ShowsBatch text (place + lead place (batch_object head)) head
batch_lies text place head plain fits lies =
    let t : ℕ = place + lead place (batch_object head) in
    let slots : List ℕ = 8 ∷ 4 ∷ 16 ∷ [] in
    let nodes : Object = pairs_object head.nodes in
    let buffers : Object = pairs_object head.buffers in
    let from_buffers : Cells = reference buffers (gap 4 no_cells) in
    let from_length : Cells = number 8 (int64_number head.length) from_buffers in
    let next : ℕ = t + 4 + cells_size (reference nodes from_length) in
    let after : ℕ = next + length (laid next nodes) in
    let nodes_at : ℕ = next + lead next nodes in
    let buffers_at : ℕ = after + lead after buffers in
    let (table, one) = table_lies text place 10 24 slots (reference nodes from_length) lies refl (omega arith) in
    let (to_nodes, nodes_lie, two) = referred_lies text (t + 4) (t + 8) next nodes from_length one (omega arith) in
    let (rows, three) = uint_lies text (t + 8) (t + 16) after 8 (int64_number head.length) from_buffers two
    (int64_fits head.length fits.length) (omega arith) in
    let (to_buffers, buffers_lie, _) = referred_lies text (t + 16) (t + 20) after buffers (gap 4 no_cells) three
    (omega arith) in
    record {
      rows = int64_number head.length;
      rows_shown = number_shown text t 10 slots 0 8 8 0 (int64_number head.length) table (omega arith) refl
          (omega arith) (omega arith) rows;
      length_is = sym (to_z-of_z w64 head.length fits.length);
      nodes_shown =
          pairs_lie text t 1 next head.nodes fits.nodes nodes_lie
          (reference_shown text t 10 slots 1 4 nodes_at table (omega arith) refl (omega arith) (omega arith) to_nodes);
      buffers_shown =
          pairs_lie text t 2 after head.buffers fits.buffers buffers_lie
          (reference_shown text t 10 slots 2 16 buffers_at table (omega arith) refl (omega arith)
          (omega arith) to_buffers);
      compression = None;
      compression_shown = field_behind text t 10 slots 3 table (omega arith);
      compressed_is = plain;
    }

-- a batch's text that is not too large shows the batch
pub batch_text_shown : (head : Head) → head.compressed ≡ false → FitsHead head
    → length (header_text (batch_header head)) < 2 ^ 32
    → ShowsHeader (header_text (batch_header head)) (batch_header head)
batch_text_shown head plain fits small =
    let text : List ℕ = header_text (batch_header head) in
    let body : ℕ = int64_number head.body_length in
    let there : MessageLies text batch_type (batch_object head) body =
    message_lies batch_type (batch_object head) body (omega arith)
    (int64_fits head.body_length fits.body_length) small in (
      there.message,
      there.next + lead there.next (batch_object head),
      there.shown,
      batch_lies text there.next head plain fits there.lies,
      (body, there.body, sym (to_z-of_z w64 head.body_length fits.body_length)),
    )
