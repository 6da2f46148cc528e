-- Objects that lie in a text: each part's bytes at its place, and what they show.
use Rattle.std.proofs.Common.{◌≡◌, ℕ, zero, suc, pos, ◌+◌, ◌-◌, ◌*◌, ◌^◌, ◌<◌, ◌≤◌, List, [], ◌∷◌, ◌++◌, length, get_or}
use Rattle.std.proofs.Common.{Some, None, IsUtf8, arith, refl, sym, ap, ◌∙◌, subst, append_assoc, length-append}
use Rattle.std.proofs.lemmas.Int.{ints}
use Rattle.std.proofs.lemmas.Bool.{lt-ltb}
use Rattle.byteorder.specs.Endian.{little_bytes, twos_complement}
use Rattle.flat_places.specs.Held.{Holds}
use Rattle.flat_places.specs.Number.{ShowsUint, ShowsReference}
use Rattle.flat_places.specs.Table.{ShowsVtable, ShowsTable, ShowsField, slot_place}
use Rattle.flat_places.specs.Vector.{ShowsVector, ShowsText}
use Rattle.flat_places.proofs.Bytes.{holds_within}
use Rattle.flat_places.proofs.Fields.{field_short, field_zero, field_there}
use Rattle.header_writing.specs.Objects.{Object, string_object, structs_object, references_object, table_object, Cells}
use Rattle.header_writing.specs.Objects.{no_cells, inline, reference, zeros, padding, shorts, cell_count, cells_size}
use Rattle.header_writing.specs.Objects.{table_lead, lead, laid, cells_text, objects_text}
use Rattle.header_writing.proofs.Filling.{length_zeros, length_little, length_shorts}

-- ---- lengths

pub cells_long : (at next : ℕ) (cells : Cells) → length (cells_text at next cells) ≡ cells_size cells
cells_long at next no_cells = refl
cells_long at next (inline bytes rest) =
    length-append bytes (cells_text (at + length bytes) next rest)
    ∙ omega (arith, cells_long (at + length bytes) next rest)
cells_long at next (reference o rest) =
    length-append (little_bytes 4 (next + lead next o - at)) (cells_text (at + 4) (next + length (laid next o)) rest)
    ∙ omega (arith, length_little 4 (next + lead next o - at), cells_long (at + 4) (next + length (laid next o)) rest)

-- ---- bytes at a place

pub held_front : (text : List ℕ) (place : ℕ) (xs ys : List ℕ) → Holds text place (xs ++ ys) → Holds text place xs
held_front text place xs ys h = record {
  before = h.before;
  after = ys ++ h.after;
  parts = h.parts ∙ ap (λ l. l ++ h.after) (sym (append_assoc h.before xs ys))
      ∙ append_assoc (h.before ++ xs) ys h.after;
  stands = h.stands;
}

pub held_back : (text : List ℕ) (place there : ℕ) (xs ys : List ℕ) → place + length xs ≡ there
    → Holds text place (xs ++ ys) → Holds text there ys
held_back text place there xs ys is h = record {
  before = h.before ++ xs;
  after = h.after;
  parts = h.parts ∙ ap (λ l. l ++ h.after) (sym (append_assoc h.before xs ys));
  stands = length-append h.before xs ∙ omega (arith, h.stands);
}

-- ---- what lies in a text

-- the object is laid out at the place
pub record Lies (text : List ℕ) (place : ℕ) (o : Object) : Type 0 where
  pub held : Holds text place (laid place o)
  pub small : length text < 2 ^ 32

-- the cells are laid out, with what they refer to from the place `next` on
pub record CellsLie (text : List ℕ) (at next : ℕ) (cells : Cells) : Type 0 where
  pub held : Holds text at (cells_text at next cells)
  pub objects : Holds text next (objects_text next cells)
  pub ahead : at + cells_size cells ≤ next
  pub small : length text < 2 ^ 32

-- ---- cells

-- a number, bytes of no field and a reference, each with the cells behind it
pub uint_lies : (text : List ℕ) (at there next size x : ℕ) (rest : Cells)
    → CellsLie text at next (inline (little_bytes size x) rest)
    → x < 256 ^ size → at + size ≡ there → ShowsUint text at size x × CellsLie text there next rest
uint_lies text at there next size x rest lies fits is =
    let long : length (little_bytes size x) ≡ size = length_little size x in
    let same : at + length (little_bytes size x) ≡ there = omega arith in
    let tail : List ℕ = cells_text (at + length (little_bytes size x)) next rest in (
      record { held = held_front text at (little_bytes size x) tail lies.held; fits = fits },
      subst (λ k. CellsLie text k next rest) same (record {
        held = held_back text at (at + length (little_bytes size x)) (little_bytes size x) tail refl lies.held;
        objects = lies.objects;
        ahead = omega (arith, lies.ahead);
        small = lies.small;
      }),
    )

pub gap_lies : (text : List ℕ) (at there next size : ℕ) (rest : Cells)
    → CellsLie text at next (inline (zeros size) rest) → at + size ≡ there
    → CellsLie text there next rest
gap_lies text at there next size rest lies is =
    let long : length (zeros size) ≡ size = length_zeros size in
    let same : at + length (zeros size) ≡ there = omega arith in
    subst (λ k. CellsLie text k next rest) same (record {
      held = held_back text at (at + length (zeros size)) (zeros size)
          (cells_text (at + length (zeros size)) next rest) refl lies.held;
      objects = lies.objects;
      ahead = omega (arith, lies.ahead);
      small = lies.small;
    })

-- the place that references name is in the object
pub lead_within : (place : ℕ) (o : Object) → lead place o ≤ length (laid place o)
lead_within place (string_object bytes) =
    simp (length-append, length_zeros) (omega arith)
lead_within place (structs_object count bytes) =
    simp (length-append, length_zeros) (omega arith)
lead_within place (references_object cells) =
    simp (length-append, length_zeros) (omega arith)
lead_within place (table_object numbers cells) =
    simp (length-append, length_zeros, length_shorts) (omega arith)

reference_lies : (text : List ℕ) (at target : ℕ) → Holds text at (little_bytes 4 (target - at)) → at ≤ target
    → target - at < 2 ^ 32
    → ShowsReference text at target
reference_lies text at target held before near =
    record { offset = target - at; shown = record { held = held; fits = near }; added = omega arith }

pub referred_lies : (text : List ℕ) (at there next : ℕ) (o : Object) (rest : Cells)
    → CellsLie text at next (reference o rest) → at + 4 ≡ there
    → ShowsReference text at (next + lead next o) × Lies text next o
    × CellsLie text there (next + length (laid next o)) rest
referred_lies text at there next o rest lies is =
    let after : ℕ = next + length (laid next o) in
    let object : Holds text next (laid next o) =
    held_front text next (laid next o) (objects_text after rest) lies.objects in
    let within : next + length (laid next o) ≤ length text = holds_within text next (laid next o) object in
    let number : List ℕ = little_bytes 4 (next + lead next o - at) in
    let tail : List ℕ = cells_text (at + 4) after rest in
    let ahead : at + (4 + cells_size rest) ≤ next = lies.ahead in
    let small : length text < 2 ^ 32 = lies.small in
    let first : Holds text at number = held_front text at number tail lies.held in
    let long : length number ≡ 4 = length_little 4 (next + lead next o - at) in
    let leads : lead next o ≤ length (laid next o) = lead_within next o in (
      reference_lies text at (next + lead next o) first (omega arith) (omega arith),
      record { held = object; small = small },
      subst (λ k. CellsLie text k after rest) is (record {
        held = held_back text at (at + 4) number tail (omega arith) lies.held;
        objects = held_back text next after (laid next o) (objects_text after rest) refl lies.objects;
        ahead = omega arith;
        small = small;
      }),
    )

-- ---- strings and vectors

-- elements that are in the text are less than 2 ^ 32
few_elements : (count size long : ℕ) → count * size ≤ long → 0 < size → long < 2 ^ 32 → count < 256 ^ 4
few_elements count zero long within some small = absurd (omega arith)
few_elements count (suc size) long within some small =
    let more : count * suc size ≡ count + count * size = omega arith in omega arith

-- a string
pub string_lies : (text : List ℕ) (place : ℕ) (bytes : List ℕ) → Lies text place (string_object bytes) → IsUtf8 bytes
    → ShowsText text (place + lead place (string_object bytes)) bytes
string_lies text place bytes lies utf8 =
    let lead_bytes : List ℕ = zeros (padding 4 place) in
    let number : List ℕ = little_bytes 4 (length bytes) in
    let filled : length lead_bytes ≡ padding 4 place = length_zeros (padding 4 place) in
    let long : length number ≡ 4 = length_little 4 (length bytes) in
    let behind : length (lead_bytes ++ number) ≡ padding 4 place + 4 = length-append lead_bytes number ∙ omega arith in
    let all : Holds text place (lead_bytes ++ number ++ bytes) =
    held_front text place (lead_bytes ++ number ++ bytes) (0 ∷ []) lies.held in
    let first : Holds text place (lead_bytes ++ number) = held_front text place (lead_bytes ++ number) bytes all in
    let held : Holds text (place + padding 4 place + 4) bytes =
    held_back text place (place + padding 4 place + 4) (lead_bytes ++ number) bytes (omega arith) all in
    let small : length text < 2 ^ 32 = lies.small in
    let within : place + padding 4 place + 4 + length bytes ≤ length text =
    holds_within text (place + padding 4 place + 4) bytes held in
    record {
      shown = record {
        held = held_back text place (place + padding 4 place) lead_bytes number (omega arith) first;
        fits = omega arith;
      };
      held = held;
      utf8 = utf8;
    }

-- a vector of structs, each of so many bytes
pub structs_lie : (text : List ℕ) (place count size : ℕ) (bytes : List ℕ) → Lies text place (structs_object count bytes)
    → length bytes ≡ count * size
    → 0 < size
    → ShowsVector text (place + lead place (structs_object count bytes)) size
    (place + lead place (structs_object count bytes) + 4) count
    × Holds text (place + lead place (structs_object count bytes) + 4) bytes
structs_lie text place count size bytes lies all some =
    let pad : ℕ = padding 8 (place + 4) in
    let lead_bytes : List ℕ = zeros pad in
    let number : List ℕ = little_bytes 4 count in
    let filled : length lead_bytes ≡ pad = length_zeros pad in
    let long : length number ≡ 4 = length_little 4 count in
    let behind : length (lead_bytes ++ number) ≡ pad + 4 = length-append lead_bytes number ∙ omega arith in
    let first : Holds text place (lead_bytes ++ number) =
    held_front text place (lead_bytes ++ number) bytes lies.held in
    let held : Holds text (place + pad + 4) bytes =
    held_back text place (place + pad + 4) (lead_bytes ++ number) bytes (omega arith) lies.held in
    let small : length text < 2 ^ 32 = lies.small in
    let within : place + pad + 4 + length bytes ≤ length text = holds_within text (place + pad + 4) bytes held in (
      record {
        shown = record {
          held = held_back text place (place + pad) lead_bytes number (omega arith) first;
          fits = few_elements count size (length text) (omega arith) some small;
        };
        follows = refl;
        elements = bytes;
        held = held;
        whole = all;
      },
      held,
    )

-- a vector of references, with what they refer to
pub references_lie : (text : List ℕ) (place : ℕ) (cells : Cells) → Lies text place (references_object cells)
    → cells_size cells ≡ cell_count cells * 4
    → ShowsVector text (place + lead place (references_object cells)) 4
    (place + lead place (references_object cells) + 4) (cell_count cells)
    × CellsLie text (place + lead place (references_object cells) + 4)
    (place + lead place (references_object cells) + 4 + cells_size cells) cells
references_lie text place cells lies all =
    let pad : ℕ = padding 4 place in
    let at : ℕ = place + pad + 4 in
    let next : ℕ = at + cells_size cells in
    let lead_bytes : List ℕ = zeros pad in
    let number : List ℕ = little_bytes 4 (cell_count cells) in
    let elements : List ℕ = cells_text at next cells in
    let objects : List ℕ = objects_text next cells in
    let filled : length lead_bytes ≡ pad = length_zeros pad in
    let long : length number ≡ 4 = length_little 4 (cell_count cells) in
    let wide : length elements ≡ cells_size cells = cells_long at next cells in
    let behind : length (lead_bytes ++ number) ≡ pad + 4 = length-append lead_bytes number ∙ omega arith in
    let farther : length (lead_bytes ++ number ++ elements) ≡ pad + 4 + cells_size cells =
    length-append (lead_bytes ++ number) elements ∙ omega arith in
    let front : Holds text place (lead_bytes ++ number ++ elements) =
    held_front text place (lead_bytes ++ number ++ elements) objects lies.held in
    let first : Holds text place (lead_bytes ++ number) = held_front text place (lead_bytes ++ number) elements front in
    let held : Holds text at elements = held_back text place at (lead_bytes ++ number) elements (omega arith) front in
    let small : length text < 2 ^ 32 = lies.small in
    let within : at + length elements ≤ length text = holds_within text at elements held in (
      record {
        shown = record {
          held = held_back text place (place + pad) lead_bytes number (omega arith) first;
          fits = few_elements (cell_count cells) 4 (length text) (omega arith) (omega arith) small;
        };
        follows = refl;
        elements = elements;
        held = held;
        whole = wide ∙ all;
      },
      record {
        held = held;
        objects = held_back text place next (lead_bytes ++ number ++ elements) objects (omega arith) lies.held;
        ahead = omega arith;
        small = small;
      },
    )

-- ---- tables

-- at the place stands a table whose vtable says this of its fields
pub record TableLies (text : List ℕ) (table own_size : ℕ) (slots : List ℕ) : Type 0 where
  pub vtable : ℕ
  pub shown : ShowsTable text table vtable own_size
  pub whole : own_size ≡ 4 + 2 * length slots
  pub held : Holds text (vtable + 4) (shorts slots)

as_positive : (size : ℕ) → size < 2 ^ 31 → pos size ≡ twos_complement 4 size
as_positive size near = simp (lt-ltb size (2 ^ 31) near)

vtable_lies : (text : List ℕ) (vtable table size : ℕ) → Holds text table (little_bytes 4 size) → vtable + size ≡ table
    → size < 2 ^ 31
    → ShowsVtable text table vtable
vtable_lies text vtable table size held is near = record {
  offset = pos size;
  shown = record {
    bits = size;
    shown = record { held = held; fits = omega arith };
    signed = as_positive size near;
  };
  subtracted = omega (arith, ints);
}

-- a table, with its cells
pub table_lies : (text : List ℕ) (place own_size size : ℕ) (slots : List ℕ) (cells : Cells)
    → Lies text place (table_object (own_size ∷ size ∷ slots) cells)
    → own_size ≡ 4 + 2 * length slots → own_size < 65536
    → TableLies text (place + lead place (table_object (own_size ∷ size ∷ slots) cells)) own_size slots
    × CellsLie text (place + lead place (table_object (own_size ∷ size ∷ slots) cells) + 4)
    (place + lead place (table_object (own_size ∷ size ∷ slots) cells) + 4 + cells_size cells) cells
table_lies text place own_size size slots cells lies whole few =
    let numbers : List ℕ = own_size ∷ size ∷ slots in
    let pad : ℕ = padding 8 (place + 2 * length numbers) in
    let vtable : ℕ = place + pad in
    let table : ℕ = place + table_lead place numbers in
    let at : ℕ = table + 4 in
    let next : ℕ = at + cells_size cells in
    let lead_bytes : List ℕ = zeros pad in
    let vtable_bytes : List ℕ = shorts numbers in
    let offset : List ℕ = little_bytes 4 (2 * length numbers) in
    let fields : List ℕ = cells_text at next cells in
    let objects : List ℕ = objects_text next cells in
    let many : length numbers ≡ 2 + length slots = omega arith in
    let filled : length lead_bytes ≡ pad = length_zeros pad in
    let spelled : length vtable_bytes ≡ 2 * length numbers = length_shorts numbers in
    let long : length offset ≡ 4 = length_little 4 (2 * length numbers) in
    let wide : length fields ≡ cells_size cells = cells_long at next cells in
    let one : length (lead_bytes ++ vtable_bytes) ≡ pad + 2 * length numbers = length-append lead_bytes vtable_bytes
    ∙ omega arith in
    let two : length (lead_bytes ++ vtable_bytes ++ offset) ≡ pad + 2 * length numbers + 4 =
    length-append (lead_bytes ++ vtable_bytes) offset ∙ omega arith in
    let three : length (lead_bytes ++ vtable_bytes ++ offset ++ fields) ≡ pad + 2 * length numbers + 4 + cells_size
    cells =
    length-append (lead_bytes ++ vtable_bytes ++ offset) fields ∙ omega arith in
    let to_fields : Holds text place (lead_bytes ++ vtable_bytes ++ offset ++ fields) =
    held_front text place (lead_bytes ++ vtable_bytes ++ offset ++ fields) objects lies.held in
    let to_offset : Holds text place (lead_bytes ++ vtable_bytes ++ offset) =
    held_front text place (lead_bytes ++ vtable_bytes ++ offset) fields to_fields in
    let to_vtable : Holds text place (lead_bytes ++ vtable_bytes) =
    held_front text place (lead_bytes ++ vtable_bytes) offset to_offset in
    let there : Holds text vtable vtable_bytes =
    held_back text place vtable lead_bytes vtable_bytes (omega arith) to_vtable in
    let offset_there : Holds text table offset =
    held_back text place table (lead_bytes ++ vtable_bytes) offset (omega arith) to_offset in
    let sizes : Holds text (vtable + 2) (shorts (size ∷ slots)) =
    held_back text vtable (vtable + 2) (little_bytes 2 own_size) (shorts (size ∷ slots))
    (omega (arith, length_little 2 own_size)) there in (
      record {
        vtable = vtable;
        shown = record {
          leads = vtable_lies text vtable table (2 * length numbers) offset_there (omega arith) (omega arith);
          size = record {
            held = held_front text vtable (little_bytes 2 own_size) (shorts (size ∷ slots)) there;
            fits =
                omega arith;
          };
        };
        whole = whole;
        held = held_back text (vtable + 2) (vtable + 4) (little_bytes 2 size) (shorts slots)
            (omega (arith, length_little 2 size)) sizes;
      },
      record {
        held = held_back text place at (lead_bytes ++ vtable_bytes ++ offset) fields (omega arith) to_fields;
        objects = held_back text place next (lead_bytes ++ vtable_bytes ++ offset ++ fields) objects
            (omega arith) lies.held;
        ahead = omega arith;
        small = lies.small;
      },
    )

-- ---- the fields of a table

slot_lies : (text : List ℕ) (place there n : ℕ) (slots : List ℕ) → Holds text place (shorts slots) → n < length slots
    → place + 2 * n ≡ there
    → Holds text there (little_bytes 2 (get_or slots n 0))
slot_lies text place there n [] held few is = absurd (omega arith)
slot_lies text place there zero (x ∷ rest) held few is =
    subst (λ k. Holds text k (little_bytes 2 x)) (omega arith)
    (held_front text place (little_bytes 2 x) (shorts rest) held)
slot_lies text place there (suc n) (x ∷ rest) held few is =
    slot_lies text (place + 2) there n rest
    (held_back text place (place + 2) (little_bytes 2 x) (shorts rest) (omega (arith, length_little 2 x)) held)
    (omega arith) (omega arith)

slot_shown : (text : List ℕ) (table own_size : ℕ) (slots : List ℕ) (n v : ℕ)
    (lies : TableLies text table own_size slots) → n < length slots
    → get_or slots n 0 ≡ v → v < 65536 → ShowsUint text (slot_place lies.vtable n) 2 v
slot_shown text table own_size slots n v lies few is fits = record {
  held =
      subst (λ x. Holds text (slot_place lies.vtable n) (little_bytes 2 x)) is
      (slot_lies text (lies.vtable + 4) (slot_place lies.vtable n) n slots lies.held few refl);
  fits = omega arith;
}

-- field n stands so many bytes behind the table's place
pub field_lies : (text : List ℕ) (table own_size : ℕ) (slots : List ℕ) (n v : ℕ) → TableLies text table own_size slots
    → n < length slots
    → get_or slots n 0 ≡ v → 0 < v → v < 65536 → ShowsField text table n (Some (table + v))
field_lies text table own_size slots n v lies few is above fits =
    field_there text table n lies.vtable own_size v lies.shown (omega (arith, lies.whole)) (omega (arith, lies.whole))
    (slot_shown text table own_size slots n v lies few is fits) above

-- field n is absent
pub field_none : (text : List ℕ) (table own_size : ℕ) (slots : List ℕ) (n : ℕ) → TableLies text table own_size slots
    → n < length slots
    → get_or slots n 0 ≡ 0 → ShowsField text table n None
field_none text table own_size slots n lies few is =
    field_zero text table n lies.vtable own_size 0 lies.shown (omega (arith, lies.whole))
    (slot_shown text table own_size slots n 0 lies few is (omega arith)) refl

-- field n is behind the last one
pub field_behind : (text : List ℕ) (table own_size : ℕ) (slots : List ℕ) (n : ℕ) → TableLies text table own_size slots
    → length slots ≤ n
    → ShowsField text table n None
field_behind text table own_size slots n lies few =
    field_short text table n lies.vtable own_size lies.shown (omega (arith, lies.whole)) (omega (arith, lies.whole))
