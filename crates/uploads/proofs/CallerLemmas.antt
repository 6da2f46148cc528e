-- Lemmas of the definitions of an upload's parts, for callers too: how they stand one behind the other, and how long they
-- are.
use Rattle.std.proofs.Common.{◌≡◌, refl, sym, ap, subst, ◌∙◌, ℕ, zero, suc, ◌+◌, ◌*◌, ◌/◌, ◌%◌, ◌<◌, ◌≤◌, ◌^◌, ◌==◌, Bool, true, false, not, cond}
use Rattle.std.proofs.Common.{List, [], ◌∷◌, ◌++◌, map, length, length-append, arith}
use Rattle.std.proofs.Math.Dec.{eqb-suc-zero}
use Rattle.std.proofs.lemmas.Bool.{eqb-true}
use Rattle.std.proofs.lemmas.List.{append-nil}
use Rattle.std.proofs.lemmas.Grind.{flat_map-append}
use Rattle.std.specs.Prelude.{nat_lt, if◌then◌else◌}
use Rattle.std.specs.List.{AllByRecursion}
use Rattle.proto_fields.specs.Field.{Field, field_text, fields_text, present}
use Rattle.proto_fields.specs.Varint.{varint_text, digits}
use Rattle.proto_messages.specs.Canonical.{bytes_field, canonical_fields}
use Rattle.header_types.specs.Fields.{SchemaTree}
use Rattle.header_types.specs.Header.{Header, schema_header, batch_header}
use Rattle.header_writing.specs.Canonical.{header_text}
use Rattle.batch_types.specs.Cells.{Rows}
use Rattle.batch_types.specs.Canonical.{canonical_head}
use Rattle.table_types.specs.Uploads.{Upload, batch_descriptor, schema_text, batch_values, upload_text}
use Rattle.table_types.specs.Served.{data_text, upload_messages, messages_of, batch_message}
use Rattle.table_types.specs.Valid.{IsUpload, FitsFrame}
use Rattle.uploads.specs.Parts.{PartThen, batch_parts, batches_parts, body_text, batch_text, batches_text, served_of, IsEncodedBatch, HasLeft}

-- ---- fields that are written

abbrev pub part : ℕ → List ℕ → List ℕ
part number content = field_text (bytes_field number content)

-- bytes that are there are written
pub kept : (number : ℕ) (bytes : List ℕ) → 1 ≤ length bytes → present (bytes_field number bytes ∷ []) ≡ bytes_field number bytes ∷ []
kept number [] some = absurd (omega (arith, some))
kept number (b ∷ bytes) some =
    ap (λ t. cond (not t) (bytes_field number (b ∷ bytes) ∷ []) []) (eqb-suc-zero (length bytes))

-- and none are not
pub left_out : (number : ℕ) → present (bytes_field number [] ∷ []) ≡ []
left_out number = refl

pub after_first : (f : Field) (rest : List Field) → fields_text (f ∷ rest) ≡ field_text f ++ fields_text rest
after_first f rest = refl

pub present_then : (number : ℕ) (bytes : List ℕ) (rest : List Field) → 1 ≤ length bytes
    → fields_text (present (bytes_field number bytes ∷ []) ++ rest) ≡ part number bytes ++ fields_text rest
present_then number bytes rest some = ap (λ fs. fields_text (fs ++ rest)) (kept number bytes some)

varint_there : (n : ℕ) → 1 ≤ length (varint_text n)
unfolding varint_text
varint_there n = there (nat_lt n 128)
  where
    there : (b : Bool) → 1 ≤ length (if b then n ∷ [] else (n % 128 + 128) ∷ digits 9 (n / 128))
    there true = omega arith
    there false = omega arith

pub part_long : (number : ℕ) (bytes : List ℕ) → length bytes ≤ length (part number bytes)
part_long number bytes =
    omega (
      arith,
      length-append (varint_text (8 * number + 2)) (varint_text (length bytes) ++ bytes),
      length-append (varint_text (length bytes)) bytes,
    )

pub some_bytes : (number : ℕ) (bytes : List ℕ) → 1 ≤ length (part number bytes)
some_bytes number bytes = one_more number (8 * number + 2) (varint_text (length bytes) ++ bytes)
  where
    one_more : (number key : ℕ) (rest : List ℕ) → 1 ≤ length (varint_text key ++ rest)
    one_more number key rest = omega (arith, length-append (varint_text key) rest, varint_there key)

-- ---- the parts of an upload

abbrev pub fields_behind : SchemaTree → List Rows → List Field
fields_behind schema batches = map (λ value. bytes_field 4 (fields_text (canonical_fields batch_descriptor value))) (map (batch_values schema) batches)

pub batches_behind : (schema : SchemaTree) (batches : List Rows) → fields_text (fields_behind schema batches ++ []) ≡ batches_text (map (batch_parts schema) batches)
batches_behind schema [] = refl
batches_behind schema (rows ∷ batches) =
    ap (λ l. part 4 (batch_text (batch_parts schema rows)) ++ l) (batches_behind schema batches)

abbrev pub behind_schema : Upload → List ℕ
behind_schema u = fields_text (fields_behind u.schema u.batches ++ [])

abbrev pub behind_id : Upload → List ℕ
behind_id u = part 3 (schema_text u.schema) ++ behind_schema u

abbrev pub behind_table : Upload → List ℕ
behind_table u = part 2 u.id ++ behind_id u

headed : (header : Header) → 1 ≤ length (header_text header)
headed (schema_header schema) = omega arith
headed (batch_header head) = omega arith

pub schema_there : (schema : SchemaTree) → 1 ≤ length (schema_text schema)
schema_there schema = headed (schema_header schema)

pub whole : (u : Upload) → IsUpload u → upload_text u ≡ part 1 u.table ++ behind_table u
whole u is =
    present_then 1 u.table _ is.table_named.some
    ∙ ap (λ l. part 1 u.table ++ l) (
    present_then 2 u.id _ (omega (arith, is.named.whole))
    ∙ ap (λ l. part 2 u.id ++ l) (present_then 3 (schema_text u.schema) _ (schema_there u.schema))
    )

-- ---- how long they are

pub more_long : (number : ℕ) (content rest : List ℕ) → length (part number content ++ rest) ≡ length (part number content) + length rest
more_long number content rest = length-append (part number content) rest

pub each_encoded : (schema : SchemaTree) (batches : List Rows) → length (batches_text (map (batch_parts schema) batches)) < 2 ^ 64
    → AllByRecursion IsEncodedBatch (map (batch_parts schema) batches)
each_encoded schema [] short = tt
each_encoded schema (rows ∷ batches) short =
    let long = more_long 4 (batch_text (batch_parts schema rows)) (batches_text (map (batch_parts schema) batches)) in (
      record {
        headed = headed (batch_header (canonical_head schema rows));
        fits = omega (arith, short, long, part_long 4 (batch_text (batch_parts schema rows)));
      },
      each_encoded schema batches (omega (arith, short, long)),
    )

module _ (u : Upload) (is : IsUpload u) where
  lengths : length (upload_text u) ≡ length (part 1 u.table) + (length (part 2 u.id) + (length (part 3 (schema_text u.schema)) + length (behind_schema u)))
  lengths =
      ap length (whole u is)
      ∙ omega (arith, more_long 1 u.table (behind_table u), more_long 2 u.id (behind_id u), more_long 3 (schema_text u.schema) (behind_schema u))

  pub table_first : (text : List ℕ) → upload_text u ≡ text → PartThen 1 text u.table (behind_table u)
  table_first text same = record {
    parts = sym same ∙ whole u is;
    number_is = (omega arith, omega arith);
    fits = omega (arith, is.short, lengths, part_long 1 u.table);
  }

  pub id_next : PartThen 2 (behind_table u) u.id (behind_id u)
  id_next = record {
    parts = refl;
    number_is = (omega arith, omega arith);
    fits = omega (arith, is.short, lengths, part_long 2 u.id);
  }

  pub schema_next : PartThen 3 (behind_id u) (schema_text u.schema) (behind_schema u)
  schema_next = record {
    parts = refl;
    number_is = (omega arith, omega arith);
    fits = omega (arith, is.short, lengths, part_long 3 (schema_text u.schema));
  }

  pub batches_left : HasLeft (behind_schema u) (batches_parts u)
  batches_left = record {
    is = batches_behind u.schema u.batches;
    each = each_encoded u.schema u.batches (omega (arith, is.short, lengths, ap length (batches_behind u.schema u.batches)));
  }

pub moved : (number : ℕ) (a b content rest : List ℕ) → a ≡ b → PartThen number b content rest → PartThen number a content rest
moved number a b content rest same stands = subst (λ l. PartThen number l content rest) (sym same) stands

-- ---- one batch

pub batch_parts_text : (parts : List ℕ × List ℕ) → 1 ≤ length parts.0 → batch_text parts ≡ part 1 parts.0 ++ body_text parts.1
batch_parts_text parts some = present_then 1 parts.0 (present (bytes_field 2 parts.1 ∷ []) ++ []) some

pub batch_first : (parts : List ℕ × List ℕ) → IsEncodedBatch parts → (text : List ℕ) → text ≡ batch_text parts
    → PartThen 1 text parts.0 (body_text parts.1)
batch_first parts is text same = record {
  parts = same ∙ batch_parts_text parts is.headed;
  number_is = (omega arith, omega arith);
  fits = omega (arith, is.fits, ap length (batch_parts_text parts is.headed), more_long 1 parts.0 (body_text parts.1), part_long 1 parts.0);
}

pub body_some : (body : List ℕ) → 1 ≤ length body → body_text body ≡ part 2 body ++ []
body_some body some = present_then 2 body [] some

pub empty_body : (rest body : List ℕ) → rest ≡ body_text body → (length rest == 0) ≡ true → [] ≡ body
empty_body rest [] same none = refl
empty_body rest (b ∷ body) same none =
    absurd (omega (arith, eqb-true (length rest) 0 none, ap length same, ap length (body_some (b ∷ body) (omega arith)), more_long 2 (b ∷ body) [], part_long 2 (b ∷ body)))

pub there_body : (rest : List ℕ) (parts : List ℕ × List ℕ) → IsEncodedBatch parts → rest ≡ body_text parts.1 → (length rest == 0) ≡ false
    → PartThen 2 rest parts.1 []
there_body rest (header, []) is same there = absurd (not_empty rest same there)
  where
    not_empty : (l : List ℕ) → l ≡ [] → (length l == 0) ≡ false → ⊥
    not_empty [] e there = cc
    not_empty (x ∷ l) e there = cc
there_body rest (header, b ∷ body) is same there = record {
  parts = same ∙ body_some (b ∷ body) (omega arith);
  number_is = (omega arith, omega arith);
  fits = omega (arith, is.fits, ap length (batch_parts_text (header, b ∷ body) is.headed), more_long 1 header (body_text (b ∷ body)), ap length (body_some (b ∷ body) (omega arith)), more_long 2 (b ∷ body) [], part_long 2 (b ∷ body));
}

-- ---- batches one after the other

pub empty_text : (text : List ℕ) → text ≡ [] → (length text == 0) ≡ false → ⊥
empty_text [] e there = cc
empty_text (x ∷ text) e there = cc

pub first_left : (text : List ℕ) (parts : List ℕ × List ℕ) (rest : List (List ℕ × List ℕ)) → HasLeft text (parts ∷ rest)
    → PartThen 4 text (batch_text parts) (batches_text rest)
first_left text parts rest left = record {
  parts = left.is;
  number_is = (omega arith, omega arith);
  fits = left.each.0.fits;
}

-- ---- how long fields are

pub digits_few : (k n : ℕ) → length (digits k n) ≤ k
digits_few zero n = omega arith
digits_few (suc k) n = by_size k n (nat_lt n 128) (digits_few k (n / 128))
  where
    by_size : (k n : ℕ) (b : Bool) → length (digits k (n / 128)) ≤ k
        → length (if b then n ∷ [] else (n % 128 + 128) ∷ digits k (n / 128)) ≤ suc k
    by_size k n true few = omega arith
    by_size k n false few = omega (arith, few)

pub varint_is : (n : ℕ) → varint_text n ≡ digits 10 n
unfolding varint_text
varint_is n = refl

pub part_size : (number : ℕ) (bytes : List ℕ) (key count : ℕ) → key ≡ length (digits 10 (8 * number + 2)) → count ≡ length (digits 10 (length bytes))
    → key + count + length bytes ≡ length (field_text (bytes_field number bytes))
part_size number bytes key count first second =
    omega (
      arith,
      first,
      second,
      ap length (varint_is (8 * number + 2)),
      ap length (varint_is (length bytes)),
      length-append (varint_text (8 * number + 2)) (varint_text (length bytes) ++ bytes),
      length-append (varint_text (length bytes)) bytes,
    )

-- a field of these bytes, which is left out where there are none
pub field_size : (number : ℕ) (bytes : List ℕ) (whole : ℕ) → 1 ≤ length bytes → whole ≡ length (field_text (bytes_field number bytes))
    → whole ≡ length (fields_text (present (bytes_field number bytes ∷ [])))
field_size number bytes whole some is =
    is ∙ sym (ap length (ap fields_text (kept number bytes some) ∙ append-nil (part number bytes)))

pub no_field : (number : ℕ) (bytes : List ℕ) → length bytes ≡ 0 → 0 ≡ length (fields_text (present (bytes_field number bytes ∷ [])))
no_field number [] none = refl
no_field number (b ∷ bytes) none = absurd (omega (arith, none))

pub both_fields : (xs ys : List Field) → length (fields_text (xs ++ ys)) ≡ length (fields_text xs) + length (fields_text ys)
both_fields xs ys = ap length (flat_map-append field_text xs ys) ∙ length-append (fields_text xs) (fields_text ys)

-- ---- messages

pub message_size : (h m b : List ℕ) → length (data_text h m b)
    ≡ length (fields_text (present (bytes_field 2 h ∷ []))) + length (fields_text (present (bytes_field 3 m ∷ []))) + length (fields_text (present (bytes_field 1000 b ∷ [])))
message_size h m b =
    omega (
      arith,
      both_fields (present (bytes_field 2 h ∷ [])) (present (bytes_field 3 m ∷ []) ++ (present (bytes_field 1000 b ∷ []) ++ [])),
      both_fields (present (bytes_field 3 m ∷ [])) (present (bytes_field 1000 b ∷ []) ++ []),
      both_fields (present (bytes_field 1000 b ∷ [])) [],
    )

pub present_long : (number : ℕ) (bytes : List ℕ) → length bytes ≤ length (fields_text (present (bytes_field number bytes ∷ [])))
present_long number [] = omega arith
present_long number (b ∷ bytes) =
    omega (
      arith,
      ap (λ fs. length (fields_text fs)) (kept number (b ∷ bytes) (omega arith)),
      ap length (append-nil (part number (b ∷ bytes))),
      part_long number (b ∷ bytes),
    )

-- what a message holds is no longer than it
pub message_long : (h m b : List ℕ) → (length h ≤ length (data_text h m b)) × (length m ≤ length (data_text h m b)) × (length b ≤ length (data_text h m b))
message_long h m b = (
  omega (arith, message_size h m b, present_long 2 h),
  omega (arith, message_size h m b, present_long 3 m),
  omega (arith, message_size h m b, present_long 1000 b),
)

-- ---- what is served

pub part_few : (number : ℕ) (bytes : List ℕ) → length (part number bytes) ≤ 20 + length bytes
part_few number bytes =
    omega (
      arith,
      length-append (varint_text (8 * number + 2)) (varint_text (length bytes) ++ bytes),
      length-append (varint_text (length bytes)) bytes,
      ap length (varint_is (8 * number + 2)),
      ap length (varint_is (length bytes)),
      digits_few 10 (8 * number + 2),
      digits_few 10 (length bytes),
    )

name_fits : (id : List ℕ) → length id ≡ 16 → FitsFrame (data_text [] id [])
name_fits id long =
    omega (
      arith,
      long,
      message_size [] id [],
      ap length (present_then 3 id [] (omega (arith, long))),
      ap (λ l. length l) (append-nil (part 3 id)),
      ap (λ l. length (fields_text l)) (append-nil (present (bytes_field 3 id ∷ []))),
      part_few 3 id,
    )

served_to : (u : Upload) (batches : List Rows) → AllByRecursion (λ parts. FitsFrame (served_of u.id parts)) (map (batch_parts u.schema) batches)
    → AllByRecursion FitsFrame (map (batch_message u) batches)
served_to u [] all = tt
served_to u (r ∷ rows) all = (all.0, served_to u rows all.1)

served_from : (u : Upload) (batches : List Rows) → AllByRecursion FitsFrame (map (batch_message u) batches)
    → AllByRecursion (λ parts. FitsFrame (served_of u.id parts)) (map (batch_parts u.schema) batches)
served_from u [] all = tt
served_from u (r ∷ rows) all = (all.0, served_from u rows all.1)

pub messages_fit : (u : Upload) → length u.id ≡ 16 → AllByRecursion (λ parts. FitsFrame (served_of u.id parts)) (batches_parts u) → AllByRecursion FitsFrame (upload_messages u)
messages_fit u long all = by_batches u.batches all
  where
    by_batches : (batches : List Rows) → AllByRecursion (λ parts. FitsFrame (served_of u.id parts)) (map (batch_parts u.schema) batches)
        → AllByRecursion FitsFrame (messages_of u batches)
    by_batches [] all = (name_fits u.id long, tt)
    by_batches (r ∷ rows) all = (all.0, served_to u rows all.1)

pub parts_fit : (u : Upload) → AllByRecursion FitsFrame (upload_messages u) → AllByRecursion (λ parts. FitsFrame (served_of u.id parts)) (batches_parts u)
parts_fit u all = by_batches u.batches all
  where
    by_batches : (batches : List Rows) → AllByRecursion FitsFrame (messages_of u batches)
        → AllByRecursion (λ parts. FitsFrame (served_of u.id parts)) (map (batch_parts u.schema) batches)
    by_batches [] all = tt
    by_batches (r ∷ rows) all = (all.0, served_from u rows all.1)

-- ---- the whole

-- an upload whose names are there is its parts, one behind the other
pub parts_text : (u : Upload) → 1 ≤ length u.table → 1 ≤ length u.id
    → upload_text u ≡ part 1 u.table ++ (part 2 u.id ++ (part 3 (schema_text u.schema) ++ batches_text (batches_parts u)))
parts_text u table id =
    present_then 1 u.table _ table
    ∙ ap (λ l. part 1 u.table ++ l) (
    present_then 2 u.id _ id
    ∙ ap (λ l. part 2 u.id ++ l) (
    present_then 3 (schema_text u.schema) _ (schema_there u.schema)
    ∙ ap (λ l. part 3 (schema_text u.schema) ++ l) (batches_behind u.schema u.batches)
    )
    )
