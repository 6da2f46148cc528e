-- Fields that are found at the front of a text.
use Rattle.std.proofs.Common.{◌≡◌, refl, sym, ap, subst, ◌∙◌, ℕ, suc, ◌+◌, ◌*◌, ◌<◌, ◌≤◌, ◌^◌, ◌↔◌, List, [], ◌∷◌, ◌++◌, map, length, length-append, append_assoc, Option, Some, None, Bor, arith}
use Rattle.std.proofs.Common.{◌==◌, true, false}
use Rattle.std.proofs.lemmas.Bool.{eqb-true}
use Rattle.std.proofs.lemmas.List.{append-nil, nil_from_length}
use Rattle.table_types.specs.Served.{data_text}
use Rattle.table_types.specs.Valid.{FitsFrame, IsTableName}
use Rattle.proto_fields.specs.Varint.{varint_text}
use Rattle.std.proofs.Common.{Fits, w8, slice_index_or}
use Rattle.std.specs.Option.{option_map, option_copied, IfNone}
use Rattle.std.specs.List.{AllByRecursion}
use Rattle.proto_fields.specs.Field.{IsFieldNumber, field_text, fields_text, present}
use Rattle.proto_messages.specs.Canonical.{bytes_field}
use Rattle.proto_messages.specs.Stripping.{Strips}
use Rattle.uploads.specs.Parts.{PartThen, batch_parts, batches_parts, body_text, batch_text, batches_text, IsEncodedBatch, HasLeft, served_of}
use Rattle.uploads.specs.Found.{HasUploadParts, AreServed, IsNext, BeginsNamed, HasUploadFields}
use Rattle.uploads.proofs.CallerLemmas.{part, kept, part_long, some_bytes, more_long, present_then, body_some, empty_text, batch_first, batch_parts_text, first_left}

pub has_some : (bytes : List ℕ) → (length bytes == 0) ≡ false → 1 ≤ length bytes
has_some [] there = cc
has_some (b ∷ bytes) there = omega arith

pub has_none : (bytes : List ℕ) → (length bytes == 0) ≡ true → length bytes ≡ 0
has_none bytes none = eqb-true (length bytes) 0 none

pub if_none : {X P : Type 0} (r : Option X) → P → IfNone r P
if_none (Some x) p = tt
if_none None p = p

-- ---- one field

-- what is stripped where there are bytes
pub written_part : (number : ℕ) (content : List ℕ) → 1 ≤ length content → fields_text (present (bytes_field number content ∷ [])) ≡ part number content
written_part number content some = ap fields_text (kept number content some) ∙ append-nil (part number content)

pub part_taken : (number : ℕ) (content text rest : List ℕ) → IsFieldNumber number → 1 ≤ length content → length text ≤ 16777216
    → Strips (fields_text (present (bytes_field number content ∷ []))) text (Some rest) → PartThen number text content rest
part_taken number content text rest is some short strips =
    let parts : text ≡ part number content ++ rest = (strips.exact rest).1 refl ∙ ap (λ l. l ++ rest) (written_part number content some) in
    record {
      parts = parts;
      number_is = is;
      fits = omega (arith, short, ap length parts, more_long number content rest, part_long number content);
    }

pub shorter : (number : ℕ) (text content rest : List ℕ) → PartThen number text content rest → length text ≤ 16777216
    → (length content ≤ 16777216) × (length rest ≤ 16777216) × (length rest < length text)
shorter number text content rest is short =
    let all = ap length is.parts in (
      omega (arith, short, all, more_long number content rest, part_long number content),
      omega (arith, short, all, more_long number content rest),
      omega (arith, all, more_long number content rest, some_bytes number content),
    )

pub only_content : (found content : List ℕ) → Some found ≡ Some content → found ≡ content
only_content found content e = cc

-- the same bytes are the content of any field that stands there, and the same follows
pub part_only : (number : ℕ) (found text after : List ℕ) → 1 ≤ length found
    → Strips (fields_text (present (bytes_field number found ∷ []))) text (Some after)
    → ((number : ℕ) (content rest : List ℕ) → PartThen number text content rest → Some found ≡ Some content)
    → (content rest : List ℕ) → PartThen number text content rest → (found ≡ content) × (after ≡ rest)
part_only number found text after some strips front content rest stands =
    let same : found ≡ content = only_content found content (front number content rest stands) in
    let is : text ≡ fields_text (present (bytes_field number found ∷ [])) ++ rest =
    stands.parts ∙ ap (λ l. l ++ rest) (ap (part number) (sym same) ∙ sym (written_part number found some)) in
    (same, only_content after rest ((strips.exact rest).0 is))

pub no_part : (number : ℕ) (found text : List ℕ) → 1 ≤ length found
    → Strips (fields_text (present (bytes_field number found ∷ []))) text None
    → ((number : ℕ) (content rest : List ℕ) → PartThen number text content rest → Some found ≡ Some content)
    → (content rest : List ℕ) → PartThen number text content rest → ⊥
no_part number found text some strips front content rest stands =
    let same : found ≡ content = only_content found content (front number content rest stands) in
    let is : text ≡ fields_text (present (bytes_field number found ∷ [])) ++ rest =
    stands.parts ∙ ap (λ l. l ++ rest) (ap (part number) (sym same) ∙ sym (written_part number found some)) in
    not_some rest ((strips.exact rest).0 is)
  where
    not_some : (xs : List ℕ) → None ≡ Some xs → ⊥
    not_some xs e = cc

pub no_front : (text : List ℕ) (number : ℕ) → ((number : ℕ) (content rest : List ℕ) → PartThen number text content rest → None ≡ Some content)
    → (content rest : List ℕ) → PartThen number text content rest → ⊥
no_front text number front content rest stands = not_some content (front number content rest stands)
  where
    not_some : (xs : List ℕ) → None ≡ Some xs → ⊥
    not_some xs e = cc

pub empty_front : (text found : List ℕ) (number : ℕ) → length found ≡ 0
    → ((number : ℕ) (content rest : List ℕ) → PartThen number text content rest → Some found ≡ Some content)
    → (content rest : List ℕ) → 1 ≤ length content → PartThen number text content rest → ⊥
empty_front text found number none front content rest some stands =
    absurd (omega (arith, none, some, ap length (only_content found content (front number content rest stands))))

-- ---- the body of a batch

pub body_is : (rest body behind : List ℕ) → PartThen 2 rest body behind → 1 ≤ length body → (length behind == 0) ≡ true → rest ≡ body_text body
body_is rest body [] stands some none = stands.parts ∙ sym (body_some body some)
body_is rest body (b ∷ behind) stands some none = absurd (omega (arith, eqb-true (length (b ∷ behind)) 0 none))

pub no_body : (rest : List ℕ) → (length rest == 0) ≡ true → rest ≡ body_text []
no_body [] none = refl
no_body (b ∷ rest) none = absurd (omega (arith, eqb-true (length (b ∷ rest)) 0 none))

-- a body that is there stands as a field, and nothing behind it
pub body_stands : (rest body : List ℕ) → (length rest == 0) ≡ false → length body < 2 ^ 64 → rest ≡ body_text body
    → (1 ≤ length body) × PartThen 2 rest body []
body_stands rest [] there fits is = absurd (empty_text rest is there)
body_stands rest (b ∷ body) there fits is = (
  omega arith,
  record {
    parts = is ∙ body_some (b ∷ body) (omega arith);
    number_is = (omega arith, omega arith);
    fits = fits;
  },
)

pub more_behind : (behind : List ℕ) → (length behind == 0) ≡ false → behind ≡ [] → ⊥
more_behind behind there none = empty_text behind none there

pub no_body_part : (rest : List ℕ) → (length rest == 0) ≡ false → ((content left : List ℕ) → 1 ≤ length content → ¬ PartThen 2 rest content left)
    → (body : List ℕ) → length body < 2 ^ 64 → rest ≡ body_text body → ⊥
no_body_part rest there none body fits is =
    let stands = body_stands rest body there fits is in none body [] stands.0 stands.1

pub body_then_more : (rest found behind : List ℕ) → (length rest == 0) ≡ false → (length behind == 0) ≡ false
    → ((content left : List ℕ) → PartThen 2 rest content left → (found ≡ content) × (behind ≡ left))
    → (body : List ℕ) → length body < 2 ^ 64 → rest ≡ body_text body → ⊥
body_then_more rest found behind there more only body fits is =
    let stands = body_stands rest body there fits is in more_behind behind more (only body [] stands.1).1

pub body_only : (rest found behind : List ℕ) → (length rest == 0) ≡ false
    → ((content left : List ℕ) → PartThen 2 rest content left → (found ≡ content) × (behind ≡ left))
    → (body : List ℕ) → length body < 2 ^ 64 → rest ≡ body_text body → found ≡ body
body_only rest found behind there only body fits is = (only body [] (body_stands rest body there fits is).1).0

-- ---- a batch

pub body_fits : (parts : List ℕ × List ℕ) → IsEncodedBatch parts → length parts.1 < 2 ^ 64
body_fits (header, []) is = omega arith
body_fits (header, b ∷ body) is =
    omega (
      arith,
      is.fits,
      ap length (batch_parts_text (header, b ∷ body) is.headed),
      more_long 1 header (body_text (b ∷ body)),
      ap length (body_some (b ∷ body) (omega arith)),
      more_long 2 (b ∷ body) [],
      part_long 2 (b ∷ body),
    )

pub batch_is : (batch header rest body : List ℕ) → length batch ≤ 16777216 → PartThen 1 batch header rest → 1 ≤ length header → rest ≡ body_text body
    → IsEncodedBatch (header, body) × (batch ≡ batch_text (header, body))
batch_is batch header rest body short stands some is =
    let same : batch ≡ batch_text (header, body) =
    stands.parts ∙ ap (λ l. part 1 header ++ l) is ∙ sym (batch_parts_text (header, body) some) in
    (record { headed = some; fits = omega (arith, short, ap length same) }, same)

pub batch_only : (batch header rest found : List ℕ)
    → ((content left : List ℕ) → PartThen 1 batch content left → (header ≡ content) × (rest ≡ left))
    → ((other : List ℕ) → length other < 2 ^ 64 → rest ≡ body_text other → found ≡ other)
    → (parts : List ℕ × List ℕ) → IsEncodedBatch parts → batch ≡ batch_text parts → (header ≡ parts.0) × (found ≡ parts.1)
batch_only batch header rest found only body parts is same =
    let front = only parts.0 (body_text parts.1) (batch_first parts is batch same) in
    (front.0, body parts.1 (body_fits parts is) front.1)

pub no_header : (batch : List ℕ) → ((content left : List ℕ) → 1 ≤ length content → ¬ PartThen 1 batch content left)
    → (parts : List ℕ × List ℕ) → IsEncodedBatch parts → batch ≡ batch_text parts → ⊥
no_header batch none parts is same = none parts.0 (body_text parts.1) is.headed (batch_first parts is batch same)

pub no_body_behind : (batch header rest : List ℕ)
    → ((content left : List ℕ) → PartThen 1 batch content left → (header ≡ content) × (rest ≡ left))
    → ((body : List ℕ) → length body < 2 ^ 64 → rest ≡ body_text body → ⊥)
    → (parts : List ℕ × List ℕ) → IsEncodedBatch parts → batch ≡ batch_text parts → ⊥
no_body_behind batch header rest only none parts is same =
    none parts.1 (body_fits parts is) (only parts.0 (body_text parts.1) (batch_first parts is batch same)).1

-- ---- the next batch

pub next_part : (id rest : List ℕ) (parts : List ℕ × List ℕ) (left : List ℕ) → IsNext id rest parts left
    → (1 ≤ length (batch_text parts)) × PartThen 4 rest (batch_text parts) left
next_part id rest parts left next = (
  omega (arith, ap length (batch_parts_text parts next.encoded.headed), more_long 1 parts.0 (body_text parts.1), some_bytes 1 parts.0),
  record { parts = next.is; number_is = (omega arith, omega arith); fits = next.encoded.fits },
)

pub no_next : (id rest : List ℕ) → ((content left : List ℕ) → 1 ≤ length content → ¬ PartThen 4 rest content left)
    → (parts : List ℕ × List ℕ) (left : List ℕ) → ¬ IsNext id rest parts left
no_next id rest none parts left next = let stands = next_part id rest parts left next in none (batch_text parts) left stands.0 stands.1

pub no_batch_next : (id rest batch behind : List ℕ)
    → ((content left : List ℕ) → PartThen 4 rest content left → (batch ≡ content) × (behind ≡ left))
    → ((parts : List ℕ × List ℕ) → IsEncodedBatch parts → batch ≡ batch_text parts → ⊥)
    → (parts : List ℕ × List ℕ) (left : List ℕ) → ¬ IsNext id rest parts left
no_batch_next id rest batch behind only none parts left next =
    none parts next.encoded (only (batch_text parts) left (next_part id rest parts left next).1).0

pub not_served : (id rest batch behind header body : List ℕ)
    → ((content left : List ℕ) → PartThen 4 rest content left → (batch ≡ content) × (behind ≡ left))
    → ((parts : List ℕ × List ℕ) → IsEncodedBatch parts → batch ≡ batch_text parts → (header ≡ parts.0) × (body ≡ parts.1))
    → ¬ FitsFrame (data_text header id body)
    → (parts : List ℕ × List ℕ) (left : List ℕ) → ¬ IsNext id rest parts left
not_served id rest batch behind header body only same none parts left next =
    let front = only (batch_text parts) left (next_part id rest parts left next).1 in
    let both = same parts next.encoded front.0 in
    none (subst (λ h. FitsFrame (data_text h id body)) (sym both.0) (subst (λ b. FitsFrame (data_text parts.0 id b)) (sym both.1) next.served))

pub next_is : (id rest batch behind header body : List ℕ) → PartThen 4 rest batch behind → IsEncodedBatch (header, body) → batch ≡ batch_text (header, body)
    → FitsFrame (data_text header id body) → IsNext id rest (header, body) behind
next_is id rest batch behind header body stands encoded is fits = record {
  is = stands.parts ∙ ap (λ b. part 4 b ++ behind) is;
  encoded = encoded;
  served = fits;
}

pub next_only : (id rest batch behind : List ℕ)
    → ((content left : List ℕ) → PartThen 4 rest content left → (batch ≡ content) × (behind ≡ left))
    → (parts : List ℕ × List ℕ) (left : List ℕ) → IsNext id rest parts left → behind ≡ left
next_only id rest batch behind only parts left next = (only (batch_text parts) left (next_part id rest parts left next).1).1

-- ---- all batches

abbrev Served : List ℕ → List (List ℕ × List ℕ) → Type 0
Served id list = AllByRecursion (λ parts. FitsFrame (served_of id parts)) list

-- so many batches were passed, and this is still to come
pub record StillNext (id batches rest : List ℕ) (count : ℕ) : Type 0 where
  pub short : length rest ≤ 16777216
  pub few : count ≤ 1024
  pub good : (list : List (List ℕ × List ℕ)) → HasLeft rest list → length list + count ≤ 1024 → Served id list
      → (whole : List (List ℕ × List ℕ)) × HasLeft batches whole × AreServed id whole
  pub bad : (whole : List (List ℕ × List ℕ)) → HasLeft batches whole → AreServed id whole
      → (list : List (List ℕ × List ℕ)) × HasLeft rest list × (length list + count ≤ 1024) × Served id list

pub none_passed : (id batches : List ℕ) → length batches ≤ 16777216 → StillNext id batches batches 0
none_passed id batches short = record {
  short = short;
  few = omega arith;
  good = λ list left few served. (list, left, record { few = omega (arith, few); served = served });
  bad = λ whole left are. (whole, left, omega (arith, are.few), are.served);
}

listed : (id rest behind : List ℕ) (parts : List ℕ × List ℕ) (list : List (List ℕ × List ℕ)) → IsNext id rest parts behind → HasLeft behind list → HasLeft rest (parts ∷ list)
listed id rest behind parts list next left = record {
  is = next.is ∙ ap (λ l. part 4 (batch_text parts) ++ l) left.is;
  each = (next.encoded, left.each);
}

next_of : (id rest : List ℕ) (parts : List ℕ × List ℕ) (list : List (List ℕ × List ℕ)) → HasLeft rest (parts ∷ list) → FitsFrame (served_of id parts)
    → IsNext id rest parts (batches_text list)
next_of id rest parts list left served = record { is = left.is; encoded = left.each.0; served = served }

passed_bad : (id rest behind : List ℕ) (count : ℕ) → (length rest == 0) ≡ false
    → ((parts : List ℕ × List ℕ) (left : List ℕ) → IsNext id rest parts left → behind ≡ left)
    → (list : List (List ℕ × List ℕ)) → HasLeft rest list → length list + count ≤ 1024 → Served id list
    → (after : List (List ℕ × List ℕ)) × HasLeft behind after × (length after + (count + 1) ≤ 1024) × Served id after
passed_bad id rest behind count there only [] left few served = absurd (empty_text rest left.is there)
passed_bad id rest behind count there only (parts ∷ list) left few served =
    (list, record { is = only parts (batches_text list) (next_of id rest parts list left served.0); each = left.each.1 }, omega (arith, few), served.1)

pub one_passed : (id batches rest behind : List ℕ) (count : ℕ) → (length rest == 0) ≡ false → count < 1024
    → (parts : List ℕ × List ℕ) → IsNext id rest parts behind
    → ((parts : List ℕ × List ℕ) (left : List ℕ) → IsNext id rest parts left → behind ≡ left)
    → StillNext id batches rest count → StillNext id batches behind (count + 1) × (length behind < length rest)
one_passed id batches rest behind count there below parts next only still =
    let short = shorter 4 rest (batch_text parts) behind (next_part id rest parts behind next).1 still.short in (
      record {
        short = short.1;
        few = omega (arith, below);
        good = λ list left few served. still.good (parts ∷ list) (listed id rest behind parts list next left) (omega (arith, few)) (next.served, served);
        bad = λ whole left are.
            let all = still.bad whole left are in
            passed_bad id rest behind count there only all.0 all.1 all.2 all.3;
      },
      short.2,
    )

pub all_passed : (id batches rest : List ℕ) (count : ℕ) → StillNext id batches rest count → (length rest == 0) ≡ true
    → (whole : List (List ℕ × List ℕ)) × HasLeft batches whole × AreServed id whole
all_passed id batches rest count still none =
    still.good [] (record { is = nil_from_length rest (has_none rest none); each = tt }) (omega (arith, still.few)) tt

stops : (id rest : List ℕ) (count : ℕ) → (length rest == 0) ≡ false
    → ((parts : List ℕ × List ℕ) (left : List ℕ) → IsNext id rest parts left → count < 1024 → ⊥)
    → (list : List (List ℕ × List ℕ)) → HasLeft rest list → length list + count ≤ 1024 → Served id list → ⊥
stops id rest count there none [] left few served = empty_text rest left.is there
stops id rest count there none (parts ∷ list) left few served =
    none parts (batches_text list) (next_of id rest parts list left served.0) (omega (arith, few))

pub not_batches : (id batches rest : List ℕ) (count : ℕ) → StillNext id batches rest count → (length rest == 0) ≡ false
    → ((parts : List ℕ × List ℕ) (left : List ℕ) → IsNext id rest parts left → count < 1024 → ⊥)
    → (whole : List (List ℕ × List ℕ)) → HasLeft batches whole → AreServed id whole → ⊥
not_batches id batches rest count still there none whole left are =
    let all = still.bad whole left are in stops id rest count there none all.0 all.1 all.2 all.3

-- ---- the names

bytes_in_text : (text : List ℕ) → ((i : ℕ) → Fits w8 (slice_index_or text i 0)) → AllByRecursion (λ byte. byte < 256) text
bytes_in_text [] fit = tt
bytes_in_text (b ∷ text) fit = ((fit 0).fits, bytes_in_text text (λ i. fit (suc i)))

behind_bytes : (xs ys : List ℕ) → AllByRecursion (λ byte. byte < 256) (xs ++ ys) → AllByRecursion (λ byte. byte < 256) ys
behind_bytes [] ys all = all
behind_bytes (x ∷ xs) ys all = behind_bytes xs ys all.1

before_bytes : (xs ys : List ℕ) → AllByRecursion (λ byte. byte < 256) (xs ++ ys) → AllByRecursion (λ byte. byte < 256) xs
before_bytes [] ys all = tt
before_bytes (x ∷ xs) ys all = (all.0, before_bytes xs ys all.1)

content_bytes : (number : ℕ) (content rest : List ℕ) → AllByRecursion (λ byte. byte < 256) (part number content ++ rest)
    → AllByRecursion (λ byte. byte < 256) content
content_bytes number content rest all =
    behind_bytes (varint_text (length content)) content
    (behind_bytes (varint_text (8 * number + 2)) (varint_text (length content) ++ content) (before_bytes (part number content) rest all))

pub named : (text table mid id rest : List ℕ) → PartThen 1 text table mid → PartThen 2 mid id rest → IsTableName table → length id ≡ 16
    → ((i : ℕ) → Fits w8 (slice_index_or text i 0)) → BeginsNamed text table id rest
named text table mid id rest first second is long fit =
    let parts : text ≡ part 1 table ++ (part 2 id ++ rest) = first.parts ∙ ap (λ l. part 1 table ++ l) second.parts in
    record {
      parts = parts;
      table_named = is;
      named = record {
        whole = long;
        bytes = content_bytes 2 id rest (behind_bytes (part 1 table) (part 2 id ++ rest) (subst (AllByRecursion (λ byte. byte < 256)) parts (bytes_in_text text fit)));
      };
    }

-- ---- the whole

module _ (text t i r s b : List ℕ)
    (names : (table id rest : List ℕ) → BeginsNamed text table id rest → (t ≡ table) × (i ≡ id) × (r ≡ rest))
    (only : (content left : List ℕ) → PartThen 3 r content left → (s ≡ content) × (b ≡ left)) where
  pub same_found : (table id schema batches : List ℕ) → HasUploadParts text table id schema batches → (t ≡ table) × (i ≡ id) × (s ≡ schema) × (b ≡ batches)
  same_found table id schema batches found =
      let first = names table id (part 3 schema ++ batches) (record { parts = found.parts; table_named = found.table_named; named = found.named }) in
      let second = only schema batches (record {
        parts = first.2;
        number_is = (omega arith, omega arith);
        fits = omega (
          arith,
          found.short,
          ap length found.parts,
          more_long 1 table (part 2 id ++ (part 3 schema ++ batches)),
          more_long 2 id (part 3 schema ++ batches),
          more_long 3 schema batches,
          part_long 3 schema,
        );
      }) in
      (first.0, first.1, second.0, second.1)

  pub same_schema : HasUploadFields text → FitsFrame (data_text s [] [])
  same_schema (table, id, schema, batches, found) =
      subst (λ l. FitsFrame (data_text l [] [])) (sym (same_found table id schema batches found).2) found.schema_served

  pub same_batches : HasUploadFields text → (list : List (List ℕ × List ℕ)) × HasLeft b list × AreServed i list
  same_batches (table, id, schema, batches, found) =
      let same = same_found table id schema batches found in (
        found.list,
        subst (λ l. HasLeft l found.list) (sym same.3) found.left,
        subst (λ l. AreServed l found.list) (sym same.1) found.batches_served,
      )

pub found_is : (text table id rest schema batches : List ℕ) → length text ≤ 16777216 → BeginsNamed text table id rest → PartThen 3 rest schema batches
    → 1 ≤ length schema → FitsFrame (data_text schema [] []) → (list : List (List ℕ × List ℕ)) → HasLeft batches list → AreServed id list
    → HasUploadParts text table id schema batches
found_is text table id rest schema batches short names stands some served list left are = record {
  parts = names.parts ∙ ap (λ l. part 1 table ++ (part 2 id ++ l)) stands.parts;
  short = short;
  table_named = names.table_named;
  named = names.named;
  schema_there = some;
  schema_served = served;
  list = list;
  left = left;
  batches_served = are;
}
