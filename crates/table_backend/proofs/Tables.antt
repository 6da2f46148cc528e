-- What tables say of the uploads that they have taken.
use Rattle.std.proofs.Common.{◌≡◌, ◌≢◌, ◌≤◌, ◌<◌, ◌+◌, ℕ, true, List, [], ◌∷◌, ◌++◌, length, get_or, refl, sym, ap, subst, ◌∙◌, arith, string_bytes, map}
use Rattle.std.specs.Prelude.{String, Option, None, Some, take}
use Rattle.std.specs.declared.alloc.Global.{Global}
use Rattle.std.specs.Str.{bytes_eq}
use Rattle.std.proofs.lemmas.List.{take_more, map_push, length-map, get_or-map}
use Rattle.std.proofs.lemmas.List.Folds.{list_any_at}
use Rattle.std.proofs.lemmas.Slice.Eq.{bytes_eq-Decides}
use Rattle.std.specs.Option.{option_map}
use Rattle.std.specs.List.{AllByRecursion, AllZip, list_any}
use Rattle.table_types.specs.Uploads.{Upload, schema_text}
use Rattle.table_types.specs.Valid.{IsTableName, IsUpload, FitsFrame}
use Rattle.table_types.specs.Answers.{answer_of}
use Rattle.table_types.specs.Tables.{Version, effective}
use Rattle.table_types.proofs.Filtered.{all_effective, few_effective}
use Rattle.table_versions.specs.Info.{IsLatest, IsInfoOf}
use Rattle.table_versions.specs.declared.info.TableInfo.{TableInfo}
use Rattle.uploads.proofs.CallerLemmas.{message_long}
use Rattle.flight_calls.specs.declared.table_description.TableDescription.{TableDescription}
use Rattle.flight_calls.specs.Replies.{Description}
use Rattle.flight_calls.specs.Backing.{Describes, DescribeAll}
use Rattle.table_backend.specs.Backing.{DescribesTable, TellsLatest}

-- ---- the latest version of a table

abbrev pub HaveOneTable : Type 0
HaveOneTable = (table : List ℕ) (uploads : List Upload) (i : ℕ) (none : Upload) → i < length (effective table uploads) → (get_or (effective table uploads) i none).table ≡ table

module _ (table : List ℕ) (uploads : List Upload) (valid : AllByRecursion IsUpload uploads) where
  first_valid : (first : Upload) (rest : List Upload) → effective table uploads ≡ first ∷ rest → IsUpload first
  first_valid first rest e = (subst (λ l. AllByRecursion IsUpload l) e (all_effective IsUpload table uploads valid)).0

  first_table : HaveOneTable → (first : Upload) (rest : List Upload) → effective table uploads ≡ first ∷ rest → first.table ≡ table
  first_table law first rest e =
      ap (λ l. (get_or l 0 first).table) (sym e) ∙ law table uploads 0 first (omega (arith, ap length e))

  -- the schema of the first is no longer than a frame's payload
  pub schema_fits : (first : Upload) (rest : List Upload) → effective table uploads ≡ first ∷ rest → FitsFrame (schema_text first.schema)
  schema_fits first rest e =
      let is = first_valid first rest e in
      let long = message_long (schema_text first.schema) [] [] in
      omega (arith, is.schema_served, long.0)

  describes_by : HaveOneTable → length uploads ≤ 1000000 → (locations : List (List ℕ)) (found : TableDescription) (counted : List Upload) → effective table uploads ≡ counted → TellsLatest locations table counted found
      → (d : Description) × DescribesTable locations table counted d × Describes found d
  describes_by law few locations found [] e tells = absurd tells
  describes_by law few locations found (first ∷ rest) e tells = (
    _,
    refl,
    record {
      valid =
          record {
            named = subst IsTableName (first_table law first rest e) (first_valid first rest e).table_named;
            numbered = omega arith;
            fits = omega (arith, few, few_effective table uploads, ap length e);
          };
      table = tells.0.table;
      version = tells.0.version;
      records = tells.0.records;
      total_bytes = tells.0.total_bytes;
      schema = tells.0.schema;
      small = schema_fits first rest e;
      locations = tells.1;
    },
  )

  pub describes_latest : HaveOneTable → length uploads ≤ 1000000 → (locations : List (List ℕ)) (found : TableDescription) → TellsLatest locations table (effective table uploads) found
      → (d : Description) × DescribesTable locations table (effective table uploads) d × Describes found d
  describes_latest law few locations found tells = describes_by law few locations found (effective table uploads) refl tells

pub describe_all : (uploads : List Upload) → AllByRecursion IsUpload uploads → HaveOneTable → length uploads ≤ 1000000 → (locations : List (List ℕ)) (names : List (List ℕ)) (all : List TableDescription)
    → AllZip (λ name found. TellsLatest locations name (effective name uploads) found) names all
    → (descriptions : List Description) × AllZip (λ name d. DescribesTable locations name (effective name uploads) d) names descriptions × DescribeAll all descriptions
describe_all uploads valid law few locations [] [] tells = ([], tells, tells)
describe_all uploads valid law few locations [] (found ∷ all) tells = absurd tells
describe_all uploads valid law few locations (name ∷ names) [] tells = absurd tells
describe_all uploads valid law few locations (name ∷ names) (found ∷ all) tells =
    let one = describes_latest name uploads valid law few locations found tells.0 in
    let others = describe_all uploads valid law few locations names all tells.1 in
    (one.0 ∷ others.0, (one.1, others.1), (one.2, others.2))

-- ---- one table after the other

-- what is told of the latest version, as a value
tells : (locations : List (List ℕ)) (table : List ℕ) (counted : List Upload) (info : TableInfo) (found : TableDescription) → IsLatest (Some info) table counted → found.info ≡ info
    → map string_bytes found.locations.items ≡ locations → TellsLatest locations table counted found
tells locations table [] info found latest same at = absurd latest
tells locations table (first ∷ rest) info found latest same at = (subst (λ i. IsInfoOf i table first (first ∷ rest)) (sym same) latest, at)

pub tells_latest : (locations : List (List ℕ)) (table : List ℕ) (counted : List Upload) (latest : Option TableInfo) (info : TableInfo) (found : TableDescription) → IsLatest latest table counted → latest ≡ Some info
    → found.info ≡ info → map string_bytes found.locations.items ≡ locations → TellsLatest locations table counted found
tells_latest locations table counted latest info found is some same at =
    tells locations table counted info found (subst (λ l. IsLatest l table counted) some is) same at

-- there is one only where an upload counts
pub some_counts : (table : List ℕ) (counted : List Upload) (latest : Option TableInfo) (info : TableInfo) → IsLatest latest table counted → latest ≡ Some info
    → counted ≢ []
some_counts table [] latest info is some = absurd (subst (λ l. IsLatest l table []) some is)
some_counts table (first ∷ rest) latest info is some = λ none. cc

-- its schema
pub schema_of_latest : (table : List ℕ) (uploads : List Upload) → AllByRecursion IsUpload uploads → (latest : Option TableInfo) (info : TableInfo) → IsLatest latest table (effective table uploads) → latest ≡ Some info
    → (first : Upload) × (rest : List Upload) × (effective table uploads ≡ first ∷ rest) × (info.schema.items ≡ schema_text first.schema) × FitsFrame (schema_text first.schema)
schema_of_latest table uploads valid latest info is some =
    by_counted (effective table uploads) refl (subst (λ l. IsLatest l table (effective table uploads)) some is)
  where
    by_counted : (counted : List Upload) → effective table uploads ≡ counted → IsLatest (Some info) table counted
        → (first : Upload) × (rest : List Upload) × (effective table uploads ≡ first ∷ rest) × (info.schema.items ≡ schema_text first.schema) × FitsFrame (schema_text first.schema)
    by_counted [] e told = absurd told
    by_counted (first ∷ rest) e told = (first, rest, e, told.schema, schema_fits table uploads valid first rest e)

-- the name of a list is one that the list has
pub is_named : (names : List (String Global)) (i : ℕ) (x : String Global) (name : List ℕ) → i < length names → x ≡ get_or names i x → name ≡ string_bytes x
    → list_any (bytes_eq name) (map string_bytes names) ≡ true
is_named names i x name there is same =
    list_any_at (bytes_eq name) (map string_bytes names) i (string_bytes x) (omega (arith, there, length-map names string_bytes))
    (when_equal (get_or (map string_bytes names) i (string_bytes x)) (same ∙ ap string_bytes is ∙ sym (get_or-map string_bytes names i x (string_bytes x) there)))
  where
    when_equal : (other : List ℕ) → name ≡ other → bytes_eq name other ≡ true
    when_equal other e = (bytes_eq-Decides name other).1 e

all_zip_push : {A B : Type 0} (R : A → B → Type 0) (xs : List A) (ys : List B) (x : A) (y : B) → AllZip R xs ys → R x y → AllZip R (xs ++ x ∷ []) (ys ++ y ∷ [])
all_zip_push R [] [] x y all h = (h, tt)
all_zip_push R [] (z ∷ ys) x y all h = absurd all
all_zip_push R (z ∷ xs) [] x y all h = absurd all
all_zip_push R (z ∷ xs) (w ∷ ys) x y all h = (all.0, all_zip_push R xs ys x y all.1 h)

-- one more of them is told
pub one_more_told : (R : List ℕ → TableDescription → Type 0) (names : List (String Global)) (i : ℕ) (x : String Global) (name : List ℕ) (old new : List TableDescription) (found : TableDescription) → i < length names → x ≡ get_or names i x
    → name ≡ string_bytes x → AllZip R (map string_bytes (take i names)) old → R name found → new ≡ old ++ found ∷ [] → AllZip R (map string_bytes (take (i + 1) names)) new
one_more_told R names i x name old new found there is same all told put =
    let named : map string_bytes (take (i + 1) names) ≡ map string_bytes (take i names) ++ name ∷ [] =
    ap (λ l. map string_bytes l) (take_more names i x there) ∙ map_push string_bytes (take i names) (get_or names i x)
    ∙ ap (λ n. map string_bytes (take i names) ++ n ∷ []) (sym (same ∙ ap string_bytes is)) in
    subst (λ l. AllZip R l new) (sym named)
    (subst (λ l. AllZip R (map string_bytes (take i names) ++ name ∷ []) l) (sym put) (all_zip_push R (map string_bytes (take i names)) old name found all told))

-- ---- the answer to a ticket

-- an answer that there is, is that of a version that there is
pub answered_version : (found : Option Version) (answer : List ℕ) → Some answer ≡ option_map answer_of found
    → (x : Version) × (found ≡ Some x) × (answer ≡ answer_of x)
answered_version None answer same = absurd cc
answered_version (Some x) answer same = (x, refl, ap given same)
  where
    given : Option (List ℕ) → List ℕ
    given None = answer
    given (Some bytes) = bytes
