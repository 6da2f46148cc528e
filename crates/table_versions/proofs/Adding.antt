-- TableEntries and their frames, with one upload more.
use Rattle.std.proofs.Common.{◌≡◌, ◌≢◌, refl, sym, ap, subst, ◌∙◌, ℕ, zero, suc, ◌+◌, ◌<◌, Bool, true, false, true≢false, cond, Option, Some, List, [], ◌∷◌, ◌++◌, length, slice_get, length-append, append_assoc, String, string_bytes, arith}
use Rattle.std.specs.declared.alloc.Global.{Global}
use Rattle.std.specs.List.{flat_map}
use Rattle.std.specs.Str.{bytes_eq}
use Rattle.std.proofs.lemmas.Bool.Decides.{nat_tests}
use Rattle.std.proofs.lemmas.Grind.{flat_map-append}
use Rattle.std.proofs.lemmas.List.{append-nil}
use Rattle.std.proofs.lemmas.List.Sums.{sum_by-append}
use Rattle.header_types.specs.Fields.{SchemaTree}
use Rattle.table_types.specs.Uploads.{Upload}
use Rattle.table_types.specs.Served.{in_frame, upload_messages, schema_message}
use Rattle.table_types.specs.Answers.{answer_of}
use Rattle.table_types.specs.Tables.{is_to, effective, rows_of_upload}
use Rattle.table_versions.specs.declared.frame_key.FrameKey.{FrameKey}
use Rattle.table_versions.specs.declared.table.Table.{Table}
use Rattle.table_versions.specs.declared.prepared.Part.{Part}
use Rattle.table_versions.specs.Ledger.{frames_of, frames_text, TableEntries, FrameEntries, table_in, is_place, frames_in, names_in}
use Rattle.table_versions.specs.Ledger.{IsTableOf, IsTable, HasFrames, IsPartOf}
use Rattle.table_versions.specs.Steps.{PutsTable, PutsFrames, IsOpened, IsGrown}
use Rattle.table_versions.proofs.Growing.{bytes_same, effective_other}

-- ---- answers

pub answer_push : (schema : SchemaTree) (xs : List Upload) (u : Upload)
    → answer_of (record { schema = schema; uploads = xs ++ u ∷ [] }) ≡ answer_of (record { schema = schema; uploads = xs }) ++ frames_text u
answer_push schema xs u =
    ap (λ l. in_frame (schema_message schema) ++ flat_map in_frame l)
    (flat_map-append upload_messages xs (u ∷ []) ∙ ap (λ l. flat_map upload_messages xs ++ l) (append-nil (upload_messages u)))
    ∙ ap (λ l. in_frame (schema_message schema) ++ l) (flat_map-append in_frame (flat_map upload_messages xs) (upload_messages u))
    ∙ sym (append_assoc (in_frame (schema_message schema)) (flat_map in_frame (flat_map upload_messages xs)) (frames_text u))

-- ---- one table

pub table_opened : (table : Table) (number : ℕ) (part : Part) (u : Upload) → IsOpened table number part → IsPartOf part u → IsTableOf table u (u ∷ [])
table_opened table number part u opened is =
    let answer = answer_push u.schema [] u in
    let whole = ap length answer in
    record {
      schema = opened.schema ∙ is.schema;
      shape = opened.shape ∙ is.shape;
      schema_frame = opened.schema_frame ∙ is.schema_frame;
      version = opened.version;
      records = omega (arith, opened.records, is.records);
      total_bytes =
          omega (
            arith,
            opened.total_bytes,
            ap length is.schema_frame,
            is.bytes,
            whole,
            length-append (answer_of (record { schema = u.schema; uploads = [] })) (frames_text u),
            ap length (append-nil (in_frame (schema_message u.schema))),
          );
    }

pub table_grown : (old new : Table) (records bytes : ℕ) (first u : Upload) (counted : List Upload) → IsGrown old new records bytes → records ≡ rows_of_upload u
    → bytes ≡ length (frames_text u) → IsTableOf old first counted → IsTableOf new first (counted ++ u ∷ [])
table_grown old new records bytes first u counted grown rows long is = record {
  schema = grown.schema ∙ is.schema;
  shape = grown.shape ∙ is.shape;
  schema_frame = grown.schema_frame ∙ is.schema_frame;
  version = omega (arith, grown.version, is.version, length-append counted (u ∷ []));
  records = omega (arith, grown.records_are, is.records, rows, sum_by-append rows_of_upload counted (u ∷ []));
  total_bytes =
      omega (
        arith,
        grown.total_bytes,
        is.total_bytes,
        long,
        ap length (answer_push first.schema counted u),
        length-append (answer_of (record { schema = first.schema; uploads = counted })) (frames_text u),
      );
}

-- ---- all tables

module _ (uploads : List Upload) (u : Upload) where
  tables_put_one : (old new : TableEntries) (table : Table) → PutsTable old new u.table table → IsTable (Some table) (effective u.table (uploads ++ u ∷ []))
      → (name : List ℕ) → IsTable (table_in old name) (effective name uploads) → (b : Bool) → is_to name u ≡ b
      → IsTable (table_in new name) (effective name (uploads ++ u ∷ []))
  tables_put_one old new table puts is name before true same =
      subst (λ n. IsTable (table_in new n) (effective n (uploads ++ u ∷ []))) (bytes_same u.table name same)
      (subst (λ o. IsTable o (effective u.table (uploads ++ u ∷ []))) (sym puts.here) is)
  tables_put_one old new table puts is name before false other =
      subst (λ l. IsTable (table_in new name) l) (sym (effective_other name uploads u other))
      (subst (λ o. IsTable o (effective name uploads)) (sym (puts.others name other)) before)

  pub tables_put : (old new : TableEntries) (table : Table) → PutsTable old new u.table table → IsTable (Some table) (effective u.table (uploads ++ u ∷ []))
      → ((name : List ℕ) → IsTable (table_in old name) (effective name uploads))
      → (name : List ℕ) → IsTable (table_in new name) (effective name (uploads ++ u ∷ []))
  tables_put old new table puts is before name = tables_put_one old new table puts is name (before name) (is_to name u) refl

-- ---- numbers

some_is : {X : Type 0} (x y : X) → Some x ≡ Some y → x ≡ y
some_is x y same = cc

pub get_there : {X : Type 0} (xs ys : List X) (i : ℕ) (x : X) → slice_get xs i ≡ Some x → slice_get (xs ++ ys) i ≡ Some x
get_there [] ys i x is = absurd cc
get_there (y ∷ xs) ys zero x is = is
get_there (y ∷ xs) ys (suc i) x is = get_there xs ys i x is

pub get_within : {X : Type 0} (xs : List X) (i : ℕ) (x : X) → slice_get xs i ≡ Some x → i < length xs
get_within [] i x is = absurd cc
get_within (y ∷ xs) zero x is = omega arith
get_within (y ∷ xs) (suc i) x is = omega (arith, get_within xs i x is)

pub get_last : {X : Type 0} (xs : List X) (x : X) → slice_get (xs ++ x ∷ []) (length xs) ≡ Some x
get_last [] x = refl
get_last (y ∷ xs) x = get_last xs x

-- each table's number is that of its name
abbrev pub AreNumbered : TableEntries → Type 0
AreNumbered tables = (name : List ℕ) (table : Table) → table_in tables name ≡ Some table → slice_get (names_in tables) table.number ≡ Some name

numbered_one : (old new : TableEntries) (named : List ℕ) (put : Table) → PutsTable old new named put → slice_get (names_in new) put.number ≡ Some named
    → ((number : ℕ) (name : List ℕ) → slice_get (names_in old) number ≡ Some name → slice_get (names_in new) number ≡ Some name) → AreNumbered old
    → (name : List ℕ) (table : Table) → table_in new name ≡ Some table → (b : Bool) → bytes_eq named name ≡ b → slice_get (names_in new) table.number ≡ Some name
numbered_one old new named put puts number stay are name table is true same =
    let here : named ≡ name = bytes_same named name same in
    let one : put ≡ table = some_is put table (sym puts.here ∙ ap (table_in new) here ∙ is) in
    ap (λ t. slice_get (names_in new) t.number) (sym one) ∙ number ∙ ap Some here
numbered_one old new named put puts number stay are name table is false other =
    stay table.number name (are name table (sym (puts.others name other) ∙ is))

pub numbers_put : (old new : TableEntries) (named : List ℕ) (put : Table) → PutsTable old new named put → slice_get (names_in new) put.number ≡ Some named
    → ((number : ℕ) (name : List ℕ) → slice_get (names_in old) number ≡ Some name → slice_get (names_in new) number ≡ Some name) → AreNumbered old → AreNumbered new
numbers_put old new named put puts number stay are name table is =
    numbered_one old new named put puts number stay are name table is (bytes_eq named name) refl

-- ---- frames

pub frames_stay : (old new : FrameEntries) (place : FrameKey) (served : List (List ℕ)) → PutsFrames old new place served → (number version : ℕ) (xs : List Upload)
    → ((k : ℕ) → k < version + length xs → is_place place (record { table = number; version = k }) ≡ false) → HasFrames old number version xs → HasFrames new number version xs
frames_stay old new place served puts number version [] apart has = tt
frames_stay old new place served puts number version (x ∷ xs) apart has = (
  puts.others number version (apart version (omega arith)) ∙ has.0,
  frames_stay old new place served puts number (suc version) xs (λ k below. apart k (omega (arith, below))) has.1,
)

pub frames_push : (frames : FrameEntries) (number version : ℕ) (xs : List Upload) (u : Upload) → HasFrames frames number version xs
    → frames_in frames number (version + length xs) ≡ Some (frames_of u) → HasFrames frames number version (xs ++ u ∷ [])
frames_push frames number version [] u has is =
    let here : version + 0 ≡ version = omega arith in
    (subst (λ v. frames_in frames number v ≡ Some (frames_of u)) here is, tt)
frames_push frames number version (x ∷ xs) u has is =
    let here : version + suc (length xs) ≡ suc version + length xs = omega arith in
    (has.0, frames_push frames number (suc version) xs u has.1 (subst (λ v. frames_in frames number v ≡ Some (frames_of u)) here is))

pub other_number : (place : FrameKey) (number version : ℕ) → place.table ≢ number → is_place place (record { table = number; version = version }) ≡ false
other_number place number version differ = grind (arith, nat_tests)

pub other_version : (place : FrameKey) (number version : ℕ) → version < place.version → is_place place (record { table = number; version = version }) ≡ false
other_version place number version below = grind (arith, nat_tests)

-- ---- a new table stands behind the others

pub names_append : (tables : TableEntries) (name : String Global) (table : Table) → names_in (tables ++ (name, table) ∷ []) ≡ names_in tables ++ string_bytes name ∷ []
names_append [] name table = refl
names_append (entry ∷ tables) name table = ap (λ l. string_bytes entry.0 ∷ l) (names_append tables name table)

pub not_here : {X : Type 0} (here there : Option X) (b : Bool) (found : Option X) → found ≡ cond b here there → b ≡ false → found ≡ there
not_here here there true found is other = absurd (true≢false other)
not_here here there false found is other = is
