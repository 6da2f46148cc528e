-- What is told of tables.
use Rattle.std.proofs.Common.{◌≡◌, ◌≢◌, refl, ap, subst, ◌∙◌, ℕ, zero, suc, Option, Some, None, List, [], ◌∷◌, ◌++◌, length, map, take, slice_get, String, string_bytes}
use Rattle.std.specs.declared.alloc.Global.{Global}
use Rattle.table_types.specs.Uploads.{Upload}
use Rattle.table_types.specs.Tables.{effective}
use Rattle.table_versions.specs.declared.info.TableInfo.{TableInfo}
use Rattle.table_versions.specs.declared.table.Table.{Table}
use Rattle.table_versions.specs.Info.{IsInfoOf, IsLatest, Describes}
use Rattle.table_versions.specs.Ledger.{FirstEntries, TableEntries, FrameEntries, table_in, names_in, IsTableOf, IsTable, IsLedger}

-- ---- one table

info_is : (name : List ℕ) (table : Table) (info : TableInfo) (first : Upload) (counted : List Upload) → Describes name table info → IsTableOf table first counted
    → IsInfoOf info name first counted
info_is name table info first counted told is = record {
  table = told.name_is;
  version = told.version ∙ is.version;
  records = told.records ∙ is.records;
  total_bytes = told.total_bytes ∙ is.total_bytes;
  schema = told.schema ∙ is.schema;
}

module _ (firsts : FirstEntries) (tables : TableEntries) (frames : FrameEntries) (uploads : List Upload) (ledger : IsLedger firsts tables frames uploads) (name : List ℕ) where
  counted_of : (found : Option Table) → table_in tables name ≡ found → IsTable found (effective name uploads)
  counted_of found is = subst (λ o. IsTable o (effective name uploads)) is (ledger.tables_are name)

  none_of : (counted : List Upload) → IsTable None counted → counted ≡ []
  none_of [] is = refl
  none_of (first ∷ rest) is = absurd is

  pub latest_none : table_in tables name ≡ None → effective name uploads ≡ []
  latest_none none = none_of (effective name uploads) (counted_of None none)

  info_of : (table : Table) (info : TableInfo) (counted : List Upload) → Describes name table info → IsTable (Some table) counted → IsLatest (Some info) name counted
  info_of table info [] told is = absurd is
  info_of table info (first ∷ rest) told is = info_is name table info first (first ∷ rest) told is

  pub latest_some : (table : Table) (info : TableInfo) → table_in tables name ≡ Some table → Describes name table info → IsLatest (Some info) name (effective name uploads)
  latest_some table info some told = info_of table info (effective name uploads) told (counted_of (Some table) some)

  not_none : (table : Table) (counted : List Upload) → IsTable (Some table) counted → counted ≢ []
  not_none table [] is none = is
  not_none table (first ∷ rest) is none = absurd cc

  pub latest_there : (table : Table) → table_in tables name ≡ Some table → effective name uploads ≢ []
  latest_there table some = not_none table (effective name uploads) (counted_of (Some table) some)

-- ---- all names

pub name_there : (entries : TableEntries) (number : ℕ) (key : String Global) (table : Table) → slice_get entries number ≡ Some (key, table)
    → slice_get (names_in entries) number ≡ Some (string_bytes key)
name_there [] number key table is = absurd cc
name_there (entry ∷ entries) zero key table is =
    let same : entry ≡ (key, table) = cc in
    ap (λ (e : String Global × Table). Some (string_bytes e.0)) same
name_there (entry ∷ entries) (suc number) key table is = name_there entries number key table is

pub take_next : (xs : List (List ℕ)) (n : ℕ) (x : List ℕ) → slice_get xs n ≡ Some x → take (suc n) xs ≡ take n xs ++ x ∷ []
take_next [] n x is = absurd cc
take_next (y ∷ xs) zero x is =
    let same : y ≡ x = cc in
    ap (λ z. z ∷ []) same
take_next (y ∷ xs) (suc n) x is = ap (λ l. y ∷ l) (take_next xs n x is)

pub take_whole : (xs : List (List ℕ)) → take (length xs) xs ≡ xs
take_whole [] = refl
take_whole (x ∷ xs) = ap (λ l. x ∷ l) (take_whole xs)

pub map_push : (xs : List (String Global)) (x : String Global) → map string_bytes (xs ++ x ∷ []) ≡ map string_bytes xs ++ string_bytes x ∷ []
map_push [] x = refl
map_push (y ∷ xs) x = ap (λ l. string_bytes y ∷ l) (map_push xs x)
