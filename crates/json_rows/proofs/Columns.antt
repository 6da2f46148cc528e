-- Columns of the rows that values tell.
use Rattle.std.proofs.Common.{◌≡◌, ℕ, zero, suc, ◌+◌, ◌<◌, List, [], ◌∷◌, ◌++◌, map, length, get_or, take, refl, sym, ap, ap₂, subst, ◌∙◌, arith}
use Rattle.std.specs.List.{AllByRecursion, AllZip}
use Rattle.serde_json.specs.Data.{Data, null}
use Rattle.header_types.specs.declared.schema.Field.{Field}
use Rattle.header_types.specs.Fields.{Tree, Forest, no_more, more}
use Rattle.header_types.specs.Views.{tree_of, forest_of}
use Rattle.batch_types.specs.Cells.{Cell, null_cell}
use Rattle.batch_columns.specs.Contents.{Contents}
use Rattle.batch_columns.specs.Held.{shapes_held}
use Rattle.batch_columns.specs.Few.{columns_cells}
use Rattle.batch_columns.specs.FieldShapes.{field_shapes}
use Rattle.column_building.specs.Whole.{count_shapes}
use Rattle.column_building.proofs.Shaped.{count_fields}
use Rattle.std.proofs.lemmas.List.{take_more, take_all}
use Rattle.json_rows.specs.Cells.{TellsCell, TellsMembers, forest_in, name_of, told_at}
use Rattle.json_rows.specs.Lines.{TellsColumn, TellsColumns, TellsSomeRow}
use Rattle.json_rows.proofs.Told.{TellsMember, members_zip}
use Rattle.json_rows.proofs.Zipped.{pair_at, zipped_at, zip_push}

module _ {A B : Type 0} (P : B → Type 0) (see : A → B) where
  pub all_at : (xs : List A) (i : ℕ) (x : A) → AllByRecursion P (map see xs) → i < length xs → x ≡ get_or xs i x → P (see x)
  all_at [] i x all there is = let never : ⊥ = omega arith in absurd never
  all_at (y ∷ xs) zero x all there is = subst (λ (a : A). P (see a)) (sym is) all.0
  all_at (y ∷ xs) (suc i) x all there is = all_at xs i x all.1 (omega arith) is

module _ {A : Type 0} (P : A → Type 0) where
  pub item_at : (xs : List A) (i : ℕ) (x : A) → AllByRecursion P xs → i < length xs → x ≡ get_or xs i x → P x
  item_at [] i x all there is = let never : ⊥ = omega arith in absurd never
  item_at (y ∷ xs) zero x all there is = subst P (sym is) all.0
  item_at (y ∷ xs) (suc i) x all there is = item_at xs i x all.1 (omega arith) is

  pub at_place : (xs : List A) (i : ℕ) (x : A) → AllByRecursion P xs → i < length xs → P (get_or xs i x)
  at_place [] i x all there = let never : ⊥ = omega arith in absurd never
  at_place (y ∷ xs) zero x all there = all.0
  at_place (y ∷ xs) (suc i) x all there = at_place xs i x all.1 (omega arith)

-- a row has a cell of each field
pub column_of_rows : (fields : List Field) (i : ℕ) (x : Field) (ds : List Data) → i < length fields → x ≡ get_or fields i x
    → AllByRecursion (TellsSomeRow (forest_in fields)) ds → AllByRecursion (λ d. (cell : Cell) × TellsCell (tree_of x) (told_at (name_of (tree_of x)) d) cell) ds
column_of_rows fields i x [] there is all = tt
column_of_rows fields i x (d ∷ ds) there is all =
    (zipped_at (TellsMember d) tree_of fields all.0.0 i x (members_zip (map tree_of fields) d all.0.0 all.0.1.1) there is, column_of_rows fields i x ds there is all.1)

pub zip_columns : (ts : List Tree) (ds : List Data) (columns : List (List Cell)) → AllZip (TellsColumn ds) ts columns → TellsColumns (forest_of ts) ds columns
zip_columns [] ds [] zip = tt
zip_columns [] ds (cells ∷ columns) zip = absurd zip
zip_columns (t ∷ ts) ds [] zip = absurd zip
zip_columns (t ∷ ts) ds (cells ∷ columns) zip = (zip.0, zip_columns ts ds columns zip.1)

-- ---- rows that are written, column by column

-- one row more
pub columns_then : {A : Type 0} (see : A → List Cell) (fields : Forest) (ds : List Data) (d : Data) (columns : List A) (row : ℕ) → AllByRecursion (λ column. row < length (see column)) columns
    → TellsColumns fields ds (map (take row) (map see columns)) → TellsMembers fields d (map (λ column. get_or (see column) row null_cell) columns)
    → TellsColumns fields (ds ++ d ∷ []) (map (take (row + 1)) (map see columns))
columns_then see no_more ds d [] row long told more_told = tt
columns_then see no_more ds d (column ∷ columns) row long told more_told = absurd told
columns_then see (more t rest) ds d [] row long told more_told = absurd told
columns_then see (more t rest) ds d (column ∷ columns) row long told more_told = (
  subst (TellsColumn (ds ++ d ∷ []) t) (sym (take_more (see column) row null_cell long.0))
      (zip_push (λ e cell. TellsCell t (told_at (name_of t) e) cell) ds (take row (see column)) d (get_or (see column) row null_cell) told.0 more_told.0),
  columns_then see rest ds d columns row long.1 told.1 more_told.1,
)

pub no_columns : {A : Type 0} (see : A → List Cell) (fields : List Field) (columns : List A) → length columns ≡ length fields → TellsColumns (forest_in fields) [] (map (take 0) (map see columns))
no_columns see [] [] same = tt
no_columns see [] (column ∷ columns) same = let never : ⊥ = omega (arith, same) in absurd never
no_columns see (field ∷ fields) [] same = let never : ⊥ = omega (arith, same) in absurd never
no_columns see (field ∷ fields) (column ∷ columns) same = (tt, no_columns see fields columns (omega (arith, same)))

-- the value of a row tells its cells
pub row_told : {A : Type 0} (see : A → List Cell) (fields : Forest) (values : List Data) (columns : List A) (row : ℕ) → AllByRecursion (λ column. row < length (see column)) columns
    → TellsColumns fields values (map see columns) → TellsMembers fields (get_or values row null) (map (λ column. get_or (see column) row null_cell) columns)
row_told see no_more values [] row long told = tt
row_told see no_more values (column ∷ columns) row long told = absurd told
row_told see (more t rest) values [] row long told = absurd told
row_told see (more t rest) values (column ∷ columns) row long told = (
  pair_at (λ d cell. TellsCell t (told_at (name_of t) d) cell) values (see column) row null null_cell told.0 long.0,
  row_told see rest values columns row long.1 told.1,
)

-- all rows
pub columns_whole : {A : Type 0} (see : A → List Cell) (rows : ℕ) (columns : List A) → AllByRecursion (λ column. length (see column) ≡ rows) columns → map (take rows) (map see columns) ≡ map see columns
columns_whole see rows [] long = refl
columns_whole see rows (column ∷ columns) long =
    ap₂ (λ (c : List Cell) (cs : List (List Cell)). c ∷ cs) (take_all rows (see column) (omega (arith, long.0))) (columns_whole see rows columns long.1)

-- ---- the columns of a batch

pub shapes_counted : (columns : List Contents) → count_shapes (shapes_held columns) ≡ length columns
shapes_counted [] = refl
shapes_counted (column ∷ columns) = ap suc (shapes_counted columns)

pub columns_counted : (fields : List Field) (columns : List Contents) → shapes_held columns ≡ field_shapes fields → length columns ≡ length fields
columns_counted fields columns same = sym (shapes_counted columns) ∙ ap count_shapes same ∙ count_fields fields

pub cells_long : {A : Type 0} (see : A → List Cell) (rows : ℕ) (all : List A) (columns : List Contents) → map see all ≡ columns_cells columns
    → AllByRecursion (λ column. length column.cells ≡ rows) columns → AllByRecursion (λ cells. length (see cells) ≡ rows) all
cells_long see rows [] columns same long = tt
cells_long see rows (cells ∷ all) [] same long = cc
cells_long see rows (cells ∷ all) (column ∷ columns) same long =
    let first : see cells ≡ column.cells = cc in
    let rest : map see all ≡ columns_cells columns = cc in
    (ap length first ∙ long.0, cells_long see rows all columns rest long.1)

pub all_same : {A : Type 0} (P Q : A → Type 0) → ((x : A) → P x → Q x) → (xs : List A) → AllByRecursion P xs → AllByRecursion Q xs
all_same P Q then [] all = tt
all_same P Q then (x ∷ xs) all = (then x all.0, all_same P Q then xs all.1)
