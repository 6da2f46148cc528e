-- From a batch that is laid out to its columns, and back.
use Rattle.std.proofs.Common.{◌≡◌, refl, sym, ap, ap₂, subst, ◌∙◌, ℕ, zero, suc, ◌+◌, ◌≤◌, true, pos, ◌≤ℤ◌, None, List, [], ◌∷◌, ◌++◌, map, length, get_or, take, drop, append_assoc, arith}
use Rattle.std.proofs.lemmas.Int.{ints}
use Rattle.std.proofs.lemmas.List.{append-nil}
use Rattle.std.proofs.lemmas.List.FromFn.{length-range_with_len}
use Rattle.std.proofs.Math.Seq.{take-append_seam, drop-append_seam}
use Rattle.std.specs.List.{AllByRecursion, range_with_len, zip}
use Rattle.header_types.specs.declared.header.BatchHead.{BatchHead}
use Rattle.header_types.specs.declared.schema.Schema.{Schema}
use Rattle.header_types.specs.Fields.{Tree, tree, Forest, no_more, more, SchemaTree}
use Rattle.header_types.specs.Header.{Head}
use Rattle.header_types.specs.HeaderViews.{head_of}
use Rattle.header_types.specs.Profile.{InProfile}
use Rattle.header_types.specs.Views.{schema_of}
use Rattle.batch_types.specs.Cells.{Cell, Rows}
use Rattle.batch_types.specs.Layouts.{buffers_in_layout}
use Rattle.batch_types.specs.Laid.{Node, Range, LaidColumn, laid, LaidColumns, no_column, column_then, node_count, buffer_count}
use Rattle.batch_types.specs.Laid.{nodes_of, nodes_in, buffers_of, buffers_in, IsColumnOf, AreColumnsOf}
use Rattle.batch_types.specs.LaysOut.{AreSound, HasColumns, LaysOut, body_of, columns_at, rows_limit, values_limit}
use Rattle.batch_types.specs.Placed.{cell_at}
use Rattle.batch_types.specs.Shapes.{shape_of, shapes_of}
use Rattle.batch_types.specs.Canonical.{blank_of, columns_parts}
use Rattle.batch_types.specs.Typed.{IsCellOf, AreColumnsOfRows, AreRowsOf}
use Rattle.batch_columns.specs.Batches.{rows_of, IsBatchOf}
use Rattle.batch_columns.specs.Few.{columns_cells}
use Rattle.batch_columns.specs.Contents.{Contents}
use Rattle.batch_columns.specs.declared.batch.Batch.{Batch}
use Rattle.batch_columns.specs.declared.place.Place.{Place}
use Rattle.batch_columns.specs.Sources.{columns_from}
use Rattle.batch_reading.specs.declared.selection.Selection.{Selection}
use Rattle.batch_reading.specs.Spots.{DoRun, places_of, marks_of, HasMarks, Spot, spots_of, runs_of_rows}
use Rattle.batch_reading.specs.Built.{cell_wanted, columns_wanted, AreFit}
use Rattle.batch_reading.specs.Readable.{columns_there, AreReadable, HaveFewValues, AreBuilt}
use Rattle.batch_reading.proofs.Running.{all_marked}
use Rattle.batch_reading.proofs.Counting.{columns_few}

-- ---- the columns of a header are one

fronts : {X : Type 0} (xs ys us vs : List X) → length xs ≡ length ys → xs ++ us ≡ ys ++ vs → (xs ≡ ys) × (us ≡ vs)
fronts xs ys us vs all same = (
  sym (take-append_seam xs us) ∙ ap (λ l. take (length xs) l) same ∙ ap (λ n. take n (ys ++ vs)) all ∙ take-append_seam ys vs,
  sym (drop-append_seam xs us) ∙ ap (λ l. drop (length xs) l) same ∙ ap (λ n. drop n (ys ++ vs)) all ∙ drop-append_seam ys vs,
)

mutual
  same_column : (t : Tree) (c d : LaidColumn) (ns ms : List Node) (ps qs : List Range) → IsColumnOf t c → IsColumnOf t d
      → nodes_of c ++ ns ≡ nodes_of d ++ ms → buffers_of c ++ ps ≡ buffers_of d ++ qs
      → (c ≡ d) × (ns ≡ ms) × (ps ≡ qs)
  same_column (tree field entries inside) (laid l n r i) (laid k m s j) ns ms ps qs of also nodes buffers =
      let layouts : l ≡ k = of.0 ∙ sym also.0 in
      let heads = fronts (n ∷ []) (m ∷ []) (nodes_in i ++ ns) (nodes_in j ++ ms) refl nodes in
      let node : n ≡ m = ap (λ list. get_or list 0 n) heads.0 in
      let lengths : length r ≡ length s = of.1 ∙ ap buffers_in_layout layouts ∙ sym also.1 in
      let ranges = fronts r s (buffers_in i ++ ps) (buffers_in j ++ qs) lengths
      (sym (append_assoc r (buffers_in i) ps) ∙ buffers ∙ append_assoc s (buffers_in j) qs) in
      let rest = same_columns inside i j ns ms ps qs of.2 also.2 heads.1 ranges.1 in (
        ap (λ x. laid x n r i) layouts ∙ ap (λ x. laid k x r i) node ∙ ap (λ x. laid k m x i) ranges.0 ∙ ap (λ x. laid k m s x) rest.0,
        rest.1,
        rest.2,
      )

  same_columns : (f : Forest) (cs ds : LaidColumns) (ns ms : List Node) (ps qs : List Range) → AreColumnsOf f cs → AreColumnsOf f ds
      → nodes_in cs ++ ns ≡ nodes_in ds ++ ms → buffers_in cs ++ ps ≡ buffers_in ds ++ qs
      → (cs ≡ ds) × (ns ≡ ms) × (ps ≡ qs)
  same_columns no_more no_column no_column ns ms ps qs of also nodes buffers = (refl, nodes, buffers)
  same_columns no_more no_column (column_then d ds) ns ms ps qs of also nodes buffers = absurd also
  same_columns no_more (column_then c cs) ds ns ms ps qs of also nodes buffers = absurd of
  same_columns (more t ts) no_column ds ns ms ps qs of also nodes buffers = absurd of
  same_columns (more t ts) (column_then c cs) no_column ns ms ps qs of also nodes buffers = absurd also
  same_columns (more t ts) (column_then c cs) (column_then d ds) ns ms ps qs of also nodes buffers =
      let first = same_column t c d (nodes_in cs ++ ns) (nodes_in ds ++ ms) (buffers_in cs ++ ps) (buffers_in ds ++ qs) of.0 also.0
      (sym (append_assoc (nodes_of c) (nodes_in cs) ns) ∙ nodes ∙ append_assoc (nodes_of d) (nodes_in ds) ms)
      (sym (append_assoc (buffers_of c) (buffers_in cs) ps) ∙ buffers ∙ append_assoc (buffers_of d) (buffers_in ds) qs) in
      let rest = same_columns ts cs ds ns ms ps qs of.1 also.1 first.1 first.2 in
      (ap₂ column_then first.0 rest.0, rest.1, rest.2)

columns_are_one : (schema : SchemaTree) (head : Head) (cs ds : LaidColumns) → HasColumns schema head cs → HasColumns schema head ds → cs ≡ ds
columns_are_one schema head cs ds of also =
    (same_columns schema.fields cs ds [] [] [] [] of.of_schema also.of_schema
    (ap (λ l. l ++ []) (sym of.nodes ∙ also.nodes)) (ap (λ l. l ++ []) (sym of.buffers ∙ also.buffers))).0

-- ---- all rows are selected

module _ (body : List ℕ) (spots : List Spot) (count : ℕ)
    (all : (f : Spot → Cell) → map f spots ≡ map (λ p. f (p, true)) (range_with_len 0 count)) where
  wanted_all : (f : Forest) (cs : LaidColumns) → AreColumnsOf f cs → columns_wanted body cs (shapes_of f) spots ≡ columns_at body cs count
  wanted_all no_more no_column of = refl
  wanted_all no_more (column_then c cs) of = absurd of
  wanted_all (more t ts) no_column of = absurd of
  wanted_all (more t ts) (column_then c cs) of = ap₂ (λ x xs. x ∷ xs) (all (cell_wanted (cell_at body c) (blank_of (shape_of t)))) (wanted_all ts cs of.1)

  fit_all : (f : Forest) (cs : LaidColumns) → AreColumnsOf f cs → AreColumnsOfRows count (shapes_of f) (columns_at body cs count) → AreFit body cs (shapes_of f) spots
  fit_all no_more no_column of typed = tt
  fit_all no_more (column_then c cs) of typed = absurd of
  fit_all (more t ts) no_column of typed = absurd of
  fit_all (more t ts) (column_then c cs) of typed =
      (subst (AllByRecursion (IsCellOf (shape_of t))) (sym (all (cell_wanted (cell_at body c) (blank_of (shape_of t))))) typed.1, fit_all ts cs of.1 typed.2)

  counts_all : (cs : LaidColumns) (columns : List Contents) → columns_cells columns ≡ columns_at body cs count → AllByRecursion (λ column. length column.cells ≡ count) columns
  counts_all cs [] same = tt
  counts_all no_column (column ∷ columns) same = absurd (none_some column.cells (columns_cells columns) same)
    where
      none_some : {X : Type 0} (x : X) (xs : List X) → x ∷ xs ≡ [] → ⊥
      none_some x xs same = cc
  counts_all (column_then c cs) (column ∷ columns) same =
      (ap length (heads same) ∙ counted (cell_at body c) 0 count, counts_all cs columns (tails same))
    where
      heads : {X : Type 0} {x y : X} {xs ys : List X} → x ∷ xs ≡ y ∷ ys → x ≡ y
      heads same = cc

      tails : {X : Type 0} {x y : X} {xs ys : List X} → x ∷ xs ≡ y ∷ ys → xs ≡ ys
      tails same = cc

      counted : (f : ℕ → Cell) (start n : ℕ) → length (map f (range_with_len start n)) ≡ n
      counted f start zero = refl
      counted f start (suc n) = ap suc (counted f (start + 1) n)

-- ---- the whole

rows_places : (count : ℕ) → places_of (runs_of_rows count) ≡ range_with_len 0 count
rows_places zero = refl
rows_places (suc n) = append-nil (range_with_len 0 (suc n))

rows_run : (count : ℕ) → DoRun 0 count (runs_of_rows count)
rows_run zero = omega arith
rows_run (suc n) = (omega arith, omega arith, omega arith)

module _ (schema : Schema) (head : BatchHead) (body spoken : List ℕ) (rows : Rows) (selection : Selection) (place : Place)
    (profile : InProfile (schema_of schema)) (laid_out : LaysOut (schema_of schema) (head_of head) body rows)
    (sources : (s : SchemaTree) (h : Head) → length h.nodes ≡ node_count s.fields → length h.buffers ≡ buffer_count s.fields
    → HasColumns s h (columns_from s.fields h.nodes h.buffers))
    (typed : AreRowsOf (schema_of schema) rows)
    (spoken_is : spoken ≡ body_of (head_of head) body)
    (runs : selection.runs.now ≡ runs_of_rows rows.count) (count : selection.count ≡ rows.count) (there : selection.there.now ≡ None)
    (at_node : place.node ≡ 0) (at_buffer : place.buffer ≡ 0) where
  columns_are : laid_out.columns ≡ columns_there (schema_of schema).fields head place
  columns_are =
      columns_are_one (schema_of schema) (head_of head) laid_out.columns (columns_from (schema_of schema).fields head.nodes.items head.buffers.items) laid_out.columns_are
      (sources (schema_of schema) (head_of head) laid_out.head_kept.1.1.0 laid_out.head_kept.1.1.1.0)
      ∙ ap₂ (λ m n. columns_from (schema_of schema).fields (drop m head.nodes.items) (drop n head.buffers.items)) (sym at_node) (sym at_buffer)

  all_rows : (f : Spot → Cell) → map f (spots_of selection) ≡ map (λ p. f (p, true)) (range_with_len 0 rows.count)
  all_rows f =
      ap (λ rs. map f (zip (places_of rs) (marks_of selection.count selection.there.now))) runs
      ∙ ap₂ (λ ps m. map f (zip ps (marks_of selection.count m))) (rows_places rows.count) there
      ∙ all_marked f (range_with_len 0 rows.count) selection.count (count ∙ sym (length-range_with_len 0 rows.count))

  of_fields : AreColumnsOf (schema_of schema).fields (columns_there (schema_of schema).fields head place)
  of_fields = subst (AreColumnsOf (schema_of schema).fields) columns_are laid_out.columns_are.of_schema

  cells_are : rows.columns ≡ columns_at spoken (columns_there (schema_of schema).fields head place) rows.count
  cells_are =
      laid_out.cells ∙ ap₂ (λ b cs. columns_at b cs rows.count) (sym spoken_is) columns_are

  rows_few : rows.count ≤ rows_limit
  rows_few = omega (arith, ints, laid_out.count, laid_out.head_kept.1.0.few)

  pub batch_readable : AreReadable (schema_of schema).fields head place spoken selection
  batch_readable = record {
    asked = rows.count;
    places = range_with_len 0 rows.count;
    wanted_is = record {
      rising = subst (DoRun 0 rows.count) (sym runs) (rows_run rows.count);
      few = omega (arith, rows_few);
      counted = count ∙ sym (length-range_with_len 0 rows.count) ∙ ap length (sym (rows_places rows.count)) ∙ ap (λ rs. length (places_of rs)) (sym runs);
      marked = subst (HasMarks selection.count) (sym there) tt;
    };
    sound =
        subst (λ b. AreSound b (columns_there (schema_of schema).fields head place) rows.count (range_with_len 0 rows.count)) (sym spoken_is)
        (subst (λ cs. AreSound (body_of (head_of head) body) cs rows.count (range_with_len 0 rows.count)) columns_are laid_out.sound);
    fit =
        fit_all spoken (spots_of selection) rows.count all_rows (schema_of schema).fields (columns_there (schema_of schema).fields head place) of_fields
        (subst (AreColumnsOfRows rows.count (shapes_of (schema_of schema).fields)) cells_are typed);
    formed = profile.well_formed;
    nodes_there = omega (arith, at_node, laid_out.head_kept.1.1.0);
    buffers_there = omega (arith, at_buffer, laid_out.head_kept.1.1.1.0);
    counted = laid_out.head_kept.1.0.nodes_counted;
    few = laid_out.head_kept.1.0.nodes_few;
  }

  module _ (batch : Batch) (built : AreBuilt (schema_of schema).fields head place spoken selection batch.columns.items) (held : batch.rows ≡ rows.count) where
    cells_held : columns_cells batch.columns.items ≡ columns_at spoken (columns_there (schema_of schema).fields head place) rows.count
    cells_held =
        built.1 ∙ wanted_all spoken (spots_of selection) rows.count all_rows (schema_of schema).fields (columns_there (schema_of schema).fields head place) of_fields

    rows_held : rows ≡ rows_of batch
    rows_held = ap₂ (λ n cs. record { count = n; columns = cs }) (sym held) (cells_are ∙ sym cells_held)

    pub batch_rows : LaysOut (schema_of schema) (head_of head) body (rows_of batch)
    batch_rows = subst (LaysOut (schema_of schema) (head_of head) body) rows_held laid_out

    pub batch_of : HaveFewValues batch.columns.items → IsBatchOf (schema_of schema) batch
    batch_of few = record {
      shapes = built.0;
      counts =
          subst (λ n. AllByRecursion (λ column. length column.cells ≡ n) batch.columns.items) (sym held)
          (counts_all spoken (spots_of selection) rows.count all_rows (columns_there (schema_of schema).fields head place) batch.columns.items cells_held);
      rows_few = omega (arith, held, rows_few);
      values_few =
          subst (λ s. AllByRecursion (λ (node : Node). node.0 ≤ℤ pos values_limit) (columns_parts s (columns_cells batch.columns.items)).nodes) built.0
          (columns_few batch.columns.items few);
    }
