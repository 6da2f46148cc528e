-- A whole batch, by its header and its columns.
use Rattle.std.proofs.Common.{◌≡◌, inr, refl, sym, ap, ap₂, ◌∙◌, subst, ℕ, ◌<◌, ◌≤◌, ◌≤ℤ◌, ℤ, pos, negsuc, nat_abs, List, [], ◌∷◌, length, take, Result, Ok, Err, OnOk, IfOk, IfErr, arith}
use Rattle.std.specs.List.{AllByRecursion, range_with_len}
use Rattle.std.proofs.lemmas.Int.{ints}
use Rattle.header_types.specs.declared.schema.Field.{Field}
use Rattle.header_types.specs.declared.header.BatchHead.{BatchHead}
use Rattle.header_types.specs.Fields.{SchemaTree}
use Rattle.header_types.specs.Header.{Head}
use Rattle.header_types.specs.HeaderViews.{head_of}
use Rattle.header_types.specs.Limits.{forest_depth}
use Rattle.header_types.specs.Profile.{IsWellFormedForest}
use Rattle.batch_types.specs.declared.fault.BatchFault.{BatchFault}
use Rattle.batch_types.specs.Cells.{Rows}
use Rattle.batch_types.specs.Laid.{LaidColumns, node_count, buffer_count}
use Rattle.batch_types.specs.Order.{head_order, AreKept}
use Rattle.batch_types.specs.LaysOut.{HasRowsWithin, KeepsHeadRule, HasColumns, LaysOut, IsFaultOf, body_of, columns_at as cells_of_columns}
use Rattle.batch_columns.specs.declared.place.Place.{Place}
use Rattle.batch_columns.specs.declared.encoded_column.EncodedColumn.{EncodedColumn}
use Rattle.batch_columns.specs.Sources.{columns_from}
use Rattle.batch_checking.specs.declared.around.Around.{Around}
use Rattle.batch_checking.specs.Around.{places_around, AreSteady}
use Rattle.batch_checking.specs.Columns.{sources_around, first_places, places_in, forest_seen, columns_at, MayCheck}
use Rattle.batch_checking.specs.Whole.{ColumnsAreSound, ColumnsHaveFault}
use Rattle.batch_checking.proofs.Held.{held_below, range_held}
use Rattle.batch_checking.proofs.Placing.{drop_nothing}
use Rattle.batch_checking.proofs.Going.{all_reach}

abbrev pub top : Place
top = record { node = 0; buffer = 0 }

take_zero : (xs : List EncodedColumn) → take 0 xs ≡ []
take_zero [] = refl
take_zero (x ∷ xs) = refl

pub no_sources : (around : Around) → around.depth ≡ 0 → sources_around around ≡ []
no_sources around none = ap (λ n. take n around.levels) none ∙ take_zero around.levels

pub top_places : (around : Around) (rows : ℕ) → around.depth ≡ 0 → around.rows ≡ rows → places_in around ≡ range_with_len 0 rows
top_places around rows none same = ap₂ places_around (ap (range_with_len 0) same) (no_sources around none)

pub may_check : (fields : List Field) (head : BatchHead) (rows : ℕ) (around : Around) → HasRowsWithin (head_of head)
    → length head.nodes.items ≡ node_count (forest_seen fields) → length head.buffers.items ≡ buffer_count (forest_seen fields)
    → IsWellFormedForest (forest_seen fields) → forest_depth (forest_seen fields) ≤ 16 → around.rows ≡ rows → around.depth ≡ 0
    → length around.levels ≡ 16 → MayCheck (forest_seen fields) head top rows around
may_check fields head rows around within all every formed shallow same none room = record {
  counted = λ k below. (within.nodes_counted k below, within.nodes_few k below);
  nodes = omega (arith, all);
  buffers = omega (arith, every);
  formed = formed;
  shallow = omega (arith, shallow, none);
  room = room;
  steady = subst (AreSteady (first_places around)) (sym (no_sources around none)) tt;
  reach =
      all_reach rows (columns_at (forest_seen fields) head top) (places_in around)
      (subst (AllByRecursion (λ row. row < rows)) (sym (top_places around rows none same))
      (held_below rows (range_with_len 0 rows) (λ x held. let found = range_held 0 rows x held in omega (arith, found.1))));
}

columns_top : (fields : List Field) (head : BatchHead)
    → columns_at (forest_seen fields) head top ≡ columns_from (forest_seen fields) head.nodes.items head.buffers.items
columns_top fields head = ap₂ (columns_from (forest_seen fields)) (drop_nothing head.nodes.items) (drop_nothing head.buffers.items)

module _ (P : List ℕ → LaidColumns → ℕ → List ℕ → Type 0) where
  pub at_top : (body whole : List ℕ) (fields : List Field) (head : BatchHead) (rows : ℕ) (around : Around) → body ≡ whole → rows ≡ nat_abs head.length
      → around.rows ≡ rows → around.depth ≡ 0 → P body (columns_at (forest_seen fields) head top) rows (places_in around)
      → P whole (columns_from (forest_seen fields) head.nodes.items head.buffers.items) (nat_abs head.length) (range_with_len 0 (nat_abs head.length))
  at_top body whole fields head rows around same count rowed none h =
      subst (λ b. P b (columns_from (forest_seen fields) head.nodes.items head.buffers.items) (nat_abs head.length) (range_with_len 0 (nat_abs head.length))) same
      (subst (λ n. P body (columns_from (forest_seen fields) head.nodes.items head.buffers.items) n (range_with_len 0 n)) count
      (subst (λ (cs : LaidColumns). P body cs rows (range_with_len 0 rows)) (columns_top fields head)
      (subst (P body (columns_at (forest_seen fields) head top) rows) (top_places around rows none rowed) h)))

-- ---- what is laid out

not_negative : (z : ℤ) → pos 0 ≤ℤ z → z ≡ pos (nat_abs z)
not_negative (pos n) low = refl
not_negative (negsuc n) low = absurd (omega (arith, ints))

laid_out : (schema : SchemaTree) (head : Head) (body : List ℕ)
    → HasColumns schema head (columns_from schema.fields head.nodes head.buffers) → AreKept (KeepsHeadRule schema head body) head_order
    → ColumnsAreSound schema head body → (rows : Rows) × LaysOut schema head body rows
laid_out schema head body are kept sound = (
  record {
    count = nat_abs head.length;
    columns = cells_of_columns (body_of head body) (columns_from schema.fields head.nodes head.buffers) (nat_abs head.length);
  },
  record {
    head_kept = kept;
    columns = columns_from schema.fields head.nodes head.buffers;
    columns_are = are;
    sound = sound;
    count = not_negative head.length kept.1.0.counted;
    cells = refl;
  },
)

pub all_laid_out : {T : Type 0} (r : Result T BatchFault) (schema : SchemaTree) (head : Head) (body : List ℕ)
    → HasColumns schema head (columns_from schema.fields head.nodes head.buffers) → AreKept (KeepsHeadRule schema head body) head_order
    → OnOk r (ColumnsAreSound schema head body) → IfOk r (λ done. (rows : Rows) × LaysOut schema head body rows)
all_laid_out (Ok done) schema head body are kept sound = laid_out schema head body are kept sound
all_laid_out (Err told) schema head body are kept sound = tt

pub fault_told : {T : Type 0} (r : Result T BatchFault) (schema : SchemaTree) (head : Head) (body : List ℕ)
    → HasColumns schema head (columns_from schema.fields head.nodes head.buffers) → AreKept (KeepsHeadRule schema head body) head_order
    → IfErr r (λ told. ColumnsHaveFault schema head body told) → IfErr r (λ told. IsFaultOf schema head body told)
fault_told (Ok done) schema head body are kept has = tt
fault_told (Err told) schema head body are kept has = inr (kept, (columns_from schema.fields head.nodes head.buffers, are, has))
