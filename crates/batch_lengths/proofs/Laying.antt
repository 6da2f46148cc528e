-- The columns of a batch that is laid out, and how long the body is that is written of it.
use Rattle.std.proofs.Common.{◌≡◌, refl, sym, ap, ap₂, subst, ◌∙◌, ℕ, ◌+◌, ◌^◌, ◌<◌, ◌≤◌, true, nat_abs, List, ◌∷◌, length, arith}
use Rattle.std.proofs.lemmas.Int.{ints}
use Rattle.std.proofs.lemmas.List.{length-map}
use Rattle.std.proofs.lemmas.List.FromFn.{length-range_with_len}
use Rattle.std.proofs.lemmas.Simd.{map-map}
use Rattle.std.specs.List.{range_with_len}
use Rattle.header_types.specs.declared.header.BatchHead.{BatchHead}
use Rattle.header_types.specs.declared.schema.Schema.{Schema}
use Rattle.header_types.specs.Fields.{Forest, no_more, more, SchemaTree}
use Rattle.header_types.specs.Header.{Head}
use Rattle.header_types.specs.HeaderViews.{head_of}
use Rattle.header_types.specs.Limits.{fields_limit}
use Rattle.header_types.specs.Profile.{InProfile}
use Rattle.header_types.specs.Views.{schema_of}
use Rattle.batch_types.specs.Cells.{Rows}
use Rattle.batch_types.specs.Laid.{LaidColumns, no_column, column_then, AreColumnsOf, node_count, buffer_count}
use Rattle.batch_types.specs.LaysOut.{AreSound, HasColumns, LaysOut, body_of, columns_at}
use Rattle.batch_types.specs.Placed.{cell_at}
use Rattle.batch_types.specs.Shapes.{shape_of, shapes_of}
use Rattle.batch_types.specs.Canonical.{blank_of, canonical_body}
use Rattle.batch_types.proofs.Unique.{columns_are_one}
use Rattle.batch_columns.specs.Sources.{columns_from}
use Rattle.batch_reading.specs.Built.{cell_wanted, columns_wanted}
use Rattle.batch_reading.specs.Readable.{columns_there}
use Rattle.batch_reading.specs.Spots.{Spot}
use Rattle.batch_lengths.specs.declared.counted.Counted.{Counted}
use Rattle.batch_lengths.specs.Along.{run_spots}
use Rattle.batch_lengths.specs.Sizes.{columns_size, size_there, first_place, MayWalk, MayMeasure}
use Rattle.batch_lengths.specs.Tally.{tally, BeginsWith}
use Rattle.batch_lengths.proofs.Between.{between_run}

-- all rows are wanted of the columns of a batch
rows_wanted : (body : List ℕ) (count : ℕ) (f : Forest) (cs : LaidColumns) → AreColumnsOf f cs
    → columns_wanted body cs (shapes_of f) (run_spots 0 count) ≡ columns_at body cs count
rows_wanted body count no_more no_column of = refl
rows_wanted body count no_more (column_then c cs) of = absurd of
rows_wanted body count (more t ts) no_column of = absurd of
rows_wanted body count (more t ts) (column_then c cs) of =
    ap₂ (λ x xs. x ∷ xs) (map-map (cell_wanted (cell_at body c) (blank_of (shape_of t))) (λ place. (place, true)) (range_with_len 0 count))
    (rows_wanted body count ts cs of.1)

few_in_all : (n : ℕ) → n + 0 ≤ fields_limit → 0 + n ≤ fields_limit
few_in_all n few = omega (arith, few)

module _ (schema : Schema) (head : BatchHead) (body spoken : List ℕ) (profile : InProfile (schema_of schema))
    (sources : (s : SchemaTree) (h : Head) → length h.nodes ≡ node_count s.fields → length h.buffers ≡ buffer_count s.fields
    → HasColumns s h (columns_from s.fields h.nodes h.buffers))
    (spoken_is : spoken ≡ body_of (head_of head) body) (short : length spoken < 2 ^ 64)
    (count : ℕ) (counted : count ≡ nat_abs head.length)
    (rows : Rows) (laid_out : LaysOut (schema_of schema) (head_of head) body rows) where
  columns_are : laid_out.columns ≡ columns_there (schema_of schema).fields head first_place
  columns_are =
      columns_are_one (schema_of schema) (head_of head) laid_out.columns (columns_from (schema_of schema).fields head.nodes.items head.buffers.items) laid_out.columns_are
      (sources (schema_of schema) (head_of head) laid_out.head_kept.1.1.0 laid_out.head_kept.1.1.1.0)

  count_is : count ≡ rows.count
  count_is = counted ∙ ap nat_abs laid_out.count

  of_fields : AreColumnsOf (schema_of schema).fields (columns_there (schema_of schema).fields head first_place)
  of_fields = subst (AreColumnsOf (schema_of schema).fields) columns_are laid_out.columns_are.of_schema

  pub batch_walk : MayWalk (schema_of schema).fields head first_place spoken count
  batch_walk = record {
    places = range_with_len 0 rows.count;
    few_values = omega (arith, ints, count_is, laid_out.count, laid_out.head_kept.1.0.few);
    short = short;
    sound =
        subst (λ n. AreSound spoken (columns_there (schema_of schema).fields head first_place) n (range_with_len 0 rows.count)) (sym count_is)
        (subst (λ b. AreSound b (columns_there (schema_of schema).fields head first_place) rows.count (range_with_len 0 rows.count)) (sym spoken_is)
        (subst (λ cs. AreSound (body_of (head_of head) body) cs rows.count (range_with_len 0 rows.count)) columns_are laid_out.sound));
    formed = profile.well_formed;
    nodes_there = omega (arith, laid_out.head_kept.1.1.0);
    buffers_there = omega (arith, laid_out.head_kept.1.1.1.0);
    nodes_few = few_in_all (node_count (schema_of schema).fields) profile.within.fields_within;
    buffers_few = omega arith;
    counted = laid_out.head_kept.1.0.nodes_counted;
    few = laid_out.head_kept.1.0.nodes_few;
  }

  pub batch_may : (table : List Counted) → BeginsWith table (tally spoken (columns_there (schema_of schema).fields head first_place) (run_spots 0 count))
      → MayMeasure (schema_of schema).fields head first_place spoken count table (run_spots 0 count)
  batch_may table begins = record {
    limit = count;
    walk = batch_walk;
    between = between_run 0 count count (omega arith);
    wanted = sym (length-range_with_len 0 count) ∙ sym (length-map {B = Spot} (range_with_len 0 count) (λ place. (place, true)));
    tallied = begins;
  }

  pub body_size : length (canonical_body (schema_of schema) rows) ≡ size_there spoken (schema_of schema).fields head first_place (run_spots 0 count)
  body_size =
      ap (columns_size (shapes_of (schema_of schema).fields))
      (laid_out.cells
      ∙ ap₂ (λ b cs. columns_at b cs rows.count) (sym spoken_is) columns_are
      ∙ sym (rows_wanted spoken rows.count (schema_of schema).fields (columns_there (schema_of schema).fields head first_place) of_fields)
      ∙ ap (λ n. columns_wanted spoken (columns_there (schema_of schema).fields head first_place) (shapes_of (schema_of schema).fields) (run_spots 0 n)) (sym count_is))
