use Rattle.std.proofs.Common.{refl, sym, ap, ◌∙◌, subst, nat_abs, arith}
use Rattle.std.proofs.lemmas.Int.{ints}
use Rattle.header_types.specs.HeaderViews.{head_of}
use Rattle.header_types.specs.Views.{schema_of}
use Rattle.batch_reading.specs.Spots.{runs_of_rows}
use Rattle.batch_reading.specs.Readable.{forest_seen, AreReadable, AreBuilt}
use Rattle.batch_reading.proofs.Whole.{batch_readable, batch_rows, batch_of}
use Rattle.batch_reading.proofs.batch.build_batch.Goals as goal

pub spoken_of-spoken-requires : goal.spoken_of-spoken-requires
spoken_of-spoken-requires c =
    omega (arith, ints, c.requires.laid.1.head_kept.1.1.1.1.0.counted, c.requires.laid.1.head_kept.1.1.1.1.0.there)

pub build_columns-requires : goal.build_columns-requires
build_columns-requires c =
    subst (λ f. AreReadable f c.args.head.now (record { node = 0; buffer = 0 }) c.spoken_of-spoken.result.now c.selection-selection.result)
    (ap forest_seen (sym c.as_slice-fields.ensures.value))
    (batch_readable
    c.args.schema.now c.args.head.now c.args.body.now c.spoken_of-spoken.result.now c.requires.laid.0 c.selection-selection.result (record { node = 0; buffer = 0 })
    c.requires.profile c.requires.laid.1 c.sources_are_the_columns.ensures
    (c.laid_out_rows_are_of_the_schema.ensures (schema_of c.args.schema.now) (head_of c.args.head.now) c.args.body.now c.requires.laid.0 c.requires.profile c.requires.laid.1)
    c.spoken_of-spoken.ensures
    (c.selection-selection.ensures.runs ∙ c.in_ok-runs.ensures ∙ ap runs_of_rows (c.row_count-count.ensures ∙ ap nat_abs c.requires.laid.1.count))
    (c.selection-selection.ensures.count ∙ c.row_count-count.ensures ∙ ap nat_abs c.requires.laid.1.count)
    c.selection-selection.ensures.there refl refl)

pub returns-clause-rows : goal.returns-clause-rows
returns-clause-rows c =
    batch_rows
    c.args.schema.now c.args.head.now c.args.body.now c.spoken_of-spoken.result.now c.requires.laid.0 c.selection-selection.result (record { node = 0; buffer = 0 })
    c.requires.profile c.requires.laid.1 c.sources_are_the_columns.ensures
    (c.laid_out_rows_are_of_the_schema.ensures (schema_of c.args.schema.now) (head_of c.args.head.now) c.args.body.now c.requires.laid.0 c.requires.profile c.requires.laid.1)
    c.spoken_of-spoken.ensures
    (c.selection-selection.ensures.runs ∙ c.in_ok-runs.ensures ∙ ap runs_of_rows (c.row_count-count.ensures ∙ ap nat_abs c.requires.laid.1.count))
    (c.selection-selection.ensures.count ∙ c.row_count-count.ensures ∙ ap nat_abs c.requires.laid.1.count)
    c.selection-selection.ensures.there refl refl (record { rows = c.row_count-count.result; columns = c.in_ok-columns.columns })
    (subst (λ f. AreBuilt f c.args.head.now (record { node = 0; buffer = 0 }) c.spoken_of-spoken.result.now c.selection-selection.result c.in_ok-columns.columns.items)
    (ap forest_seen c.as_slice-fields.ensures.value) c.in_ok-columns.ensures.built)
    (c.row_count-count.ensures ∙ ap nat_abs c.requires.laid.1.count)

pub returns-clause-of_schema : goal.returns-clause-of_schema
returns-clause-of_schema c =
    batch_of
    c.args.schema.now c.args.head.now c.args.body.now c.spoken_of-spoken.result.now c.requires.laid.0 c.selection-selection.result (record { node = 0; buffer = 0 })
    c.requires.profile c.requires.laid.1 c.sources_are_the_columns.ensures
    (c.laid_out_rows_are_of_the_schema.ensures (schema_of c.args.schema.now) (head_of c.args.head.now) c.args.body.now c.requires.laid.0 c.requires.profile c.requires.laid.1)
    c.spoken_of-spoken.ensures
    (c.selection-selection.ensures.runs ∙ c.in_ok-runs.ensures ∙ ap runs_of_rows (c.row_count-count.ensures ∙ ap nat_abs c.requires.laid.1.count))
    (c.selection-selection.ensures.count ∙ c.row_count-count.ensures ∙ ap nat_abs c.requires.laid.1.count)
    c.selection-selection.ensures.there refl refl (record { rows = c.row_count-count.result; columns = c.in_ok-columns.columns })
    (subst (λ f. AreBuilt f c.args.head.now (record { node = 0; buffer = 0 }) c.spoken_of-spoken.result.now c.selection-selection.result c.in_ok-columns.columns.items)
    (ap forest_seen c.as_slice-fields.ensures.value) c.in_ok-columns.ensures.built)
    (c.row_count-count.ensures ∙ ap nat_abs c.requires.laid.1.count) c.in_ok-columns.ensures.few
