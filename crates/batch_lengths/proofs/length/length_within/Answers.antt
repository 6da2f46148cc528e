use Rattle.std.proofs.Common.{◌≡◌, ◌⊎◌, ℕ, ◌+◌, ◌-◌, ◌^◌, ◌<◌, ◌≤◌, min, sym, ap, subst, length, arith}
use Rattle.header_types.specs.Views.{schema_of}
use Rattle.batch_types.specs.Canonical.{canonical_body}
use Rattle.batch_reading.specs.Readable.{forest_seen}
use Rattle.batch_lengths.specs.Along.{run_spots}
use Rattle.batch_lengths.specs.Sizes.{size_there, first_place, MayMeasure}
use Rattle.batch_lengths.proofs.Laying.{batch_walk, batch_may, body_size}
use Rattle.batch_lengths.proofs.length.length_within.Goals as goal

pub counted-table-requires : goal.counted-table-requires
counted-table-requires g c =
    let walk =
    batch_walk c.args.schema.now c.args.head.now c.args.body.now c.spoken_of-spoken.result.now c.requires.profile c.sources_are_the_columns.ensures
    c.spoken_of-spoken.ensures.part c.spoken_of-spoken.ensures.short c.row_count-rows.result c.row_count-rows.ensures c.requires.laid.0 c.requires.laid.1 in
    (omega (arith, c.requires.few), (walk, (omega (arith, c.requires.room, walk.nodes_there), c.requires.few)))

pub fields_left-requires-clause-may : goal.fields_left-requires-clause-may
fields_left-requires-clause-may g c = (
  run_spots 0 c.row_count-rows.result,
  subst (λ f. MayMeasure f c.args.head.now first_place c.spoken_of-spoken.result.now c.row_count-rows.result c.counted-table.result (run_spots 0 c.row_count-rows.result))
      (ap forest_seen (sym c.deref.ensures.value))
      (batch_may c.args.schema.now c.args.head.now c.args.body.now c.spoken_of-spoken.result.now c.requires.profile c.sources_are_the_columns.ensures
      c.spoken_of-spoken.ensures.part c.spoken_of-spoken.ensures.short c.row_count-rows.result c.row_count-rows.ensures c.requires.laid.0 c.requires.laid.1
      c.counted-table.result c.counted-table.ensures),
)

left_within : (left size most : ℕ) → left + size ≡ most → left ≤ most
left_within left size most fits = omega (arith, fits)

pub overflow_sub-result : goal.overflow_sub-result
overflow_sub-result g c =
    left_within c.in-Some.left
    (size_there c.spoken_of-spoken.result.now (forest_seen c.deref.result.now) c.args.head.now first_place (run_spots 0 c.row_count-rows.result))
    c.min-most.result
    (c.in-Some.ensures.fits (run_spots 0 c.row_count-rows.result)
    (subst (λ f. MayMeasure f c.args.head.now first_place c.spoken_of-spoken.result.now c.row_count-rows.result c.counted-table.result (run_spots 0 c.row_count-rows.result))
    (ap forest_seen (sym c.deref.ensures.value))
    (batch_may c.args.schema.now c.args.head.now c.args.body.now c.spoken_of-spoken.result.now c.requires.profile c.sources_are_the_columns.ensures
    c.spoken_of-spoken.ensures.part c.spoken_of-spoken.ensures.short c.row_count-rows.result c.row_count-rows.ensures c.requires.laid.0 c.requires.laid.1
    c.counted-table.result c.counted-table.ensures)))

known : (left size most whole there : ℕ) → left + there ≡ most → there ≡ size → whole ≡ size → whole ≡ most - left
known left size most whole there fits same is = omega (arith, fits, same, is)

pub returns-in-Some-clause-known : goal.returns-in-Some-clause-known
returns-in-Some-clause-known g c rows laid_out =
    known c.in-Some.left
    (size_there c.spoken_of-spoken.result.now (schema_of c.args.schema.now).fields c.args.head.now first_place (run_spots 0 c.row_count-rows.result))
    c.min-most.result (length (canonical_body (schema_of c.args.schema.now) rows))
    (size_there c.spoken_of-spoken.result.now (forest_seen c.deref.result.now) c.args.head.now first_place (run_spots 0 c.row_count-rows.result))
    (c.in-Some.ensures.fits (run_spots 0 c.row_count-rows.result)
    (subst (λ f. MayMeasure f c.args.head.now first_place c.spoken_of-spoken.result.now c.row_count-rows.result c.counted-table.result (run_spots 0 c.row_count-rows.result))
    (ap forest_seen (sym c.deref.ensures.value))
    (batch_may c.args.schema.now c.args.head.now c.args.body.now c.spoken_of-spoken.result.now c.requires.profile c.sources_are_the_columns.ensures
    c.spoken_of-spoken.ensures.part c.spoken_of-spoken.ensures.short c.row_count-rows.result c.row_count-rows.ensures rows laid_out
    c.counted-table.result c.counted-table.ensures)))
    (ap (λ l. size_there c.spoken_of-spoken.result.now (forest_seen l) c.args.head.now first_place (run_spots 0 c.row_count-rows.result)) c.deref.ensures.value)
    (body_size c.args.schema.now c.args.head.now c.args.body.now c.spoken_of-spoken.result.now c.requires.profile c.sources_are_the_columns.ensures
    c.spoken_of-spoken.ensures.part c.spoken_of-spoken.ensures.short c.row_count-rows.result c.row_count-rows.ensures rows laid_out)

either_long : (most m n : ℕ) → m ≡ min most (2 ^ 63 - 1) → m < n → (most < n) ⊎ (2 ^ 63 ≤ n)
either_long most m n is long = grind arith

too_long : (size most whole there : ℕ) → most < there → there ≡ size → whole ≡ size → most < whole
too_long size most whole there long same is = omega (arith, long, same, is)

pub returns-in-None-clause-long : goal.returns-in-None-clause-long
returns-in-None-clause-long g c rows laid_out =
    either_long c.args.most c.min-most.result (length (canonical_body (schema_of c.args.schema.now) rows)) c.min-most.ensures
    (too_long
    (size_there c.spoken_of-spoken.result.now (schema_of c.args.schema.now).fields c.args.head.now first_place (run_spots 0 c.row_count-rows.result))
    c.min-most.result (length (canonical_body (schema_of c.args.schema.now) rows))
    (size_there c.spoken_of-spoken.result.now (forest_seen c.deref.result.now) c.args.head.now first_place (run_spots 0 c.row_count-rows.result))
    (c.in-None.ensures.long (run_spots 0 c.row_count-rows.result)
    (subst (λ f. MayMeasure f c.args.head.now first_place c.spoken_of-spoken.result.now c.row_count-rows.result c.counted-table.result (run_spots 0 c.row_count-rows.result))
    (ap forest_seen (sym c.deref.ensures.value))
    (batch_may c.args.schema.now c.args.head.now c.args.body.now c.spoken_of-spoken.result.now c.requires.profile c.sources_are_the_columns.ensures
    c.spoken_of-spoken.ensures.part c.spoken_of-spoken.ensures.short c.row_count-rows.result c.row_count-rows.ensures rows laid_out
    c.counted-table.result c.counted-table.ensures)))
    (ap (λ l. size_there c.spoken_of-spoken.result.now (forest_seen l) c.args.head.now first_place (run_spots 0 c.row_count-rows.result)) c.deref.ensures.value)
    (body_size c.args.schema.now c.args.head.now c.args.body.now c.spoken_of-spoken.result.now c.requires.profile c.sources_are_the_columns.ensures
    c.spoken_of-spoken.ensures.part c.spoken_of-spoken.ensures.short c.row_count-rows.result c.row_count-rows.ensures rows laid_out))
