use Rattle.std.proofs.Common.{refl, sym, arith, []}
use Rattle.std.proofs.lemmas.Bool.{false≢true}
use Rattle.header_types.specs.Views.{schema_of}
use Rattle.table_types.specs.Uploads.{schema_text}
use Rattle.uploads.proofs.Counts.{schema_small, sizes_are, is_small, small_served}
use Rattle.uploads.proofs.sizes.upload_size.Goals as goal

pub returns-then-not-fits_frame-clause-none : goal.returns-then-not-fits_frame-clause-none
returns-then-not-fits_frame-clause-none c = λ small.
    let exactly = c.if-not-fits_frame.ensures (schema_text (schema_of c.args.schema.now)) [] [] (sym c.schema_length-header.ensures) refl refl in
    false≢true (exactly.1 small.schema_served)

pub returns-in_default-clause-none : goal.returns-in_default-clause-none
returns-in_default-clause-none c = λ small.
    c.in_default.ensures.none (small_served c.args.table.now c.args.id.now (schema_of c.args.schema.now) c.args.batches.now c.requires.named.some c.requires.id small)

pub part_length-requires-3 : goal.part_length-requires-3
part_length-requires-3 c =
    let exactly = c.if-not-fits_frame.ensures (schema_text (schema_of c.args.schema.now)) [] [] (sym c.schema_length-header.ensures) refl refl in
    omega (arith, schema_small (schema_of c.args.schema.now) (exactly.0 refl), c.schema_length-header.ensures)

pub overflow_add-size : goal.overflow_add-size
overflow_add-size c =
    let exactly = c.if-not-fits_frame.ensures (schema_text (schema_of c.args.schema.now)) [] [] (sym c.schema_length-header.ensures) refl refl in
    omega (
      arith,
      schema_small (schema_of c.args.schema.now) (exactly.0 refl),
      c.schema_length-header.ensures,
      c.part_length.ensures.few,
      c.part_length-2.ensures.few,
      c.part_length-3.ensures.few,
      c.requires.named.short,
      c.requires.id,
    )

pub overflow_add-size-2 : goal.overflow_add-size-2
overflow_add-size-2 c =
    let exactly = c.if-not-fits_frame.ensures (schema_text (schema_of c.args.schema.now)) [] [] (sym c.schema_length-header.ensures) refl refl in
    omega (
      arith,
      schema_small (schema_of c.args.schema.now) (exactly.0 refl),
      c.schema_length-header.ensures,
      c.part_length.ensures.few,
      c.part_length-2.ensures.few,
      c.part_length-3.ensures.few,
      c.requires.named.short,
      c.requires.id,
      c.in-Some.ensures.few,
    )

pub returns-then-size-clause-size : goal.returns-then-size-clause-size
returns-then-size-clause-size c =
    let S = schema_of c.args.schema.now in
    sizes_are c.args.table.now c.args.id.now S c.args.batches.now c.requires.named.some c.requires.id _ _ _ _ (c.part_length.ensures.long c.args.table.now refl)
    (c.part_length-2.ensures.long c.args.id.now refl) (c.part_length-3.ensures.long (schema_text S) (sym c.schema_length-header.ensures)) c.in-Some.ensures.size

pub returns-then-size-clause-small : goal.returns-then-size-clause-small
returns-then-size-clause-small c =
    let S = schema_of c.args.schema.now in
    let exactly = c.if-not-fits_frame.ensures (schema_text S) [] [] (sym c.schema_length-header.ensures) refl refl in
    is_small c.args.table.now c.args.id.now S c.args.batches.now c.requires.named.some c.requires.id
    (omega (arith, returns-then-size-clause-size c, c.if-size.true)) (exactly.0 refl) c.in-Some.ensures.served

pub returns-else-size-clause-none : goal.returns-else-size-clause-none
returns-else-size-clause-none c = λ small.
    let S = schema_of c.args.schema.now in
    let size = sizes_are c.args.table.now c.args.id.now S c.args.batches.now c.requires.named.some c.requires.id _ _ _ _ (c.part_length.ensures.long c.args.table.now refl)
    (c.part_length-2.ensures.long c.args.id.now refl) (c.part_length-3.ensures.long (schema_text S) (sym c.schema_length-header.ensures)) c.in-Some.ensures.size in
    absurd (omega (arith, size, c.if-size.false, small.short))
