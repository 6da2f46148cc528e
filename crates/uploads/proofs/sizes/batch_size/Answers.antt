use Rattle.std.proofs.Common.{refl, sym, arith}
use Rattle.std.proofs.lemmas.Bool.{false≢true}
use Rattle.header_types.specs.Views.{schema_of}
use Rattle.batch_types.specs.Canonical.{canonical_body}
use Rattle.batch_columns.specs.Batches.{rows_of}
use Rattle.table_types.specs.Uploads.{head_text}
use Rattle.uploads.specs.Parts.{batch_parts}
use Rattle.uploads.proofs.Counts.{served_small, body_too_long}
use Rattle.uploads.proofs.sizes.batch_size.Goals as goal

pub returns-in_default-clause-can : goal.returns-in_default-clause-can
returns-in_default-clause-can c = c.in_default.ensures.room (schema_of c.args.schema.now) c.requires.of_schema

pub returns-in_default-clause-none : goal.returns-in_default-clause-none
returns-in_default-clause-none c =
    let S = schema_of c.args.schema.now in
    body_too_long c.args.id.now S c.args.batch.now (c.in_default.ensures.long S c.requires.of_schema.shapes)

pub returns-then-not-fits_frame-clause-can : goal.returns-then-not-fits_frame-clause-can
returns-then-not-fits_frame-clause-can c = c.in-Some.ensures.room (schema_of c.args.schema.now) c.requires.of_schema

pub returns-then-not-fits_frame-clause-none : goal.returns-then-not-fits_frame-clause-none
returns-then-not-fits_frame-clause-none c = λ fits.
    let S = schema_of c.args.schema.now in
    let R = rows_of c.args.batch.now in
    let can = c.in-Some.ensures.room S c.requires.of_schema in
    let exactly = c.if-not-fits_frame.ensures (head_text S R) c.args.id.now (canonical_body S R) (sym (c.head_length-header.ensures R can)) refl
    (c.in-Some.ensures.known S c.requires.of_schema.shapes) in
    false≢true (exactly.1 fits)

pub encoded_length-requires : goal.encoded_length-requires
encoded_length-requires c =
    let S = schema_of c.args.schema.now in
    let R = rows_of c.args.batch.now in
    let can = c.in-Some.ensures.room S c.requires.of_schema in
    let header = c.head_length-header.ensures R can in
    let body = c.in-Some.ensures.known S c.requires.of_schema.shapes in
    let exactly = c.if-not-fits_frame.ensures (head_text S R) c.args.id.now (canonical_body S R) (sym header) refl body in
    let small = served_small c.args.id.now (batch_parts S R) (exactly.0 refl) in
    record { header_small = omega (arith, small.0, header); body_small = omega (arith, small.1, body) }

pub returns-clause-served : goal.returns-clause-served
returns-clause-served c =
    let S = schema_of c.args.schema.now in
    let R = rows_of c.args.batch.now in
    let can = c.in-Some.ensures.room S c.requires.of_schema in
    let header = c.head_length-header.ensures R can in
    let body = c.in-Some.ensures.known S c.requires.of_schema.shapes in
    (c.if-not-fits_frame.ensures (head_text S R) c.args.id.now (canonical_body S R) (sym header) refl body).0 refl

pub returns-clause-few : goal.returns-clause-few
returns-clause-few c =
    let S = schema_of c.args.schema.now in
    let R = rows_of c.args.batch.now in
    let can = c.in-Some.ensures.room S c.requires.of_schema in
    let header = c.head_length-header.ensures R can in
    let body = c.in-Some.ensures.known S c.requires.of_schema.shapes in
    let exactly = c.if-not-fits_frame.ensures (head_text S R) c.args.id.now (canonical_body S R) (sym header) refl body in
    let small = served_small c.args.id.now (batch_parts S R) (exactly.0 refl) in
    omega (arith, small.0, small.1, header, body, c.encoded_length.ensures.few)

pub returns-clause-size : goal.returns-clause-size
returns-clause-size c =
    let S = schema_of c.args.schema.now in
    let R = rows_of c.args.batch.now in
    let can = c.in-Some.ensures.room S c.requires.of_schema in
    c.encoded_length.ensures.long (batch_parts S R) (sym (c.head_length-header.ensures R can)) (c.in-Some.ensures.known S c.requires.of_schema.shapes)

pub returns-clause-can : goal.returns-clause-can
returns-clause-can c = c.in-Some.ensures.room (schema_of c.args.schema.now) c.requires.of_schema
