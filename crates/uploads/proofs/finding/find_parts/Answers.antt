use Rattle.std.proofs.Common.{arith, rules, refl, [], sym, subst}
use Rattle.table_types.specs.Served.{data_text}
use Rattle.table_types.specs.Valid.{FitsFrame}
use Rattle.uploads.proofs.Fronts.{found_is, same_found, same_schema, same_batches}
use Rattle.uploads.proofs.finding.find_parts.Goals as goal

pub returns-then-not-fits_frame-clause-none : goal.returns-then-not-fits_frame-clause-none
returns-then-not-fits_frame-clause-none c =
    let fits = c.fits_frame.ensures c.in_ok-schema.schema.now [] [] refl refl refl in
    let none : ¬ FitsFrame (data_text c.in_ok-schema.schema.now [] []) = search rules in
    λ fields. none (same_schema c.args.text.now c.in_ok-table.table.now c.in_ok-table.id.now c.in_ok-table.rest.now c.in_ok-schema.schema.now c.in_ok-schema.batches.now
    c.in_ok-table.ensures.only c.in_ok-schema.ensures.only fields)

pub returns-then-not-are_batches-clause-none : goal.returns-then-not-are_batches-clause-none
returns-then-not-are_batches-clause-none c = λ fields.
    let all = same_batches c.args.text.now c.in_ok-table.table.now c.in_ok-table.id.now c.in_ok-table.rest.now c.in_ok-schema.schema.now c.in_ok-schema.batches.now
    c.in_ok-table.ensures.only c.in_ok-schema.ensures.only fields in
    c.are_batches.ensures.no c.if-not-are_batches.true all.0 all.1 all.2

pub returns-clause-some : goal.returns-clause-some
returns-clause-some c =
    let fits = c.fits_frame.ensures c.in_ok-schema.schema.now [] [] refl refl refl in
    let served : FitsFrame (data_text c.in_ok-schema.schema.now [] []) = search rules in
    let all = c.are_batches.ensures.yes c.if-not-are_batches.false in
    found_is c.args.text.now c.in_ok-table.table.now c.in_ok-table.id.now c.in_ok-table.rest.now c.in_ok-schema.schema.now c.in_ok-schema.batches.now
    (omega arith) c.in_ok-table.ensures.some c.in_ok-schema.ensures.some.0 c.in_ok-schema.ensures.some.1 served all.0 all.1 all.2

pub returns-clause-only : goal.returns-clause-only
returns-clause-only c =
    same_found c.args.text.now c.in_ok-table.table.now c.in_ok-table.id.now c.in_ok-table.rest.now c.in_ok-schema.schema.now c.in_ok-schema.batches.now
    c.in_ok-table.ensures.only c.in_ok-schema.ensures.only
