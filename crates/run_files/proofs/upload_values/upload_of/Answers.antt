use Rattle.std.proofs.Common.{sym, subst, List}
use Rattle.std.specs.List.{AllByRecursion}
use Rattle.serde_json.specs.View.{view}
use Rattle.batch_columns.specs.declared.batch.Batch.{Batch}
use Rattle.table_types.specs.Valid.{IsUpload}
use Rattle.uploads.specs.Making.{upload_of as uploaded}
use Rattle.run_files.specs.UploadValue.{IsByteBatch, column_schema}
use Rattle.run_files.specs.declared.fault.ValueFault.TheVariants.{OutOfMemory}
use Rattle.run_files.proofs.Reading.{told_on}
use Rattle.run_files.proofs.UploadValues.{rows_told, told_is_taken}
use Rattle.run_files.proofs.upload_values.upload_of.Goals as goal

pub returns-in_err-batches-clause-refused : goal.returns-in_err-batches-clause-refused
returns-in_err-batches-clause-refused c = λ upload means.
    told_on c.from_residual.result c.in_err-batches.field-0.0 OutOfMemory c.from_residual.ensures.1
    (c.in_err-batches.ensures.refused means.upload.batches
    (rows_told (view c.args.value.now) upload c.in-Some-Some.values.now.items c.deref.result.now c.deref.ensures.value c.in-Some-Some.ensures' means))

pub returns-clause-refused : goal.returns-clause-refused
returns-clause-refused c = λ upload means.
    let table = c.in-Some-Some-Some.table.now in
    let digits = c.in-Some-Some-Some.digits.now in
    let name = c.in-Some-Some-Some.name.now in
    let id = c.in-Some-Some.id in
    let batches : List Batch = c.in_ok-batches.batches.items in
    let taken : IsUpload (uploaded table id (column_schema name) batches)
    = told_is_taken (view c.args.value.now) upload table digits id name c.in-Some-Some.values.now.items c.deref.result.now batches c.deref.ensures.value c.in-Some-Some-Some.ensures c.in-Some-Some-Some.ensures'
    c.in-Some-Some-Some.ensures'' c.in-Some-Some.ensures' c.in-Some-Some.ensures.read c.in_ok-batches.ensures.read means in
    c.made.ensures.refused (subst (AllByRecursion IsByteBatch) (sym c.deref-2.ensures.value) c.in_ok-batches.ensures.shaped)
    (subst (λ (bs : List Batch). IsUpload (uploaded table id (column_schema name) bs)) (sym c.deref-2.ensures.value) taken)
