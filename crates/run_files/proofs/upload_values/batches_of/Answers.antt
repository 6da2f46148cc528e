use Rattle.std.proofs.Common.{rules, sym, subst, arith, ◌+◌, ◌∙◌, ap, List, ◌∷◌, [], ◌++◌, ◌≡◌, map, take}
use Rattle.std.specs.List.{AllByRecursion, AllZip}
use Rattle.serde_json.specs.View.{view}
use Rattle.batch_types.specs.Cells.{Rows}
use Rattle.batch_columns.specs.declared.batch.Batch.{Batch}
use Rattle.batch_columns.specs.Batches.{rows_of}
use Rattle.run_files.specs.UploadValue.{TellsRows, IsByteBatch}
use Rattle.run_files.specs.declared.fault.ValueFault.TheVariants.{OutOfMemory}
use Rattle.run_files.proofs.Reading.{zipped_at, told_on}
use Rattle.run_files.proofs.Zipped.{zip_more, mapped_push, all_push}
use Rattle.run_files.proofs.upload_values.batches_of.Goals as goal

pub loop-value-preserved : goal.loop-value-preserved
loop-value-preserved c =
    let pushed : c.push.new.self.items ≡ c.loop-value.batches.items ++ c.in_ok-batch.batch ∷ [] = search rules in
    let rows = ap (λ (l : List Batch). map rows_of l) pushed ∙ mapped_push rows_of c.loop-value.batches.items c.in_ok-batch.batch in
    record {
      read =
          subst (λ (l : List Rows). AllZip TellsRows (map view (take (c.loop-value.value-index + 1) c.args.values.now)) l) (sym rows)
          (zip_more TellsRows view c.args.values.now c.loop-value.value-index c.value-item.result (map rows_of c.loop-value.batches.items) (rows_of c.in_ok-batch.batch) (omega arith) c.value-item.is c.loop-value.invariant.read c.in_ok-batch.ensures.read);
      shaped = subst (AllByRecursion IsByteBatch) (sym pushed) (all_push IsByteBatch c.loop-value.batches.items c.in_ok-batch.batch c.loop-value.invariant.shaped c.in_ok-batch.ensures.shaped);
    }

pub returns-in_err-batch-clause-refused : goal.returns-in_err-batch-clause-refused
returns-in_err-batch-clause-refused c = λ all told.
    let here = zipped_at TellsRows view c.args.values.now all c.loop-value.value-index c.value-item.result told (omega arith) c.value-item.is in
    told_on c.from_residual.result c.in_err-batch.field-0.0 OutOfMemory c.from_residual.ensures.1 (c.in_err-batch.ensures.refused here.0 here.1)
