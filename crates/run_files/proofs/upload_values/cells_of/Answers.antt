use Rattle.std.proofs.Common.{rules, sym, subst, arith, ◌+◌, ℕ, List, ◌∷◌, [], ◌++◌, ◌≡◌, Option, map, take}
use Rattle.std.specs.List.{AllZip}
use Rattle.serde_json.specs.View.{view}
use Rattle.run_files.specs.UploadValue.{TellsCell}
use Rattle.run_files.specs.declared.fault.ValueFault.TheVariants.{OutOfMemory}
use Rattle.run_files.proofs.Reading.{zipped_at, told_on}
use Rattle.run_files.proofs.Zipped.{zip_more}
use Rattle.run_files.proofs.upload_values.cells_of.Goals as goal

pub loop-value-preserved : goal.loop-value-preserved
loop-value-preserved c =
    let pushed : c.push.new.self.items ≡ c.loop-value.cells.items ++ c.in_ok-cell.cell ∷ [] = search rules in
    subst (λ (l : List (Option (List ℕ))). AllZip TellsCell (map view (take (c.loop-value.value-index + 1) c.args.values.now)) l) (sym pushed)
    (zip_more TellsCell view c.args.values.now c.loop-value.value-index c.value-item.result c.loop-value.cells.items c.in_ok-cell.cell (omega arith) c.value-item.is c.loop-value.invariant c.in_ok-cell.ensures.read)

pub returns-in_err-cell-clause-refused : goal.returns-in_err-cell-clause-refused
returns-in_err-cell-clause-refused c = λ all told.
    let here = zipped_at TellsCell view c.args.values.now all c.loop-value.value-index c.value-item.result told (omega arith) c.value-item.is in
    told_on c.from_residual.result c.in_err-cell.field-0.0 OutOfMemory c.from_residual.ensures.1 (c.in_err-cell.ensures.refused here.0 here.1)
