use Rattle.std.proofs.Common.{List, ℕ, rules, refl, sym, subst}
use Rattle.ballots.specs.declared.record.Record.{Record}
use Rattle.disk_records.specs.RecordFile.{FileMeans}
use Rattle.records_command.proofs.FolderLines.{misfit_of}
use Rattle.records_command.proofs.folder.records_of.Goals as goal

pub returns-in-Ok-clause-fault : goal.returns-in-Ok-clause-fault
returns-in-Ok-clause-fault c =
    let records = c.in-Ok.read.records.items in
    misfit_of c.files_mean_one.ensures.records c.args.files.now records c.args.node c.fitting.result
    (subst (λ (file : List ℕ). FileMeans file records) c.as_slice.ensures.value c.in-Ok.ensures.means) c.fitting.ensures.fault

pub returns-in-Err-Damaged-clause-fault : goal.returns-in-Err-Damaged-clause-fault
returns-in-Err-Damaged-clause-fault c =
    let none : (records : List Record) → FileMeans c.as_slice.result.now records → ⊥ = search rules in
    (refl, λ whole. none whole.0 (subst (λ (file : List ℕ). FileMeans file whole.0) (sym c.as_slice.ensures.value) whole.1))
