use Rattle.std.proofs.Common.{List, rules, sym, subst}
use Rattle.std.specs.Io.KnownBytes.{Keeps}
use Rattle.ballots.specs.declared.record.Record.{Record}
use Rattle.disk_records.specs.RecordFile.{FileMeans}
use Rattle.records_command.proofs.Shown.{shows_read}
use Rattle.records_command.proofs.showing.show_records.Goals as goal

pub returns-in-Ok : goal.returns-in-Ok
returns-in-Ok g c =
    shows_read c.files_mean_one.ensures.records c.args.file.now c.args.sums.now c.as_slice.result.now c.show_read.result
    (g.W.Write.contents c.args.w.now) (g.W.Write.contents c.show_read.new.w)
    (subst (FileMeans c.args.file.now) (sym c.as_slice.ensures.value) c.in-Ok.ensures.means) c.show_read.ensures

pub returns-in-Err-Damaged : goal.returns-in-Err-Damaged
returns-in-Err-Damaged g c =
    let none : (records : List Record) → FileMeans c.args.file.now records → ⊥ = search rules in
    let keeps : Keeps (g.W.Write.contents c.args.w.now) (g.W.Write.contents c.args.w.now) = search rules in
    (λ whole. none whole.0 whole.1, keeps)
