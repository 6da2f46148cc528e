use Rattle.std.proofs.Common.{rules, List}
use Rattle.ballots.specs.declared.record.Record.{Record}
use Rattle.disk_records.specs.RecordFile.{FileMeans}
use Rattle.record_sums.proofs.Damages.{is_whole}
use Rattle.record_sums.proofs.damage.damage_in.Goals as goal

pub returns-in-Ok-clause-whole : goal.returns-in-Ok-clause-whole
returns-in-Ok-clause-whole c =
    is_whole c.files_mean_one.ensures.records c.args.file.now c.args.sums.now c.in-Ok.read.records.items c.damage_of.result c.in-Ok.ensures.means
    c.damage_of.ensures.none c.damage_of.ensures.some

pub returns-in-Err-Damaged-clause-whole : goal.returns-in-Err-Damaged-clause-whole
returns-in-Err-Damaged-clause-whole c whole =
    let none : (records : List Record) → FileMeans c.args.file.now records → ⊥ = search rules in
    none whole.0 whole.1
