use Rattle.std.proofs.Common.{ℕ, List, ◌∷◌, subst}
use Rattle.disk_records.specs.RecordFile.{IsClosedAt, GatesMean}
use Rattle.disk_records.specs.Reading.{MeansNothing, BeginsWithNone}
use Rattle.disk_records.specs.declared.reading.FileRecords.{FileRecords}
use Rattle.disk_records.proofs.Readings.{IsReadTo, passed_on, returned, one_more_read, damaged_file}
use Rattle.disk_records.proofs.reading.read_gates.Goals as goal

pub returns-in_err-rest : goal.returns-in_err-rest
returns-in_err-rest c =
    let file = c.args.file.now in
    let done = c.loop-after.records.items in
    let behind = c.in-Some.after.now in
    let P : List ℕ → Type 0 = λ l. IsReadTo file done l in
    let so_far : IsReadTo file done (1 ∷ behind) = subst P c.in-Some.ensures c.loop-after.invariant in
    let means : FileRecords → Type 0 = λ read. IsClosedAt file read.records.items read.gate in
    returned means (MeansNothing (GatesMean file)) c.from_residual.result c.in_err-rest.field-0.0
    c.from_residual.ensures.1
    (passed_on (BeginsWithNone (1 ∷ behind)) (MeansNothing (GatesMean file)) c.in_err-rest.field-0.0
    (damaged_file c.records_are_one.ensures file behind done so_far) c.in_err-rest.ensures)

pub loop-after-preserved : goal.loop-after-preserved
loop-after-preserved c =
    let file = c.args.file.now in
    let done = c.loop-after.records.items in
    let P : List ℕ → Type 0 = λ l. IsReadTo file done l in
    let so_far : IsReadTo file done (1 ∷ c.in-Some.after.now) = subst P c.in-Some.ensures c.loop-after.invariant in
    one_more_read file (1 ∷ c.in-Some.after.now) c.in_ok-rest.rest.now done c.take_block.new.records.items so_far
    c.in_ok-rest.ensures
