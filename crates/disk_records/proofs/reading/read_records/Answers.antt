use Rattle.std.proofs.Common.{arith}
use Rattle.disk_records.proofs.Readings.{read_gates_whole}
use Rattle.disk_records.proofs.reading.read_records.Goals as goal

pub returns : goal.returns
returns c =
    let long = c.if-file-le-NEW_FILE_BYTES.false in
    read_gates_whole c.args.file.now (λ read. read.records.items) (λ read. read.gate) (omega (arith, long))
    c.read_gates.result c.read_gates.ensures
