use Rattle.ballots.specs.Record.{IsRecordText}
use Rattle.disk_records.proofs.Readings.{not_read}
use Rattle.disk_records.proofs.reading.read_record.Goals as goal

pub returns-in-Err : goal.returns-in-Err
returns-in-Err c = not_read c.args.text.now c.in-Err.fault c.fault_of.result (IsRecordText c.args.text.now)
    c.in-Err.ensures.only c.fault_of.ensures
