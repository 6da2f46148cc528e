use Rattle.disk_records.specs.Reading.{MeansNothing, BeginsWithNone}
use Rattle.std.proofs.Common.{◌∷◌}
use Rattle.ballots.specs.Record.{IsRecordText}
use Rattle.disk_records.proofs.Readings.{begins_with, unread_begins_with_none, passed_on}
use Rattle.disk_records.proofs.reading.read_block.Goals as goal

pub returns-in-Ok : goal.returns-in-Ok
returns-in-Ok c = begins_with c.args.after.now c.in-Some.text.now c.in-Some.later.now c.in-Ok.told c.in-Some.ensures
    c.in-Ok.ensures

pub returns-in-Err : goal.returns-in-Err
returns-in-Err c =
    passed_on (MeansNothing (IsRecordText c.in-Some.text.now)) (BeginsWithNone (1 ∷ c.args.after.now)) c.in-Err.fault
    (unread_begins_with_none c.args.after.now c.in-Some.text.now c.in-Some.later.now c.in-Some.ensures) c.in-Err.ensures
