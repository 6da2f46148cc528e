use Rattle.batch_reading.proofs.Marking.{same_seen}
use Rattle.batch_reading.proofs.bits.without_nulls.Goals as goal

pub returns-clause-taken : goal.returns-clause-taken
returns-clause-taken c =
    same_seen c.requires.selection.0 c.args.selection.now c.requires.selection.1 c.args.validity.now c.in_ok-same_marks.field-0
    c.in_ok-same_marks.ensures c.requires.valid
