use Rattle.batch_reading.proofs.Marking.{bits_seen, bits_marked}
use Rattle.batch_reading.proofs.bits.with_nulls.Goals as goal

pub returns-clause-taken : goal.returns-clause-taken
returns-clause-taken c =
    bits_seen c.requires.selection.0 c.args.selection.now c.requires.selection.1 c.args.validity.now c.in_ok-bits_taken.field-0
    c.requires.some.0 c.in_ok-bits_taken.ensures

pub returns-clause-marked : goal.returns-clause-marked
returns-clause-marked c =
    bits_marked c.requires.selection.0 c.args.selection.now c.requires.selection.1 c.args.validity.now c.in_ok-bits_taken.field-0
    c.in_ok-bits_taken.ensures
