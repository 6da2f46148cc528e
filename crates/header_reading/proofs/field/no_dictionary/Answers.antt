use Rattle.std.proofs.Common.{rules}
use Rattle.header_reading.proofs.field.no_dictionary.Goals as goal

pub returns-in_err-slot_at-clause-read : goal.returns-in_err-slot_at-clause-read
returns-in_err-slot_at-clause-read c = search rules steps 300000

pub returns-in_err-slot_at-clause-fault : goal.returns-in_err-slot_at-clause-fault
returns-in_err-slot_at-clause-fault c = search rules steps 300000

pub returns-in-Some-clause-read : goal.returns-in-Some-clause-read
returns-in-Some-clause-read c = search rules steps 300000

pub returns-in-Some-clause-fault : goal.returns-in-Some-clause-fault
returns-in-Some-clause-fault c = search rules steps 300000

pub returns-in-None-clause-read : goal.returns-in-None-clause-read
returns-in-None-clause-read c = search rules steps 300000

pub returns-in-None-clause-fault : goal.returns-in-None-clause-fault
returns-in-None-clause-fault c = search rules steps 300000
