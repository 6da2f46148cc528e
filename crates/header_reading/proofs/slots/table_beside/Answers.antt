use Rattle.std.proofs.Common.{ℕ, List, IfErr, subst}
use Rattle.flat_places.specs.Fault.{TableFault}
use Rattle.header_types.specs.Slots.{FromPlaceFault}
use Rattle.header_reading.proofs.slots.table_beside.Goals as goal

pub returns-clause-fault : goal.returns-clause-fault
returns-clause-fault c =
    subst (λ (b : List ℕ). IfErr c.table_at.result (FromPlaceFault (TableFault b c.args.place))) c.buf.ensures
    c.table_at.ensures.fault
