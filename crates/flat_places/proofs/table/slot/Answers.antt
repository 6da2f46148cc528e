use Rattle.std.proofs.Common.{sym, subst}
use Rattle.flat_places.specs.Table.{Seen, ShowsField}
use Rattle.flat_places.proofs.Fields.{slot_faults}
use Rattle.flat_places.proofs.table.slot.Goals as goal

pub returns-clause-only : goal.returns-clause-only
returns-clause-only c = λ field shown.
    c.slot.ensures.only field (subst (λ (k : Seen). ShowsField k.buf k.place c.args.n field)
    (sym c.in_ok-at.ensures.seen) shown)

pub returns-clause-fault : goal.returns-clause-fault
returns-clause-fault c =
    slot_faults c.slot.result c.in_ok-at.field-0 c.args.buf.now c.args.table c.args.n c.in_ok-at.ensures.seen
    c.slot.ensures.fault
