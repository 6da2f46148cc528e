use Rattle.std.proofs.Common.{sym, ap, ◌∙◌}
use Rattle.table_types.specs.Ticket.{ticket_descriptor, ticket_values}
use Rattle.table_types.proofs.Decoding.{rises, fits}
use Rattle.table_types.proofs.laws.tickets_have_one_encoding.Goals as goal

pub returns-clause-one : goal.returns-clause-one
returns-clause-one c = λ text x y one other.
    ap (λ v. record { table = v.0; version = v.1.0 })
    (c.canonical_messages_are_one.ensures ticket_descriptor (ticket_values x) (ticket_values y) rises (fits x one.valid) (fits y other.valid)
    (sym one.encodes ∙ other.encodes))
