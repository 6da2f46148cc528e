use Rattle.std.proofs.Common.{◌≡◌, sym, subst}
use Rattle.std.specs.Option.{IsSomeAnd}
use Rattle.table_types.proofs.Decoding.{table_told}
use Rattle.table_types.proofs.reading.table_in.Goals as goal

pub returns : goal.returns
returns c = λ asked ticket.
    subst (λ o. IsSomeAnd o (λ table. table.now ≡ asked.table)) (sym c.ok.ensures.value)
    (table_told c.canonical_messages_are_messages.ensures c.args.bytes.now asked ticket c.bytes_at.result c.bytes_at.ensures.only)
