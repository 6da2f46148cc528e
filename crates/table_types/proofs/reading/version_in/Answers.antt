use Rattle.std.proofs.Common.{◌≡◌, sym, subst}
use Rattle.std.specs.Option.{IsSomeAnd}
use Rattle.table_types.proofs.Decoding.{version_told}
use Rattle.table_types.proofs.reading.version_in.Goals as goal

pub returns : goal.returns
returns c = λ asked ticket.
    subst (λ o. IsSomeAnd o (λ version. version ≡ asked.version)) (sym c.ok.ensures.value)
    (version_told c.canonical_messages_are_messages.ensures c.args.bytes.now asked ticket c.number_at.result c.number_at.ensures.only)
