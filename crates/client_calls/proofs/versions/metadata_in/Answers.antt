use Rattle.std.proofs.Common.{sym, subst}
use Rattle.std.specs.Option.{IsSomeAnd}
use Rattle.client_calls.specs.Parts.{IsMetadataOf}
use Rattle.client_calls.proofs.Told.{metadata_told}
use Rattle.client_calls.proofs.versions.metadata_in.Goals as goal

pub returns : goal.returns
returns c = λ id version h.
    subst (λ o. IsSomeAnd o (λ metadata. IsMetadataOf id version metadata.now)) (sym c.ok.ensures.value)
    (metadata_told c.canonical_messages_are_messages.ensures id version c.args.message.now h c.bytes_at.result c.bytes_at.ensures.only)
