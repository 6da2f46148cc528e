use Rattle.std.proofs.Common.{◌≡◌, sym, subst}
use Rattle.std.specs.Option.{IsSomeAnd}
use Rattle.client_calls.proofs.Told.{version_is_told}
use Rattle.client_calls.proofs.versions.version_told.Goals as goal

pub returns : goal.returns
returns c = λ id version h.
    subst (λ o. IsSomeAnd o (λ told. told ≡ version)) (sym c.ok.ensures.value)
    (version_is_told c.canonical_messages_are_messages.ensures id version c.args.metadata.now h c.number_at.result c.number_at.ensures.only)
