use Rattle.downloads.proofs.Found.{header_meant, metadata_meant, body_meant}
use Rattle.downloads.proofs.parts.found_parts.Goals as goal

pub returns-in_err-header : goal.returns-in_err-header
returns-in_err-header c = λ header metadata body are.
    absurd (c.in_err-header.ensures header (header_meant c.canonical_messages_are_messages.ensures c.args.message.now header metadata body are))

pub returns-in_err-metadata : goal.returns-in_err-metadata
returns-in_err-metadata c = λ header metadata body are.
    absurd (c.in_err-metadata.ensures metadata (metadata_meant c.canonical_messages_are_messages.ensures c.args.message.now header metadata body are))

pub returns-in_err-body : goal.returns-in_err-body
returns-in_err-body c = λ header metadata body are.
    absurd (c.in_err-body.ensures body (body_meant c.canonical_messages_are_messages.ensures c.args.message.now header metadata body are))

pub returns : goal.returns
returns c = λ header metadata body are. (
  c.in_ok-header.ensures header (header_meant c.canonical_messages_are_messages.ensures c.args.message.now header metadata body are),
  c.in_ok-metadata.ensures metadata (metadata_meant c.canonical_messages_are_messages.ensures c.args.message.now header metadata body are),
  c.in_ok-body.ensures body (body_meant c.canonical_messages_are_messages.ensures c.args.message.now header metadata body are),
)
