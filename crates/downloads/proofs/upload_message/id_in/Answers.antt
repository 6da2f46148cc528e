use Rattle.std.proofs.Common.{sym, ◌∙◌}
use Rattle.downloads.proofs.Said.{is_name}
use Rattle.downloads.proofs.upload_message.id_in.Goals as goal

pub returns-then-is_empty-clause-some : goal.returns-then-is_empty-clause-some
returns-then-is_empty-clause-some c =
    is_name c.args.bytes.now c.in_ok-id.id.now c.in_ok-id.rest.now c.in_ok-id.ensures.cases.0 c.in_ok-id.ensures.cases.2 (sym c.is_empty.ensures ∙ c.if-is_empty.true) c.type_inv.bytes
