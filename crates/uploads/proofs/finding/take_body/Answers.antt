use Rattle.std.proofs.Common.{sym, ◌∙◌, arith}
use Rattle.uploads.proofs.Fronts.{no_body, body_is, no_body_part, body_then_more, body_only, if_none}
use Rattle.uploads.proofs.finding.take_body.Goals as goal

pub returns-then-is_empty-clause-some : goal.returns-then-is_empty-clause-some
returns-then-is_empty-clause-some c = no_body c.args.rest.now (sym c.is_empty.ensures ∙ c.if-is_empty.true)
