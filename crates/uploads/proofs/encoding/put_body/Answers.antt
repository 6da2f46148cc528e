use Rattle.std.proofs.Common.{◌∙◌}
use Rattle.batch_types.specs.Canonical.{canonical_body}
use Rattle.batch_columns.specs.Batches.{rows_of}
use Rattle.uploads.proofs.Puts.{on_ok, no_body, body_put}
use Rattle.uploads.proofs.encoding.put_body.Goals as goal

pub returns-then-count-eq0 : goal.returns-then-count-eq0
returns-then-count-eq0 c schema of_schema long =
    no_body c.args.text.now.items (canonical_body schema (rows_of c.args.batch.now)) (long ∙ c.if-count-eq0.true)

pub returns : goal.returns
returns c =
    on_ok c.append_body.result c.append_body.ensures.appended (λ put schema of_schema long.
    body_put c.args.text.now.items (canonical_body schema (rows_of c.args.batch.now)) c.append_number.new.out.items c.append_number-2.new.out.items
    c.append_body.new.text.items c.args.count c.if-count-eq0.false long c.in_ok-append_number.ensures.ok c.in_ok-append_number-2.ensures.ok
    (put schema of_schema))
