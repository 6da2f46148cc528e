use Rattle.std.proofs.Common.{ap, ◌∙◌}
use Rattle.proto_fields.specs.Meaning.{bytes_in}
use Rattle.uploads.proofs.Walk.{part_begins}
use Rattle.uploads.proofs.finding.front_bytes.Goals as goal

pub returns-in-Ok : goal.returns-in-Ok
returns-in-Ok c = λ number content rest stands.
    c.bytes.ensures ∙ ap (λ f. bytes_in f.held)
    (c.in-Ok.ensures.only _ rest (part_begins c.canonical_fields_are_fields.ensures number c.args.bytes.now content rest stands)).0

pub returns-in-Err : goal.returns-in-Err
returns-in-Err c = λ number content rest stands.
    absurd (c.in-Err.ensures.only _ rest (part_begins c.canonical_fields_are_fields.ensures number c.args.bytes.now content rest stands))
