use Rattle.uploads.proofs.Walk.{part_begins, bytes_are, no_bytes}
use Rattle.uploads.proofs.parts.split_part.Goals as goal

pub unreachable-requires : goal.unreachable-requires
unreachable-requires c =
    no_bytes c.in-Ok.field-0-0 c.in-Ok.content c.requires.0 c.requires.1 c.in-None.ensures
    (c.in-Ok.ensures.only _ c.requires.2
    (part_begins c.canonical_fields_are_fields.ensures c.requires.0 c.args.bytes.now c.requires.1 c.requires.2 c.requires.3)).0

pub unreachable-requires-in-Err : goal.unreachable-requires-in-Err
unreachable-requires-in-Err c =
    c.in-Err.ensures.only _ c.requires.2
    (part_begins c.canonical_fields_are_fields.ensures c.requires.0 c.args.bytes.now c.requires.1 c.requires.2 c.requires.3)

pub returns : goal.returns
returns c = λ number content rest then.
    let read = c.in-Ok.ensures.only _ rest (part_begins c.canonical_fields_are_fields.ensures number c.args.bytes.now content rest then) in
    (bytes_are c.in-Ok.field-0-0 c.in-Ok.content number content c.in-Some.content.now c.in-Some.ensures read.0, read.1)
