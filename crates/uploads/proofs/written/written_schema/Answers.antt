use Rattle.std.proofs.Common.{refl}
use Rattle.uploads.proofs.Shown.{schema_shows}
use Rattle.uploads.proofs.written.written_schema.Goals as goal

pub returns-in-Ok : goal.returns-in-Ok
returns-in-Ok c = λ schema is. c.in-Ok.ensures.only schema (schema_shows c.written_headers_are_shown.ensures c.args.bytes.now schema is)

pub unreachable-requires : goal.unreachable-requires
unreachable-requires c =
    c.in-Err-NotAnUpload.ensures.fault c.in-Err-NotAnUpload.field-0-is c.requires.known.0 (schema_shows c.written_headers_are_shown.ensures c.args.bytes.now c.requires.known.0 c.requires.known.1)
