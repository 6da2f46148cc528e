use Rattle.std.proofs.Common.{drop}
use Rattle.std.specs.String.{string_bytes}
use Rattle.proto_messages.specs.Canonical.{bytes_field}
use Rattle.proto_messages.proofs.Strips.{GivesAs, text_of}
use Rattle.proto_messages.proofs.stripping.strip_strings.Given as goal

abbrev pub invariant-loop-value : goal.invariant-loop-value
invariant-loop-value l =
    GivesAs (text_of string_bytes (bytes_field l.number) (drop l.value-index l.values)) l.rest
    (text_of string_bytes (bytes_field l.number) l.values) l.bytes
