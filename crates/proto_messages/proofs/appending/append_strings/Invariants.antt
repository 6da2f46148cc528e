use Rattle.std.proofs.Common.{take}
use Rattle.std.specs.String.{string_bytes}
use Rattle.proto_fields.specs.Scalar.{TypeString}
use Rattle.proto_messages.specs.Canonical.{bytes_field, FitsScalar}
use Rattle.proto_messages.proofs.CallerLemmas.{Appended}
use Rattle.proto_messages.proofs.appending.append_strings.Given as goal

abbrev pub invariant-loop-string : goal.invariant-loop-string
invariant-loop-string l =
    Appended string_bytes (bytes_field l.number) (FitsScalar TypeString) l.fn.out.items (take l.string-index l.strings) l.out.items
