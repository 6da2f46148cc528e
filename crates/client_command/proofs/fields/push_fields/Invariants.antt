use Rattle.std.proofs.Common.{◌≡◌, ◌++◌, take, string_bytes}
use Rattle.std.specs.List.{flat_map}
use Rattle.client_command.proofs.Shown.{field_line_of}
use Rattle.client_command.proofs.fields.push_fields.Given as goal

abbrev pub invariant-loop-field : goal.invariant-loop-field
invariant-loop-field l =
    string_bytes l.text ≡ string_bytes l.initial.text ++ flat_map field_line_of (take l.field-index l.fields)
