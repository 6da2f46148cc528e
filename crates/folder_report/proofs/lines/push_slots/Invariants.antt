use Rattle.std.proofs.Common.{◌≡◌, ◌++◌, take, string_bytes}
use Rattle.std.specs.List.{flat_map}
use Rattle.folder_report.specs.Lines.{slot_line}
use Rattle.folder_report.proofs.lines.push_slots.Given as goal

abbrev pub invariant-loop-told : goal.invariant-loop-told
invariant-loop-told l =
    string_bytes l.text ≡ string_bytes l.initial.text ++ flat_map slot_line (take l.told-index l.slots)
