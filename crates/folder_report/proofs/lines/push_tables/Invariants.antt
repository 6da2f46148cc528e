use Rattle.std.proofs.Common.{◌≡◌, ◌++◌, take, string_bytes}
use Rattle.std.specs.List.{flat_map}
use Rattle.folder_report.specs.Lines.{table_line}
use Rattle.folder_report.proofs.lines.push_tables.Given as goal

abbrev pub invariant-loop-table : goal.invariant-loop-table
invariant-loop-table l =
    string_bytes l.text ≡ string_bytes l.initial.text ++ flat_map table_line (take l.table-index l.tables)
