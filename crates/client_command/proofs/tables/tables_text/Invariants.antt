use Rattle.std.proofs.Common.{map, take, string_bytes}
use Rattle.proto_wire.specs.FlightValues.{info_values}
use Rattle.client_command.specs.Tables.{TellsTables}
use Rattle.client_command.proofs.tables.tables_text.Given as goal

abbrev pub invariant-loop-info : goal.invariant-loop-info
invariant-loop-info l = TellsTables (map info_values (take l.info-index l.infos)) (string_bytes l.text)
