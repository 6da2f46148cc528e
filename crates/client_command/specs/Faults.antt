-- The exit status of each outcome. Those of a service are of gRPC, "Status codes and their use in gRPC"; the others are
-- this program's own.
use Rattle.std.specs.Prelude.{ℕ, List, [], ◌∷◌, Contains, max, Result, Ok, Err}
use Rattle.client_calls.specs.declared.client_fault.ClientFault.TheVariants as calls
use Rattle.json_client.specs.declared.fault.RowCallFault.{RowCallFault}
use Rattle.json_client.specs.declared.fault.RowCallFault.TheVariants as rows
use Rattle.client_command.specs.declared.fault.CommandFault.{CommandFault}
use Rattle.client_command.specs.declared.fault.CommandFault.TheVariants as faults

-- what is told of rows that were not put, or not printed
abbrev pub fault_of_rows : RowCallFault → CommandFault
fault_of_rows (rows.Call fault) = faults.Call fault
fault_of_rows (rows.Rows fault) = faults.Rows fault
fault_of_rows (rows.Upload fault) = faults.Upload fault
fault_of_rows rows.Output = faults.Io

-- 2 of words that are none, and the service's own where it refused the call, which is not 0; else 1
abbrev pub status_of_fault : CommandFault → ℕ
status_of_fault faults.BadAddress = 2
status_of_fault faults.BadId = 2
status_of_fault faults.BadTable = 2
status_of_fault (faults.Connect fault) = 1
status_of_fault (faults.Call (calls.Status code words)) = max code 1
status_of_fault (faults.Call calls.BadAnswer) = 1
status_of_fault (faults.Call (calls.Call fault)) = 1
status_of_fault (faults.Rows fault) = 1
status_of_fault (faults.Upload fault) = 1
status_of_fault faults.Io = 1
status_of_fault faults.OutOfMemory = 1
status_of_fault faults.BadLocation = 1
status_of_fault faults.Differs = 1

abbrev pub status_of : Result (Unit {0}) CommandFault → ℕ
status_of (Ok done) = 0
status_of (Err fault) = status_of_fault fault

-- ---- of a put: whether its upload may have been taken

-- The statuses that refuse an upload however often it is put: INVALID_ARGUMENT, NOT_FOUND, ALREADY_EXISTS,
-- FAILED_PRECONDITION and UNIMPLEMENTED.
abbrev pub final_statuses : List ℕ
final_statuses = 3 ∷ 5 ∷ 6 ∷ 9 ∷ 12 ∷ []

-- The request went out, in part or whole, and no refusal for good came back; or the line that tells of an upload that was
-- taken was lost.
abbrev pub MayBeTaken : CommandFault → Type 0
MayBeTaken (faults.Call (calls.Status code words)) = ¬ Contains final_statuses code
MayBeTaken (faults.Call calls.BadAnswer) = Unit {0}
MayBeTaken (faults.Call (calls.Call fault)) = Unit {0}
MayBeTaken faults.Io = Unit {0}
MayBeTaken faults.OutOfMemory = Unit {0}
MayBeTaken faults.BadAddress = ⊥
MayBeTaken faults.BadId = ⊥
MayBeTaken faults.BadTable = ⊥
MayBeTaken (faults.Connect fault) = ⊥
MayBeTaken (faults.Rows fault) = ⊥
MayBeTaken (faults.Upload fault) = ⊥
MayBeTaken faults.BadLocation = ⊥
MayBeTaken faults.Differs = ⊥

abbrev pub IsOpen : Result (Unit {0}) CommandFault → Type 0
IsOpen (Ok done) = ⊥
IsOpen (Err fault) = MayBeTaken fault
