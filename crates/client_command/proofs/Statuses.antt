-- Exit statuses of faults.
use Rattle.std.proofs.Common.{◌≤◌, arith}
use Rattle.client_calls.specs.declared.client_fault.ClientFault.TheVariants as calls
use Rattle.client_command.specs.declared.fault.CommandFault.{CommandFault}
use Rattle.client_command.specs.declared.fault.CommandFault.TheVariants as faults
use Rattle.client_command.specs.Faults.{status_of_fault}

pub status_is_some : (fault : CommandFault) → 1 ≤ status_of_fault fault
status_is_some faults.BadAddress = omega arith
status_is_some faults.BadId = omega arith
status_is_some faults.BadTable = omega arith
status_is_some (faults.Connect fault) = omega arith
status_is_some (faults.Call (calls.Status code words)) = omega arith
status_is_some (faults.Call calls.BadAnswer) = omega arith
status_is_some (faults.Call (calls.Call fault)) = omega arith
status_is_some (faults.Rows fault) = omega arith
status_is_some (faults.Upload fault) = omega arith
status_is_some faults.Io = omega arith
status_is_some faults.OutOfMemory = omega arith
status_is_some faults.BadLocation = omega arith
status_is_some faults.Differs = omega arith
