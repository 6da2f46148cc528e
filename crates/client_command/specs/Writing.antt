-- What is printed: lines, each with its line feed. Numbers are decimal, and an upload's id is hexadecimal digits
-- (RFC 4648, section 8, in lower case).
use Rattle.std.specs.Prelude.{◌≡◌, ℕ, List, ◌++◌, codes, decimal, Option, Result, Ok, Err}
use Rattle.grpc_frames.specs.FrameFaults.{IsBeginning}
use Rattle.call_protocol.specs.Names.{id_text}
use Rattle.client_connections.specs.Events.{ConnectionEvent}
use Rattle.client_command.specs.declared.fault.CommandFault.{CommandFault}
use Rattle.client_command.specs.declared.fault.CommandFault.TheVariants as faults

-- of an upload that was taken: its id, and the version that it made
abbrev pub put_line : List ℕ → ℕ → List ℕ
put_line id version = id_text id ++ (codes " " ++ (decimal version ++ codes "\n"))

-- by which id an upload is put again
abbrev pub repeat_line : List ℕ → List ℕ
repeat_line id = codes "flightd: put it again with --id " ++ (id_text id ++ codes "\n")

-- ---- what was written behind what stood there

-- the text, or after a fault a beginning of it
abbrev pub WritesText : List ℕ → Result (Unit {0}) CommandFault → List ℕ → List ℕ → Type 0
WritesText text (Ok done) old new = new ≡ old ++ text
WritesText text (Err fault) old new = (written : List ℕ) × IsBeginning written text × (new ≡ old ++ written)

-- the fault is told of a line: it could not be written, or memory for it was refused
abbrev pub IsOfLines : CommandFault → Type 0
IsOfLines faults.Io = Unit {0}
IsOfLines faults.OutOfMemory = Unit {0}
IsOfLines faults.BadAddress = ⊥
IsOfLines faults.BadId = ⊥
IsOfLines faults.BadTable = ⊥
IsOfLines (faults.Connect fault) = ⊥
IsOfLines (faults.Call fault) = ⊥
IsOfLines (faults.Rows fault) = ⊥
IsOfLines (faults.Upload fault) = ⊥
IsOfLines faults.BadLocation = ⊥
IsOfLines faults.Differs = ⊥

-- nothing was opened, and nothing printed
abbrev pub DoesNothing : Option (List ConnectionEvent) → Option (List ConnectionEvent) → Option (List ℕ) → Option (List ℕ) → Type 0
DoesNothing old new before after = (new ≡ old) × (after ≡ before)
