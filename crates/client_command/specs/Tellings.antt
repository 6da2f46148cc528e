-- What is asked of tables, and what is printed of the answer.
use Rattle.std.specs.Prelude.{◌≡◌, ◌⊎◌, ℕ, List, map, Option, Vec, Result, Ok, Err}
use Rattle.std.specs.declared.alloc.Global.{Global}
use Rattle.std.specs.declared.net.socket_addr.SocketAddrV4.{SocketAddrV4}
use Rattle.grpc_frames.specs.FrameFaults.{WhereKnown}
use Rattle.proto_wire.specs.declared.flight.info.FlightInfo.{FlightInfo}
use Rattle.proto_wire.specs.FlightValues.{info_values}
use Rattle.client_calls.specs.declared.client_fault.ClientFault.TheVariants.{BadAnswer}
use Rattle.client_calls.specs.Requests.{info_request, list_request}
use Rattle.client_calls.specs.Results.{GivesInfo, GivesInfos, HasInfo, HasInfos}
use Rattle.client_connections.specs.Events.{ConnectionEvent}
use Rattle.client_command.specs.declared.fault.CommandFault.{CommandFault}
use Rattle.client_command.specs.declared.fault.CommandFault.TheVariants as faults
use Rattle.client_command.specs.Faults.{status_of}
use Rattle.client_command.specs.Calls.{Calls}
use Rattle.client_command.specs.Tables.{TellsInfo, TellsTables}
use Rattle.client_command.specs.Writing.{DoesNothing, WritesText}

-- ---- the answer's text is printed

module _ {T : Type 0} (address : SocketAddrV4) (request : List ℕ) (Gives : List (List ℕ) → T → Type 0) (IsResult : List (List ℕ) → Type 0) (IsTextOf : T → List ℕ → Type 0) where
  -- an answer came, and its text was printed, or a beginning of it
  pub record AsksAndTells (result : Result (Unit {0}) CommandFault) (old new : Option (List ConnectionEvent)) (before after : Option (List ℕ)) : Type 0 where
    pub value : T
    pub told : Calls address request Gives IsResult (Ok value) old new
    pub text : List ℕ
    pub is_text : IsTextOf value text
    pub written : WhereKnown before after (WritesText text result)

  -- an answer came, and nothing was printed: memory was refused, or it has no text
  pub record TellsNothing (result : Result (Unit {0}) CommandFault) (old new : Option (List ConnectionEvent)) (before after : Option (List ℕ)) : Type 0 where
    pub value : T
    pub told : Calls address request Gives IsResult (Ok value) old new
    pub why : (result ≡ Err faults.OutOfMemory) ⊎ ((result ≡ Err (faults.Call BadAnswer)) × ((text : List ℕ) → ¬ IsTextOf value text))
    pub silent : after ≡ before

  -- no answer came, and nothing was printed
  pub record AsksForNothing (result : Result (Unit {0}) CommandFault) (old new : Option (List ConnectionEvent)) (before after : Option (List ℕ)) : Type 0 where
    pub fault : CommandFault
    pub told : Calls {T = T} address request Gives IsResult (Err fault) old new
    pub is : result ≡ Err fault
    pub silent : after ≡ before

  abbrev pub TellsAt : Result (Unit {0}) CommandFault → Option (List ConnectionEvent) → Option (List ConnectionEvent) → Option (List ℕ) → Option (List ℕ) → Type 0
  TellsAt result old new before after =
      AsksAndTells result old new before after ⊎ TellsNothing result old new before after ⊎ AsksForNothing result old new before after

-- of all tables
abbrev pub ListsAt : SocketAddrV4 → Result (Unit {0}) CommandFault → Option (List ConnectionEvent) → Option (List ConnectionEvent) → Option (List ℕ) → Option (List ℕ) → Type 0
ListsAt address result old new before after =
    TellsAt address list_request GivesInfos HasInfos (λ (infos : Vec FlightInfo Global) text. TellsTables (map info_values infos.items) text) result old new before after

-- of this table
abbrev pub InformsAt : List ℕ → SocketAddrV4 → Result (Unit {0}) CommandFault → Option (List ConnectionEvent) → Option (List ConnectionEvent) → Option (List ℕ) → Option (List ℕ) → Type 0
InformsAt table address result old new before after =
    TellsAt address (info_request table) GivesInfo HasInfo (λ info text. TellsInfo table (info_values info) text) result old new before after

-- ---- by words

module _ (At : SocketAddrV4 → Result (Unit {0}) CommandFault → Option (List ConnectionEvent) → Option (List ConnectionEvent) → Option (List ℕ) → Option (List ℕ) → Type 0) (By : Result SocketAddrV4 CommandFault → Type 0) where
  -- the words name a server, which was asked; or one of them names nothing
  abbrev pub TellsAsked : Result (Unit {0}) CommandFault → Option (List ConnectionEvent) → Option (List ConnectionEvent) → Option (List ℕ) → Option (List ℕ) → Type 0
  TellsAsked result old new before after =
      ((address : SocketAddrV4) × By (Ok address) × At address result old new before after)
      ⊎ ((fault : CommandFault) × By (Err fault) × (result ≡ Err fault) × DoesNothing old new before after)

  -- the exit status tells how it ended
  abbrev pub RunsTelling : ℕ → Option (List ConnectionEvent) → Option (List ConnectionEvent) → Option (List ℕ) → Option (List ℕ) → Type 0
  RunsTelling status old new before after =
      (result : Result (Unit {0}) CommandFault) × (status ≡ status_of result) × TellsAsked result old new before after
