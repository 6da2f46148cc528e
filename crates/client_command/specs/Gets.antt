-- What a get of rows asks for, what it is told, and which lines are printed of that. A download and its rows are those
-- of `json_client`.
use Rattle.std.specs.Prelude.{◌≡◌, ◌⊎◌, ℕ, List, Option, Some, None, Result, Ok, Err}
use Rattle.std.specs.declared.net.socket_addr.SocketAddrV4.{SocketAddrV4}
use Rattle.grpc_frames.specs.FrameFaults.{WhereKnown}
use Rattle.header_types.specs.Views.{schema_of}
use Rattle.table_types.specs.Ticket.{TableVersion}
use Rattle.downloads.specs.declared.download.Download.{Download}
use Rattle.downloads.specs.Taken.{GivesDownload, HasDownload, downloaded_in}
use Rattle.proto_wire.specs.declared.flight.info.FlightInfo.{FlightInfo}
use Rattle.proto_wire.specs.FlightValues.{info_values}
use Rattle.client_calls.specs.Requests.{get_request, info_request}
use Rattle.client_calls.specs.Results.{GivesInfo, HasInfo}
use Rattle.json_client.specs.Prints.{batches_in}
use Rattle.client_connections.specs.Events.{ConnectionEvent}
use Rattle.client_command.specs.declared.fault.CommandFault.{CommandFault}
use Rattle.client_command.specs.declared.fault.CommandFault.TheVariants as faults
use Rattle.client_command.specs.Faults.{status_of}
use Rattle.client_command.specs.Words.{NamesTable, TicketBy}
use Rattle.client_command.specs.Calls.{Calls}
use Rattle.client_command.specs.Latest.{LatestSays}
use Rattle.client_command.specs.Printed.{PrintsRows}
use Rattle.client_command.specs.Writing.{DoesNothing}

module _ (address : SocketAddrV4) (asked : TableVersion) where
  -- a version came, and the lines of its rows were printed, or a beginning of them
  pub record GetsAndPrints (result : Result (Unit {0}) CommandFault) (old new : Option (List ConnectionEvent)) (before after : Option (List ℕ)) : Type 0 where
    pub download : Download
    pub got : Calls address (get_request asked) GivesDownload HasDownload (Ok download) old new
    pub printed : WhereKnown before after (PrintsRows (schema_of download.schema).fields (batches_in (downloaded_in download)) result)

  -- no version came, and nothing was printed
  pub record GetsInVain (fault : CommandFault) (old new : Option (List ConnectionEvent)) (before after : Option (List ℕ)) : Type 0 where
    pub got : Calls {T = Download} address (get_request asked) GivesDownload HasDownload (Err fault) old new
    pub silent : after ≡ before

  abbrev pub GetsAt : Result (Unit {0}) CommandFault → Option (List ConnectionEvent) → Option (List ConnectionEvent) → Option (List ℕ) → Option (List ℕ) → Type 0
  GetsAt (Ok done) old new before after = GetsAndPrints (Ok done) old new before after
  GetsAt (Err (faults.Rows fault)) old new before after = GetsAndPrints (Err (faults.Rows fault)) old new before after
  GetsAt (Err faults.Io) old new before after = GetsAndPrints (Err faults.Io) old new before after
  GetsAt (Err (faults.Connect fault)) old new before after = GetsInVain (faults.Connect fault) old new before after
  GetsAt (Err (faults.Call fault)) old new before after = GetsInVain (faults.Call fault) old new before after
  GetsAt (Err (faults.Upload fault)) old new before after = ⊥
  GetsAt (Err faults.OutOfMemory) old new before after = ⊥
  GetsAt (Err faults.BadAddress) old new before after = ⊥
  GetsAt (Err faults.BadId) old new before after = ⊥
  GetsAt (Err faults.BadTable) old new before after = ⊥
  GetsAt (Err faults.BadLocation) old new before after = ⊥
  GetsAt (Err faults.Differs) old new before after = ⊥

-- ---- of a version, and of the latest

module _ (address : SocketAddrV4) (table : List ℕ) where
  -- these words are a version, whose rows were got; or they are none, or memory was refused
  abbrev pub GetsVersionAt : ℕ → Result (Unit {0}) CommandFault → Option (List ConnectionEvent) → Option (List ConnectionEvent) → Option (List ℕ) → Option (List ℕ) → Type 0
  GetsVersionAt version result old new before after =
      ((ticket : TableVersion) × TicketBy table version (Ok ticket) × GetsAt address ticket result old new before after)
      ⊎ ((fault : CommandFault) × TicketBy table version (Err fault) × (result ≡ Err fault) × DoesNothing old new before after)

  -- the server told of a latest version, whose rows were got over another connection
  pub record GetsToldVersion (result : Result (Unit {0}) CommandFault) (old new : Option (List ConnectionEvent)) (before after : Option (List ℕ)) : Type 0 where
    pub info : FlightInfo
    pub between : Option (List ConnectionEvent)
    pub informed : Calls address (info_request table) GivesInfo HasInfo (Ok info) old between
    pub ticket : TableVersion
    pub latest : LatestSays table (info_values info) (Ok ticket)
    pub gets : GetsAt address ticket result between new before after

  -- it told of none, and nothing was printed
  pub record TellsNoVersion (result : Result (Unit {0}) CommandFault) (old new : Option (List ConnectionEvent)) (before after : Option (List ℕ)) : Type 0 where
    pub info : FlightInfo
    pub informed : Calls address (info_request table) GivesInfo HasInfo (Ok info) old new
    pub fault : CommandFault
    pub none : LatestSays table (info_values info) (Err fault)
    pub is : result ≡ Err fault
    pub silent : after ≡ before

  -- it did not tell, and nothing was printed
  pub record AsksInVain (result : Result (Unit {0}) CommandFault) (old new : Option (List ConnectionEvent)) (before after : Option (List ℕ)) : Type 0 where
    pub fault : CommandFault
    pub informed : Calls {T = FlightInfo} address (info_request table) GivesInfo HasInfo (Err fault) old new
    pub is : result ≡ Err fault
    pub silent : after ≡ before

  abbrev pub GetsLatestAt : Result (Unit {0}) CommandFault → Option (List ConnectionEvent) → Option (List ConnectionEvent) → Option (List ℕ) → Option (List ℕ) → Type 0
  GetsLatestAt result old new before after =
      GetsToldVersion result old new before after ⊎ TellsNoVersion result old new before after ⊎ AsksInVain result old new before after

  abbrev pub GetsTableAt : Option ℕ → Result (Unit {0}) CommandFault → Option (List ConnectionEvent) → Option (List ConnectionEvent) → Option (List ℕ) → Option (List ℕ) → Type 0
  GetsTableAt (Some version) result old new before after = GetsVersionAt version result old new before after
  GetsTableAt None result old new before after = GetsLatestAt result old new before after

-- ---- by words

module _ (named table : List ℕ) (version : Option ℕ) where
  -- the words name a server and a table, whose rows were got there; or one of them names nothing
  abbrev pub GetsAsked : Result (Unit {0}) CommandFault → Option (List ConnectionEvent) → Option (List ConnectionEvent) → Option (List ℕ) → Option (List ℕ) → Type 0
  GetsAsked result old new before after =
      ((address : SocketAddrV4) × NamesTable named table (Ok address) × GetsTableAt address table version result old new before after)
      ⊎ ((fault : CommandFault) × NamesTable named table (Err fault) × (result ≡ Err fault) × DoesNothing old new before after)

  -- the exit status tells how it ended
  abbrev pub RunsGet : ℕ → Option (List ConnectionEvent) → Option (List ConnectionEvent) → Option (List ℕ) → Option (List ℕ) → Type 0
  RunsGet status old new before after =
      (result : Result (Unit {0}) CommandFault) × (status ≡ status_of result) × GetsAsked result old new before after
