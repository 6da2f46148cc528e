-- What is asked of a server and of all the locations of a table that it tells of, and what is printed of that.
use Rattle.std.specs.Prelude.{◌≡◌, ◌⊎◌, ℕ, Bool, true, false, List, [], ◌∷◌, ◌++◌, IfErr, OnOk, Option, Some, None, Vec, Result, Ok, Err}
use Rattle.std.specs.declared.alloc.Global.{Global}
use Rattle.std.specs.declared.net.socket_addr.SocketAddrV4.{SocketAddrV4}
use Rattle.std.specs.Io.KnownBytes.{Keeps}
use Rattle.grpc_frames.specs.FrameFaults.{WhereKnown}
use Rattle.header_types.specs.Views.{schema_of}
use Rattle.proto_messages.specs.Descriptor.{Values}
use Rattle.proto_wire.specs.declared.flight.info.FlightInfo.{FlightInfo}
use Rattle.proto_wire.specs.Flight.{endpoint_descriptor, info_descriptor, location_descriptor}
use Rattle.proto_wire.specs.FlightValues.{info_values}
use Rattle.table_types.specs.Ticket.{TableVersion}
use Rattle.call_protocol.specs.Statuses.{ok_trailer}
use Rattle.downloads.specs.declared.download.Download.{Download}
use Rattle.downloads.specs.Taken.{GivesDownload, HasDownload, downloaded_in}
use Rattle.client_calls.specs.declared.client_fault.ClientFault.{ClientFault}
use Rattle.client_calls.specs.Answers.{Receives}
use Rattle.client_calls.specs.Requests.{get_request, info_request}
use Rattle.client_calls.specs.Results.{GivesFrames, GivesInfo, HasFrames, HasInfo}
use Rattle.json_client.specs.Prints.{batches_in}
use Rattle.client_connections.specs.Events.{ConnectionEvent}
use Rattle.client_command.specs.declared.fault.CommandFault.{CommandFault}
use Rattle.client_command.specs.declared.fault.CommandFault.TheVariants.{Call, Differs, OutOfMemory}
use Rattle.client_command.specs.Faults.{status_of}
use Rattle.client_command.specs.Words.{NamesTable, TicketBy}
use Rattle.client_command.specs.Calls.{Calls}
use Rattle.client_command.specs.Latest.{IsLatest, LatestSays}
use Rattle.client_command.specs.Tables.{endpoint_locations}
use Rattle.client_command.specs.Printed.{IsOfRows, PrintsRows}
use Rattle.client_command.specs.Visiting.{VisitsAll}

-- ---- the ticket

-- the version that is asked for, where the latest is this one
abbrev pub TicketBeside : List ℕ → Option ℕ → TableVersion → Result TableVersion CommandFault → Type 0
TicketBeside table (Some version) latest result = TicketBy table version result
TicketBeside table None latest result = result ≡ Ok latest

-- one is told of as the latest, and this is the ticket; or none is, or there is no such ticket
abbrev pub TicketFor : List ℕ → Option ℕ → Values info_descriptor → Result TableVersion CommandFault → Type 0
TicketFor table version values result =
    ((latest : TableVersion) × IsLatest table latest values × TicketBeside table version latest result)
    ⊎ ((fault : CommandFault) × LatestSays table values (Err fault) × (result ≡ Err fault))

-- ---- the frames

-- all locations give these frames, or not all do, or a line could not be written
abbrev pub outcome_of : Vec ℕ Global → Result Bool CommandFault → Result (Vec ℕ Global) CommandFault
outcome_of frames (Ok true) = Ok frames
outcome_of frames (Ok false) = Err Differs
outcome_of frames (Err fault) = Err fault

-- the server at the address gave frames, and the locations were asked for the same; or it gave none
abbrev pub RedeemsEverywhere : SocketAddrV4 → TableVersion → List (Values location_descriptor) → Result (Vec ℕ Global) CommandFault → Option (List ConnectionEvent) → Option (List ConnectionEvent)
    → Option (List ℕ) → Option (List ℕ) → Type 0
RedeemsEverywhere address ticket locations result old new before after =
    ((frames : Vec ℕ Global) × (mid : Option (List ConnectionEvent)) × Calls address (get_request ticket) GivesFrames HasFrames (Ok frames) old mid
    × (visited : Result Bool CommandFault) × VisitsAll ticket frames.items locations visited mid new before after
    × (result ≡ outcome_of frames visited))
    ⊎ ((fault : CommandFault) × Calls {T = Vec ℕ Global} address (get_request ticket) GivesFrames HasFrames (Err fault) old new × (result ≡ Err fault)
    × (after ≡ before))

module _ (address : SocketAddrV4) (table : List ℕ) (version : Option ℕ) (result : Result (Vec ℕ Global) CommandFault) (old new : Option (List ConnectionEvent)) (before after : Option (List ℕ)) where
  -- the server told of the table, and its ticket was redeemed everywhere
  pub record RedeemsTold : Type 0 where
    pub info : FlightInfo
    pub between : Option (List ConnectionEvent)
    pub informed : Calls address (info_request table) GivesInfo HasInfo (Ok info) old between
    pub ticket : TableVersion
    pub ticketed : TicketFor table version (info_values info) (Ok ticket)
    pub locations : List (Values location_descriptor)
    pub located : (endpoint : Values endpoint_descriptor) → (info_values info).1.1.0 ≡ endpoint ∷ [] → locations ≡ endpoint_locations endpoint
    pub redeemed : RedeemsEverywhere address ticket locations result between new before after

  -- it told of it, and there is no ticket
  pub record RedeemsNone : Type 0 where
    pub info : FlightInfo
    pub informed : Calls address (info_request table) GivesInfo HasInfo (Ok info) old new
    pub fault : CommandFault
    pub none : TicketFor table version (info_values info) (Err fault)
    pub is : result ≡ Err fault
    pub silent : after ≡ before

  -- it did not tell
  pub record RedeemsNothing : Type 0 where
    pub fault : CommandFault
    pub informed : Calls {T = FlightInfo} address (info_request table) GivesInfo HasInfo (Err fault) old new
    pub is : result ≡ Err fault
    pub silent : after ≡ before

  abbrev pub GetsFramesEverywhere : Type 0
  GetsFramesEverywhere = RedeemsTold ⊎ RedeemsNone ⊎ RedeemsNothing

-- ---- the rows

-- what a call gives of these frames with the trailer of a call that was answered behind them; or memory was refused
abbrev pub FramesSay : List ℕ → Result Download CommandFault → Type 0
FramesSay frames (Ok download) =
    (rest : List ℕ) × Receives GivesDownload HasDownload (Ok download) (frames ++ ok_trailer) rest
FramesSay frames (Err fault) =
    (fault ≡ OutOfMemory)
    ⊎ ((why : ClientFault) × (fault ≡ Call why) × (rest : List ℕ) × Receives {T = Download} GivesDownload HasDownload (Err why) (frames ++ ok_trailer) rest)

-- the lines of the rows in the frames were printed, or a beginning of them; or the frames have none
abbrev pub PrintsFrames : List ℕ → Result (Unit {0}) CommandFault → Option (List ℕ) → Option (List ℕ) → Type 0
PrintsFrames frames result before after =
    ((download : Download) × FramesSay frames (Ok download) × IfErr result IsOfRows
    × WhereKnown before after (PrintsRows (schema_of download.schema).fields (batches_in (downloaded_in download)) result))
    ⊎ ((fault : CommandFault) × FramesSay frames (Err fault) × (result ≡ Err fault) × (after ≡ before))

abbrev pub GetsRowsEverywhere : SocketAddrV4 → List ℕ → Option ℕ → Result (Unit {0}) CommandFault → Option (List ConnectionEvent) → Option (List ConnectionEvent)
    → (before after told_before told_after : Option (List ℕ)) → Type 0
GetsRowsEverywhere address table version result old new before after told_before told_after =
    ((frames : Vec ℕ Global) × GetsFramesEverywhere address table version (Ok frames) old new told_before told_after
    × PrintsFrames frames.items result before after)
    ⊎ ((fault : CommandFault) × GetsFramesEverywhere address table version (Err fault) old new told_before told_after × (result ≡ Err fault)
    × (after ≡ before))

-- ---- by words

module _ (named table : List ℕ) (version : Option ℕ) where
  -- the words name a server and a table, of which it was asked; or one of them names nothing
  abbrev pub GetsEverywhereAsked : Result (Unit {0}) CommandFault → Option (List ConnectionEvent) → Option (List ConnectionEvent) → (before after told_before told_after : Option (List ℕ)) → Type 0
  GetsEverywhereAsked result old new before after told_before told_after =
      ((address : SocketAddrV4) × NamesTable named table (Ok address)
      × GetsRowsEverywhere address table version result old new before after told_before told_after)
      ⊎ ((fault : CommandFault) × NamesTable named table (Err fault) × (result ≡ Err fault) × (new ≡ old) × (after ≡ before) × (told_after ≡ told_before))

  -- the exit status tells how it ended; a fault is reported behind the lines of the locations
  abbrev pub RunsEverywhere : ℕ → Option (List ConnectionEvent) → Option (List ConnectionEvent) → (before after told_before told_after : Option (List ℕ)) → Type 0
  RunsEverywhere status old new before after told_before told_after =
      (result : Result (Unit {0}) CommandFault) × (told : Option (List ℕ)) × (status ≡ status_of result)
      × GetsEverywhereAsked result old new before after told_before told × OnOk result (Keeps told told_after)
