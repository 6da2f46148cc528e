-- What a put of rows sends, what it is told, and what is printed of that. Which upload is made of lines is that of
-- `json_client`.
use Rattle.std.specs.Prelude.{◌≡◌, ℕ, List, Option, Result, Ok, Err}
use Rattle.std.specs.declared.net.socket_addr.SocketAddrV4.{SocketAddrV4}
use Rattle.grpc_frames.specs.FrameFaults.{WhereKnown}
use Rattle.header_types.specs.Fields.{SchemaTree}
use Rattle.table_types.specs.Uploads.{Upload}
use Rattle.client_calls.specs.Requests.{put_request}
use Rattle.client_calls.specs.Results.{GivesVersion, HasVersion}
use Rattle.json_client.specs.declared.fault.RowCallFault.TheVariants as rows
use Rattle.json_client.specs.Puts.{IsUploadOfRows, MakesNoUpload}
use Rattle.client_connections.specs.Events.{ConnectionEvent}
use Rattle.client_command.specs.declared.fault.CommandFault.{CommandFault}
use Rattle.client_command.specs.declared.fault.CommandFault.TheVariants as faults
use Rattle.client_command.specs.Faults.{status_of}
use Rattle.client_command.specs.Calls.{Calls}
use Rattle.client_command.specs.Writing.{DoesNothing, WritesText, put_line}

module _ (address : SocketAddrV4) (table id : List ℕ) (given : Option SchemaTree) (text : List ℕ) where
  -- an upload of the rows was put, and made a version, whose line was printed, or a beginning of it
  pub record PutsAndTells (result : Result (Unit {0}) CommandFault) (old new : Option (List ConnectionEvent)) (before after : Option (List ℕ)) : Type 0 where
    pub upload : Upload
    pub made : IsUploadOfRows table id given text upload
    pub version : ℕ
    pub put : Calls address (put_request upload) (GivesVersion id) (HasVersion id) (Ok version) old new
    pub told : WhereKnown before after (WritesText (put_line id version) result)

  -- an upload of the rows was not put, or what it made was not told, and nothing was printed
  pub record PutsInVain (fault : CommandFault) (old new : Option (List ConnectionEvent)) (before after : Option (List ℕ)) : Type 0 where
    pub upload : Upload
    pub made : IsUploadOfRows table id given text upload
    pub put : Calls {T = ℕ} address (put_request upload) (GivesVersion id) (HasVersion id) (Err fault) old new
    pub silent : after ≡ before

  abbrev pub PutsAt : Result (Unit {0}) CommandFault → Option (List ConnectionEvent) → Option (List ConnectionEvent) → Option (List ℕ) → Option (List ℕ) → Type 0
  PutsAt (Ok done) old new before after = PutsAndTells (Ok done) old new before after
  PutsAt (Err faults.Io) old new before after = PutsAndTells (Err faults.Io) old new before after
  PutsAt (Err faults.OutOfMemory) old new before after = PutsAndTells (Err faults.OutOfMemory) old new before after
  PutsAt (Err (faults.Connect fault)) old new before after = PutsInVain (faults.Connect fault) old new before after
  PutsAt (Err (faults.Call fault)) old new before after = PutsInVain (faults.Call fault) old new before after
  PutsAt (Err (faults.Rows fault)) old new before after =
      MakesNoUpload table id given text (rows.Rows fault) × DoesNothing old new before after
  PutsAt (Err (faults.Upload fault)) old new before after =
      MakesNoUpload table id given text (rows.Upload fault) × DoesNothing old new before after
  PutsAt (Err faults.BadAddress) old new before after = ⊥
  PutsAt (Err faults.BadId) old new before after = ⊥
  PutsAt (Err faults.BadTable) old new before after = ⊥
  PutsAt (Err faults.BadLocation) old new before after = ⊥
  PutsAt (Err faults.Differs) old new before after = ⊥

  -- the exit status tells how it ended
  abbrev pub RunsPut : ℕ → Option (List ConnectionEvent) → Option (List ConnectionEvent) → Option (List ℕ) → Option (List ℕ) → Type 0
  RunsPut status old new before after =
      (result : Result (Unit {0}) CommandFault) × (status ≡ status_of result) × PutsAt result old new before after
