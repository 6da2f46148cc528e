-- A put of rows, by how it ended.
use Rattle.std.proofs.Common.{◌≡◌, ℕ, List, Option, Result, Ok, Err, IfErr, refl, subst, sym}
use Rattle.std.specs.declared.net.socket_addr.SocketAddrV4.{SocketAddrV4}
use Rattle.grpc_frames.specs.FrameFaults.{WhereKnown}
use Rattle.header_types.specs.Fields.{SchemaTree}
use Rattle.table_types.specs.Uploads.{Upload}
use Rattle.client_calls.specs.Requests.{put_request}
use Rattle.client_calls.specs.Results.{GivesVersion, HasVersion}
use Rattle.json_client.specs.declared.fault.RowCallFault.{RowCallFault}
use Rattle.json_client.specs.declared.fault.RowCallFault.TheVariants as rows
use Rattle.json_client.specs.Puts.{IsUploadOfRows, MakesNoUpload}
use Rattle.client_connections.specs.Events.{ConnectionEvent}
use Rattle.client_command.specs.declared.fault.CommandFault.{CommandFault}
use Rattle.client_command.specs.declared.fault.CommandFault.TheVariants as faults
use Rattle.client_command.specs.Faults.{fault_of_rows}
use Rattle.client_command.specs.Calls.{Calls}
use Rattle.client_command.specs.Writing.{IsOfLines, WritesText, put_line}
use Rattle.client_command.specs.Puts.{PutsAt}

module _ (address : SocketAddrV4) (table id : List ℕ) (given : Option SchemaTree) (text : List ℕ) where
  -- the lines make no upload
  unmade : (fault : RowCallFault) (log : Option (List ConnectionEvent)) (held : Option (List ℕ)) → MakesNoUpload table id given text fault
      → PutsAt address table id given text (Err (fault_of_rows fault)) log log held held
  unmade (rows.Call fault) log held none = absurd none
  unmade (rows.Rows fault) log held none = (none, (refl, refl))
  unmade (rows.Upload fault) log held none = (none, (refl, refl))
  unmade rows.Output log held none = absurd none

  pub not_made : (fault : RowCallFault) (told : CommandFault) (log : Option (List ConnectionEvent)) (held : Option (List ℕ)) → MakesNoUpload table id given text fault → told ≡ fault_of_rows fault
      → PutsAt address table id given text (Err told) log log held held
  not_made fault told log held none is =
      subst (λ (f : CommandFault). PutsAt address table id given text (Err f) log log held held) (sym is) (unmade fault log held none)

  module _ (upload : Upload) (made : IsUploadOfRows table id given text upload) (old new : Option (List ConnectionEvent)) (before after : Option (List ℕ)) where
    -- the upload was taken, and its line was printed, or a beginning of it
    taken_as : (version : ℕ) (result : Result (Unit {0}) CommandFault) → IfErr result IsOfLines → Calls address (put_request upload) (GivesVersion id) (HasVersion id) (Ok version) old new
        → WhereKnown before after (WritesText (put_line id version) result) → PutsAt address table id given text result old new before after
    taken_as version (Ok done) kind put told = record { upload = upload; made = made; version = version; put = put; told = told }
    taken_as version (Err faults.Io) kind put told = record { upload = upload; made = made; version = version; put = put; told = told }
    taken_as version (Err faults.OutOfMemory) kind put told = record { upload = upload; made = made; version = version; put = put; told = told }
    taken_as version (Err faults.BadAddress) kind put told = absurd kind
    taken_as version (Err faults.BadId) kind put told = absurd kind
    taken_as version (Err faults.BadTable) kind put told = absurd kind
    taken_as version (Err (faults.Connect fault)) kind put told = absurd kind
    taken_as version (Err (faults.Call fault)) kind put told = absurd kind
    taken_as version (Err (faults.Rows fault)) kind put told = absurd kind
    taken_as version (Err (faults.Upload fault)) kind put told = absurd kind
    taken_as version (Err faults.BadLocation) kind put told = absurd kind
    taken_as version (Err faults.Differs) kind put told = absurd kind

    pub taken : (version : ℕ) (result : Result (Unit {0}) CommandFault) → IfErr result IsOfLines → Calls address (put_request upload) (GivesVersion upload.id) (HasVersion upload.id) (Ok version) old new
        → WhereKnown before after (WritesText (put_line id version) result) → PutsAt address table id given text result old new before after
    taken version result kind put told =
        taken_as version result kind (subst (λ (i : List ℕ). Calls address (put_request upload) (GivesVersion i) (HasVersion i) (Ok version) old new) made.id_is put) told

  module _ (upload : Upload) (made : IsUploadOfRows table id given text upload) (old new : Option (List ConnectionEvent)) (held : Option (List ℕ)) where
    -- the upload was not taken, or what it made was not told
    vain_as : (fault : CommandFault) → Calls {T = ℕ} address (put_request upload) (GivesVersion id) (HasVersion id) (Err fault) old new
        → PutsAt address table id given text (Err fault) old new held held
    vain_as (faults.Connect fault) put = record { upload = upload; made = made; put = put; silent = refl }
    vain_as (faults.Call fault) put = record { upload = upload; made = made; put = put; silent = refl }
    vain_as faults.Io put = absurd put
    vain_as faults.OutOfMemory put = absurd put
    vain_as faults.BadAddress put = absurd put
    vain_as faults.BadId put = absurd put
    vain_as faults.BadTable put = absurd put
    vain_as (faults.Rows fault) put = absurd put
    vain_as (faults.Upload fault) put = absurd put
    vain_as faults.BadLocation put = absurd put
    vain_as faults.Differs put = absurd put

    pub in_vain : (fault : CommandFault) → Calls {T = ℕ} address (put_request upload) (GivesVersion upload.id) (HasVersion upload.id) (Err fault) old new
        → PutsAt address table id given text (Err fault) old new held held
    in_vain fault put =
        vain_as fault (subst (λ (i : List ℕ). Calls {T = ℕ} address (put_request upload) (GivesVersion i) (HasVersion i) (Err fault) old new) made.id_is put)
