-- A get of rows, by how it ended.
use Rattle.std.proofs.Common.{ℕ, List, [], Option, Some, None, Result, Ok, Err, IfErr, sym, subst, append-nil}
use Rattle.std.specs.Io.KnownBytes.{Keeps}
use Rattle.std.specs.declared.net.socket_addr.SocketAddrV4.{SocketAddrV4}
use Rattle.grpc_frames.specs.FrameFaults.{WhereKnown}
use Rattle.header_types.specs.Fields.{Forest}
use Rattle.header_types.specs.Views.{schema_of}
use Rattle.batch_types.specs.Cells.{Rows}
use Rattle.table_types.specs.Ticket.{TableVersion}
use Rattle.downloads.specs.declared.download.Download.{Download}
use Rattle.downloads.specs.Taken.{GivesDownload, HasDownload, downloaded_in}
use Rattle.client_calls.specs.Requests.{get_request}
use Rattle.json_client.specs.declared.fault.RowCallFault.TheVariants as rows
use Rattle.json_client.specs.Prints.{Prints, batches_in}
use Rattle.client_connections.specs.Events.{ConnectionEvent}
use Rattle.client_command.specs.declared.fault.CommandFault.{CommandFault}
use Rattle.client_command.specs.declared.fault.CommandFault.TheVariants as faults
use Rattle.client_command.specs.Calls.{Calls}
use Rattle.client_command.specs.Printed.{IsOfRows, PrintsRows}
use Rattle.client_command.specs.Gets.{GetsAt}

-- ---- lines of rows

module _ (fields : Forest) (batches : List Rows) where
  -- all lines were printed, and then the writer could not be flushed
  whole_cut : (old new : List ℕ) → Prints fields batches (Ok tt) old new → Prints fields batches (Err rows.Output) old new
  whole_cut old new p = (
    p.0,
    record { first = batches; others = []; parts = sym (append-nil batches); text = p.0; is_text = p.1; beginning = ([], append-nil p.0) },
    p.2,
  )

  pub cut_rows : (old mid new : Option (List ℕ)) → WhereKnown old mid (Prints fields batches (Ok tt)) → Keeps mid new → WhereKnown old new (PrintsRows fields batches (Err faults.Io))
  cut_rows None mid new p k = tt
  cut_rows (Some old) None new p k = absurd p
  cut_rows (Some old) (Some mid) None p k = absurd k
  cut_rows (Some old) (Some mid) (Some new) p k = whole_cut old new (subst (λ (l : List ℕ). Prints fields batches (Ok tt) old l) (sym k) p)

-- ---- a version

module _ (address : SocketAddrV4) (asked : TableVersion) (old new : Option (List ConnectionEvent)) (before after : Option (List ℕ)) where
  -- it came, and its lines were printed, or a beginning of them
  pub came : (download : Download) (result : Result (Unit {0}) CommandFault) → IfErr result IsOfRows → Calls address (get_request asked) GivesDownload HasDownload (Ok download) old new
      → WhereKnown before after (PrintsRows (schema_of download.schema).fields (batches_in (downloaded_in download)) result) → GetsAt address asked result old new before after
  came download (Ok done) kind got printed = record { download = download; got = got; printed = printed }
  came download (Err faults.Io) kind got printed = record { download = download; got = got; printed = printed }
  came download (Err (faults.Rows fault)) kind got printed = record { download = download; got = got; printed = printed }
  came download (Err faults.OutOfMemory) kind got printed = absurd kind
  came download (Err faults.BadAddress) kind got printed = absurd kind
  came download (Err faults.BadId) kind got printed = absurd kind
  came download (Err faults.BadTable) kind got printed = absurd kind
  came download (Err (faults.Connect fault)) kind got printed = absurd kind
  came download (Err (faults.Call fault)) kind got printed = absurd kind
  came download (Err (faults.Upload fault)) kind got printed = absurd kind
  came download (Err faults.BadLocation) kind got printed = absurd kind
  came download (Err faults.Differs) kind got printed = absurd kind
