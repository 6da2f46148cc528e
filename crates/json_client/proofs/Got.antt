-- What came of a ticket, and the lines that were written of it.
use Rattle.std.proofs.Common.{ℕ, List, Option, Some, None, Result, Ok, Err, IfErr}
use Rattle.grpc_frames.specs.FrameFaults.{WhereKnown}
use Rattle.header_types.specs.Views.{schema_of}
use Rattle.table_types.specs.Ticket.{TableVersion}
use Rattle.downloads.specs.declared.download.Download.{Download}
use Rattle.downloads.specs.Taken.{GivesDownload, HasDownload, downloaded_in}
use Rattle.client_calls.specs.Answers.{Receives, Requests}
use Rattle.client_calls.specs.Requests.{get_request}
use Rattle.json_client.specs.declared.fault.RowCallFault.{RowCallFault}
use Rattle.json_client.specs.declared.fault.RowCallFault.TheVariants as faults
use Rattle.json_client.specs.Prints.{IsOfPrinting, Prints, RefusesUntold, batches_in}
use Rattle.json_client.specs.Gets.{GetsRows, RequestsRows}

module _ (download : Download) where
  asked_whole : (asked : TableVersion) (result : Result (Unit {0}) RowCallFault) (old new : List ℕ) → IfErr result IsOfPrinting → Requests (Ok download) (get_request asked) old new
      → RequestsRows asked result old new
  asked_whole asked (Ok done) old new kind h = h
  asked_whole asked (Err (faults.Call fault)) old new kind h = absurd kind
  asked_whole asked (Err (faults.Rows fault)) old new kind h = h
  asked_whole asked (Err (faults.Upload fault)) old new kind h = absurd kind
  asked_whole asked (Err faults.Output) old new kind h = h

  pub rows_asked : (asked : TableVersion) (result : Result (Unit {0}) RowCallFault) (old new : Option (List ℕ)) → IfErr result IsOfPrinting
      → WhereKnown old new (Requests (Ok download) (get_request asked)) → WhereKnown old new (RequestsRows asked result)
  rows_asked asked result None new kind h = tt
  rows_asked asked result (Some old) None kind h = absurd h
  rows_asked asked result (Some old) (Some new) kind h = asked_whole asked result old new kind h

  pub rows_got : (here there before after : Option (List ℕ)) (result : Result (Unit {0}) RowCallFault) → IfErr result IsOfPrinting
      → WhereKnown here there (Receives GivesDownload HasDownload (Ok download))
      → WhereKnown before after (Prints (schema_of download.schema).fields (batches_in (downloaded_in download)) result)
      → RefusesUntold (schema_of download.schema).fields (batches_in (downloaded_in download)) result → GetsRows here there before after result
  rows_got here there before after (Ok done) kind told written cell = record { download = download; told = told; written = written; cell = cell }
  rows_got here there before after (Err (faults.Call fault)) kind told written cell = absurd kind
  rows_got here there before after (Err (faults.Rows fault)) kind told written cell = record { download = download; told = told; written = written; cell = cell }
  rows_got here there before after (Err (faults.Upload fault)) kind told written cell = absurd kind
  rows_got here there before after (Err faults.Output) kind told written cell = record { download = download; told = told; written = written; cell = cell }
