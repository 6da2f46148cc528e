-- What a get of rows asks for, what it is told, and which lines are written of that. A request and its answer are those of
-- `client_calls`, and a download that of `downloads`.
use Rattle.std.specs.Prelude.{◌≡◌, ℕ, List, ◌++◌, Option, Result, Ok, Err}
use Rattle.grpc_frames.specs.FrameFaults.{WhereKnown}
use Rattle.header_types.specs.Views.{schema_of}
use Rattle.table_types.specs.Ticket.{TableVersion}
use Rattle.downloads.specs.declared.download.Download.{Download}
use Rattle.downloads.specs.Taken.{GivesDownload, HasDownload, downloaded_in}
use Rattle.client_calls.specs.Answers.{Receives, Requests}
use Rattle.client_calls.specs.Requests.{get_request}
use Rattle.json_client.specs.declared.fault.RowCallFault.{RowCallFault}
use Rattle.json_client.specs.declared.fault.RowCallFault.TheVariants as faults
use Rattle.json_client.specs.Prints.{Prints, RefusesUntold, batches_in}

-- what has gone out: the request for the version, or a beginning of it where it could not be written
abbrev pub RequestsRows : TableVersion → Result (Unit {0}) RowCallFault → List ℕ → List ℕ → Type 0
RequestsRows asked (Ok done) old new = new ≡ old ++ get_request asked
RequestsRows asked (Err (faults.Call fault)) old new = Requests {T = Download} (Err fault) (get_request asked) old new
RequestsRows asked (Err (faults.Rows fault)) old new = new ≡ old ++ get_request asked
RequestsRows asked (Err (faults.Upload fault)) old new = ⊥
RequestsRows asked (Err faults.Output) old new = new ≡ old ++ get_request asked

-- this download came back, and its lines were written, or a beginning of them
pub record PrintsWhatCame (here there before after : Option (List ℕ)) (result : Result (Unit {0}) RowCallFault) : Type 0 where
  pub download : Download
  pub told : WhereKnown here there (Receives GivesDownload HasDownload (Ok download))
  pub written : WhereKnown before after (Prints (schema_of download.schema).fields (batches_in (downloaded_in download)) result)
  pub cell : RefusesUntold (schema_of download.schema).fields (batches_in (downloaded_in download)) result

-- what came back, from a reader that had this and has that left, and what was written of it, where that stood and this stands; of
-- a call without an answer nothing is
abbrev pub GetsRows : Option (List ℕ) → Option (List ℕ) → Option (List ℕ) → Option (List ℕ) → Result (Unit {0}) RowCallFault → Type 0
GetsRows here there before after (Ok done) = PrintsWhatCame here there before after (Ok done)
GetsRows here there before after (Err (faults.Call fault)) =
    WhereKnown here there (Receives GivesDownload HasDownload (Err fault)) × (after ≡ before)
GetsRows here there before after (Err (faults.Rows fault)) = PrintsWhatCame here there before after (Err (faults.Rows fault))
GetsRows here there before after (Err (faults.Upload fault)) = ⊥
GetsRows here there before after (Err faults.Output) = PrintsWhatCame here there before after (Err faults.Output)
