-- Which lines are written of a download. What lines tell is that of `json_rows`, and a download that of `downloads`.
use Rattle.std.specs.Prelude.{◌≡◌, ℕ, List, [], ◌∷◌, ◌++◌, Result, Ok, Err, IfErr}
use Rattle.std.specs.List.{flat_map}
use Rattle.serde_json.specs.Data.{Data}
use Rattle.grpc_frames.specs.FrameFaults.{IsBeginning}
use Rattle.header_types.specs.Fields.{Forest}
use Rattle.batch_types.specs.Cells.{Rows}
use Rattle.batch_columns.specs.declared.batch.Batch.{Batch}
use Rattle.batch_columns.specs.Batches.{rows_of}
use Rattle.downloads.specs.declared.download.ServedUpload.{ServedUpload as Served}
use Rattle.downloads.specs.Downloads.{Downloaded, ServedUpload}
use Rattle.json_rows.specs.Lines.{EndsLines, IsOfCell, TellsBatches, TellsValues}
use Rattle.json_client.specs.declared.fault.RowCallFault.{RowCallFault}
use Rattle.json_client.specs.declared.fault.RowCallFault.TheVariants as faults

-- the batches of a download, in the order of its uploads
abbrev pub batches_in : Downloaded → List Rows
batches_in downloaded = flat_map (λ (served : ServedUpload). served.batches) downloaded.uploads

-- the lines of the text, each with its line feed, tell the rows of these batches, one batch behind the other
pub record IsTextOf (fields : Forest) (batches : List Rows) (text : List ℕ) : Type 0 where
  pub values : List Data
  pub told : TellsValues text values
  pub rows : TellsBatches fields values batches
  pub ends : EndsLines text

-- it is a beginning of the lines of the first of these batches
pub record BeginsTextOf (fields : Forest) (batches : List Rows) (written : List ℕ) : Type 0 where
  pub first : List Rows
  pub others : List Rows
  pub parts : batches ≡ first ++ others
  pub text : List ℕ
  pub is_text : IsTextOf fields first text
  pub beginning : IsBeginning written text

-- what was written behind what stood there: the lines of the batches, or after a fault a beginning of the lines of some of them
abbrev pub Prints : Forest → List Rows → Result (Unit {0}) RowCallFault → List ℕ → List ℕ → Type 0
Prints fields batches (Ok done) old new = (text : List ℕ) × IsTextOf fields batches text × (new ≡ old ++ text)
Prints fields batches (Err fault) old new = (written : List ℕ) × BeginsTextOf fields batches written × (new ≡ old ++ written)

-- the fault is told of rows that have no lines, or of a write that failed
abbrev pub IsOfPrinting : RowCallFault → Type 0
IsOfPrinting (faults.Call fault) = ⊥
IsOfPrinting (faults.Rows fault) = Unit {0}
IsOfPrinting (faults.Upload fault) = ⊥
IsOfPrinting faults.Output = Unit {0}

-- the fault says that a cell has no value
abbrev pub RefusesCell : RowCallFault → Type 0
RefusesCell (faults.Call fault) = ⊥
RefusesCell (faults.Rows fault) = IsOfCell fault
RefusesCell (faults.Upload fault) = ⊥
RefusesCell faults.Output = ⊥

-- a cell is refused only where no values tell the rows of these batches
abbrev pub RefusesUntold : Forest → List Rows → Result (Unit {0}) RowCallFault → Type 0
RefusesUntold fields batches result =
    (values : List Data) → TellsBatches fields values batches → IfErr result (λ fault. RefusesCell fault → ⊥)

-- ---- for private clauses: the batches of a part

-- of a batch
abbrev pub rows_alone : Batch → List Rows
rows_alone batch = rows_of batch ∷ []

-- of an upload that was served
abbrev pub rows_served : Served → List Rows
rows_served served = flat_map rows_alone served.batches.items
