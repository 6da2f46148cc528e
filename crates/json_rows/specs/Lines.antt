-- Rows as lines of JSON (RFC 8259; JSON Lines, "Line Terminator is '\n'"): a line is an object with a member for each field of
-- the row.
use Rattle.std.specs.Prelude.{◌≡◌, ◌==◌, ◌||◌, ℕ, Bool, false, List, [], ◌∷◌, ◌++◌, map, take, get_or, length, if◌then◌else◌, Some, IsUtf8}
use Rattle.std.specs.List.{AllByRecursion, AllZip}
use Rattle.std.specs.declared.alloc.Global.{Global}
use Rattle.std.proofs.Common.{Vec}
use Rattle.serde_json.specs.Data.{Data}
use Rattle.serde_json.specs.Read.{read as read_text}
use Rattle.header_types.specs.Fields.{Tree, Forest, no_more, more}
use Rattle.batch_types.specs.Cells.{Cell, null_cell, Rows}
use Rattle.batch_cells.specs.declared.cell.Cell.{Cell as Plain}
use Rattle.batch_cells.specs.CellViews.{cell_of}
use Rattle.json_rows.specs.declared.fault.JsonFault.{JsonFault}
use Rattle.json_rows.specs.declared.fault.JsonFault.TheVariants as rows
use Rattle.json_rows.specs.Cells.{IsObjectOf, TellsCell, TellsFields, name_of, told_at}

-- ---- lines

-- the lines, where a byte that is no line feed goes before them
abbrev pub begin_with : ℕ → List (List ℕ) → List (List ℕ)
begin_with byte [] = (byte ∷ []) ∷ []
begin_with byte (line ∷ lines) = (byte ∷ line) ∷ lines

-- each line feed ends a line, and belongs to none; behind the last one stands a line only where something stands there
abbrev pub lines_of : List ℕ → List (List ℕ)
lines_of [] = []
lines_of (byte ∷ text) = if byte == 10 then [] ∷ lines_of text else begin_with byte (lines_of text)

abbrev pub has_feed : List ℕ → Bool
has_feed [] = false
has_feed (byte ∷ text) = byte == 10 || has_feed text

-- the last line ends with a line feed, so that what is put behind the text begins a line of its own
abbrev pub EndsLines : List ℕ → Type 0
EndsLines text = (behind : List ℕ) → lines_of (text ++ behind) ≡ lines_of text ++ lines_of behind

-- the line is the text of a value
pub record TellsLine (line : List ℕ) (d : Data) : Type 0 where
  pub is_text : IsUtf8 line
  pub value : read_text line ≡ Some d

-- the text tells these values, a line each
abbrev pub TellsValues : List ℕ → List Data → Type 0
TellsValues text values = AllZip TellsLine (lines_of text) values

-- ---- rows

-- the values tell the cells of the field, an object each
abbrev pub TellsColumn : List Data → Tree → List Cell → Type 0
TellsColumn values t cells = AllZip (λ d cell. TellsCell t (told_at (name_of t) d) cell) values cells

abbrev pub TellsColumns : Forest → List Data → List (List Cell) → Type 0
TellsColumns no_more values [] = Unit {0}
TellsColumns no_more values (cells ∷ columns) = ⊥
TellsColumns (more t rest) values [] = ⊥
TellsColumns (more t rest) values (cells ∷ columns) = TellsColumn values t cells × TellsColumns rest values columns

-- the values are objects that have no other members than the fields, and tell a row each
pub record TellsRows (fields : Forest) (values : List Data) (rows : Rows) : Type 0 where
  pub count : rows.count ≡ length values
  pub objects : AllByRecursion (IsObjectOf fields) values
  pub columns : TellsColumns fields values rows.columns

-- of one batch after the other
abbrev pub TellsBatches : Forest → List Data → List Rows → Type 0
TellsBatches fields values [] = values ≡ []
TellsBatches fields values (rows ∷ batches) =
    (here : List Data) × (rest : List Data) × (values ≡ here ++ rest) × TellsRows fields here rows × TellsBatches fields rest batches

-- a row is told
abbrev pub TellsSomeRow : Forest → Data → Type 0
TellsSomeRow fields d = (cells : List Cell) × TellsFields fields d cells

-- the fault says that a line tells no row
abbrev pub IsOfLines : JsonFault → Type 0
IsOfLines rows.BadSchema = ⊥
IsOfLines rows.NoRows = ⊥
IsOfLines rows.SameNames = ⊥
IsOfLines (rows.Line line fault) = Unit {0}
IsOfLines (rows.Cell line field fault) = Unit {0}
IsOfLines (rows.TooLarge line) = ⊥
IsOfLines rows.OutOfMemory = ⊥

-- the fault says that a cell has no value, or that a value tells no cell
abbrev pub IsOfCell : JsonFault → Type 0
IsOfCell rows.BadSchema = ⊥
IsOfCell rows.NoRows = ⊥
IsOfCell rows.SameNames = ⊥
IsOfCell (rows.Line line fault) = ⊥
IsOfCell (rows.Cell line field fault) = Unit {0}
IsOfCell (rows.TooLarge line) = ⊥
IsOfCell rows.OutOfMemory = ⊥

-- the fault says nothing of a row
abbrev pub IsOfSchema : JsonFault → Type 0
IsOfSchema rows.BadSchema = Unit {0}
IsOfSchema rows.NoRows = Unit {0}
IsOfSchema rows.SameNames = Unit {0}
IsOfSchema (rows.Line line fault) = ⊥
IsOfSchema (rows.Cell line field fault) = ⊥
IsOfSchema (rows.TooLarge line) = ⊥
IsOfSchema rows.OutOfMemory = ⊥

-- ---- for private clauses: what is written

-- the cell of a row
abbrev pub cell_at : ℕ → Vec Plain Global → Cell
cell_at row cells = get_or (map cell_of cells.items) row null_cell

-- lines, with a line feed behind each
abbrev pub text_of : List (List ℕ) → List ℕ
text_of [] = []
text_of (line ∷ lines) = (line ++ 10 ∷ []) ++ text_of lines

-- the new text has one line more, which tells the row
pub record WritesLine (fields : Forest) (cells : List Cell) (old new : List ℕ) : Type 0 where
  pub line : List ℕ
  pub value : Data
  pub text : new ≡ old ++ (line ++ 10 ∷ [])
  pub whole : has_feed line ≡ false
  pub reads : TellsLine line value
  pub told : TellsFields fields value cells

-- the text has a line for each of the first rows of these columns
pub record WritesRows (fields : Forest) (columns : List (List Cell)) (rows : ℕ) (text : List ℕ) : Type 0 where
  pub lines : List (List ℕ)
  pub values : List Data
  pub text_is : text ≡ text_of lines
  pub whole : AllByRecursion (λ line. has_feed line ≡ false) lines
  pub read : AllZip TellsLine lines values
  pub count : length values ≡ rows
  pub objects : AllByRecursion (IsObjectOf fields) values
  pub told : TellsColumns fields values (map (take rows) columns)

-- the batches tell the values of the first lines of the text; what is left of it follows
pub record ReadsSome (fields : Forest) (text rest : List ℕ) (batches : List Rows) : Type 0 where
  pub lines : List (List ℕ)
  pub values : List Data
  pub cut : lines_of text ≡ lines ++ lines_of rest
  pub read : AllZip TellsLine lines values
  pub told : TellsBatches fields values batches
