-- What is written of a script: the line of each of its calls, and whether what was answered is confirmed.
use Rattle.std.specs.Prelude.{ℕ, zero, suc, Option, List, codes}
use Rattle.std.specs.Io.KnownBytes.{Appends, Keeps}
use Rattle.run_files.specs.declared.script.ClusterSize.{ClusterSize}
use Rattle.run_files.specs.declared.script.ScriptCall.{ScriptCall}
use Rattle.run_files.specs.ScriptFile.{MeansScript}
use Rattle.script_calls.specs.declared.told.Told.{Told}
use Rattle.script_calls.specs.Lines.{line_of}

-- the file tells no script
abbrev pub MeansNoScript : List ℕ → Type 0
MeansNoScript file = (nodes : ClusterSize) (calls : List ScriptCall) → MeansScript file nodes calls → ⊥

-- the lines of so many calls were written, from call 0 on, each of what was told to it
abbrev pub WritesLines : Option (List ℕ) → ℕ → Option (List ℕ) → Type 0
WritesLines before zero after = Keeps before after
WritesLines before (suc count) after =
    (between : Option (List ℕ)) × (told : Told) × WritesLines before count between × Appends between after (line_of count told)

-- the last line, where each answer stands in the journal
abbrev pub confirmed_line : List ℕ
confirmed_line = codes "receipts ok\n"

-- the last line, where one does not
abbrev pub unconfirmed_line : List ℕ
unconfirmed_line = codes "receipts bad\n"

-- the lines of so many calls, and this one behind them
abbrev pub WritesAll : Option (List ℕ) → ℕ → List ℕ → Option (List ℕ) → Type 0
WritesAll before count last after =
    (between : Option (List ℕ)) × WritesLines before count between × Appends between after last
