-- The numbers among the words, and the folder of a cluster.
use Rattle.std.specs.Prelude.{◌≡◌, ◌≢◌, ◌⊎◌, [], ◌<◌, ◌≤◌, ◌^◌, ℕ, Option, Some, None, Result, Ok, Err}
use Rattle.std.specs.Str.Parse.{IsNumeral, digits_value}
use Rattle.clap.specs.Words.{Text}
use Rattle.command_line.specs.declared.numbers.Served.{Served}
use Rattle.command_line.specs.declared.numbers.WordsFault.{WordsFault}
use Rattle.command_line.specs.declared.numbers.WordsFault.TheVariants as fault

-- the text is decimal digits, one or more, that write the number
abbrev pub Writes : Text → ℕ → Type 0
Writes text n = IsNumeral 10 text × (digits_value 10 text ≡ n)

-- so is an option's value, where it is there, and else the number is the default
abbrev pub Gives : ℕ → Option Text → ℕ → Type 0
Gives default None n = n ≡ default
Gives default (Some text) n = Writes text n

-- how many nodes a cluster may have
abbrev pub IsNodes : ℕ → Type 0
IsNodes n = (n ≡ 3) ⊎ (n ≡ 5)

-- the port that the first of them may have
abbrev pub IsPort : ℕ → Type 0
IsPort n = (1024 ≤ n) × (n ≤ 65000)

-- the folder that an option's value names, which has a name
abbrev pub HasFolder : Option Text → Text → Type 0
HasFolder folder text = (folder ≡ Some text) × (text ≢ [])

-- how many seconds a put may wait to be decided: those of a day at most
abbrev pub IsWait : ℕ → Type 0
IsWait n = (1 ≤ n) × (n ≤ 86400)

-- what the values of four options, of the nodes, of the port, of the folder and of the wait, ask for, and why they ask for nothing
abbrev pub ServedBy : Option Text → Option Text → Option Text → Option Text → Result Served WordsFault → Type 0
ServedBy nodes port folder wait (Ok served) =
    Gives 3 nodes served.nodes × IsNodes served.nodes × Gives 42000 port served.port × IsPort served.port × HasFolder folder served.folder.now
    × Gives 60 wait served.wait × IsWait served.wait
ServedBy nodes port folder wait (Err fault.Nodes) = (n : ℕ) → Gives 3 nodes n → ¬ IsNodes n
ServedBy nodes port folder wait (Err fault.Port) = ((n : ℕ) × Gives 3 nodes n × IsNodes n) × ((n : ℕ) → Gives 42000 port n → ¬ IsPort n)
ServedBy nodes port folder wait (Err fault.Folder) =
    ((n : ℕ) × Gives 3 nodes n × IsNodes n) × ((n : ℕ) × Gives 42000 port n × IsPort n) × ((text : Text) → ¬ HasFolder folder text)
ServedBy nodes port folder wait (Err fault.Wait) =
    ((n : ℕ) × Gives 3 nodes n × IsNodes n) × ((n : ℕ) × Gives 42000 port n × IsPort n) × ((text : Text) × HasFolder folder text)
    × ((n : ℕ) → Gives 60 wait n → ¬ IsWait n)
ServedBy nodes port folder wait (Err fault.Version) = ⊥

-- the versions of a table have numbers from 1 on, of 64 bits
abbrev pub IsVersion : ℕ → Type 0
IsVersion n = (1 ≤ n) × (n < 2 ^ 64)

-- what the text of a version says, and why it says nothing
abbrev pub VersionBy : Text → Result ℕ WordsFault → Type 0
VersionBy text (Ok n) = Writes text n × IsVersion n
VersionBy text (Err fault.Version) = (n : ℕ) → Writes text n → ¬ IsVersion n
VersionBy text (Err fault.Nodes) = ⊥
VersionBy text (Err fault.Port) = ⊥
VersionBy text (Err fault.Folder) = ⊥
VersionBy text (Err fault.Wait) = ⊥
