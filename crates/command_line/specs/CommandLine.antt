-- The words that the program is called with, each as its bytes: the commands, what each takes, and what it asks for.
use Rattle.std.specs.Prelude.{ℕ, Bool, true, false, List, [], ◌∷◌, ◌++◌, map, fold, codes, Option, Some, None, unwrap_or, if◌then◌else◌}
use Rattle.std.specs.Option.{option_map_or}
use Rattle.std.specs.Str.{bytes_eq}
use Rattle.clap.specs.declared.builder.action.ArgAction.TheVariants.{SetTrue}
use Rattle.clap.specs.declared.parser.matches.ArgMatches.{ArgMatches}
use Rattle.command_line.specs.declared.words.Asked.{Asked as Declared}
use Rattle.command_line.specs.declared.words.Asked.TheVariants as declared
use Rattle.clap.specs.Words.{App, Rule, Text, first_of, new_app, new_rule, subcommand_rows_of, with_rule, with_subcommand}
use Rattle.std.specs.Prelude.{option_map}
use Rattle.std.specs.Borrow.{Bor}

-- what the program does
pub data Command : Type 0 where
  accepting : Command
  auditing : Command
  replaying : Command
  serving : Command
  scripting : Command
  showing : Command
  putting : Command
  getting : Command
  listing : Command
  informing : Command

-- the word for it
abbrev pub name_of : Command → Text
name_of accepting = codes "acceptor"
name_of auditing = codes "audit"
name_of replaying = codes "replay"
name_of serving = codes "serve"
name_of scripting = codes "script"
name_of showing = codes "records"
name_of putting = codes "put"
name_of getting = codes "get"
name_of listing = codes "list"
name_of informing = codes "info"

-- the command of a word, and the acceptor's where it is none
abbrev pub command_named : Text → Command
command_named name =
    if bytes_eq name (codes "audit") then auditing
    else if bytes_eq name (codes "replay") then replaying
    else if bytes_eq name (codes "serve") then serving
    else if bytes_eq name (codes "script") then scripting
    else if bytes_eq name (codes "records") then showing
    else if bytes_eq name (codes "put") then putting
    else if bytes_eq name (codes "get") then getting
    else if bytes_eq name (codes "list") then listing
    else if bytes_eq name (codes "info") then informing
    else accepting

-- ---- what a command takes behind its word

-- the names of the operands that have to be there, in their order, of those that may follow them, of the options with a value,
-- and of those without
pub record Takes : Type 0 where
  pub required : List Text
  pub optional : List Text
  pub options : List Text
  pub flags : List Text

-- nothing, and operands alone
abbrev pub operands_alone : List Text → Takes
operands_alone names = record { required = names; optional = []; options = []; flags = [] }

abbrev pub takes_of : Command → Takes
takes_of accepting = operands_alone []
takes_of auditing = record (operands_alone (codes "FILE" ∷ [])) { flags = codes "explain" ∷ [] }
takes_of replaying = operands_alone (codes "FILE" ∷ [])
takes_of serving = record (operands_alone []) {
  options = codes "nodes" ∷ codes "port" ∷ codes "data" ∷ codes "wait" ∷ [];
  flags = codes "resume" ∷ [];
}
takes_of scripting = operands_alone (codes "FILE" ∷ [])
takes_of showing = operands_alone (codes "FILE" ∷ [])
takes_of putting =
    record (operands_alone (codes "ADDRESS" ∷ codes "TABLE" ∷ codes "FILE" ∷ [])) { options = codes "id" ∷ codes "schema" ∷ [] }
takes_of getting =
    record (operands_alone (codes "ADDRESS" ∷ codes "TABLE" ∷ [])) { optional = codes "VERSION" ∷ []; flags = codes "all-locations" ∷ [] }
takes_of listing = operands_alone (codes "ADDRESS" ∷ [])
takes_of informing = operands_alone (codes "ADDRESS" ∷ codes "TABLE" ∷ [])

-- ---- the same, as the arguments of clap

-- an operand that has to be there
abbrev pub operand_rule : Text → Rule
operand_rule name = record (new_rule name) { required = true }

-- an option with a value, which the help gives a name
abbrev pub option_rule : Text → Rule
option_rule name = record (new_rule name) { long = Some name; value_names = 1 }

-- an option that has none
abbrev pub flag_rule : Text → Rule
flag_rule name = record (new_rule name) { long = Some name; action = Some SetTrue }

-- an operand that may be there has no rule but its name
abbrev pub rules_for : Takes → List Rule
rules_for t = map operand_rule t.required ++ map new_rule t.optional ++ map option_rule t.options ++ map flag_rule t.flags

abbrev pub app_for : Command → App
app_for command = fold with_rule (new_app (name_of command)) (rules_for (takes_of command))

-- the command has a version
abbrev pub with_version : App → App
with_version a = record a { top = record a.top { has_version = true } }

abbrev pub with_command : App → Command → App
with_command a command = with_subcommand a (app_for command).top

-- the commands that ask no server, and then those that ask one
abbrev pub local_commands : App → App
local_commands a = fold with_command a (accepting ∷ auditing ∷ replaying ∷ serving ∷ scripting ∷ showing ∷ [])

-- the program's words: its version, and its commands
abbrev pub command_line : App
command_line = fold with_command (local_commands (with_version (new_app (codes "flightd")))) (putting ∷ getting ∷ listing ∷ informing ∷ [])

-- ---- what is asked for

-- the acceptor; the audit of a file, its audit with the explanation, or its replay; a cluster, with the number of its
-- nodes, its first port, its folder and the seconds that a put waits, as far as these are told, and whether it goes
-- on over the records that are there; the script of a file; the records of a file; a put, with its address, table,
-- file, upload's id and schema; a get, with its address, table, version, and whether all locations are asked; the
-- tables at an address; or what is told of one of them
pub data Asked : Type 0 where
  acceptor : Asked
  audit : Text → Asked
  explain : Text → Asked
  replay : Text → Asked
  serve : Option Text → Option Text → Option Text → Option Text → Bool → Asked
  script : Text → Asked
  records : Text → Asked
  put : Text → Text → Text → Option Text → Option Text → Asked
  get : Text → Text → Option Text → Bool → Asked
  list : Text → Asked
  info : Text → Text → Asked

-- the same, as the program says it
abbrev pub text_of : Option (Bor Text) → Option Text
text_of = option_map (λ text. text.now)

abbrev pub asked_of : Declared → Asked
asked_of declared.Acceptor = acceptor
asked_of (declared.Audit file) = audit file.now
asked_of (declared.Explain file) = explain file.now
asked_of (declared.Replay file) = replay file.now
asked_of (declared.Serve nodes port folder wait is_resumed) =
    serve (text_of nodes) (text_of port) (text_of folder) (text_of wait) is_resumed
asked_of (declared.Script file) = script file.now
asked_of (declared.Records file) = records file.now
asked_of (declared.Put address table file id schema) = put address.now table.now file.now (text_of id) (text_of schema)
asked_of (declared.Get address table version all_locations) = get address.now table.now (text_of version) all_locations
asked_of (declared.List address) = list address.now
asked_of (declared.Info address table) = info address.now table.now

-- the value of an operand that is there
abbrev pub value_of : Option Text → Text
value_of value = unwrap_or value []

-- the value of an option that has none says that it is there
abbrev pub is_yes : Option Text → Bool
is_yes value = option_map_or (λ text. bytes_eq text (codes "true")) value false

-- by whether the audit is to be explained
abbrev pub audit_for : Bool → Text → Asked
audit_for true file = explain file
audit_for false file = audit file

-- what a command asks for, by the values under its names
abbrev pub asks : Command → (Text → Option Text) → Asked
asks accepting under = acceptor
asks auditing under = audit_for (is_yes (under (codes "explain"))) (value_of (under (codes "FILE")))
asks replaying under = replay (value_of (under (codes "FILE")))
asks serving under =
    serve (under (codes "nodes")) (under (codes "port")) (under (codes "data")) (under (codes "wait")) (is_yes (under (codes "resume")))
asks scripting under = script (value_of (under (codes "FILE")))
asks showing under = records (value_of (under (codes "FILE")))
asks putting under =
    put (value_of (under (codes "ADDRESS"))) (value_of (under (codes "TABLE"))) (value_of (under (codes "FILE"))) (under (codes "id")) (under (codes "schema"))
asks getting under =
    get (value_of (under (codes "ADDRESS"))) (value_of (under (codes "TABLE"))) (under (codes "VERSION")) (is_yes (under (codes "all-locations")))
asks listing under = list (value_of (under (codes "ADDRESS")))
asks informing under = info (value_of (under (codes "ADDRESS"))) (value_of (under (codes "TABLE")))

-- what a parse's matches ask for: the acceptor, where they name no command
abbrev pub asked_by : ArgMatches → Asked
asked_by matches = option_map_or (λ found. asks (command_named found.0) (λ name. first_of name found.1)) (subcommand_rows_of matches) acceptor
