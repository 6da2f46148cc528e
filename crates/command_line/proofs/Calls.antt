-- The calls of the program are taken, and ask for what their words say.
use Rattle.std.proofs.Common.{◌≡◌, true, false, List, [], ◌∷◌, Option, Some, None, codes, unwrap_or, inl, inr, refl, sym, subst, ap, ◌∙◌}
use Rattle.std.specs.Prelude.{find, fold}
use Rattle.std.specs.List.{list_all}
use Rattle.std.specs.Option.{option_map_or}
use Rattle.clap.specs.Simple.{Shape, built, label_of}
use Rattle.clap.specs.Walk.{Row, Text, answers_to, first_of, rows_after, with_default}
use Rattle.clap.specs.Words.{is_simple, is_simple_and_free, new_app, subcommand_of, subcommand_rows_of, takes}
use Rattle.clap.specs.declared.parser.matches.ArgMatches.{ArgMatches}
use Rattle.clap.proofs.OnLiterals.{clap_on_literals}
use Rattle.command_line.specs.Calls.{AreParts, AsksFor, Calls, IsCall, Part, under, values_in, words_of}
use Rattle.command_line.specs.CommandLine.{Asked, Command, acceptor, accepting, asked_by, asks, audit_for, auditing, command_line, command_named, get, getting, info, informing, is_yes, list, listing, name_of, put, putting, records, replay, replaying, script, scripting, serve, serving, showing, takes_of, value_of}
use Rattle.command_line.proofs.Enters.{Enters, rows_are, takes_is}
use Rattle.command_line.proofs.Rows.{flag_under, given_rows, is_no, is_other, value_under}
use Rattle.command_line.proofs.Walks.{Reads, parts_pass, rows_end}

pub is_plain : is_simple command_line ≡ true
unfolding clap_on_literals
is_plain = refl

pub is_free : is_simple_and_free command_line ≡ true
unfolding clap_on_literals
is_free = refl

-- ---- what is built of each command

shape_of : Command → Shape
shape_of command = unwrap_or (find (λ s. answers_to (name_of command) (label_of s)) (built command_line).subs) (new_app []).top

enters : (command : Command) → Enters command_line (name_of command) (shape_of command)
unfolding clap_on_literals shape_of
enters accepting = record { simple = refl; named_first = refl; meets = refl; passes = refl; found = refl; named = refl; defaults = refl; valid = refl }
enters auditing = record { simple = refl; named_first = refl; meets = refl; passes = refl; found = refl; named = refl; defaults = refl; valid = refl }
enters replaying = record { simple = refl; named_first = refl; meets = refl; passes = refl; found = refl; named = refl; defaults = refl; valid = refl }
enters serving = record { simple = refl; named_first = refl; meets = refl; passes = refl; found = refl; named = refl; defaults = refl; valid = refl }
enters scripting = record { simple = refl; named_first = refl; meets = refl; passes = refl; found = refl; named = refl; defaults = refl; valid = refl }
enters showing = record { simple = refl; named_first = refl; meets = refl; passes = refl; found = refl; named = refl; defaults = refl; valid = refl }
enters putting = record { simple = refl; named_first = refl; meets = refl; passes = refl; found = refl; named = refl; defaults = refl; valid = refl }
enters getting = record { simple = refl; named_first = refl; meets = refl; passes = refl; found = refl; named = refl; defaults = refl; valid = refl }
enters listing = record { simple = refl; named_first = refl; meets = refl; passes = refl; found = refl; named = refl; defaults = refl; valid = refl }
enters informing = record { simple = refl; named_first = refl; meets = refl; passes = refl; found = refl; named = refl; defaults = refl; valid = refl }

reads : (command : Command) → Reads (shape_of command) (takes_of command)
unfolding clap_on_literals shape_of
reads accepting = record {
  operands = tt;
  options = tt;
  flags = tt;
  defaults = refl;
  valid = λ rows given. given;
}
reads auditing = record {
  operands = ((true, refl, refl), tt);
  options = tt;
  flags = (record { mark = refl; long = refl; joined_mark = λ _. refl; joined_long = λ _. refl; by_long = refl; by_id = refl }, tt);
  defaults = refl;
  valid = λ rows given. given;
}
reads replaying = record {
  operands = ((true, refl, refl), tt);
  options = tt;
  flags = tt;
  defaults = refl;
  valid = λ rows given. given;
}
reads serving = record {
  operands = tt;
  options = (record { mark = refl; long = refl; joined_mark = λ _. refl; joined_long = λ _. refl; by_long = refl; by_id = refl }, (record { mark = refl; long = refl; joined_mark = λ _. refl; joined_long = λ _. refl; by_long = refl; by_id = refl }, (record { mark = refl; long = refl; joined_mark = λ _. refl; joined_long = λ _. refl; by_long = refl; by_id = refl }, (record { mark = refl; long = refl; joined_mark = λ _. refl; joined_long = λ _. refl; by_long = refl; by_id = refl }, tt))));
  flags = (record { mark = refl; long = refl; joined_mark = λ _. refl; joined_long = λ _. refl; by_long = refl; by_id = refl }, tt);
  defaults = refl;
  valid = λ rows given. given;
}
reads scripting = record {
  operands = ((true, refl, refl), tt);
  options = tt;
  flags = tt;
  defaults = refl;
  valid = λ rows given. given;
}
reads showing = record {
  operands = ((true, refl, refl), tt);
  options = tt;
  flags = tt;
  defaults = refl;
  valid = λ rows given. given;
}
reads putting = record {
  operands = ((true, refl, refl), ((true, refl, refl), ((true, refl, refl), tt)));
  options = (record { mark = refl; long = refl; joined_mark = λ _. refl; joined_long = λ _. refl; by_long = refl; by_id = refl }, (record { mark = refl; long = refl; joined_mark = λ _. refl; joined_long = λ _. refl; by_long = refl; by_id = refl }, tt));
  flags = tt;
  defaults = refl;
  valid = λ rows given. given;
}
reads getting = record {
  operands = ((true, refl, refl), ((true, refl, refl), ((false, refl, refl), tt)));
  options = tt;
  flags = (record { mark = refl; long = refl; joined_mark = λ _. refl; joined_long = λ _. refl; by_long = refl; by_id = refl }, tt);
  defaults = refl;
  valid = λ rows given. given;
}
reads listing = record {
  operands = ((true, refl, refl), tt);
  options = tt;
  flags = tt;
  defaults = refl;
  valid = λ rows given. given;
}
reads informing = record {
  operands = ((true, refl, refl), ((true, refl, refl), tt));
  options = tt;
  flags = tt;
  defaults = refl;
  valid = λ rows given. given;
}

-- ---- what a call's rows ask for

-- the rows of a call with these values
abbrev rows_of : Command → List (Text × Text) → List Row
rows_of command values = fold with_default (given_rows values) (shape_of command).rules

-- what the command of these rows asks for
abbrev asks_by : Command → List (Text × Text) → Asked
asks_by command values = asks (command_named (name_of command)) (λ name. first_of name (rows_of command values))

module _ (values : List (Text × Text)) where
  same_value : (command : Command) (name : Text) → list_all (is_other name) (shape_of command).rules ≡ true → first_of name (rows_of command values) ≡ under values name
  same_value command name other = value_under (shape_of command).rules values name other

  same_flag : (command : Command) (name : Text) → list_all is_no (shape_of command).rules ≡ true → is_yes (first_of name (rows_of command values)) ≡ is_yes (under values name)
  same_flag command name unsaid = flag_under (shape_of command).rules values name unsaid

  asks_same : (command : Command) → asks_by command values ≡ asks command (under values)
  unfolding clap_on_literals shape_of
  asks_same accepting = refl
  asks_same auditing =
      let file = same_value auditing (codes "FILE") refl in
      let explains = same_flag auditing (codes "explain") refl in
      λ i. audit_for (explains i) (value_of (file i))
  asks_same replaying = ap (λ (file : Option Text). replay (value_of file)) (same_value replaying (codes "FILE") refl)
  asks_same serving =
      let nodes = same_value serving (codes "nodes") refl in
      let port = same_value serving (codes "port") refl in
      let folder = same_value serving (codes "data") refl in
      let wait = same_value serving (codes "wait") refl in
      let resumes = same_flag serving (codes "resume") refl in
      λ i. serve (nodes i) (port i) (folder i) (wait i) (resumes i)
  asks_same scripting = ap (λ (file : Option Text). script (value_of file)) (same_value scripting (codes "FILE") refl)
  asks_same showing = ap (λ (file : Option Text). records (value_of file)) (same_value showing (codes "FILE") refl)
  asks_same putting =
      let address = same_value putting (codes "ADDRESS") refl in
      let table = same_value putting (codes "TABLE") refl in
      let file = same_value putting (codes "FILE") refl in
      let id = same_value putting (codes "id") refl in
      let schema = same_value putting (codes "schema") refl in
      λ i. put (value_of (address i)) (value_of (table i)) (value_of (file i)) (id i) (schema i)
  asks_same getting =
      let address = same_value getting (codes "ADDRESS") refl in
      let table = same_value getting (codes "TABLE") refl in
      let version = same_value getting (codes "VERSION") refl in
      let all = same_flag getting (codes "all-locations") refl in
      λ i. get (value_of (address i)) (value_of (table i)) (version i) (all i)
  asks_same listing = ap (λ (address : Option Text). list (value_of address)) (same_value listing (codes "ADDRESS") refl)
  asks_same informing =
      let address = same_value informing (codes "ADDRESS") refl in
      let table = same_value informing (codes "TABLE") refl in
      λ i. info (value_of (address i)) (value_of (table i))

-- ---- calls

-- what the program is asked for by the rows of a command, where there is one
abbrev pub named_by : Option (Text × List Row) → Asked
named_by found = option_map_or (λ found. asks (command_named found.0) (λ name. first_of name found.1)) found acceptor

alone_is_taken : (name : Text) → takes command_line (name ∷ []) ≡ true
unfolding clap_on_literals
alone_is_taken name = refl

alone_names : (name : Text) → named_by (subcommand_of command_line (name ∷ [])) ≡ acceptor
unfolding clap_on_literals
alone_names name = refl

called_is_taken : (words : List Text) (name : Text) (command : Command) (parts : List Part) → Calls words name command parts → takes command_line words ≡ true
called_is_taken words name command parts calls =
    ap (takes command_line) calls.1 ∙ takes_is command_line (name_of command) (shape_of command) (enters command) (words_of parts) name
    ∙ parts_pass (shape_of command) (takes_of command) (reads command) parts calls.0

called_names : (words : List Text) (name : Text) (command : Command) (parts : List Part) → Calls words name command parts
    → named_by (subcommand_of command_line words) ≡ asks command (under (values_in (takes_of command) parts))
called_names words name command parts calls =
    ap (λ (ws : List Text). named_by (subcommand_of command_line ws)) calls.1
    ∙ ap named_by (rows_are command_line (name_of command) (shape_of command) (enters command) (words_of parts) name)
    ∙ ap (λ (rows : List Row). named_by (Some (name_of command, rows))) (rows_end (shape_of command) (takes_of command) (reads command) parts calls.0)
    ∙ asks_same (values_in (takes_of command) parts) command

-- the words of a call are taken
pub call_is_taken : (words : List Text) → IsCall words → takes command_line words ≡ true
call_is_taken words (name, inl alone) = ap (takes command_line) alone ∙ alone_is_taken name
call_is_taken words (name, inr called) = called_is_taken words name called.0 called.1 called.2

-- and ask for what they say
pub call_asks_for : (words : List Text) → AsksFor words (named_by (subcommand_of command_line words))
call_asks_for words = record {
  alone = λ name e. ap (λ (ws : List Text). named_by (subcommand_of command_line ws)) e ∙ alone_names name;
  called = λ name command parts calls. called_names words name command parts calls;
}

-- so do matches that have the rows of the words
pub asks_for : (words : List Text) (m : ArgMatches) → subcommand_rows_of m ≡ subcommand_of command_line words → AsksFor words (asked_by m)
asks_for words m same = subst (λ (found : Option (Text × List Row)). AsksFor words (named_by found)) (sym same) (call_asks_for words)
