use Rattle.resumed_nodes.specs.Heard.{starts_of}
use Rattle.resumed_nodes.specs.Starting.{records_at_nodes}
use Rattle.serve_command.proofs.serving.serve_again.Given as goal

-- the log that was just opened, and nodes that start where they have been started
abbrev pub ghosts-serve_restarted-J-Naming : goal.ghosts-serve_restarted-J-Naming
ghosts-serve_restarted-J-Naming g a = record { book = a.log }

abbrev pub ghosts-serve_restarted-J-Beginning : goal.ghosts-serve_restarted-J-Beginning
ghosts-serve_restarted-J-Beginning g a = record { start = starts_of (records_at_nodes a.old.items) a.told.items }
