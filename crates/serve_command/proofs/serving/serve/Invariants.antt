use Rattle.serve_command.proofs.serving.serve.Given as goal

-- the log that was just opened
abbrev pub ghosts-serve_new-J-Naming : goal.ghosts-serve_new-J-Naming
ghosts-serve_new-J-Naming g a = record { book = a.log }
