use Rattle.upload_tasks.proofs.running.known_weight.Given as goal

-- the log that was just opened
abbrev pub ghosts-logged_weight-J-Naming : goal.ghosts-logged_weight-J-Naming
ghosts-logged_weight-J-Naming a = record { book = a.log }
