use Rattle.script_command.proofs.playing.script_file.Given as goal

-- the log that was just opened
abbrev pub ghosts-play_at_new-J-Naming : goal.ghosts-play_at_new-J-Naming
ghosts-play_at_new-J-Naming g a = record { book = a.log }
