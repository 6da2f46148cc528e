use Rattle.thread_conformance.proofs.endings.puts_that_wait_are_told_why_they_end.Given as goal

-- the log that was just opened
abbrev pub ghosts-told_of-J-Naming : goal.ghosts-told_of-J-Naming
ghosts-told_of-J-Naming g a = record { book = a.log }
