use Rattle.ghost_log.proofs.tests.a_long_log.Given as goal

-- the log that was just opened
abbrev pub ghosts-grows : goal.ghosts-grows
ghosts-grows g a = record { book = a.log }
