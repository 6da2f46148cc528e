use Rattle.ghost_log.proofs.tests.entries_are_counted.Given as goal

-- the log that was just opened
abbrev pub ghosts-counts : goal.ghosts-counts
ghosts-counts g a = record { book = a.log }
