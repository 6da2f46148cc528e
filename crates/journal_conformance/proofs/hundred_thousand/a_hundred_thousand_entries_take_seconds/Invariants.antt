use Rattle.journal_conformance.proofs.hundred_thousand.a_hundred_thousand_entries_take_seconds.Given as goal

-- the log that was just opened
abbrev pub ghosts-long_run-J-Naming : goal.ghosts-long_run-J-Naming
ghosts-long_run-J-Naming g a = record { book = a.log }
