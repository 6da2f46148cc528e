use Rattle.journal_conformance.proofs.recent.a_journal_that_forgets_is_never_full.Given as goal

-- the log that was just opened
abbrev pub ghosts-goes_on-J-Naming : goal.ghosts-goes_on-J-Naming
ghosts-goes_on-J-Naming a = record { book = a.log }
