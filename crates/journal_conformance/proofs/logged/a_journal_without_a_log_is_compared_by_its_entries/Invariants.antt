use Rattle.journal_conformance.proofs.logged.a_journal_without_a_log_is_compared_by_its_entries.Given as goal

-- the log that was just opened
abbrev pub ghosts-another_journal-J-Naming : goal.ghosts-another_journal-J-Naming
ghosts-another_journal-J-Naming a = record { book = a.log }
