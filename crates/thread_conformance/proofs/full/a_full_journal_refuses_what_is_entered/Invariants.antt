use Rattle.thread_conformance.proofs.full.a_full_journal_refuses_what_is_entered.Given as goal

-- the log that was just opened
abbrev pub ghosts-told_of-J-Naming : goal.ghosts-told_of-J-Naming
ghosts-told_of-J-Naming g a = record { book = a.log }
