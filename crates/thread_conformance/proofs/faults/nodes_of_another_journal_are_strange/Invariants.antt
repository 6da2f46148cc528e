use Rattle.thread_conformance.proofs.faults.nodes_of_another_journal_are_strange.Given as goal

-- the log that was just opened
abbrev pub ghosts-told_of-J-Naming : goal.ghosts-told_of-J-Naming
ghosts-told_of-J-Naming g a = record { book = a.log }
