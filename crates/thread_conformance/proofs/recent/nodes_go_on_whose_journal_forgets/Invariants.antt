use Rattle.thread_conformance.proofs.recent.nodes_go_on_whose_journal_forgets.Given as goal

-- the log that was just opened
abbrev pub ghosts-plays-J-Naming : goal.ghosts-plays-J-Naming
ghosts-plays-J-Naming g a = record { book = a.log }
