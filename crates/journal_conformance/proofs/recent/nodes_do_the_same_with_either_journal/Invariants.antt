use Rattle.journal_conformance.proofs.recent.nodes_do_the_same_with_either_journal.Given as goal

-- the log that was just opened
abbrev pub ghosts-given_with_whole-J-Naming : goal.ghosts-given_with_whole-J-Naming
ghosts-given_with_whole-J-Naming a = record { book = a.log }

abbrev pub ghosts-given_with_recent-J-Naming : goal.ghosts-given_with_recent-J-Naming
ghosts-given_with_recent-J-Naming a = record { book = a.log }
