use Rattle.cluster_conformance.proofs.full.a_full_journal_answers_a_put_by_its_name.Given as goal

-- the log that was just opened
abbrev pub ghosts-plays-J-Naming : goal.ghosts-plays-J-Naming
ghosts-plays-J-Naming g a = record { book = a.log }
