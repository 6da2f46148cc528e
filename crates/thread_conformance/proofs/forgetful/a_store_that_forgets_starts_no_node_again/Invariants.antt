use Rattle.thread_conformance.proofs.forgetful.a_store_that_forgets_starts_no_node_again.Given as goal

-- the log that was just opened
abbrev pub ghosts-plays-J-Naming : goal.ghosts-plays-J-Naming
ghosts-plays-J-Naming g a = record { book = a.log }
