use Rattle.thread_conformance.proofs.failing.a_store_that_fails_takes_its_node_down_and_no_other.Given as goal

-- the log that was just opened
abbrev pub ghosts-told_of-J-Naming : goal.ghosts-told_of-J-Naming
ghosts-told_of-J-Naming g a = record { book = a.log }
