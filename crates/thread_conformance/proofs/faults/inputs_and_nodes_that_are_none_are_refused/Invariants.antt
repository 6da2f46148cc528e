use Rattle.thread_conformance.proofs.faults.inputs_and_nodes_that_are_none_are_refused.Given as goal

-- the log that was just opened
abbrev pub ghosts-told_of-J-Naming : goal.ghosts-told_of-J-Naming
ghosts-told_of-J-Naming g a = record { book = a.log }
