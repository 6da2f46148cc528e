use Rattle.thread_conformance.proofs.refused_memory.each_call_of_running_nodes_is_made_again.Given as goal

-- the log that was just opened
abbrev pub ghosts-told_of-J-Naming : goal.ghosts-told_of-J-Naming
ghosts-told_of-J-Naming g a = record { book = a.log }
