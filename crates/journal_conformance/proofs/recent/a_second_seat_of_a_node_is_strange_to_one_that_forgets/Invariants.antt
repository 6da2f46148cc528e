use Rattle.journal_conformance.proofs.recent.a_second_seat_of_a_node_is_strange_to_one_that_forgets.Given as goal

-- the log that was just opened
abbrev pub ghosts-two_of_one_node-J-Naming : goal.ghosts-two_of_one_node-J-Naming
ghosts-two_of_one_node-J-Naming a = record { book = a.log }
