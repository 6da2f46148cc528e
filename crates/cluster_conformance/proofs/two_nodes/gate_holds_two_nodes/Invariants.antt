use Rattle.cluster_conformance.proofs.two_nodes.gate_holds_two_nodes.Given as goal

-- the log that was just opened
abbrev pub ghosts-plays-J-Naming : goal.ghosts-plays-J-Naming
ghosts-plays-J-Naming g a = record { book = a.log }
