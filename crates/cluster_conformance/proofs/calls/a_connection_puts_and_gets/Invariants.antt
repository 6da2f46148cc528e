use Rattle.cluster_conformance.proofs.calls.a_connection_puts_and_gets.Given as goal

-- the log that was just opened
abbrev pub ghosts-plays-J-Naming : goal.ghosts-plays-J-Naming
ghosts-plays-J-Naming g a = record { book = a.log }
