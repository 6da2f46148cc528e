use Rattle.cluster_conformance.proofs.threads.callers_put_beside_restarts.Given as goal

-- the log that was just opened
abbrev pub ghosts-plays-J-Naming : goal.ghosts-plays-J-Naming
ghosts-plays-J-Naming g a = record { book = a.log }
