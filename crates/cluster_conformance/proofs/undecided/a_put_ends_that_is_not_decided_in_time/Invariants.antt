use Rattle.cluster_conformance.proofs.undecided.a_put_ends_that_is_not_decided_in_time.Given as goal

-- the log that was just opened
abbrev pub ghosts-ends_in_time-J-Naming : goal.ghosts-ends_in_time-J-Naming
ghosts-ends_in_time-J-Naming g a = record { book = a.log }
