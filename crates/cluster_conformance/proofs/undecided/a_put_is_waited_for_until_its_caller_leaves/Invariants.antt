use Rattle.cluster_conformance.proofs.undecided.a_put_is_waited_for_until_its_caller_leaves.Given as goal

-- the log that was just opened
abbrev pub ghosts-ends_with_the_caller-J-Naming : goal.ghosts-ends_with_the_caller-J-Naming
ghosts-ends_with_the_caller-J-Naming g a = record { book = a.log }
