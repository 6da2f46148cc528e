use Rattle.cluster_conformance.proofs.threads.callers_put_beside_a_disk_that_fails_later.Given as goal

-- the log that was just opened
abbrev pub ghosts-plays_on_disks-J-Naming : goal.ghosts-plays_on_disks-J-Naming
ghosts-plays_on_disks-J-Naming g a = record { book = a.log }
