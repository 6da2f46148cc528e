use Rattle.thread_conformance.proofs.steps.an_upload_is_decided_and_served.Given as goal

-- the log that was just opened
abbrev pub ghosts-told_of-J-Naming : goal.ghosts-told_of-J-Naming
ghosts-told_of-J-Naming g a = record { book = a.log }
