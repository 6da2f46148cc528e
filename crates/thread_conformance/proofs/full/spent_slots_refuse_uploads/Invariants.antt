use Rattle.thread_conformance.proofs.full.spent_slots_refuse_uploads.Given as goal

-- the log that was just opened
abbrev pub ghosts-told_of-J-Naming : goal.ghosts-told_of-J-Naming
ghosts-told_of-J-Naming g a = record { book = a.log }
