use Rattle.journal_conformance.proofs.recent.the_last_messages_are_held.Given as goal

-- the log that was just opened
abbrev pub ghosts-forgets-J-Naming : goal.ghosts-forgets-J-Naming
ghosts-forgets-J-Naming a = record { book = a.log }
