use Rattle.std.proofs.Common.{◌∙◌}
use Rattle.clap.specs.Words.{found_of}
use Rattle.command_line.proofs.Found.{found_asks}
use Rattle.command_line.proofs.words.asked_by.Goals as goal

pub returns-in-Some : goal.returns-in-Some
returns-in-Some c =
    c.asked_of.ensures ∙ found_asks c.args.matches.now c.in-Some.name.now (found_of c.in-Some.found.now) c.in-Some.ensures.name c.in-Some.ensures.rows
