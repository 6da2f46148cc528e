use Rattle.std.proofs.Common.{rules}
use Rattle.ballots.specs.MessageReading.{report_at, known}
use Rattle.ballots.proofs.Steps.{steps}
use Rattle.ballots.proofs.decoding.report_of.Goals as goal

pub returns-then-second_round-eq0 : goal.returns-then-second_round-eq0
unfolding report_at known
returns-then-second_round-eq0 c = search (rules, steps) steps 300000

pub returns : goal.returns
unfolding report_at known
returns c = search (rules, steps) steps 300000
