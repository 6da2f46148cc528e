use Rattle.std.proofs.Common.{Some, sym, subst, ◌∙◌, rules}
use Rattle.ballots.specs.Ballot.{IsAtLeast}
use Rattle.acceptor.specs.Ranges.{RangesState, Rise}
use Rattle.acceptor.proofs.Inserting.{stays_raised}
use Rattle.acceptor.proofs.ranges.Ranges.raise_among.Goals as goal

pub returns-in-Some-clause-raises : goal.returns-in-Some-clause-raises
returns-in-Some-clause-raises c =
    let more : IsAtLeast c.in-Some.held (Some c.args.ballot) = search rules in
    let rise : Rise c.args.self.now.ranges = subst (λ (s : RangesState). Rise s.ranges) c.self.view_is c.self.invariant in
    stays_raised c.args.self.now.ranges c.args.first c.args.ballot c.in-Some.held rise (sym c.promised.ensures ∙ c.in-Some.is) more
