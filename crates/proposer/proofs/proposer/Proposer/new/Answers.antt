use Rattle.std.proofs.Common.{[]}
use Rattle.proposer.proofs.Standing.{stands_at_first}
use Rattle.proposer.proofs.proposer.Proposer.new.Goals as goal

pub invariant_of-result : goal.invariant_of-result
invariant_of-result c = record {
  start = record { me = c.args.me; members = c.args.members; highest_round = c.args.highest_round };
  calls = [];
  after = stands_at_first (record { me = c.args.me; members = c.args.members; highest_round = c.args.highest_round });
}

pub returns : goal.returns
returns c = stands_at_first (record { me = c.args.me; members = c.args.members; highest_round = c.args.highest_round })
