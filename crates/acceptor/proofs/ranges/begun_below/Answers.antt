use Rattle.std.proofs.Common.{◌≡◌, ℕ, ◌<◌, ◌≤◌, true, false, ltb, rules, ltb-true, ltb-false}
use Rattle.std.proofs.lemmas.List.Sorted.{IsPartitionPoint-from_clause}
use Rattle.ballots.specs.Ballot.{Ballot}
use Rattle.acceptor.proofs.Ranging.{taken, dropped, weaker, partitioned}
use Rattle.acceptor.proofs.ranges.begun_below.Goals as goal

pub returns-clause-earlier : goal.returns-clause-earlier
returns-clause-earlier c =
    let point = IsPartitionPoint-from_clause (λ (range : ℕ × Ballot). ltb range.0 c.args.end) _ _ c.partition_point.ensures.partitioned (partitioned c.args.end _ c.requires) (λ a r q k. search rules) in
    weaker (λ (range : ℕ × Ballot). ltb range.0 c.args.end ≡ true) (λ range. range.0 < c.args.end) (λ range e. ltb-true range.0 c.args.end e) _
    (taken (λ (range : ℕ × Ballot). ltb range.0 c.args.end ≡ true) c.partition_point.result c.args.ranges.now c.partition_point.ensures.bound point.0)

pub returns-clause-later : goal.returns-clause-later
returns-clause-later c =
    let point = IsPartitionPoint-from_clause (λ (range : ℕ × Ballot). ltb range.0 c.args.end) _ _ c.partition_point.ensures.partitioned (partitioned c.args.end _ c.requires) (λ a r q k. search rules) in
    weaker (λ (range : ℕ × Ballot). ltb range.0 c.args.end ≡ false) (λ range. c.args.end ≤ range.0) (λ range e. ltb-false range.0 c.args.end e) _
    (dropped (λ (range : ℕ × Ballot). ltb range.0 c.args.end ≡ false) c.partition_point.result c.args.ranges.now point.1)
