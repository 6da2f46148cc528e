use Rattle.std.proofs.Common.{ℕ, List, Bor, length}
use Rattle.std.specs.Option.{option_map}
use Rattle.ballots.proofs.Gathering.{GatheredSoFar}
use Rattle.ballots.proofs.fields.gather.Given as goal

-- what the fields so far mean
abbrev pub invariant-loop-rest : goal.invariant-loop-rest
invariant-loop-rest l = GatheredSoFar l.value l.text l.rest l.numbers (option_map (λ (b : Bor (List ℕ)). b.now) l.last)

abbrev pub decreases-loop-rest : goal.decreases-loop-rest
decreases-loop-rest l = length l.rest
