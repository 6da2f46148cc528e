use Rattle.std.proofs.Common.{take}
use Rattle.acceptor.specs.Restored.{IsHighestRound}
use Rattle.acceptor.proofs.records.highest_begun_round.Given as goal

abbrev pub invariant-loop-told : goal.invariant-loop-told
invariant-loop-told l = IsHighestRound (take l.told-index l.fn.records) l.highest
