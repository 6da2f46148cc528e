use Rattle.std.proofs.Common.{arith, List}
use Rattle.ballots.specs.declared.record.Record.{Record}
use Rattle.acceptor.specs.Restored.{IsHighestRound}
use Rattle.acceptor.proofs.Lookups.{one_further}
use Rattle.acceptor.proofs.records.highest_begun_round.Goals as goal

pub loop-told-preserved : goal.loop-told-preserved
loop-told-preserved c =
    one_further (λ (records : List Record). IsHighestRound records c.higher_round-highest.result) c.args.records.now c.loop-told.told-index c.told-item.result (omega arith)
    c.told-item.is (c.higher_round-highest.ensures _ c.loop-told.invariant)
