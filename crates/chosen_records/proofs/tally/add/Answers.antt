use Rattle.std.proofs.Common.{refl}
use Rattle.chosen_records.proofs.Counted.{node_added}
use Rattle.chosen_records.proofs.tally.add.Goals as goal

pub returns-clause-added : goal.returns-clause-added
returns-clause-added c =
    node_added c.args.tally.now _ c.args.node c.args.value.now (c.is_same.ensures.0 c.if-not-is_same.false) refl c.with-tally.ensures

pub returns-then-not-is_same-clause-added : goal.returns-then-not-is_same-clause-added
returns-then-not-is_same-clause-added c = tt
