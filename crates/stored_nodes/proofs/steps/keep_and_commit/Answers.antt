use Rattle.std.proofs.Common.{Option, Ok, Err, subst}
use Rattle.ballots.specs.declared.record.Record.{Record}
use Rattle.stored_nodes.specs.Kept.{DueLeaves}
use Rattle.stored_nodes.proofs.steps.keep_and_commit.Goals as goal

pub returns-in-Ok-clause-kept : goal.returns-in-Ok-clause-kept
returns-in-Ok-clause-kept g c =
    subst (λ (d : Option Record). DueLeaves d (Ok c.in-Ok.field-0) c.args.kept.now.records.items c.keep_due.new.kept.records.items c.keep_due.new.kept.doubted) c.record.ensures c.in-Ok.ensures.kept

pub returns-in-Err-clause-kept : goal.returns-in-Err-clause-kept
returns-in-Err-clause-kept g c =
    subst (λ (d : Option Record). DueLeaves {T = Unit {0}} d (Err c.in-Err.fault) c.args.kept.now.records.items c.keep_due.new.kept.records.items c.keep_due.new.kept.doubted) c.record.ensures c.in-Err.ensures.kept
