use Rattle.std.proofs.Common.{map}
use Rattle.folder_report.proofs.reporting.told_again.Goals as goal

pub returns-in-Err-clause-differ : goal.returns-in-Err-clause-differ
returns-in-Err-clause-differ c = c.report_fault.ensures (map (λ own. own.items) c.args.records.now) c.in-Err.ensures.differ
