use Rattle.std.proofs.Common.{sym}
use Rattle.batch_cells.proofs.Looked.{seen_none}
use Rattle.batch_cells.proofs.looking.is_there.Goals as goal

pub returns-in-None-clause-blank : goal.returns-in-None-clause-blank
returns-in-None-clause-blank c _ = seen_none c.args.column.now.cells c.args.row (sym c.in-None.ensures)
