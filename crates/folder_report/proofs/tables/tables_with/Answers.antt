use Rattle.std.proofs.Common.{[]}
use Rattle.folder_report.proofs.tables.tables_with.Goals as goal

pub returns : goal.returns
returns c =
    c.apply.ensures.takes [] c.args.values.now
    (c.same_tables_hold_the_same.ensures c.new-tables.result c.ready.new.self [] c.in_ok-ready.ensures.same c.new-tables.ensures) c.in_ok-ready.ensures.ready
