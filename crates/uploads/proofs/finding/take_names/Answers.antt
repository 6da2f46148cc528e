use Rattle.std.proofs.Common.{arith, rules}
use Rattle.table_types.specs.Valid.{IsTableName}
use Rattle.uploads.proofs.Fronts.{named}
use Rattle.uploads.proofs.finding.take_names.Goals as goal

pub returns-clause-some : goal.returns-clause-some
returns-clause-some c =
    let table : IsTableName c.in_ok-table.table.now = search rules in
    named c.args.text.now c.in_ok-table.table.now c.in_ok-table.rest.now c.in_ok-id.id.now c.in_ok-id.rest.now c.in_ok-table.ensures.some.0 c.in_ok-id.ensures.some.0
    table (omega arith) c.type_inv.text
