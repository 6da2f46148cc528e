use Rattle.std.proofs.Common.{rules, of_z, to_z}
use Rattle.std.specs.Int.{w32}
use Rattle.std.specs.Int.RustNames.{FitsSigned}
use Rattle.std.proofs.lemmas.Int.{to_z-of_z}
use Rattle.header_writing.proofs.TypeTables.{decimal_seen}
use Rattle.header_writing.proofs.type_table.put_type.Goals as goal

pub returns-in-Decimal-clause-put : goal.returns-in-Decimal-clause-put
returns-in-Decimal-clause-put c =
    let precision : FitsSigned w32 c.in-Decimal.precision = search rules in
    let scale : FitsSigned w32 c.in-Decimal.scale = search rules in
    decimal_seen c.put_decimal.result c.args.text.now.items c.put_decimal.new.text.items c.args.from c.args.ty.now
    c.in-Decimal.precision c.in-Decimal.scale (to_z w32 (of_z w32 c.in-Decimal.precision))
    (to_z w32 (of_z w32 c.in-Decimal.scale)) c.in-Decimal.bit_width
    c.in-Decimal.is (to_z-of_z w32 c.in-Decimal.precision precision)
    (to_z-of_z w32 c.in-Decimal.scale scale) c.put_decimal.ensures.put
