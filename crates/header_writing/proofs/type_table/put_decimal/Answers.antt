use Rattle.std.proofs.Common.{◌≡◌, rules}
use Rattle.header_writing.specs.Canonical.{int32_number}
use Rattle.header_writing.proofs.TypeTables.{decimal_put}
use Rattle.header_writing.proofs.type_table.put_decimal.Goals as goal

pub returns-clause-put : goal.returns-clause-put
returns-clause-put c =
    let is_precision : c.cast_unsigned.result ≡ int32_number c.args.precision = search rules in
    let is_scale : c.cast_unsigned-2.result ≡ int32_number c.args.scale = search rules in
    decimal_put c.args.text.now.items c.put_table.new.text.items c.args.from c.in_ok-put_table.field-0 c.args.precision
    c.args.scale c.args.width
    c.cast_unsigned.result c.cast_unsigned-2.result c.bits_of_decimal.result c.requires.within
    c.in_ok-put_table.ensures.first
    is_precision is_scale c.bits_of_decimal.ensures c.in_ok-put_table.ensures.put
