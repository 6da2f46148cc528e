use Rattle.std.proofs.Common.{◌≡◌, ◌∷◌, [], arith, string_bytes, sym, subst, OnOk}
use Rattle.std.specs.Option.{option_map}
use Rattle.header_writing.specs.declared.layout.Cell.TheVariants.{Short, Word}
use Rattle.header_writing.specs.Canonical.{timestamp_table}
use Rattle.header_writing.specs.Filling.{with_object}
use Rattle.header_writing.specs.Written.{cells_bytes}
use Rattle.header_writing.proofs.Writers.{table_room}
use Rattle.header_writing.proofs.TypeTables.{timestamp_put, on_ok}
use Rattle.header_writing.proofs.type_table.put_timestamp.Goals as goal

pub put_string-requires : goal.put_string-requires
put_string-requires c =
    let room = table_room c.args.text.now.items c.put_table-in-Some.new.text.items (8 ∷ 12 ∷ 4 ∷ 8 ∷ [])
    (cells_bytes (Short c.number_of_time_unit.result ∷ Short 0 ∷ Word 0 ∷ [])) c.args.from c.in_ok-first-in-Some.first
    c.requires.within c.in_ok-first-in-Some.ensures.put c.in_ok-first-in-Some.ensures.first in
    record { within = omega arith }

pub returns-in_ok-first-in-Some-clause-put : goal.returns-in_ok-first-in-Some-clause-put
returns-in_ok-first-in-Some-clause-put c =
    subst
    (λ timezone. OnOk c.put_string.result (c.put_string.new.text.items
    ≡ with_object c.args.text.now.items c.args.from (timestamp_table c.args.unit (option_map string_bytes timezone))))
    (sym c.in-Some.is)
    (on_ok c.put_string.result
    (timestamp_put c.args.text.now.items c.put_table-in-Some.new.text.items c.put_string.new.text.items c.args.from
    c.in_ok-first-in-Some.first
    c.args.unit (string_bytes c.in-Some.timezone) c.as_str.result.now c.number_of_time_unit.result c.requires.within
    c.in_ok-first-in-Some.ensures.first
    c.number_of_time_unit.ensures c.as_str.ensures.value c.in_ok-first-in-Some.ensures.put)
    c.put_string.ensures.put)
