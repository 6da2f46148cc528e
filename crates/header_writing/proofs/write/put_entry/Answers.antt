use Rattle.std.proofs.Common.{◌+◌, [], ◌∷◌, arith, ap, ◌∙◌}
use Rattle.header_writing.specs.Objects.{string_object, zeros}
use Rattle.header_writing.specs.Filling.{with_object}
use Rattle.header_types.specs.Views.{entry_of}
use Rattle.header_writing.proofs.Writers.{table_room, entry_put}
use Rattle.header_writing.proofs.write.put_entry.Goals as goal

pub put_string-requires : goal.put_string-requires
put_string-requires c =
    let room = table_room c.args.text.now.items c.put_table.new.text.items (8 ∷ 12 ∷ 4 ∷ 8 ∷ [])
    (zeros 8) c.args.from c.in_ok-first.first c.requires.within c.in_ok-first.ensures.put c.in_ok-first.ensures.first in
    record { within = omega arith }

pub returns-clause-put : goal.returns-clause-put
returns-clause-put c =
    entry_put c.args.text.now.items c.put_table.new.text.items c.put_string.new.text.items c.put_string-2.new.text.items
    c.args.from c.in_ok-first.first
    (entry_of c.args.entry.now) c.requires.within c.in_ok-first.ensures.put c.in_ok-first.ensures.first
    (c.in_ok-put_string.ensures.put ∙ ap (λ x. with_object c.put_table.new.text.items c.in_ok-first.first
    (string_object x)) c.as_str.ensures.value)
    (c.in_ok-put_string-2.ensures.put ∙ ap (λ x. with_object c.put_string.new.text.items (c.in_ok-first.first + 4)
    (string_object x)) c.as_str-2.ensures.value)
