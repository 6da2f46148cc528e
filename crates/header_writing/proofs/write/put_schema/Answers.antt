use Rattle.std.proofs.Common.{[], ◌∷◌, List, map, ◌+◌, String, arith, ap, ◌∙◌, rules}
use Rattle.std.proofs.lemmas.Grind.{common_steps}
use Rattle.std.specs.declared.alloc.Global.{Global}
use Rattle.header_types.specs.declared.schema.Field.{Field}
use Rattle.header_writing.specs.Objects.{references_object, zeros}
use Rattle.header_writing.specs.Canonical.{field_cells, metadata_cell, metadata_place}
use Rattle.header_writing.specs.Filling.{with_object, filled}
use Rattle.header_types.specs.Views.{entry_of, tree_of, forest_of, schema_of}
use Rattle.header_writing.proofs.Writers.{table_room, schema_put}
use Rattle.header_writing.proofs.write.put_schema.Goals as goal

pub put_fields-requires : goal.put_fields-requires
put_fields-requires c =
    let room = table_room c.args.text.now.items c.put_table.new.text.items
    (10 ∷ 12 ∷ 0 ∷ 4 ∷ c.metadata_slot.result ∷ []) (zeros 8) c.args.from c.in_ok-first.first c.requires.within
    c.in_ok-first.ensures.put c.in_ok-first.ensures.first in
    record { within = omega arith }

pub returns-clause-put : goal.returns-clause-put
returns-clause-put c =
    schema_put c.args.text.now.items c.put_table.new.text.items c.put_fields.new.text.items
    c.put_metadata.new.text.items c.args.from c.in_ok-first.first c.metadata_slot.result
    (schema_of c.args.schema.now) c.requires.within
    (c.metadata_slot.ensures ∙ ap (λ (entries : List (String Global × String Global)). metadata_place
    (map entry_of entries) 8) c.deref.ensures.value)
    c.in_ok-first.ensures.put c.in_ok-first.ensures.first
    (c.in_ok-put_fields.ensures.put
    ∙ ap (λ (fields : List Field). with_object c.put_table.new.text.items c.in_ok-first.first
    (references_object (field_cells (forest_of (map tree_of fields))))) c.deref-2.ensures.value)
    (c.in_ok-put_metadata.ensures.put
    ∙ ap (λ (entries : List (String Global × String Global)). filled c.put_fields.new.text.items
    (c.in_ok-first.first + 4) (metadata_cell (map entry_of entries))) c.deref-3.ensures.value)

pub returns-in_err-first-clause-put : goal.returns-in_err-first-clause-put
returns-in_err-first-clause-put c = search rules steps 300000

pub returns-in_err-first-clause-fit : goal.returns-in_err-first-clause-fit
returns-in_err-first-clause-fit c = search rules steps 300000

pub returns-in_err-put_fields-clause-put : goal.returns-in_err-put_fields-clause-put
returns-in_err-put_fields-clause-put c = grind (arith, common_steps) steps 600000

pub returns-in_err-put_fields-clause-fit : goal.returns-in_err-put_fields-clause-fit
returns-in_err-put_fields-clause-fit c = search rules steps 300000

pub returns-in_err-put_metadata-clause-put : goal.returns-in_err-put_metadata-clause-put
returns-in_err-put_metadata-clause-put c = grind (arith, common_steps) steps 600000

pub returns-in_err-put_metadata-clause-fit : goal.returns-in_err-put_metadata-clause-fit
returns-in_err-put_metadata-clause-fit c = grind (arith, common_steps) steps 600000

pub returns-clause-fit : goal.returns-clause-fit
returns-clause-fit c = grind (arith, common_steps) steps 600000
