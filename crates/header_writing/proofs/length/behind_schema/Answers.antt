use Rattle.std.proofs.Common.{refl, [], ◌∷◌, ap, sym, ◌∙◌, subst, map, length, ◌+◌, ◌<◌, ◌^◌}
use Rattle.header_types.specs.Views.{entry_of, tree_of, forest_of, schema_of}
use Rattle.header_writing.specs.Canonical.{field_cells, metadata_cell, metadata_place}
use Rattle.header_writing.specs.Objects.{references_object, objects_text}
use Rattle.header_writing.specs.Weights.{weight, objects_weight, behind}
use Rattle.header_writing.proofs.Lengths.{schema_front, schema_end, item_room, metadata_room}
use Rattle.header_writing.proofs.length.behind_schema.Goals as goal

pub behind_fields-metadata-requires : goal.behind_fields-metadata-requires
behind_fields-metadata-requires c =
    subst (λ l. c.behind_table-fields.result + weight (references_object (field_cells (forest_of (map tree_of l)))) < 2 ^ 32) (sym c.deref.ensures.value)
    (item_room _ c.behind_table-fields.result _ _
    (schema_front c.args.place c.behind_table-fields.result (schema_of c.args.schema.now) (c.behind_table-fields.ensures (10 ∷ 12 ∷ 0 ∷ 4 ∷ metadata_place (schema_of c.args.schema.now).metadata 8 ∷ []) refl) c.requires))

pub behind_metadata-requires : goal.behind_metadata-requires
behind_metadata-requires c =
    let front = schema_front c.args.place c.behind_table-fields.result (schema_of c.args.schema.now) (c.behind_table-fields.ensures (10 ∷ 12 ∷ 0 ∷ 4 ∷ metadata_place (schema_of c.args.schema.now).metadata 8 ∷ []) refl) c.requires in
    let inner = c.behind_fields-metadata.ensures ∙ ap (λ l. behind c.behind_table-fields.result (references_object (field_cells (forest_of (map tree_of l))))) c.deref.ensures.value in
    subst (λ l. c.behind_fields-metadata.result + objects_weight (metadata_cell (map entry_of l)) < 2 ^ 32) (sym c.deref-2.ensures.value)
    (metadata_room _ c.behind_table-fields.result c.behind_fields-metadata.result _ (schema_of c.args.schema.now).metadata front inner)

pub returns : goal.returns
returns c =
    let front = schema_front c.args.place c.behind_table-fields.result (schema_of c.args.schema.now) (c.behind_table-fields.ensures (10 ∷ 12 ∷ 0 ∷ 4 ∷ metadata_place (schema_of c.args.schema.now).metadata 8 ∷ []) refl) c.requires in
    let inner = c.behind_fields-metadata.ensures ∙ ap (λ l. behind c.behind_table-fields.result (references_object (field_cells (forest_of (map tree_of l))))) c.deref.ensures.value in
    let last = c.behind_metadata.ensures ∙ ap (λ l. c.behind_fields-metadata.result + length (objects_text c.behind_fields-metadata.result (metadata_cell (map entry_of l)))) c.deref-2.ensures.value in
    schema_end c.args.place c.behind_table-fields.result c.behind_fields-metadata.result c.behind_metadata.result (schema_of c.args.schema.now) front inner last
