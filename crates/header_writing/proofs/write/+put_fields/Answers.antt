use Rattle.std.proofs.Common.{◌≤◌, ◌+◌, ◌*◌, List, map, length, String, arith, ap, ◌∙◌, subst}
use Rattle.std.specs.List.{AllByRecursion}
use Rattle.std.specs.declared.alloc.Global.{Global}
use Rattle.header_types.specs.declared.schema.Field.{Field}
use Rattle.header_writing.specs.Objects.{references_object}
use Rattle.header_writing.specs.Canonical.{field_cells, metadata_cell}
use Rattle.header_writing.specs.Filling.{with_object, filled}
use Rattle.header_types.specs.FieldView.{field_head_of, entries_in, fields_in}
use Rattle.header_types.specs.Views.{entry_of, tree_of, forest_of}
use Rattle.header_writing.specs.Written.{FitsEntry, FitsForest}
use Rattle.header_writing.proofs.Writers.{fields_begun, field_passed, field_put}
use Rattle.header_writing.proofs.write.+put_fields.Goals as goal

pub loop-index-init : goal.loop-index-init
loop-index-init t c =
    fields_begun c.args.text.now.items c.put_references.new.text.items c.args.from c.in_ok-start.start c.args.fields.now
    c.requires.within
    c.in_ok-start.ensures.put c.in_ok-start.ensures.first

pub loop-index-preserved : goal.loop-index-preserved
loop-index-preserved t c =
    let x = c.index-fields-index.result in
    let old = c.loop-index.text.items in
    let at = c.in_ok-start.start + 4 * c.loop-index.index in
    let there = c.loop-index-test.true in
    let room = c.loop-index.invariant.room in
    let within : at + 4 ≤ length old = omega arith in
    let inner =
    c.in_ok-put_fields.ensures.put
    ∙ ap (λ (fields : List Field). with_object c.put_front.new.text.items (c.in_ok-first.first + 12)
    (references_object (field_cells (forest_of (map tree_of fields))))) c.deref.ensures.value in
    let last =
    c.in_ok-put_metadata.ensures.put
    ∙ ap (λ (entries : List (String Global × String Global)). filled c.put_fields.new.text.items
    (c.in_ok-first.first + 16) (metadata_cell (map entry_of entries))) c.deref-in-loop-index.ensures.value in
    let put =
    field_put old c.put_front.new.text.items c.put_fields.new.text.items c.put_metadata.new.text.items at
    c.in_ok-first.first (field_head_of x) (entries_in x)
    (references_object (field_cells (fields_in x))) within c.in_ok-first.ensures.first c.in_ok-first.ensures.put inner
    last in
    field_passed c.args.text.now.items old c.put_metadata.new.text.items c.args.from c.in_ok-start.start
    c.loop-index.index c.args.fields.now x there c.index-fields-index.is
    c.loop-index.invariant put c.in_ok-first.ensures.fits
    (subst (λ (entries : List (String Global × String Global)). AllByRecursion FitsEntry (map entry_of entries))
    c.deref-in-loop-index.ensures.value c.in_ok-put_metadata.ensures.fit)
    (subst (λ (fields : List Field). FitsForest (forest_of (map tree_of fields))) c.deref.ensures.value
    c.in_ok-put_fields.ensures.fit)
