use Rattle.std.proofs.Common.{rules, arith, sym, ap, subst, ◌∙◌, ◌≡◌, suc, ◌+◌, ◌*◌, ◌<◌, List, [], ◌∷◌, ◌++◌, map, length, drop}
use Rattle.std.specs.List.{AllZip}
use Rattle.std.proofs.lemmas.List.{length-map, drop_all}
use Rattle.std.proofs.lemmas.Bool.{false≢true}
use Rattle.std.proofs.lemmas.Result.{on_err_weaker, on_ok_weaker}
use Rattle.json.specs.Token.{Token}
use Rattle.json.specs.Token as token
use Rattle.json.specs.Json as json
use Rattle.header_types.specs.declared.schema.Field.{Field}
use Rattle.header_types.specs.Views.{tree_of}
use Rattle.header_types.specs.Limits.{tree_depth, forest_depth}
use Rattle.batch_types.specs.Cells.{Cell as Seen}
use Rattle.batch_cells.specs.declared.cell.Cell.{Cell as Plain}
use Rattle.batch_cells.specs.CellViews.{cell_of as seen}
use Rattle.batch_columns.specs.Held.{height}
use Rattle.column_building.specs.Whole.{field_shape}
use Rattle.column_building.proofs.Shaped.{height_there, dropped}
use Rattle.json_rows.specs.declared.form.Form.{Form}
use Rattle.json_rows.specs.declared.fault.CellFault.TheVariants.{OutOfMemory}
use Rattle.json_rows.specs.Cells.{TellsCell, TellsElement, TellsElements, TellsFields, TellsFlat, TellsForm, forest_in}
use Rattle.json_rows.specs.Written.{WritesElements, WritesMembers, WritesValue}
use Rattle.json_rows.proofs.Told.{TellsMember, form_closed, form_of_value, members_zip, flat_alike, no_element, zip_long, not_empty}
use Rattle.json_rows.proofs.Texts.{written_weaker}
use Rattle.json_rows.proofs.Put.{goes_by, goes_nowhere, goes_then, empty_list, list_one, tuple_one, names_at, depth_inside, depth_first, array_written, deeper_elements, element_then, member_then, object_written, zipped_right, zipped_both}
use Rattle.json_rows.proofs.Zipped.{on_err, told_on}
use Rattle.json_rows.proofs.writing.+writing.Goals as goal

pub write_cell-returns-then-not-is_null-clause-written : goal.write_cell-returns-then-not-is_null-clause-written
write_cell-returns-then-not-is_null-clause-written t c =
    let field = c.args.field.now in
    let inside = c.as_slice.result.now in
    let cell = seen c.args.cell.now in
    let deep : suc (forest_depth (forest_in inside)) ≡ tree_depth (tree_of field) = depth_inside field inside (ap forest_in (sym c.as_slice.ensures.value)) in
    on_ok_weaker c.write_form.result
    (λ w. written_weaker (λ d. TellsForm c.form_of.result (TellsElement (forest_in inside)) (TellsFields (forest_in inside)) d cell) (λ d. TellsCell (tree_of field) d cell)
    (suc (forest_depth (forest_in inside))) (tree_depth (tree_of field)) c.args.out.now.tokens c.write_form.new.out.tokens
    (λ d told. form_closed field c.form_of.result inside d cell c.form_of.ensures c.as_slice.ensures.value told) (omega (arith, deep)) w) c.write_form.ensures.written

pub write_cell-returns-then-not-is_null-clause-refused : goal.write_cell-returns-then-not-is_null-clause-refused
write_cell-returns-then-not-is_null-clause-refused t c = λ d told.
    c.write_form.ensures.refused d
    (form_of_value c.args.field.now c.form_of.result c.as_slice.result.now d (seen c.args.cell.now) c.form_of.ensures c.as_slice.ensures.value
    (λ is. false≢true (c.if-not-is_null.ensures.1 is)) told)

pub write_each-returns-in_err-write_cell-clause-begun : goal.write_each-returns-in_err-write_cell-clause-begun
write_each-returns-in_err-write_cell-clause-begun t c =
    on_err _ c.from_residual.result (goes_then _ _ _ c.loop-cell.invariant.1 c.in_err-write_cell.ensures.begun)

pub write_each-returns-in_err-write_cell-clause-refused : goal.write_each-returns-in_err-write_cell-clause-refused
write_each-returns-in_err-write_cell-clause-refused t c = λ values told.
    let here = zipped_right (TellsCell (tree_of c.args.field.now)) seen values c.args.cells.now c.loop-cell.cell-index c.cell-item.result told c.loop-cell-test.true c.cell-item.is in
    told_on c.from_residual.result c.in_err-write_cell.field-0.0 OutOfMemory c.from_residual.ensures.1 (c.in_err-write_cell.ensures.refused here.0 here.1)

pub write_each-loop-cell-preserved : goal.write_each-loop-cell-preserved
write_each-loop-cell-preserved t c =
    let T = tree_of c.args.field.now in (
      c.in_ok-write_cell.ensures.before ∙ c.loop-cell.invariant.0,
      goes_then _ _ _ c.loop-cell.invariant.1 (goes_by _ _ _ c.in_ok-write_cell.ensures.written.tokens),
      λ end rest. c.loop-cell.invariant.2 end
          (element_then (TellsCell T) (tree_depth T) c.args.cells.now c.loop-cell.cell-index c.cell-item.result c.loop-cell.out.tokens c.write_cell.new.out.tokens end
          c.loop-cell-test.true c.cell-item.is c.in_ok-write_cell.ensures.written rest),
    )

pub write_each-returns-clause-written : goal.write_each-returns-clause-written
write_each-returns-clause-written t c =
    let T = tree_of c.args.field.now in
    let end = c.end_array.new.self.tokens in
    let closed : end ≡ c.loop-cell.out.tokens ++ token.end_array ∷ [] = search rules in
    let none = drop_all c.loop-cell.cell-index c.args.cells.now (omega (arith, c.loop-cell-test.false)) in
    c.loop-cell.invariant.2 end
    (subst (λ (l : List Plain). WritesElements (TellsCell T) (tree_depth T) (map seen l) c.loop-cell.out.tokens end) (sym none) (json.no_items, closed, tt))

pub write_each_member-write_member-requires : goal.write_each_member-write_member-requires
write_each_member-write_member-requires t c =
    let x = c.index-fields-index.result in
    let there = height_there c.args.fields.now c.loop-index.index x c.loop-index-test.true c.index-fields-index.is in
    (subst (λ n. 8 * height (field_shape x) + 1 < n) c.decreases (omega (arith, there)), names_at c.args.fields.now c.loop-index.index x c.loop-index-test.true c.index-fields-index.is c.requires.names)

pub write_each_member-returns-in_err-write_member-clause-begun : goal.write_each_member-returns-in_err-write_member-clause-begun
write_each_member-returns-in_err-write_member-clause-begun t c =
    on_err _ c.from_residual.result (goes_then _ _ _ c.loop-index.invariant.1 c.in_err-write_member.ensures.begun)

pub write_each_member-returns-in_err-write_member-clause-refused : goal.write_each_member-returns-in_err-write_member-clause-refused
write_each_member-returns-in_err-write_member-clause-refused t c = λ d told.
    let fields = c.args.fields.now in
    let x = c.index-fields-index.result in
    let y = c.index-cells-index.result in
    let zip = members_zip (map tree_of fields) d (map seen c.args.cells.now) told in
    let here = zipped_both (TellsMember d) tree_of seen fields c.args.cells.now c.loop-index.index x y zip c.loop-index-test.true (omega (arith, c.loop-index-test.true, c.requires.counts)) c.index-fields-index.is c.index-cells-index.is in
    told_on c.from_residual.result c.in_err-write_member.field-0.0 OutOfMemory c.from_residual.ensures.1 (c.in_err-write_member.ensures.refused _ here)

pub write_each_member-loop-index-preserved : goal.write_each_member-loop-index-preserved
write_each_member-loop-index-preserved t c = (
  c.in_ok-write_member.ensures.before ∙ c.loop-index.invariant.0,
  goes_then _ _ _ c.loop-index.invariant.1 (goes_by _ _ _ c.in_ok-write_member.ensures.written.1),
  λ end rest. c.loop-index.invariant.2 end
      (member_then seen c.args.fields.now c.args.cells.now c.loop-index.index c.index-fields-index.result c.index-cells-index.result c.loop-index.out.tokens c.write_member.new.out.tokens end
      c.loop-index-test.true (omega (arith, c.loop-index-test.true, c.requires.counts)) c.index-fields-index.is c.index-cells-index.is c.in_ok-write_member.ensures.written rest),
)

pub write_each_member-returns-clause-written : goal.write_each_member-returns-clause-written
write_each_member-returns-clause-written t c =
    let end = c.end_object.new.self.tokens in
    let out = c.loop-index.out.tokens in
    let closed : end ≡ out ++ token.end_object ∷ [] = search rules in
    let fields = drop_all c.loop-index.index c.args.fields.now (omega (arith, c.loop-index-test.false)) in
    let cells = drop_all c.loop-index.index c.args.cells.now (omega (arith, c.loop-index-test.false, c.requires.counts)) in
    c.loop-index.invariant.2 end
    (subst (λ (fs : List Field). WritesMembers (forest_in fs) (map seen (drop c.loop-index.index c.args.cells.now)) out end) (sym fields)
    (subst (λ (l : List Plain). WritesMembers (forest_in []) (map seen l) out end) (sym cells) (json.no_members, closed, tt)))

pub write_elements-returns-in_ok-end_array-in-empty-clause-written : goal.write_elements-returns-in_ok-end_array-in-empty-clause-written
write_elements-returns-in_ok-end_array-in-empty-clause-written t c =
    let inside = forest_in c.args.fields.now in
    let cells = c.args.cells.now in
    let opened : c.begin_array.new.self.tokens ≡ c.args.out.now.tokens ++ token.begin_array ∷ [] = search rules in
    let closed : c.end_array.new.self.tokens ≡ c.begin_array.new.self.tokens ++ token.end_array ∷ [] = search rules in
    let none : cells ≡ [] = empty_list cells c.if-is_empty.ensures in
    subst (λ (l : List Plain). WritesValue (λ d. TellsElements (TellsElement inside) d (map seen l)) (suc (forest_depth inside)) c.args.out.now.tokens c.end_array.new.self.tokens) (sym none)
    (array_written (TellsElement inside) (forest_depth inside) [] c.args.out.now.tokens c.begin_array.new.self.tokens c.end_array.new.self.tokens opened (json.no_items, closed, tt))

pub write_elements-returns-in-empty-2-clause-refused : goal.write_elements-returns-in-empty-2-clause-refused
write_elements-returns-in-empty-2-clause-refused t c = λ d told.
    let cells = c.args.cells.now in
    let long = zip_long (TellsElement (forest_in c.args.fields.now)) told.values (map seen cells) told.each in
    let none = no_element c.args.fields.now told.values (map seen cells) c.in-empty.len_below told.each in
    absurd (not_empty (length cells) c.if-is_empty.ensures (omega (arith, long, none, length-map cells seen)))

pub write_elements-returns-in-len1-up-clause-written : goal.write_elements-returns-in-len1-up-clause-written
write_elements-returns-in-len1-up-clause-written t c =
    let fields = c.args.fields.now in
    let x = c.field-item.result in
    let cells = map seen c.args.cells.now in
    let first = dropped fields 0 x (omega (arith, c.in-len1-up.len_at_least)) c.field-item.is in
    let opened : c.begin_array.new.self.tokens ≡ c.args.out.now.tokens ++ token.begin_array ∷ [] = search rules in
    on_ok_weaker c.write_each.result
    (λ w. array_written (TellsElement (forest_in fields)) (forest_depth (forest_in fields)) cells c.args.out.now.tokens c.begin_array.new.self.tokens c.write_each.new.out.tokens opened
    (subst (λ (fs : List Field). WritesElements (TellsElement (forest_in fs)) (forest_depth (forest_in fields)) cells c.begin_array.new.self.tokens c.write_each.new.out.tokens) (sym first)
    (w.0, w.1, deeper_elements (TellsCell (tree_of x)) (tree_depth (tree_of x)) (forest_depth (forest_in fields)) cells w.0 (depth_first fields x first) w.2))) c.write_each.ensures.written

pub write_elements-returns-in-len1-up-clause-refused : goal.write_elements-returns-in-len1-up-clause-refused
write_elements-returns-in-len1-up-clause-refused t c = λ d told.
    let first = dropped c.args.fields.now 0 c.field-item.result (omega (arith, c.in-len1-up.len_at_least)) c.field-item.is in
    c.write_each.ensures.refused told.values
    (subst (λ (fs : List Field). AllZip (TellsElement (forest_in fs)) told.values (map seen c.args.cells.now)) first told.each)

pub write_form-returns-in-Some-clause-refused : goal.write_form-returns-in-Some-clause-refused
write_form-returns-in-Some-clause-refused t c = λ d told.
    let inside = forest_in c.args.fields.now in
    let here = subst (λ (f : Form). TellsForm f (TellsElement inside) (TellsFields inside) d (seen c.args.cell.now)) c.in-List.is told in
    let same = list_one here.0 (map seen c.in-Some.cells.now) (sym here.2 ∙ c.in-Some.ensures.some) in
    c.write_elements.ensures.refused d (subst (λ (l : List Seen). TellsElements (TellsElement inside) d l) same here.1)

pub write_form-returns-in-Some-elements_in-clause-refused : goal.write_form-returns-in-Some-elements_in-clause-refused
write_form-returns-in-Some-elements_in-clause-refused t c = λ d told.
    let inside = forest_in c.args.fields.now in
    let here = subst (λ (f : Form). TellsForm f (TellsElement inside) (TellsFields inside) d (seen c.args.cell.now)) c.in-SizedList.is told in
    let same = list_one here.0 (map seen c.in-Some-elements_in.cells.now) (sym here.3 ∙ c.in-Some-elements_in.ensures.some) in
    c.write_elements-in-Some-elements_in.ensures.refused d (subst (λ (l : List Seen). TellsElements (TellsElement inside) d l) same here.1)

pub write_form-returns-in-Some-2-clause-refused : goal.write_form-returns-in-Some-2-clause-refused
write_form-returns-in-Some-2-clause-refused t c = λ d told.
    let inside = forest_in c.args.fields.now in
    let cells = c.in-Some-elements_in.cells.now in
    let here = subst (λ (f : Form). TellsForm f (TellsElement inside) (TellsFields inside) d (seen c.args.cell.now)) c.in-SizedList.is told in
    let same = list_one here.0 (map seen cells) (sym here.3 ∙ c.in-Some-elements_in.ensures.some) in
    absurd (c.if-cells-size.false (sym (length-map cells seen) ∙ sym (ap length same) ∙ here.2))

pub write_form-returns-in-Some-fields_in-clause-refused : goal.write_form-returns-in-Some-fields_in-clause-refused
write_form-returns-in-Some-fields_in-clause-refused t c = λ d told.
    let inside = forest_in c.args.fields.now in
    let here = subst (λ (f : Form). TellsForm f (TellsElement inside) (TellsFields inside) d (seen c.args.cell.now)) c.in-Struct.is told in
    let same = tuple_one here.0 (map seen c.in-Some-fields_in.cells.now) (sym here.2 ∙ c.in-Some-fields_in.ensures.some) in
    c.write_members.ensures.refused d (subst (λ (l : List Seen). TellsFields inside d l) same here.1)

pub write_form-returns-in-Null : goal.write_form-returns-in-Null
write_form-returns-in-Null t c =
    let inside = forest_in c.args.fields.now in
    let cell = seen c.args.cell.now in record {
      written =
          on_ok_weaker c.write_flat.result
          (λ w. written_weaker (λ d. TellsFlat c.args.form d cell) (λ d. TellsForm c.args.form (TellsElement inside) (TellsFields inside) d cell) 0 (suc (forest_depth inside))
          c.args.out.now.tokens c.write_flat.new.out.tokens (λ d told. (flat_alike (TellsElement inside) (TellsFields inside) d cell c.args.form c.in-Null.is).1 told) (omega arith) w)
          c.write_flat.ensures.written;
      refused = λ d told. c.write_flat.ensures.refused d ((flat_alike (TellsElement inside) (TellsFields inside) d cell c.args.form c.in-Null.is).0 told);
      before = c.write_flat.ensures.before;
      begun = on_err_weaker c.write_flat.result (λ is. goes_nowhere _ _ is) c.write_flat.ensures.kept;
    }

pub write_members-returns-then-fields-cells-clause-refused : goal.write_members-returns-then-fields-cells-clause-refused
write_members-returns-then-fields-cells-clause-refused t c = λ d told.
    let zip = members_zip (map tree_of c.args.fields.now) d (map seen c.args.cells.now) told.1 in
    let long = zip_long (TellsMember d) (map tree_of c.args.fields.now) (map seen c.args.cells.now) zip in
    absurd (c.if-fields-cells.true (sym (length-map c.args.fields.now tree_of) ∙ long ∙ length-map c.args.cells.now seen))

pub write_members-returns-clause-written : goal.write_members-returns-clause-written
write_members-returns-clause-written t c =
    let opened : c.begin_object.new.self.tokens ≡ c.args.out.now.tokens ++ token.begin_object ∷ [] = search rules in
    on_ok_weaker c.write_each_member.result
    (λ w. object_written (forest_in c.args.fields.now) (map seen c.args.cells.now) c.args.out.now.tokens c.begin_object.new.self.tokens c.write_each_member.new.out.tokens c.requires.names opened w)
    c.write_each_member.ensures.written
