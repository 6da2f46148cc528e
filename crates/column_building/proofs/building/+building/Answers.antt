use Rattle.std.proofs.Common.{◌≡◌, ◌+◌, ◌*◌, ◌<◌, ◌≤◌, ◌∙◌, refl, sym, ap, subst, length, map, drop, replicate, arith}
use Rattle.std.specs.List.{AllByRecursion, flat_map}
use Rattle.std.specs.Result.{IfOk}
use Rattle.std.proofs.lemmas.Bool.{and_parts, eqb-true}
use Rattle.std.proofs.lemmas.List.{length-map}
use Rattle.std.proofs.lemmas.Result.{err_from_is_err_and}
use Rattle.batch_types.specs.Cells.{list_cell, tuple_cell, no_cell}
use Rattle.batch_types.specs.Canonical.{blank_of, first_blank, blanks_of, elements_or, field_or, fields_parts}
use Rattle.batch_types.specs.LaysOut.{values_limit}
use Rattle.batch_types.specs.Layouts.{null_layout, bits_layout, bytes_layout, binary_layout, utf8_layout}
use Rattle.batch_types.specs.Typed.{IsCellOf, IsElementOf}
use Rattle.batch_types.specs.Written.{AreFieldRooms}
use Rattle.batch_columns.specs.FieldShapes.{field_shapes}
use Rattle.batch_columns.specs.Held.{height, heights}
use Rattle.column_building.specs.Slots.{slot_cells, elements_counted}
use Rattle.column_building.specs.Whole.{field_shape, is_whole, are_whole}
use Rattle.column_building.specs.Built.{AreFewNodes, IsBuilt, IsCause}
use Rattle.column_building.proofs.Shaped.{height_there, whole_next, nth_blank}
use Rattle.column_building.proofs.Blank.{first_fits, elements_fit, any_sizes, fields_fit}
use Rattle.column_building.proofs.Gathered.{blank_list, slots_long, elements_long}
use Rattle.column_building.proofs.Holding.{list_surrounds, list_built, list_cause, list_many, blocks_surround, blocks_built, blocks_cause, blocks_many}
use Rattle.column_building.proofs.Holding.{struct_surrounds, struct_built, fit_open, few_next, room_next, built_next, field_cause, fields_done}
use Rattle.column_building.proofs.Holding.{nulls_built, flat_shape, one_whole, first_open, first_built, not_more}
use Rattle.column_building.proofs.building.+building.Goals as goal

pub list_column-returns-then-are_many-clause-cause : goal.list_column-returns-then-are_many-clause-cause
list_column-returns-then-are_many-clause-cause t c =
    let inside = field_shapes c.args.fields.now in
    list_many inside c.args.slots.now (one_whole inside c.requires.whole).0 (c.are_many.ensures.0 c.if-are_many.true)

pub list_column-build_first-requires : goal.list_column-build_first-requires
list_column-build_first-requires t c =
    let inside = field_shapes c.args.fields.now in
    let slots = c.args.slots.now in
    let whole = one_whole inside c.requires.whole in
    let few : elements_counted 0 slots ≤ values_limit =
    not_more c.are_many.result values_limit (elements_counted 0 slots) c.are_many.ensures.1 c.if-are_many.false in
    let elements = slot_cells (first_blank inside) c.deref.result.now in
    let gathered : elements ≡ flat_map (elements_or (replicate 0 (first_blank inside))) (slot_cells (list_cell no_cell) slots) =
    ap (slot_cells (first_blank inside)) c.deref.ensures.value ∙ c.in_ok-offsets.ensures.elements (first_blank inside) in
    let long : length c.deref.result.now ≤ values_limit =
    omega (arith, slots_long (first_blank inside) c.deref.result.now, ap length gathered, elements_long 0 (first_blank inside) slots, few) in (
      subst (λ n. 3 * heights inside + 1 < n) c.decreases (omega arith),
      (
        whole,
        (
          subst (AllByRecursion (IsElementOf inside)) (sym gathered)
              (elements_fit (IsElementOf inside) 0 (first_blank inside) (first_fits inside whole.0 whole.1) (slot_cells (list_cell no_cell) slots) c.requires.fit),
          long,
        ),
      ),
    )

pub list_column-returns-in_err-inside-clause-cause : goal.list_column-returns-in_err-inside-clause-cause
list_column-returns-in_err-inside-clause-cause t c =
    let inside = field_shapes c.args.fields.now in
    let slots = c.args.slots.now in
    let whole = one_whole inside c.requires.whole in
    let few : elements_counted 0 slots ≤ values_limit =
    not_more c.are_many.result values_limit (elements_counted 0 slots) c.are_many.ensures.1 c.if-are_many.false in
    let elements = slot_cells (first_blank inside) c.deref.result.now in
    let gathered : elements ≡ flat_map (elements_or (replicate 0 (first_blank inside))) (slot_cells (list_cell no_cell) slots) =
    ap (slot_cells (first_blank inside)) c.deref.ensures.value ∙ c.in_ok-offsets.ensures.elements (first_blank inside) in
    let p = err_from_is_err_and c.from_residual-in_err-inside.result c.from_residual-in_err-inside.ensures.1 in
    rw (p.1, p.2) (list_cause inside slots c.requires.few few elements gathered c.in_err-inside.field-0.0 c.in_err-inside.ensures.cause)

pub list_column-around-requires : goal.list_column-around-requires
list_column-around-requires t c =
    let inside = field_shapes c.args.fields.now in
    let slots = c.args.slots.now in
    let whole = one_whole inside c.requires.whole in
    let few : elements_counted 0 slots ≤ values_limit =
    not_more c.are_many.result values_limit (elements_counted 0 slots) c.are_many.ensures.1 c.if-are_many.false in
    let elements = slot_cells (first_blank inside) c.deref.result.now in
    let gathered : elements ≡ flat_map (elements_or (replicate 0 (first_blank inside))) (slot_cells (list_cell no_cell) slots) =
    ap (slot_cells (first_blank inside)) c.deref.ensures.value ∙ c.in_ok-offsets.ensures.elements (first_blank inside) in
    ((list_cell no_cell), refl, list_surrounds inside slots c.requires.few few elements gathered c.in_ok-inside.inside.items c.in_ok-offsets.offsets.items c.in_ok-inside.ensures.built c.requires.fit c.in_ok-offsets.ensures.offsets)

pub list_column-returns-clause-built : goal.list_column-returns-clause-built
list_column-returns-clause-built t c =
    let inside = field_shapes c.args.fields.now in
    let slots = c.args.slots.now in
    let whole = one_whole inside c.requires.whole in
    let few : elements_counted 0 slots ≤ values_limit =
    not_more c.are_many.result values_limit (elements_counted 0 slots) c.are_many.ensures.1 c.if-are_many.false in
    let elements = slot_cells (first_blank inside) c.deref.result.now in
    let gathered : elements ≡ flat_map (elements_or (replicate 0 (first_blank inside))) (slot_cells (list_cell no_cell) slots) =
    ap (slot_cells (first_blank inside)) c.deref.ensures.value ∙ c.in_ok-offsets.ensures.elements (first_blank inside) in
    list_built inside slots c.requires.few few elements gathered c.in_ok-inside.inside.items c.in_ok-around.field-0 c.in_ok-inside.ensures.built c.in_ok-around.ensures.shape
    (c.in_ok-around.ensures.cells (list_cell no_cell) refl
    (list_surrounds inside slots c.requires.few few elements gathered c.in_ok-inside.inside.items c.in_ok-offsets.offsets.items c.in_ok-inside.ensures.built c.requires.fit c.in_ok-offsets.ensures.offsets))

pub blocks_column-returns-then-are_many-clause-cause : goal.blocks_column-returns-then-are_many-clause-cause
blocks_column-returns-then-are_many-clause-cause t c =
    let inside = field_shapes c.args.fields.now in
    blocks_many c.args.size inside c.args.slots.now (one_whole inside c.requires.whole).0 (c.are_many.ensures.0 c.if-are_many.true)

pub blocks_column-build_first-requires : goal.blocks_column-build_first-requires
blocks_column-build_first-requires t c =
    let inside = field_shapes c.args.fields.now in
    let slots = c.args.slots.now in
    let whole = one_whole inside c.requires.whole in
    let few : elements_counted c.args.size slots ≤ values_limit =
    not_more c.are_many.result values_limit (elements_counted c.args.size slots) c.are_many.ensures.1 c.if-are_many.false in
    let elements = slot_cells (first_blank inside) c.deref.result.now in
    let gathered : elements ≡ flat_map (elements_or (replicate c.args.size (first_blank inside))) (slot_cells (blank_list c.args.size (first_blank inside)) slots) =
    ap (slot_cells (first_blank inside)) c.deref.ensures.value ∙ c.in_ok-elements.ensures (first_blank inside) in
    let long : length c.deref.result.now ≤ values_limit =
    omega (arith, slots_long (first_blank inside) c.deref.result.now, ap length gathered, elements_long c.args.size (first_blank inside) slots, few) in (
      subst (λ n. 3 * heights inside + 1 < n) c.decreases (omega arith),
      (
        whole,
        (
          subst (AllByRecursion (IsElementOf inside)) (sym gathered)
              (elements_fit (IsElementOf inside) c.args.size (first_blank inside) (first_fits inside whole.0 whole.1) (slot_cells (blank_list c.args.size (first_blank inside)) slots) (any_sizes (IsElementOf inside) c.args.size (first_blank inside) (first_fits inside whole.0 whole.1) (slot_cells (blank_list c.args.size (first_blank inside)) slots) c.requires.fit)),
          long,
        ),
      ),
    )

pub blocks_column-returns-in_err-inside-clause-cause : goal.blocks_column-returns-in_err-inside-clause-cause
blocks_column-returns-in_err-inside-clause-cause t c =
    let inside = field_shapes c.args.fields.now in
    let slots = c.args.slots.now in
    let whole = one_whole inside c.requires.whole in
    let few : elements_counted c.args.size slots ≤ values_limit =
    not_more c.are_many.result values_limit (elements_counted c.args.size slots) c.are_many.ensures.1 c.if-are_many.false in
    let elements = slot_cells (first_blank inside) c.deref.result.now in
    let gathered : elements ≡ flat_map (elements_or (replicate c.args.size (first_blank inside))) (slot_cells (blank_list c.args.size (first_blank inside)) slots) =
    ap (slot_cells (first_blank inside)) c.deref.ensures.value ∙ c.in_ok-elements.ensures (first_blank inside) in
    let p = err_from_is_err_and c.from_residual-in_err-inside.result c.from_residual-in_err-inside.ensures.1 in
    rw (p.1, p.2) (blocks_cause c.args.size inside slots c.requires.few elements gathered c.in_err-inside.field-0.0 c.in_err-inside.ensures.cause)

pub blocks_column-around-requires : goal.blocks_column-around-requires
blocks_column-around-requires t c =
    let inside = field_shapes c.args.fields.now in
    let slots = c.args.slots.now in
    let whole = one_whole inside c.requires.whole in
    let few : elements_counted c.args.size slots ≤ values_limit =
    not_more c.are_many.result values_limit (elements_counted c.args.size slots) c.are_many.ensures.1 c.if-are_many.false in
    let elements = slot_cells (first_blank inside) c.deref.result.now in
    let gathered : elements ≡ flat_map (elements_or (replicate c.args.size (first_blank inside))) (slot_cells (blank_list c.args.size (first_blank inside)) slots) =
    ap (slot_cells (first_blank inside)) c.deref.ensures.value ∙ c.in_ok-elements.ensures (first_blank inside) in
    ((blank_list c.args.size (first_blank inside)), refl, blocks_surround c.args.size inside slots c.requires.few elements gathered c.in_ok-inside.inside.items c.new.result.items c.in_ok-inside.ensures.built c.requires.fit c.new.ensures.items)

pub blocks_column-returns-clause-built : goal.blocks_column-returns-clause-built
blocks_column-returns-clause-built t c =
    let inside = field_shapes c.args.fields.now in
    let slots = c.args.slots.now in
    let whole = one_whole inside c.requires.whole in
    let few : elements_counted c.args.size slots ≤ values_limit =
    not_more c.are_many.result values_limit (elements_counted c.args.size slots) c.are_many.ensures.1 c.if-are_many.false in
    let elements = slot_cells (first_blank inside) c.deref.result.now in
    let gathered : elements ≡ flat_map (elements_or (replicate c.args.size (first_blank inside))) (slot_cells (blank_list c.args.size (first_blank inside)) slots) =
    ap (slot_cells (first_blank inside)) c.deref.ensures.value ∙ c.in_ok-elements.ensures (first_blank inside) in
    blocks_built c.args.size inside slots c.requires.few elements gathered c.in_ok-inside.inside.items c.in_ok-around.field-0 c.in_ok-inside.ensures.built c.in_ok-around.ensures.shape
    (c.in_ok-around.ensures.cells (blank_list c.args.size (first_blank inside)) refl
    (blocks_surround c.args.size inside slots c.requires.few elements gathered c.in_ok-inside.inside.items c.new.result.items c.in_ok-inside.ensures.built c.requires.fit c.new.ensures.items))

pub struct_column-build_fields-requires : goal.struct_column-build_fields-requires
struct_column-build_fields-requires t c =
    let inside = field_shapes c.args.fields.now in (
      subst (λ n. 3 * heights inside + 1 < n) c.decreases (omega arith),
      (c.requires.whole, (fields_fit inside (slot_cells (tuple_cell (blanks_of inside)) c.args.slots.now) c.requires.whole c.requires.fit, c.requires.few)),
    )

pub struct_column-around-requires : goal.struct_column-around-requires
struct_column-around-requires t c =
    let inside = field_shapes c.args.fields.now in (
      tuple_cell (blanks_of inside),
      refl,
      struct_surrounds inside c.args.slots.now c.in_ok-inside.inside.items c.new.result.items c.in_ok-inside.ensures.built c.requires.fit c.new.ensures.items,
    )

pub struct_column-returns-clause-built : goal.struct_column-returns-clause-built
struct_column-returns-clause-built t c =
    let inside = field_shapes c.args.fields.now in
    struct_built inside c.args.slots.now c.in_ok-inside.inside.items c.in_ok-around.field-0 c.requires.few c.in_ok-inside.ensures.built c.in_ok-around.ensures.shape
    (c.in_ok-around.ensures.cells (tuple_cell (blanks_of inside)) refl
    (struct_surrounds inside c.args.slots.now c.in_ok-inside.inside.items c.new.result.items c.in_ok-inside.ensures.built c.requires.fit c.new.ensures.items))

pub build_fields-build_column-requires : goal.build_fields-build_column-requires
build_fields-build_column-requires t c =
    let fields = c.args.fields.now in
    let i = c.loop-index.index in
    let x = c.index-fields-index.result in
    let cells = slot_cells (tuple_cell (blanks_of (field_shapes fields))) c.args.slots.now in
    let same : slot_cells (blank_of (field_shape x)) c.deref.result.now ≡ map (field_or (blank_of (field_shape x)) i) cells =
    ap (slot_cells (blank_of (field_shape x))) c.deref.ensures.value
    ∙ c.in_ok-cells.ensures (blank_of (field_shape x)) (tuple_cell (blanks_of (field_shapes fields))) (nth_blank fields i x c.loop-index-test.true c.index-fields-index.is) in
    let wholes = and_parts (is_whole (field_shape x)) (are_whole (field_shapes (drop (i + 1) fields)))
    (sym (whole_next fields i x c.loop-index-test.true c.index-fields-index.is) ∙ c.loop-index.invariant.whole) in
    let deep = height_there fields i x c.loop-index-test.true c.index-fields-index.is in
    let long : length c.deref.result.now ≤ values_limit =
    omega (
      arith,
      slots_long (blank_of (field_shape x)) c.deref.result.now,
      ap length same,
      length-map cells (field_or (blank_of (field_shape x)) i),
      slots_long (tuple_cell (blanks_of (field_shapes fields))) c.args.slots.now,
      c.requires.few,
    ) in (
      subst (λ n. 3 * height (field_shape x) < n) c.decreases (omega (arith, deep)),
      (
        wholes.0,
        (
          subst (AllByRecursion (IsCellOf (field_shape x))) (sym same)
              (fit_open fields i x c.loop-index-test.true c.index-fields-index.is cells c.loop-index.invariant.fit).0,
          long,
        ),
      ),
    )

pub build_fields-returns-in_err-build_column-clause-cause : goal.build_fields-returns-in_err-build_column-clause-cause
build_fields-returns-in_err-build_column-clause-cause t c =
    let fields = c.args.fields.now in
    let i = c.loop-index.index in
    let x = c.index-fields-index.result in
    let cells = slot_cells (tuple_cell (blanks_of (field_shapes fields))) c.args.slots.now in
    let same : slot_cells (blank_of (field_shape x)) c.deref.result.now ≡ map (field_or (blank_of (field_shape x)) i) cells =
    ap (slot_cells (blank_of (field_shape x))) c.deref.ensures.value
    ∙ c.in_ok-cells.ensures (blank_of (field_shape x)) (tuple_cell (blanks_of (field_shapes fields))) (nth_blank fields i x c.loop-index-test.true c.index-fields-index.is) in
    let p = err_from_is_err_and c.from_residual-in_err-build_column.result c.from_residual-in_err-build_column.ensures.1 in
    rw (p.1, p.2)
    (field_cause fields i x c.loop-index-test.true c.index-fields-index.is cells (fields_parts (field_shapes fields) 0 cells).nodes
    (AreFieldRooms (field_shapes fields) 0 cells) c.in_err-build_column.field-0.0 c.loop-index.invariant.few c.loop-index.invariant.room
    (subst (λ l. IsCause (field_shape x) l c.in_err-build_column.field-0.0) same c.in_err-build_column.ensures.cause))

pub build_fields-loop-index-preserved : goal.build_fields-loop-index-preserved
build_fields-loop-index-preserved t c =
    let fields = c.args.fields.now in
    let i = c.loop-index.index in
    let x = c.index-fields-index.result in
    let cells = slot_cells (tuple_cell (blanks_of (field_shapes fields))) c.args.slots.now in
    let same : slot_cells (blank_of (field_shape x)) c.deref.result.now ≡ map (field_or (blank_of (field_shape x)) i) cells =
    ap (slot_cells (blank_of (field_shape x))) c.deref.ensures.value
    ∙ c.in_ok-cells.ensures (blank_of (field_shape x)) (tuple_cell (blanks_of (field_shapes fields))) (nth_blank fields i x c.loop-index-test.true c.index-fields-index.is) in
    let wholes = and_parts (is_whole (field_shape x)) (are_whole (field_shapes (drop (i + 1) fields)))
    (sym (whole_next fields i x c.loop-index-test.true c.index-fields-index.is) ∙ c.loop-index.invariant.whole) in
    record {
      whole = wholes.1;
      fit = (fit_open fields i x c.loop-index-test.true c.index-fields-index.is cells c.loop-index.invariant.fit).1;
      built =
          built_next fields i x c.loop-index-test.true c.index-fields-index.is cells (field_shapes fields) c.loop-index.columns.items
          c.put_column.new.columns.items c.in_ok-build_column.field-0 c.loop-index.invariant.built
          (subst (λ l. IsBuilt (field_shape x) l c.in_ok-build_column.field-0) same c.in_ok-build_column.ensures.built) c.in_ok-put_column.ensures;
      few =
          few_next fields i x c.loop-index-test.true c.index-fields-index.is cells (AreFewNodes (fields_parts (field_shapes fields) 0 cells).nodes)
          c.loop-index.invariant.few;
      room =
          room_next fields i x c.loop-index-test.true c.index-fields-index.is cells (AreFieldRooms (field_shapes fields) 0 cells)
          c.loop-index.invariant.room;
    }

pub build_fields-returns-clause-built : goal.build_fields-returns-clause-built
build_fields-returns-clause-built t c =
    let inside = field_shapes c.args.fields.now in
    fields_done c.args.fields.now c.loop-index.index inside (slot_cells (tuple_cell (blanks_of inside)) c.args.slots.now) c.loop-index.columns.items
    c.loop-index-test.false c.loop-index.invariant.built

pub build_first-build_column-requires : goal.build_first-build_column-requires
build_first-build_column-requires t c =
    let fields = c.args.fields.now in
    let x = c.field-item.result in
    let there : 0 < length fields = omega (arith, c.in-len1-up.len_at_least) in
    let opened = first_open fields x there c.field-item.is in
    let deep = height_there fields 0 x there c.field-item.is in
    let wholes = and_parts (is_whole (field_shape x)) (are_whole (field_shapes (drop 1 fields))) (sym (ap are_whole opened) ∙ c.requires.whole.1) in (
      subst (λ n. 3 * height (field_shape x) < n) c.decreases (omega (arith, deep)),
      (wholes.0, (subst (λ s. AllByRecursion (IsElementOf s) (slot_cells (first_blank s) c.args.slots.now)) opened c.requires.fit, c.requires.few)),
    )

pub build_column-returns-in-Bits-clause-built : goal.build_column-returns-in-Bits-clause-built
build_column-returns-in-Bits-clause-built t c =
    let e = flat_shape (field_shape c.args.field.now) bits_layout c.in-Bits.ensures (λ n is. eqb-true n 0 is) c.requires.whole in
    subst (λ s. IfOk c.bits_column.result (λ column. IsBuilt s (slot_cells (blank_of s) c.args.slots.now) column)) e c.bits_column.ensures.built

pub build_column-returns-in-Bytes-clause-built : goal.build_column-returns-in-Bytes-clause-built
build_column-returns-in-Bytes-clause-built t c =
    let e = flat_shape (field_shape c.args.field.now) (bytes_layout c.in-Bytes.size) c.in-Bytes.ensures (λ n is. eqb-true n 0 is) c.requires.whole in
    subst (λ s. IfOk c.sized_column.result (λ column. IsBuilt s (slot_cells (blank_of s) c.args.slots.now) column)) e c.sized_column.ensures.built

pub build_column-returns-in-Binary-clause-built : goal.build_column-returns-in-Binary-clause-built
build_column-returns-in-Binary-clause-built t c =
    let e = flat_shape (field_shape c.args.field.now) (binary_layout 4) c.in-Binary.ensures (λ n is. eqb-true n 0 is) c.requires.whole in
    subst (λ s. IfOk c.binary_column.result (λ column. IsBuilt s (slot_cells (blank_of s) c.args.slots.now) column)) e c.binary_column.ensures.built

pub build_column-returns-in-Utf8-clause-built : goal.build_column-returns-in-Utf8-clause-built
build_column-returns-in-Utf8-clause-built t c =
    let e = flat_shape (field_shape c.args.field.now) (utf8_layout 4) c.in-Utf8.ensures (λ n is. eqb-true n 0 is) c.requires.whole in
    subst (λ s. IfOk c.texts_column.result (λ column. IsBuilt s (slot_cells (blank_of s) c.args.slots.now) column)) e c.texts_column.ensures.built

pub build_column-returns-in-Null-clause-built : goal.build_column-returns-in-Null-clause-built
build_column-returns-in-Null-clause-built t c =
    let e = flat_shape (field_shape c.args.field.now) null_layout c.in-Null.ensures (λ n is. eqb-true n 0 is) c.requires.whole in
    subst (λ s. IsBuilt s (slot_cells (blank_of s) c.args.slots.now) c.nulls.result) e
    (nulls_built c.args.slots.now c.nulls.result c.requires.few
    (subst (λ s. AllByRecursion (IsCellOf s) (slot_cells (blank_of s) c.args.slots.now)) (sym e) c.requires.fit) c.nulls.ensures.shape c.nulls.ensures.cells)

pub build_first-returns-in_ok-only-in-len1-up-clause-built : goal.build_first-returns-in_ok-only-in-len1-up-clause-built
build_first-returns-in_ok-only-in-len1-up-clause-built t c =
    let fields = c.args.fields.now in
    let x = c.field-item.result in
    let there : 0 < length fields = omega (arith, c.in-len1-up.len_at_least) in
    first_built (field_shapes fields) (field_shape x) (field_shapes (drop 1 fields)) c.args.slots.now c.in_ok-column-in-len1-up.column
    c.in_ok-only-in-len1-up.field-0.items (first_open fields x there c.field-item.is) c.requires.whole.0 c.in_ok-column-in-len1-up.ensures.built
    c.in_ok-only-in-len1-up.ensures
