use Rattle.std.proofs.Common.{◌≡◌, ◌∙◌, refl, sym, ap, subst, length, map, arith}
use Rattle.std.specs.List.{AllByRecursion}
use Rattle.std.specs.Result.{IfErr}
use Rattle.std.proofs.lemmas.List.{length-map}
use Rattle.std.proofs.lemmas.Result.{IfOk-weaker}
use Rattle.batch_types.specs.Canonical.{blank_of}
use Rattle.batch_types.specs.Typed.{IsCellOf}
use Rattle.batch_types.specs.Written.{AreRooms}
use Rattle.batch_cells.specs.CellViews.{cell_of}
use Rattle.column_building.specs.Slots.{slot_cells}
use Rattle.column_building.specs.Whole.{field_shape}
use Rattle.column_building.specs.Built.{AreFewValues, IsBuilt, IsCause}
use Rattle.column_building.specs.Rows.{CanBeMade}
use Rattle.column_building.proofs.Gathered.{slots_long}
use Rattle.column_building.proofs.building.column_of.Goals as goal

pub build_column-requires-clause-fit : goal.build_column-requires-clause-fit
build_column-requires-clause-fit c =
    let s = field_shape c.args.field.now in
    let same = ap (slot_cells (blank_of s)) c.deref.ensures.value ∙ c.in_ok-slots.ensures (blank_of s) in
    subst (AllByRecursion (IsCellOf s)) (sym same) (c.if-not-are_cells_of.ensures.0 refl)

pub build_column-requires-clause-few : goal.build_column-requires-clause-few
build_column-requires-clause-few c =
    let s = field_shape c.args.field.now in
    let same : slot_cells (blank_of s) c.deref.result.now ≡ map cell_of c.args.cells.now =
    ap (slot_cells (blank_of s)) c.deref.ensures.value ∙ c.in_ok-slots.ensures (blank_of s) in
    omega (arith, slots_long (blank_of s) c.deref.result.now, ap length same, length-map c.args.cells.now cell_of, c.if-cells-gt-VALUES_LIMIT.false)

pub returns-clause-cells : goal.returns-clause-cells
returns-clause-cells c =
    let s = field_shape c.args.field.now in
    let same = ap (slot_cells (blank_of s)) c.deref.ensures.value ∙ c.in_ok-slots.ensures (blank_of s) in
    IfOk-weaker c.build_column.result (λ column. IsBuilt s (slot_cells (blank_of s) c.deref.result.now) column)
    (λ column. column.cells ≡ map cell_of c.args.cells.now) (λ column built. built.cells ∙ same) c.build_column.ensures.built

pub returns-clause-many : goal.returns-clause-many
returns-clause-many c told =
    let s = field_shape c.args.field.now in
    let same = ap (slot_cells (blank_of s)) c.deref.ensures.value ∙ c.in_ok-slots.ensures (blank_of s) in
    subst (λ l. AreFewValues s l → ⊥) same
    (subst (λ r. IfErr r (λ fault. IsCause s (slot_cells (blank_of s) c.deref.result.now) fault)) told c.build_column.ensures.cause)

pub returns-clause-long : goal.returns-clause-long
returns-clause-long c told =
    let s = field_shape c.args.field.now in
    let same = ap (slot_cells (blank_of s)) c.deref.ensures.value ∙ c.in_ok-slots.ensures (blank_of s) in
    subst (λ l. AreRooms s l → ⊥) same
    (subst (λ r. IfErr r (λ fault. IsCause s (slot_cells (blank_of s) c.deref.result.now) fault)) told c.build_column.ensures.cause)

pub returns-clause-can : goal.returns-clause-can
returns-clause-can c =
    let s = field_shape c.args.field.now in
    let same = ap (slot_cells (blank_of s)) c.deref.ensures.value ∙ c.in_ok-slots.ensures (blank_of s) in
    IfOk-weaker c.build_column.result (λ column. IsBuilt s (slot_cells (blank_of s) c.deref.result.now) column)
    (λ _. CanBeMade s (map cell_of c.args.cells.now))
    (λ column built.
    record {
      whole = sym c.if-not-is_whole.ensures;
      fit = c.if-not-are_cells_of.ensures.0 refl;
      few = subst (AreFewValues s) same built.few;
      room = subst (AreRooms s) same built.room;
    })
    c.build_column.ensures.built
