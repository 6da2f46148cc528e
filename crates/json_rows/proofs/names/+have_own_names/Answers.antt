use Rattle.std.proofs.Common.{arith, refl, sym, ap, subst, ◌∙◌, ◌+◌, ◌<◌, List, drop}
use Rattle.std.proofs.lemmas.List.{take_rest}
use Rattle.std.proofs.lemmas.Bool.{false≢true}
use Rattle.header_types.specs.declared.schema.Field.{Field}
use Rattle.header_types.specs.Views.{tree_of}
use Rattle.batch_columns.specs.Held.{heights}
use Rattle.batch_columns.specs.FieldShapes.{field_shapes}
use Rattle.column_building.proofs.Shaped.{height_there}
use Rattle.json_rows.specs.Cells.{IsNameOf, forest_in, name_of}
use Rattle.json_rows.specs.Written.{HaveOwnNames, HasOwnNames}
use Rattle.json_rows.proofs.Told.{height_inside, name_out}
use Rattle.json_rows.proofs.Put.{names_inside, names_around, names_open, names_close}
use Rattle.json_rows.proofs.names.+have_own_names.Goals as goal
use Rattle.json_rows.proofs.names.+have_own_names.Goals.{then-is_name_of-via-then-is_name_of, then-is_name_of-via-else-is_name_of+then-not-have_own_names}

pub have_own_names-requires : goal.have_own_names-requires
have_own_names-requires t c =
    let x = c.index-fields-index.result in
    let there = height_there c.args.fields.now c.loop-index.index x c.loop-index-test.true c.index-fields-index.is in
    let inside = height_inside x in
    let same = ap (λ (fs : List Field). heights (field_shapes fs)) c.deref-else-is_name_of.ensures.value in
    (subst (λ n. heights (field_shapes c.deref-else-is_name_of.result.now) < n) c.decreases (omega (arith, there, inside, same)), tt)

pub returns-then-is_name_of : goal.returns-then-is_name_of
returns-then-is_name_of t c =
    let fields = c.args.fields.now in
    let i = c.loop-index.index in
    let x = c.index-fields-index.result in
    let tail = take_rest fields (i + 1) in
    let name = c.deref.ensures ∙ sym (name_out x) in (
      λ yes. absurd (false≢true yes),
      λ own.
          let parts = names_open fields i x c.loop-index-test.true c.index-fields-index.is (c.loop-index.invariant.1 own) in
          elim c.then-is_name_of.branch [
            | then-is_name_of-via-then-is_name_of w ↦
                absurd (parts.0 (subst (λ n. IsNameOf (forest_in (drop (i + 1) fields)) n) name (subst (λ (fs : List Field). IsNameOf (forest_in fs) c.deref.result.now) tail (c.is_name_of.ensures.0 w.if-is_name_of.true))))
            | then-is_name_of-via-else-is_name_of+then-not-have_own_names w ↦
                w.if-not-have_own_names.ensures.1 (subst (λ (fs : List Field). HaveOwnNames (forest_in fs)) (sym w.deref-else-is_name_of.ensures.value) (names_inside x parts.1))
          ],
    )

pub loop-index-preserved : goal.loop-index-preserved
loop-index-preserved t c =
    let fields = c.args.fields.now in
    let i = c.loop-index.index in
    let x = c.index-fields-index.result in
    let tail = take_rest fields (i + 1) in
    let name = c.deref.ensures ∙ sym (name_out x) in
    let other = λ (named : IsNameOf (forest_in (drop (i + 1) fields)) (name_of (tree_of x))).
    false≢true (c.if-is_name_of.ensures.1 (subst (λ (fs : List Field). IsNameOf (forest_in fs) c.deref.result.now) (sym tail) (subst (λ n. IsNameOf (forest_in (drop (i + 1) fields)) n) (sym name) named))) in
    let own : HasOwnNames (tree_of x) = names_around x (subst (λ (fs : List Field). HaveOwnNames (forest_in fs)) c.deref-else-is_name_of.ensures.value (c.if-not-have_own_names.ensures.0 refl)) in (
      λ rest. c.loop-index.invariant.0 (names_close fields i x c.loop-index-test.true c.index-fields-index.is other own rest),
      λ all. (names_open fields i x c.loop-index-test.true c.index-fields-index.is (c.loop-index.invariant.1 all)).2,
    )
