use Rattle.std.proofs.Common.{rules, arith, sym, subst, ◌∙◌, ◌≡◌, inl, inr, List}
use Rattle.std.proofs.lemmas.Slice.Eq.{bytes_eq-Decides}
use Rattle.std.proofs.lemmas.List.{drop_all}
use Rattle.std.proofs.lemmas.Bool.{false≢true}
use Rattle.header_types.specs.declared.schema.Field.{Field}
use Rattle.header_types.specs.Views.{tree_of}
use Rattle.json_rows.specs.Cells.{IsNameOf, forest_in, name_of}
use Rattle.json_rows.proofs.Told.{name_out, named_more, named_here, later}
use Rattle.json_rows.proofs.reading.is_name_of.Goals as goal

pub returns-then-eq : goal.returns-then-eq
returns-then-eq c =
    let x = c.field-item.result in
    let same = (bytes_eq-Decides c.as_str.result.now c.args.name.now).0 (sym c.if-eq.ensures) in
    let named : c.args.name.now ≡ name_of (tree_of x) = sym same ∙ c.as_str.ensures.value ∙ sym (name_out x) in
    (λ yes. c.loop-field.invariant.0 (named_here c.args.fields.now c.loop-field.field-index x c.args.name.now c.loop-field-test.true c.field-item.is (inl named)), λ yes. search rules)

pub loop-field-preserved : goal.loop-field-preserved
loop-field-preserved c =
    let x = c.field-item.result in
    let fields = c.args.fields.now in
    let i = c.loop-field.field-index in
    let name = c.args.name.now in
    let other = λ (is : name ≡ name_of (tree_of x)).
    false≢true (c.if-eq.ensures ∙ (bytes_eq-Decides c.as_str.result.now name).1 (c.as_str.ensures.value ∙ sym (name_out x) ∙ sym is)) in (
      λ named. c.loop-field.invariant.0 (named_here fields i x name c.loop-field-test.true c.field-item.is (inr named)),
      λ named. later name (name_of (tree_of x)) _ other (named_more fields i x name c.loop-field-test.true c.field-item.is (c.loop-field.invariant.1 named)),
    )

pub returns : goal.returns
returns c =
    let none = drop_all c.loop-field.field-index c.args.fields.now (omega (arith, c.loop-field-test.false)) in (
      λ yes. absurd (false≢true yes),
      λ named. absurd (subst (λ (fs : List Field). IsNameOf (forest_in fs) c.args.name.now) none (c.loop-field.invariant.1 named)),
    )
