use Rattle.std.proofs.Common.{◌≡◌, ◌+◌, refl, sym, ◌∙◌, subst, nat_abs, get_or, pos, List, ℤ, vec_len}
use Rattle.header_types.specs.declared.schema.Field.{out-Field}
use Rattle.batch_checking.proofs.Placing.{first_there, first_not_there, no_items, some_items}
use Rattle.batch_checking.proofs.fields.first_inside.Goals as goal

pub returns-then-is_empty : goal.returns-then-is_empty
returns-then-is_empty c =
    first_not_there c.args.field.now c.args.head.now c.args.place
    (no_items (out-Field c.args.field.now).children.items (vec_len (out-Field c.args.field.now).children) (out-Field c.args.field.now).children.ok.0
    (sym c.is_empty.ensures ∙ c.if-is_empty.true))

pub returns-else-is_empty : goal.returns-else-is_empty
returns-else-is_empty c =
    c.length_at.ensures
    ∙ subst (λ (l : List (ℤ × ℤ)). nat_abs (get_or c.deref.result.now (c.args.place.node + 1) (pos 0, pos 0)).0 ≡ nat_abs (get_or l (c.args.place.node + 1) (pos 0, pos 0)).0) c.deref.ensures.value refl
    ∙ first_there c.args.field.now c.args.head.now c.args.place
    (some_items (out-Field c.args.field.now).children.items (vec_len (out-Field c.args.field.now).children) (out-Field c.args.field.now).children.ok.0
    (sym c.is_empty.ensures ∙ c.if-is_empty.false))
