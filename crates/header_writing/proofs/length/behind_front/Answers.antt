use Rattle.header_types.specs.FieldView.{field_head_of, entries_in}
use Rattle.std.proofs.Common.{sym, ap, ◌∙◌, refl, arith, length}
use Rattle.header_writing.specs.Canonical.{field_numbers, type_object}
use Rattle.header_writing.specs.Objects.{string_object}
use Rattle.header_writing.specs.Weights.{behind}
use Rattle.header_writing.proofs.Lengths.{string_end}
use Rattle.header_writing.proofs.length.behind_front.Goals as goal

pub behind_string-ty-requires : goal.behind_string-ty-requires
behind_string-ty-requires c =
    omega (arith, c.requires, ap length c.as_str.ensures.value, c.behind_table-name.ensures (field_numbers (entries_in c.args.field.now)) refl)

pub behind_type-requires : goal.behind_type-requires
behind_type-requires c =
    omega (
      arith,
      c.requires,
      ap length c.as_str.ensures.value,
      c.behind_table-name.ensures (field_numbers (entries_in c.args.field.now)) refl,
      c.behind_string-ty.ensures,
      string_end c.behind_table-name.result c.as_str.result.now,
    )

pub returns : goal.returns
returns c =
    c.behind_type.ensures
    ∙ ap (λ p. behind p (type_object (field_head_of c.args.field.now).data_type)) (
    c.behind_string-ty.ensures
    ∙ ap (λ s. behind c.behind_table-name.result (string_object s)) c.as_str.ensures.value
    ∙ ap (λ p. behind p (string_object (field_head_of c.args.field.now).name))
    (c.behind_table-name.ensures (field_numbers (entries_in c.args.field.now)) refl)
    )
