use Rattle.header_types.specs.Views.{entry_of}
use Rattle.header_writing.specs.Canonical.{entry_object}
use Rattle.header_writing.specs.Objects.{string_object}
use Rattle.header_writing.specs.Weights.{behind}
use Rattle.std.proofs.Common.{sym, ap, ◌∙◌, refl, [], ◌∷◌, arith, length}
use Rattle.header_writing.proofs.Lengths.{entry_end, string_end}
use Rattle.header_writing.proofs.length.behind_entry.Goals as goal

pub behind_string-value-requires : goal.behind_string-value-requires
behind_string-value-requires c =
    omega (arith, c.requires, ap length c.as_str.ensures.value, c.behind_table-key.ensures (8 ∷ 12 ∷ 4 ∷ 8 ∷ []) refl)

pub behind_string-requires : goal.behind_string-requires
behind_string-requires c =
    omega (
      arith,
      c.requires,
      ap length c.as_str.ensures.value,
      ap length c.as_str-2.ensures.value,
      c.behind_table-key.ensures (8 ∷ 12 ∷ 4 ∷ 8 ∷ []) refl,
      c.behind_string-value.ensures,
      string_end c.behind_table-key.result c.as_str.result.now,
    )

pub returns : goal.returns
returns c =
    c.behind_string.ensures
    ∙ ap (λ s. behind c.behind_string-value.result (string_object s)) c.as_str-2.ensures.value
    ∙ entry_end c.args.place c.behind_table-key.result c.behind_string-value.result (entry_of c.args.entry.now)
    (c.behind_table-key.ensures (8 ∷ 12 ∷ 4 ∷ 8 ∷ []) refl)
    (c.behind_string-value.ensures ∙ ap (λ s. behind c.behind_table-key.result (string_object s)) c.as_str.ensures.value)
