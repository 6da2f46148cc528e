use Rattle.std.proofs.Common.{ap, ◌∙◌, ◌++◌, List, ℕ, string_bytes, refl}
use Rattle.client_command.proofs.Joined.{all_parts}
use Rattle.client_command.proofs.Shown.{field_line_of, field_lines}
use Rattle.client_command.proofs.fields.push_fields.Goals as goal

pub returns : goal.returns
returns c =
    all_parts field_line_of c.args.fields.now c.args.fields.now c.loop-field.field-index (string_bytes c.args.text.now) (string_bytes c.loop-field.text)
    c.loop-field-test.false refl c.loop-field.invariant
    ∙ ap (λ (l : List ℕ). string_bytes c.args.text.now ++ l) (field_lines c.args.fields.now)
