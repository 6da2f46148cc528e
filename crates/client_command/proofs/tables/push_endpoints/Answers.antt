use Rattle.std.proofs.Common.{ap, ◌∙◌, ◌++◌, List, ℕ, string_bytes, refl}
use Rattle.client_command.proofs.Joined.{all_parts, endpoint_lines, lines_of}
use Rattle.client_command.proofs.tables.push_endpoints.Goals as goal

pub returns : goal.returns
returns c =
    all_parts lines_of c.args.endpoints.now c.args.endpoints.now c.loop-endpoint.endpoint-index (string_bytes c.args.text.now) (string_bytes c.loop-endpoint.text)
    c.loop-endpoint-test.false refl c.loop-endpoint.invariant
    ∙ ap (λ (l : List ℕ). string_bytes c.args.text.now ++ l) (endpoint_lines c.args.endpoints.now)
