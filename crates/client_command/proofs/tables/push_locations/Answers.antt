use Rattle.std.proofs.Common.{ap, ◌∙◌, ◌++◌, List, ℕ, string_bytes}
use Rattle.client_command.proofs.Joined.{all_parts, line_of, location_lines}
use Rattle.client_command.proofs.tables.push_locations.Goals as goal

pub returns : goal.returns
returns c =
    all_parts line_of c.deref-location-items.result.now c.args.endpoint.now.location.items c.loop-location.location-index (string_bytes c.args.text.now) (string_bytes c.loop-location.text)
    c.loop-location-test.false c.deref-location-items.ensures.value c.loop-location.invariant
    ∙ ap (λ (l : List ℕ). string_bytes c.args.text.now ++ l) (location_lines c.args.endpoint.now.location.items)
