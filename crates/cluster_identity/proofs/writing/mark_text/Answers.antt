use Rattle.std.proofs.Common.{rules, ◌≡◌, ◌++◌, decimal, IfOk, string_bytes}
use Rattle.std.specs.Prelude.{codes}
use Rattle.cluster_identity.proofs.writing.mark_text.Goals as goal

pub returns-clause-text : goal.returns-clause-text
returns-clause-text c =
    let digits = c.in_ok-digits.digits in
    let written : IfOk c.format.result
    (λ text. string_bytes text ≡ codes "{\"length\":" ++ (decimal c.args.mark.length ++ (codes ",\"sha256\":\"" ++ (string_bytes digits ++ codes "\"}")))) =
    search rules in
    rw c.in_ok-digits.ensures.digits at written
