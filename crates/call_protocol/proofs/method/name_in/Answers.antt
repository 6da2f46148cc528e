use Rattle.std.proofs.Common.{◌≡◌, ◌++◌, ℕ, List, subst}
use Rattle.std.specs.Prelude.{IfSome}
use Rattle.std.proofs.lemmas.Bool.Decides.{Decides-eqb}
use Rattle.std.proofs.lemmas.Slice.Eq.{strip_prefix_is}
use Rattle.call_protocol.proofs.Paths.{some_is}
use Rattle.call_protocol.proofs.method.name_in.Goals as goal

pub returns-clause-some : goal.returns-clause-some
returns-clause-some c =
    let after = strip_prefix_is Decides-eqb c.args.path.now c.as_bytes.result.now c.strip_prefix.result c.strip_prefix.ensures.cases in
    subst (λ (front : List ℕ). IfSome c.strip_prefix.result (λ name. c.args.path.now ≡ front ++ name.now)) c.as_bytes.ensures.value
    (some_is _ _ c.strip_prefix.result after)
