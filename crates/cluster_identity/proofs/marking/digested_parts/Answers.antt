use Rattle.std.proofs.Common.{ℕ, take, ap, ◌∙◌}
use Rattle.cluster_identity.proofs.Parts.{first_taken, last_taken}
use Rattle.cluster_identity.proofs.marking.digested_parts.Goals as goal

pub returns-clause-first : goal.returns-clause-first
returns-clause-first c = λ bytes is. ap (λ (n : ℕ). take n bytes) c.min.ensures ∙ first_taken bytes c.args.size is

pub returns-clause-last : goal.returns-clause-last
returns-clause-last c = λ bytes is.
    last_taken bytes c.args.size c.min.result c.saturating_sub.result is c.min.ensures c.saturating_sub.ensures
