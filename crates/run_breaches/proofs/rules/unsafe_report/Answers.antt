use Rattle.std.proofs.Common.{◌≡◌, ℕ, true, false, sym, subst, ◌∙◌}
use Rattle.ballots.specs.Ballot.{Ballot}
use Rattle.run_breaches.specs.Earlier.{IsPromised, MayBeProposed}
use Rattle.run_breaches.specs.Rules.{IsHighestReport}
use Rattle.run_breaches.specs.Highest.{IsBestOf}
use Rattle.run_breaches.proofs.Reported.{has_other_value}
use Rattle.run_breaches.proofs.rules.unsafe_report.Goals as goal

pub returns-in-Some : goal.returns-in-Some
returns-in-Some c =
    let n : ℕ = c.args.members in
    let b : Ballot = c.args.proposal.now.ballot in
    let promised : IsPromised n c.args.slot c.args.before.now b = c.is_promised.ensures.0 c.if-not-is_promised.false in
    let unsafe : MayBeProposed n c.args.slot c.args.before.now b c.args.proposal.now.value → ⊥ = λ safe. let no : false ≡ true = sym c.if-is_safe.false ∙ c.is_safe.ensures.1 safe in absurd cc in
    let highest : IsHighestReport n c.args.slot c.args.before.now b c.in-Some.place c.in-Some.field-0-1 =
    subst (IsBestOf n c.args.slot c.args.before.now b) c.in-Some.is c.highest_report.ensures in
    (promised, unsafe, (c.in-Some.field-0-1, highest), has_other_value n c.args.slot b c.args.before.now c.args.proposal.now.value c.in-Some.place c.in-Some.field-0-1 highest promised unsafe)
