use Rattle.std.proofs.Common.{true, false, ◌≡◌, sym, ◌∙◌}
use Rattle.proposer.proofs.Further.{may_not, no_next, next_of}
use Rattle.proposer.proofs.ranged.next_for.Goals as goal

pub returns-then-not-has_majority : goal.returns-then-not-has_majority
returns-then-not-has_majority c = λ members calls holds.
    may_not members calls c.args.attempt.now holds (λ gone. let no : false ≡ true = sym c.if-not-has_majority.true ∙ c.has_majority.ensures.1 gone in absurd (cc))

pub returns-in-Some : goal.returns-in-Some
returns-in-Some c = λ members calls holds.
    next_of members calls c.args.attempt.now holds (c.has_majority.ensures.0 c.if-not-has_majority.false) c.in-Some.ahead c.in-Some.is c.next.result c.next.ensures.within c.next.ensures.value

pub returns-in-None : goal.returns-in-None
returns-in-None c = λ members calls holds. no_next members calls c.args.attempt.now holds c.in-None.is
