use Rattle.std.proofs.Common.{◌≡◌, ℕ, subst}
use Rattle.acceptor.specs.AcceptorState.{AcceptorState, at, accepted_at}
use Rattle.acceptor.proofs.Promising.{acceptances_as_before}
use Rattle.acceptor.proofs.acceptor.Acceptor.reports_from.Goals as goal

pub returns-clause-acceptances : goal.returns-clause-acceptances
returns-clause-acceptances c =
    subst (λ (state : AcceptorState). (slot : ℕ) → at c.sort_keys.new.self.entries slot ≡ accepted_at state slot) c.self.view_is c.sort_keys.ensures.reordered.2

pub returns-clause-reports : goal.returns-clause-reports
returns-clause-reports c =
    acceptances_as_before (accepted_at c.args.self.now) (at c.sort_keys.new.self.entries) c.args.first c.acceptances_from.result (returns-clause-acceptances c) c.acceptances_from.ensures
