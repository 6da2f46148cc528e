use Rattle.std.proofs.Common.{ℕ, sym, subst}
use Rattle.acceptor.specs.Restored.{IsHighestRound}
use Rattle.agreement.specs.State.{AgreementState, Has}
use Rattle.agreement.proofs.agreement.Agreement.count.Goals as goal

pub returns-clause-stands : goal.returns-clause-stands
returns-clause-stands c views had =
    let has = subst (λ (s : AgreementState). Has s views) (sym c.self.view_is) had in
    record {
      restored = has.restored;
      begun = subst (λ (r : ℕ). IsHighestRound views.records r) (sym c.on_promise.ensures.round) has.begun;
      first_round = has.first_round;
      proposer_calls = c.on_promise.ensures.stands _ views.proposer_calls has.proposer_calls;
      learner_calls = has.learner_calls;
      logged = has.logged;
      log_is = has.log_is;
      beyond = has.beyond;
      seen = has.seen;
      slots = has.slots;
    }
