use Rattle.std.proofs.Common.{ℕ, sym, subst}
use Rattle.acceptor.specs.Restored.{IsHighestRound}
use Rattle.agreement.specs.declared.step.Change.{Change}
use Rattle.agreement.specs.State.{AgreementState, Has}
use Rattle.agreement.specs.Step.{CanTake, left_by}
use Rattle.agreement.proofs.Parts as parts
use Rattle.agreement.proofs.agreement.Agreement.take.Goals as goal

pub returns-in-Answered-clause-stands : goal.returns-in-Answered-clause-stands
returns-in-Answered-clause-stands c views had =
    let can = subst (λ (x : Change). CanTake c.args.self.now x) c.in-Answered.is c.requires in
    let has = subst (λ (s : AgreementState). Has s views) (sym c.self.view_is) had in
    let now : AgreementState = record {
      me = c.self.inside.me;
      config = c.self.inside.config;
      seen_round = c.self.inside.seen_round;
      acceptor = c.apply.new.self;
      proposer = c.self.inside.proposer;
      learner = c.self.inside.learner;
      log = c.self.inside.log;
    } in
    subst (λ (x : Change). Has now (left_by views views.seen_round x)) (sym c.in-Answered.is) (record {
      restored = c.apply.ensures.restored views.records has.restored;
      begun = parts.answered_round views.records _ _ can.0 has.begun;
      first_round = has.first_round;
      proposer_calls = has.proposer_calls;
      learner_calls = has.learner_calls;
      logged = has.logged;
      log_is = has.log_is;
      beyond = has.beyond;
      seen = has.seen;
      slots = has.slots;
    })

pub returns-in-Refused-clause-stands : goal.returns-in-Refused-clause-stands
returns-in-Refused-clause-stands c views had =
    let has = subst (λ (s : AgreementState). Has s views) (sym c.self-in-Refused.view_is) had in
    let now : AgreementState = record {
      me = c.self-in-Refused.inside.me;
      config = c.self-in-Refused.inside.config;
      seen_round = c.self-in-Refused.inside.seen_round;
      acceptor = c.self-in-Refused.inside.acceptor;
      proposer = c.on_nack.new.self;
      learner = c.self-in-Refused.inside.learner;
      log = c.self-in-Refused.inside.log;
    } in
    subst (λ (x : Change). Has now (left_by views views.seen_round x)) (sym c.in-Refused.is) (record {
      restored = has.restored;
      begun = subst (λ (r : ℕ). IsHighestRound views.records r) (sym c.on_nack.ensures.round) has.begun;
      first_round = has.first_round;
      proposer_calls = c.on_nack.ensures.stands _ views.proposer_calls has.proposer_calls;
      learner_calls = has.learner_calls;
      logged = has.logged;
      log_is = has.log_is;
      beyond = has.beyond;
      seen = has.seen;
      slots = has.slots;
    })
