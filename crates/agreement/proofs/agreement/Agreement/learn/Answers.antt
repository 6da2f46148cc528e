use Rattle.std.proofs.Common.{refl, sym, subst, ◌∙◌}
use Rattle.learner.specs.State.{decided_at as learned_at}
use Rattle.decided_log.specs.LogState.{decided_at}
use Rattle.agreement.specs.State.{AgreementState, Has}
use Rattle.agreement.specs.Step.{CanLearn}
use Rattle.agreement.proofs.Parts as parts
use Rattle.agreement.proofs.agreement.Agreement.learn.Goals as goal

pub returns-clause-stands : goal.returns-clause-stands
returns-clause-stands c views had =
    let given = subst (λ (s : AgreementState). Has s views × CanLearn s c.args.slot c.args.value c.args.learned) (sym c.self.view_is) (had, c.requires) in
    let has = given.0 in
    let can = given.1 in
    record {
      restored = has.restored;
      begun = has.begun;
      first_round = has.first_round;
      proposer_calls = has.proposer_calls;
      learner_calls = c.on_decided.ensures.learned _ views.learner_calls has.learner_calls;
      logged = parts.both_have (decided_at c.self.inside.log) (learned_at c.self.inside.learner) (decided_at c.log_learned.new.log) (learned_at c.on_decided.new.self)
          c.args.slot c.args.learned has.logged
          (c.log_learned.ensures.here (decided_at c.self.inside.log c.args.slot)
          (λ is. has.logged c.args.slot ∙ parts.decided_when_free (learned_at c.self.inside.learner c.args.slot) c.args.value c.args.learned can.now is) refl)
          c.log_learned.ensures.others
          (c.on_decided.ensures.here ∙ parts.decided_here (learned_at c.self.inside.learner c.args.slot) c.args.value c.args.learned can.now) c.on_decided.ensures.others;
      log_is = c.log_learned.ensures.node ∙ has.log_is;
      beyond = parts.still_beyond (learned_at c.self.inside.learner) (learned_at c.on_decided.new.self) c.args.slot _ can.within c.on_decided.ensures.others has.beyond;
      seen = has.seen;
      slots = has.slots;
    }
