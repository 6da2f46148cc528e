use Rattle.agreement.proofs.Knowing as knowing
use Rattle.agreement.proofs.agreement.Agreement.is_free.Goals as goal

pub returns : goal.returns
returns c = λ views has.
    knowing.free_where c.args.self.now.config.members views.learner_calls c.args.slot c.learned.result c.is_none.result (c.learned.ensures views has) c.is_none.ensures
