use Rattle.std.proofs.Common.{ℕ, List, subst}
use Rattle.ballots.specs.declared.message.Message.{Message}
use Rattle.lawful_histories.specs.Lawful.{IsLawful}
use Rattle.audit_command.proofs.TraceReading.{one_trace}
use Rattle.audit_command.proofs.laws.traces_are_one.Goals as goal

pub returns-clause-run : goal.returns-clause-run
returns-clause-run c = one_trace c.messages_are_one.ensures

pub returns-clause-judgement : goal.returns-clause-judgement
returns-clause-judgement c = λ file l u.
    let same = one_trace c.messages_are_one.ensures file l.members u.members l.sent u.sent l.means u.means in
    u.unlawful (subst (λ (n : ℕ). IsLawful n u.sent) same.0 (subst (λ (s : List Message). IsLawful l.members s) same.1 l.lawful))
