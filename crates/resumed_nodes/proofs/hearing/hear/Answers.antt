use Rattle.std.proofs.Common.{◌≡◌, rules, subst}
use Rattle.ballots.specs.declared.message.Message.{Message}
use Rattle.agreement_rules.specs.Views.{Views}
use Rattle.stored_nodes.specs.State.{IsPlaced, StandsUp}
use Rattle.resumed_nodes.specs.Hearing.{HearAnswers}
use Rattle.resumed_nodes.proofs.hearing.hear.Goals as goal

pub returns-in-Ok-clause-gives : goal.returns-in-Ok-clause-gives
returns-in-Ok-clause-gives g c =
    let copied : c.in-Ok.copy ≡ c.args.message.now = search rules in
    subst (λ (m : Message). (views : Views) → IsPlaced c.args.seat.now → StandsUp c.args.seat.now views → HearAnswers c.args.seat.now c.hear_copy.new.seat views m c.hear_copy.result)
    copied c.hear_copy.ensures.gives
