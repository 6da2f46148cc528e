use Rattle.ballots.specs.declared.record.Record.TheVariants.{Accepted as HasAccepted}
use Rattle.cut_histories.proofs.laws.nodes_have_the_same_records.Goals as goal

pub returns-clause-accepted : goal.returns-clause-accepted
returns-clause-accepted c = λ config sent steps seats found other node slot told member has.
    (c.records_stand_behind_messages.ensures.accepted other.other_sent node slot told).0 (other.said node (HasAccepted slot told) member has)
