use Rattle.lawful_histories.specs.Saying.{Accepted, Decided}
use Rattle.lawful_histories.proofs.Agreement.{one_value_law}
use Rattle.lawful_histories.proofs.ByMessages.{says_said}
use Rattle.lawful_histories.proofs.Places.{within_sent}
use Rattle.lawful_histories.proofs.Majorities.{most_weaker}
use Rattle.lawful_histories.proofs.laws.decided_is_one.Goals as goal

pub returns-clause-chosen : goal.returns-clause-chosen
returns-clause-chosen g = λ n sent k s v lawful decided.
    let choice = (lawful s).decides_what_was_chosen k v (says_said sent k s (Decided v) decided) in
    (choice.0, most_weaker n _ _ (λ a lt vote. (vote.0, within_sent sent s vote.0 (Accepted a choice.0 v) vote.2, vote.2)) choice.1)

pub returns-clause-agree : goal.returns-clause-agree
returns-clause-agree g = λ n sent j k s v w lawful first second.
    one_value_law n sent s v w lawful (returns-clause-chosen g n sent j s v lawful first) (returns-clause-chosen g n sent k s w lawful second)
