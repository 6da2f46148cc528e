use Rattle.stable_records.proofs.StandingLemmas.{keep_stands, recall_stands, recalled_stands, only_stands, left_stands}
use Rattle.stable_records.proofs.laws.answers_tell_what_stands.Goals as goal

pub returns-clause-keep : goal.returns-clause-keep
returns-clause-keep g c = λ old new tellings last answer.
    keep_stands (g.S.Stable.finds old) (g.S.Stable.finds new) tellings last answer

pub returns-clause-recall : goal.returns-clause-recall
returns-clause-recall g c = λ old new tellings answer.
    recall_stands (g.S.Stable.finds old) (g.S.Stable.finds new) tellings answer

pub returns-clause-recalled : goal.returns-clause-recalled
returns-clause-recalled g c = λ old new tellings records stands recalls. (
  recalled_stands (g.S.Stable.finds old) tellings records.items stands recalls.0,
  only_stands (g.S.Stable.finds new) records.items recalls.1,
)

pub returns-clause-crash : goal.returns-clause-crash
returns-clause-crash g c = λ old new tellings last answer found stands crash since.
    left_stands (g.S.Stable.finds old) tellings last answer found stands (crash.leaves found since)
