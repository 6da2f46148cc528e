use Rattle.safe_histories.proofs.Answered.{one_prefix, one_tables}
use Rattle.safe_histories.proofs.laws.shown_tables_are_one.Goals as goal

pub returns-clause-prefix : goal.returns-clause-prefix
returns-clause-prefix c = λ members sent steps node xs ys lawful is also.
    one_prefix members sent lawful (record { one = c.one_value.ensures.chosen; decided = c.decided_is_one.ensures.chosen }) steps node xs ys is also

pub returns-clause-tables : goal.returns-clause-tables
returns-clause-tables c = λ members sent steps node us ws lawful is also.
    one_tables members sent lawful (record { one = c.one_value.ensures.chosen; decided = c.decided_is_one.ensures.chosen }) steps node
    c.uploads_have_one_encoding.ensures us ws is also
