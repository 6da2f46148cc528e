use Rattle.safe_histories.proofs.Prefixes.{prefixes_begin}
use Rattle.safe_histories.proofs.laws.prefixes_begin_one_another.Goals as goal

pub returns : goal.returns
returns c = λ members sent steps later node other xs ys lawful is also.
    prefixes_begin members sent lawful (record { one = c.one_value.ensures.chosen; decided = c.decided_is_one.ensures.chosen }) steps later node other xs ys is also
