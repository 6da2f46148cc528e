use Rattle.safe_histories.proofs.Promised.{answer_was_put}
use Rattle.safe_histories.proofs.laws.answers_were_put.Goals as goal

pub returns : goal.returns
returns c = λ history place node version table bytes safe within runs is. answer_was_put history safe place node within runs version table bytes is
