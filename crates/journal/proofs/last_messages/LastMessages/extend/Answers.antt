use Rattle.std.proofs.Common.{◌++◌, ◌∷◌, [], arith, length-append}
use Rattle.journal.proofs.Ends.{end_of_more}
use Rattle.journal.proofs.last_messages.LastMessages.extend.Goals as goal

pub loop-message-preserved : goal.loop-message-preserved
loop-message-preserved c = (
  omega (arith, c.push.ensures.counted, c.loop-message.invariant.0, length-append c.loop-message.yielded (c.in-Some.message ∷ [])),
  λ sent is. end_of_more sent c.loop-message.yielded c.in-Some.message c.push.new.self (c.push.ensures.last (sent ++ c.loop-message.yielded) (c.loop-message.invariant.1 sent is)),
)
