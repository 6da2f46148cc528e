use Rattle.command_line.proofs.Calls.{call_asks_for}
use Rattle.command_line.proofs.laws.calls_ask_for_something.Goals as goal

pub returns : goal.returns
returns c = λ words is. (_, call_asks_for words)
