-- What a recorded run tells, and the look-ups by which contracts see it.
use Rattle.std.specs.Prelude.{ℕ, List}
use Rattle.ballots.specs.declared.message.Message.{Message}

pub record Recorded : Type 0 where
  pub members : ℕ
  pub sent : List Message

-- how many nodes agree
abbrev pub members_of : Recorded → ℕ
members_of run = run.members

-- all messages that were sent, in the order of sending
abbrev pub sent_of : Recorded → List Message
sent_of run = run.sent
