use Rattle.std.proofs.Common.{◌≡◌, inl, inr, sym, ◌∙◌}
use Rattle.command_line.proofs.laws.calls_ask_for_one_thing.Goals as goal

pub returns : goal.returns
returns c = λ words a b is asks asks'. elim is.1 as (λ _. a ≡ b) [
  | inl alone ↦ asks.alone is.0 alone ∙ sym (asks'.alone is.0 alone)
  | inr called ↦ asks.called is.0 called.0 called.1 called.2 ∙ sym (asks'.called is.0 called.0 called.1 called.2)
]
