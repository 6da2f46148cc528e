-- What the rules of single messages are worth, in the words of lawful histories.
use Rattle.std.specs.Prelude.{◌≡◌, ℕ, List, [], ◌∷◌, ◌++◌, ◌↔◌}
use Rattle.ballots.specs.declared.message.Message.{Message}
use Rattle.lawful_histories.specs.Lawful.{IsLawful}
use Rattle.run_breaches.specs.declared.breach.BrokenRules.{BrokenRules}
use Rattle.run_breaches.specs.Rules.{Breaks, Keeps, IsSomeBroken}

-- After a lawful history a message may follow exactly where it keeps every rule.
abbrev pub KeepingIsLawful : Type 0
KeepingIsLawful = (n : ℕ) (before : List Message) (m : Message) → IsLawful n before → (IsLawful n (before ++ m ∷ []) ↔ Keeps n before m)

-- One that breaks a rule does not keep them all.
abbrev pub BreakingIsNotKeeping : Type 0
BreakingIsNotKeeping = (n : ℕ) (before : List Message) (m : Message) (broken : BrokenRules)
    → Breaks n before m broken → IsSomeBroken broken → Keeps n before m → ⊥

-- What is told of a message is one: which rules it breaks, and the first message that it goes against.
abbrev pub BreachesAreOne : Type 0
BreachesAreOne = (n : ℕ) (before : List Message) (m : Message) (x y : BrokenRules) → Breaks n before m x → Breaks n before m y → x ≡ y
