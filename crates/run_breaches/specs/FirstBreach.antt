-- The first message of a run that no correct node may have sent after those before it.
use Rattle.std.specs.Prelude.{◌≡◌, ℕ, ◌+◌, ◌<◌, List, length, take, get_or}
use Rattle.ballots.specs.declared.message.Message.{Message}
use Rattle.lawful_histories.specs.Lawful.{IsLawful}
use Rattle.run_breaches.specs.declared.breach.Breach.{Breach}
use Rattle.run_breaches.specs.Rules.{Breaks, IsSomeBroken}

-- the messages before that place are lawful, and with the one in that place they are not
pub record IsFirstUnlawful (n : ℕ) (sent : List Message) (place : ℕ) : Type 0 where
  pub within : place < length sent
  pub before : IsLawful n (take place sent)
  pub breaks : IsLawful n (take (place + 1) sent) → ⊥

-- the messages before that place are lawful, with the one in that place they are not, and this is what it breaks
pub record IsFirstBreach (n : ℕ) (sent : List Message) (b : Breach) : Type 0 where
  pub within : b.place < length sent
  pub before : IsLawful n (take b.place sent)
  pub breaks : IsLawful n (take (b.place + 1) sent) → ⊥
  pub slot : (d : Message) → b.slot ≡ (get_or sent b.place d).slot
  pub rules : (d : Message) → Breaks n (take b.place sent) (get_or sent b.place d) b.broken
  pub some : IsSomeBroken b.broken

-- There is one at most.
abbrev pub FirstBreachesAreOne : Type 0
FirstBreachesAreOne = (n : ℕ) (sent : List Message) (x y : Breach) → IsFirstBreach n sent x → IsFirstBreach n sent y → x ≡ y
