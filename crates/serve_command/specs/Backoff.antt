-- When a node that is down is started again: a second after it went down, and then after twice as long each time, up to a minute. The
-- times are this service's own.
use Rattle.std.specs.Prelude.{◌≡◌, ◌↔◌, ◌+◌, ◌*◌, ◌<◌, ◌≤◌, min, Bool, true, false, IsTrue}
use Rattle.serve_command.specs.declared.backoff.Backoff.{Backoff}

-- a second more in which the node stood: the next wait is the first one again where it has stood for a minute
pub record Stands (old new : Backoff) : Type 0 where
  pub waited : new.waited ≡ 0
  pub long : 60 ≤ new.stood → new.wait ≡ 1
  pub short : new.stood < 60 → new.wait ≡ old.wait

-- a second more in which it was down: it is started again once it has been down as long as it has to wait, and waits twice as long the
-- next time, up to a minute
pub record Falls (old new : Backoff) (is_due : Bool) : Type 0 where
  pub due : IsTrue is_due ↔ (old.wait ≤ old.waited + 1)
  pub then : IsTrue is_due → (new.waited ≡ 0) × (new.wait ≡ min (2 * old.wait) 60)
  pub else : old.waited + 1 < old.wait → (new.waited ≡ old.waited + 1) × (new.wait ≡ old.wait)
  pub stood : new.stood ≡ 0

abbrev pub Passes : Backoff → Backoff → (is_down is_due : Bool) → Type 0
Passes old new false is_due = (is_due ≡ false) × Stands old new
Passes old new true is_due = Falls old new is_due
