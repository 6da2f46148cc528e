-- What is kept slot by slot: a look-up, by the slot's number.
use Rattle.std.specs.Prelude.{◌≡◌, ◌≢◌, ℕ}

-- every slot but this one is as before
abbrev pub OthersStay : {X : Type 0} → (ℕ → X) → (ℕ → X) → ℕ → Type 0
OthersStay old new slot = (other : ℕ) → other ≢ slot → new other ≡ old other

-- the slot has this now, and every other slot is as before
pub record SetsSlot {X : Type 0} (old new : ℕ → X) (slot : ℕ) (now : X) : Type 0 where
  pub here : new slot ≡ now
  pub others : OthersStay old new slot
