-- Look-ups by slot.
use Rattle.std.proofs.Common.{◌≡◌, ℕ, inl, inr, sym, ap, ◌∙◌}
use Rattle.std.proofs.lemmas.Bool.{cases_eq}
use Rattle.ballots.specs.Slots.{SetsSlot}

pub set_slots : (X : Type 0) (old a b : ℕ → X) (slot : ℕ) (now : X) → SetsSlot old a slot now → SetsSlot old b slot now
    → (other : ℕ) → a other ≡ b other
set_slots X old a b slot now is_a is_b other = elim (cases_eq other slot) as (λ _. a other ≡ b other) [
  | inl own ↦ ap a own ∙ is_a.here ∙ sym (ap b own ∙ is_b.here)
  | inr apart ↦ is_a.others other apart ∙ sym (is_b.others other apart)
]
