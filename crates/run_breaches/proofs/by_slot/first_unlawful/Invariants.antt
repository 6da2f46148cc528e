use Rattle.std.specs.Prelude.{take}
use Rattle.lawful_histories.specs.Lawful.{IsLawful}
use Rattle.run_breaches.specs.Slots.{Indexes, IsLawfulBySlot}
use Rattle.run_breaches.proofs.by_slot.first_unlawful.Given as goal

abbrev pub invariant-loop-place : goal.invariant-loop-place
invariant-loop-place l =
    IsLawful l.members (take l.place l.sent) × Indexes l.slots.entries (take l.place l.sent) × IsLawfulBySlot l.members (take l.place l.sent)
