-- A message follows those before it exactly where its own slot lets it: on a slot that it is not about it says nothing.
use Rattle.std.proofs.Common.{◌≡◌, ℕ, Bool, true, false, cond, ◌==◌, List, refl, subst, eq-eqb, arith}
use Rattle.std.proofs.lemmas.Bool.Decides.{nat_tests}
use Rattle.ballots.specs.declared.message.Message.{Message}
use Rattle.lawful_histories.specs.Saying.{Saying, Silent, of_one, saying}
use Rattle.lawful_histories.specs.Judging.{MayBeSaid, MayBeSent}

module _ (n : ℕ) (before : List Message) where
  at_one : (slot s : ℕ) (x : Saying) (t : Bool) → (t ≡ true → slot ≡ s) → MayBeSaid n slot before x → MayBeSaid n s before (cond t x Silent)
  at_one slot s x true same h = subst (λ (at : ℕ). MayBeSaid n at before x) (same refl) h
  at_one slot s x false same h = tt

  at_slot : (slot s : ℕ) (x : Saying) → MayBeSaid n slot before x → MayBeSaid n s before (of_one slot s x)
  at_slot slot s x h = at_one slot s x (slot == s) (λ e. grind (arith, nat_tests)) h

  slot_at : (slot : ℕ) (x : Saying) → MayBeSaid n slot before (of_one slot slot x) → MayBeSaid n slot before x
  slot_at slot x h = subst (λ (t : Bool). MayBeSaid n slot before (cond t x Silent)) (eq-eqb slot slot refl) h

  pub sent_of_own : (m : Message) → MayBeSaid n m.slot before (saying m.sender m.body) → MayBeSent n before m
  sent_of_own m h s = at_slot m.slot s (saying m.sender m.body) h

  pub own_of_sent : (m : Message) → MayBeSent n before m → MayBeSaid n m.slot before (saying m.sender m.body)
  own_of_sent m h = slot_at m.slot (saying m.sender m.body) (h m.slot)
