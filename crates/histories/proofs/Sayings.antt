-- What was said of each slot, and the messages that said it.
use Rattle.std.proofs.Common.{◌≡◌, ℕ, ◌<◌, Bool, true, false, cond, ◌==◌, List, [], ◌∷◌, length, get_or, refl, sym, ap, subst, ◌∙◌, eq-eqb, arith}
use Rattle.std.specs.List.{Contains}
use Rattle.std.proofs.lemmas.Bool.Decides.{nat_tests}
use Rattle.std.proofs.lemmas.List.{get_or-map, get_or_default, length-map}
use Rattle.ballots.specs.declared.message.Message.{Message}
use Rattle.ballots.specs.declared.message.Body.TheVariants as body
use Rattle.ballots.specs.Message.{message}
use Rattle.lawful_histories.specs.Saying.{Saying, Silent, of_one, says, sayings}
use Rattle.lawful_histories.specs.Lawful.{Said, SaidBefore}
use Rattle.lawful_histories.specs.Messages.{Sent}
use Rattle.histories.proofs.Lists.{only_one}

-- this was said of the slot before that place
abbrev pub WasSaidBefore : List Message → ℕ → ℕ → Saying → Type 0
WasSaidBefore sent k s x = SaidBefore (sayings sent s) k x

-- one of these messages says this of the slot
abbrev pub OneSays : List Message → ℕ → Saying → Type 0
OneSays ms s x = (m : Message) × Contains ms m × (says m s ≡ x)

pub only_says : (m : Message) (s : ℕ) (x : Saying) → OneSays (m ∷ []) s x → says m s ≡ x
only_says m s x (n, has, is) = ap (λ (o : Message). says o s) (sym (only_one m n has)) ∙ is

-- ---- each slot

at_test : (P : ℕ → Saying → Type 0) (slot s : ℕ) (x : Saying) (t : Bool) → (t ≡ true → slot ≡ s) → P slot x → P s Silent → P s (cond t x Silent)
at_test P slot s x true same own silent = subst (λ (i : ℕ). P i x) (same refl) own
at_test P slot s x false same own silent = silent

-- What is so of what a message says of its own slot, and of silence, is so of what it says of each.
pub of_each_slot : (P : ℕ → Saying → Type 0) (slot : ℕ) (x : Saying) → P slot x → ((s : ℕ) → P s Silent) → (s : ℕ) → P s (of_one slot s x)
of_each_slot P slot x own silent s = at_test P slot s x (slot == s) (λ e. grind (arith, nat_tests)) own (silent s)

at_its_slot : (slot : ℕ) (x : Saying) → of_one slot slot x ≡ x
at_its_slot slot x = ap (λ (t : Bool). cond t x Silent) (eq-eqb slot slot refl)

-- And what is so of what it says of each slot, is so of its own.
pub of_its_slot : (P : ℕ → Saying → Type 0) (slot : ℕ) (x : Saying) → ((s : ℕ) → P s (of_one slot s x)) → P slot x
of_its_slot P slot x each = subst (P slot) (at_its_slot slot x) (each slot)

-- ---- places

-- any message: what a read past the end would give
blank : Message
blank = message 0 0 body.Ask

module _ (sent : List Message) (s : ℕ) where
  -- the message in a place says it there
  pub said_there : (k : ℕ) (m : Message) → Sent sent k m → Said (sayings sent s) k (says m s)
  said_there k m h =
      let lt : k < length (sayings sent s) = omega (arith, h.0, length-map sent (λ n. says n s)) in
      (lt, get_or-map (λ n. says n s) sent k m Silent h.0 ∙ ap (λ (n : Message). says n s) h.1)

  -- and none else
  pub said_by : (k : ℕ) (x : Saying) → Said (sayings sent s) k x → (m : Message) × Sent sent k m × (says m s ≡ x)
  said_by k x h =
      let lt : k < length sent = omega (arith, h.0, length-map sent (λ n. says n s)) in
      let m = get_or sent k blank in
      (m, (lt, get_or_default sent k m blank lt), sym (get_or-map (λ n. says n s) sent k blank Silent lt) ∙ h.1)

  pub were_said : (next : ℕ) (m : Message) (k : ℕ) → k < next → Sent sent k m → WasSaidBefore sent next s (says m s)
  were_said next m k lt h = (k, lt, said_there k m h)
