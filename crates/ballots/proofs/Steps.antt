-- What a call returned, where it goes on with what another call returned.
use Rattle.std.proofs.Common.{◌≡◌, Option, None, Result, Ok, Err, refl, sym, ap, ◌∙◌, ◌⊎◌, inl, inr}
use Rattle.std.specs.Prelude.{IfErr}
use Rattle.proto_fields.specs.declared.fault.WireFault.{WireFault}
use Rattle.proto_fields.specs.declared.fault.WireFault.TheVariants.{BadWireType}
use Rattle.proto_fields.specs.Reading.{◌>>=◌}
use Rattle.proto_fields.proofs.Steps.{ok_is, not_ok}
use Rattle.ballots.specs.declared.fault.MessageFault.{MessageFault}
use Rattle.ballots.specs.declared.fault.MessageFault.TheVariants.{Wire, BadKind, OutOfRange, OutOfMemory}
use Rattle.ballots.specs.MessageReading.{Gives, TakesNone, known}

-- the first call failed, and takes no memory
pub gives_none : {X Y : Type 0} (TakesMemory : Y → Type 0) (fault : MessageFault) (read : Result X MessageFault) (next : X → Result Y MessageFault)
    → Gives TakesNone (Err fault) read → Gives TakesMemory (Err fault) (read >>= next)
gives_none T OutOfMemory read next h = absurd h.2
gives_none T OutOfRange read next h = rw h refl
gives_none T BadKind read next h = rw h refl
gives_none T (Wire wire) read next h = rw h refl

-- the first call failed, and where memory was refused to it the next ones would not have failed
pub gives_last : {X Y : Type 0} (Takes : X → Type 0) (TakesMemory : Y → Type 0) (fault : MessageFault) (read : Result X MessageFault) (next : X → Result Y MessageFault)
    → ((x : X) → Takes x → (y : Y) × (next x ≡ Ok y) × TakesMemory y) → Gives Takes (Err fault) read → Gives TakesMemory (Err fault) (read >>= next)
gives_last P T OutOfMemory read next goes_on h = let y = goes_on h.0 h.2 in (y.0, (rw h.1 y.1), y.2)
gives_last P T OutOfRange read next goes_on h = rw h refl
gives_last P T BadKind read next goes_on h = rw h refl
gives_last P T (Wire wire) read next goes_on h = rw h refl

-- the first call went well
pub gives_next : {X Y : Type 0} (TakesMemory : Y → Type 0) (r : Result Y MessageFault) (read : Result X MessageFault) (x : X) (next : X → Result Y MessageFault)
    → read ≡ Ok x → Gives TakesMemory r (next x) → Gives TakesMemory r (read >>= next)
gives_next T r read x next e h = rw e h

-- a look-up failed
pub gives_told : {A Y : Type 0} (TakesMemory : Y → Type 0) (wire : WireFault) (o : Option A) (next : A → Result Y MessageFault)
    → (o ≡ None) × (wire ≡ BadWireType) → Gives TakesMemory (Err (Wire wire)) (known o >>= next)
unfolding known
gives_told T wire o next h = rw (h.0, h.1) refl

pub ruleset steps = (gives_none, gives_last, gives_next, gives_told)

-- ---- what the whole call gave

module _ {X : Type 0} (TakesMemory : X → Type 0) (read : Result X MessageFault) where
  pub whole_only : (x : X) → read ≡ Ok x → (r : Result X MessageFault) → Gives TakesMemory r read → (r ≡ Ok x) ⊎ (r ≡ Err OutOfMemory)
  whole_only x again (Ok y) h = inl (ap Ok (ok_is y x (sym h ∙ again)))
  whole_only x again (Err OutOfMemory) h = inr refl
  whole_only x again (Err (Wire wire)) h = not_ok x (Wire wire) (sym again ∙ h)
  whole_only x again (Err BadKind) h = not_ok x BadKind (sym again ∙ h)
  whole_only x again (Err OutOfRange) h = not_ok x OutOfRange (sym again ∙ h)

  pub whole_fault : {P : MessageFault → Type 0} → P OutOfMemory → ((fault : MessageFault) → read ≡ Err fault → P fault) → (r : Result X MessageFault)
      → Gives TakesMemory r read → IfErr r P
  whole_fault refused stands (Ok x) h = tt
  whole_fault refused stands (Err OutOfMemory) h = refused
  whole_fault refused stands (Err (Wire wire)) h = stands (Wire wire) h
  whole_fault refused stands (Err BadKind) h = stands BadKind h
  whole_fault refused stands (Err OutOfRange) h = stands OutOfRange h

  pub whole_memory : (r : Result X MessageFault) → Gives TakesMemory r read → r ≡ Err OutOfMemory → (x : X) × (read ≡ Ok x) × TakesMemory x
  whole_memory (Ok x) h e = absurd cc
  whole_memory (Err OutOfMemory) h e = h
  whole_memory (Err (Wire wire)) h e = absurd cc
  whole_memory (Err BadKind) h e = absurd cc
  whole_memory (Err OutOfRange) h e = absurd cc
