-- A message after the fields at the front of a text were taken, and one more.
use Rattle.std.proofs.Common.{◌≡◌, List, [], ◌∷◌, ◌++◌, ℕ, Result, Ok, Err, OnOk, ◌⊎◌, inl, inr}
use Rattle.proto_fields.specs.declared.fault.WireFault.{WireFault}
use Rattle.proto_fields.specs.declared.fault.WireFault.TheVariants.{OutOfMemory}
use Rattle.proto_fields.specs.Field.{Field, BeginsWith, FieldsThen}
use Rattle.proto_messages.specs.Descriptor.{Descriptor, FieldIsAtFault, IsMessageFault}
use Rattle.proto_messages.specs.Taking.{TakesAll}
use Rattle.proto_fields.proofs.Fronts.{fields_push}
use Rattle.proto_messages.proofs.MessageTaking.{takes_push}

-- the fields at the front of the text lead from what was held at first to what is held now
abbrev pub Merged : {V : Type 0} → (Field → V → V → Type 0) → List ℕ → List ℕ → V → V → Type 0
Merged takes text rest old new = (fields : List Field) × FieldsThen text fields rest × TakesAll takes fields old new

pub merged_more : {V : Type 0} (takes : Field → V → V → Type 0) (text mid rest : List ℕ) (f : Field) (old now new : V)
    → Merged takes text mid old now → BeginsWith mid f rest → takes f now new → Merged takes text rest old new
merged_more takes text mid rest f old now new so_far front last =
    (so_far.0 ++ f ∷ [], fields_push text so_far.0 mid f rest so_far.1 front, takes_push takes so_far.0 f old now new so_far.2 last)

pub fault_behind : {V : Type 0} (takes : Field → V → V → Type 0) (descriptor : Descriptor) (text mid rest : List ℕ) (f : Field) (old now : V) (fault : WireFault)
    → Merged takes text mid old now → BeginsWith mid f rest → (fault ≡ OutOfMemory) ⊎ FieldIsAtFault descriptor fault f → IsMessageFault descriptor text fault
fault_behind takes descriptor text mid rest f old now fault so_far front at_fault =
    elim at_fault [
      | inl refused ↦ inl refused
      | inr at ↦ inr (inr (so_far.0, f, rest, fields_push text so_far.0 mid f rest so_far.1 front, at))
    ]

pub on_ok : {P Q : Type 0} (r : Result (Unit {0}) WireFault) → (P → Q) → OnOk r P → OnOk r Q
on_ok (Ok done) onwards is = onwards is
on_ok (Err fault) onwards is = tt
