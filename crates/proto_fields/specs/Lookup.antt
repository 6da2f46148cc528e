-- What a look-up tells of a text: what the fields of one number mean together (`Meaning`).
use Rattle.std.specs.Prelude.{◌≡◌, ◌≢◌, ℕ, List, [], ◌++◌, Option, Some, None, Result, Ok, Err, ◌⊎◌}
use Rattle.proto_fields.specs.declared.fault.WireFault.{WireFault}
use Rattle.proto_fields.specs.declared.fault.WireFault.TheVariants.{BadWireType, OutOfMemory}
use Rattle.proto_fields.specs.Field.{Field, IsFields, FieldsFault}

-- the text is a list of fields that mean this
pub record TextMeans {A : Type 0} (meaning : List Field → Option A) (text : List ℕ) (x : A) : Type 0 where
  pub fields : List Field
  pub encodes : IsFields text fields
  pub means : meaning fields ≡ Some x

-- the text is a list of fields that mean nothing: one of the number is of another wire type
pub record HasAnotherType {A : Type 0} (meaning : List Field → Option A) (text : List ℕ) : Type 0 where
  pub fields : List Field
  pub encodes : IsFields text fields
  pub means_none : meaning fields ≡ None

-- the fault stands in the text
abbrev pub LookupFault : {A : Type 0} → (List Field → Option A) → WireFault → List ℕ → Type 0
LookupFault meaning fault text = FieldsFault fault text ⊎ ((fault ≡ BadWireType) × HasAnotherType meaning text)

-- a call told, seen by view, what is meant, or that nothing is
abbrev pub Tells : {X A : Type 0} → (X → A) → Result X WireFault → Option A → Type 0
Tells view (Ok x) meant = meant ≡ Some (view x)
Tells view (Err fault) meant = (meant ≡ None) × (fault ≡ BadWireType)

-- a call told what is meant, or that nothing is; or a further owner of some bytes was refused
abbrev pub TellsUnlessRefused : Result (List ℕ) WireFault → Option (List ℕ) → Type 0
TellsUnlessRefused (Ok x) meant = meant ≡ Some x
TellsUnlessRefused (Err fault) meant =
    ((meant ≡ None) × (fault ≡ BadWireType)) ⊎ ((fault ≡ OutOfMemory) × ((x : List ℕ) × (x ≢ []) × (meant ≡ Some x)))

-- where something is meant, it stands in the text, before what follows it
abbrev pub StandsBefore : List ℕ → Option (List ℕ) → List ℕ → Type 0
StandsBefore text None behind = Unit {0}
StandsBefore text (Some x) behind = (before : List ℕ) × (text ≡ before ++ (x ++ behind))
