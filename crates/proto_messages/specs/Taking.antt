-- What a message holds after one field more: a tool of the proofs. What fields mean is defined in `Descriptor`.
use Rattle.std.specs.Prelude.{◌≡◌, ℕ, Bool, true, false, ◌==◌, List, [], ◌∷◌, ◌++◌, Option, Some, None}
use Rattle.proto_fields.specs.Field.{Field, IsFields}
use Rattle.proto_fields.specs.Meaning.{bytes_in}
use Rattle.proto_fields.specs.declared.fault.WireFault.{WireFault}
use Rattle.proto_fields.specs.Scalar.{TypeString, default_of, scalar_in, ScalarFault}
use Rattle.proto_messages.specs.Descriptor.{Descriptor, NoMore, One, Strings, Message, Messages, Values, EmbeddedFault, FieldIsAtFault}

-- what a message of the descriptor holds where no field was read
abbrev pub nothing : (descriptor : Descriptor) → Values descriptor
nothing NoMore = tt
nothing (One number type others) = (default_of type, nothing others)
nothing (Strings number others) = ([], nothing others)
nothing (Message number inner others) = (None, nothing others)
nothing (Messages number inner others) = ([], nothing others)

-- all fields are taken, one after the other
abbrev pub TakesAll : {V : Type 0} → (Field → V → V → Type 0) → List Field → V → V → Type 0
TakesAll takes [] old new = old ≡ new
TakesAll {V} takes (f ∷ fields) old new = (mid : V) × takes f old mid × TakesAll takes fields mid new

-- the embedded is a list of fields that lead from what was held to this
abbrev pub TakesEmbedded : {V : Type 0} → (Field → V → V → Type 0) → Option (List ℕ) → V → V → Type 0
TakesEmbedded takes None old new = ⊥
TakesEmbedded takes (Some embedded) old new = (fields : List Field) × IsFields embedded fields × TakesAll takes fields old new

abbrev pub or_nothing : {V : Type 0} → Option V → V → V
or_nothing None empty = empty
or_nothing (Some value) empty = value

-- Where it is a field of the number, this holds of what is left of it, and else all is as before.
abbrev pub Where : {V : Type 0} → Bool → V → V → Type 0 → Type 0
Where true old new changes = changes
Where false old new changes = new ≡ old

-- one field more
abbrev pub Takes : (descriptor : Descriptor) → Field → Values descriptor → Values descriptor → Type 0
Takes NoMore f old new = Unit {0}
Takes (One number type others) f old new =
    Where (f.number == number) old.0 new.0 (scalar_in type f.held ≡ Some new.0) × Takes others f old.1 new.1
Takes (Strings number others) f old new =
    Where (f.number == number) old.0 new.0 ((string : List ℕ) × (scalar_in TypeString f.held ≡ Some string) × (new.0 ≡ old.0 ++ string ∷ []))
    × Takes others f old.1 new.1
Takes (Message number inner others) f old new =
    Where (f.number == number) old.0 new.0
    ((value : Values inner) × (new.0 ≡ Some value) × TakesEmbedded (Takes inner) (bytes_in f.held) (or_nothing old.0 (nothing inner)) value)
    × Takes others f old.1 new.1
Takes (Messages number inner others) f old new =
    Where (f.number == number) old.0 new.0
    ((value : Values inner) × (new.0 ≡ old.0 ++ value ∷ []) × TakesEmbedded (Takes inner) (bytes_in f.held) (nothing inner) value)
    × Takes others f old.1 new.1

-- Where it is a field of the number, this holds.
abbrev pub WhereHere : Bool → Type 0 → Type 0
WhereHere true P = P
WhereHere false P = Unit {0}

-- no fault stands in a field of a message of the descriptor, row by row
abbrev pub IsSound : Descriptor → Field → Type 0
IsSound NoMore f = Unit {0}
IsSound (One number type others) f =
    WhereHere (f.number == number) ((fault : WireFault) → ¬ ScalarFault type fault f.held) × IsSound others f
IsSound (Strings number others) f =
    WhereHere (f.number == number) ((fault : WireFault) → ¬ ScalarFault TypeString fault f.held) × IsSound others f
IsSound (Message number inner others) f =
    WhereHere (f.number == number) ((fault : WireFault) → ¬ EmbeddedFault (FieldIsAtFault inner) fault f.held) × IsSound others f
IsSound (Messages number inner others) f =
    WhereHere (f.number == number) ((fault : WireFault) → ¬ EmbeddedFault (FieldIsAtFault inner) fault f.held) × IsSound others f
