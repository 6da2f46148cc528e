-- A text by what is said of a field that holds it as an embedded message.
use Rattle.std.proofs.Common.{◌≡◌, refl, sym, subst, ℕ, List, Some, inl, inr}
use Rattle.proto_fields.specs.declared.fault.WireFault.{WireFault}
use Rattle.proto_fields.specs.Field.{Bytes}
use Rattle.proto_messages.specs.Descriptor.{Descriptor, TextFault, EmbeddedFault, FieldIsAtFault, IsFaultless}

some_is : (xs ys : List ℕ) → Some xs ≡ Some ys → xs ≡ ys
some_is xs ys e = cc

pub no_fault_within : (descriptor : Descriptor) (text : List ℕ)
    → ((fault : WireFault) → ¬ EmbeddedFault (FieldIsAtFault descriptor) fault (Bytes text)) → IsFaultless descriptor text
no_fault_within descriptor text none fault stands = none fault (inr (text, refl, stands))

pub fault_within : (descriptor : Descriptor) (text : List ℕ) (fault : WireFault)
    → EmbeddedFault (FieldIsAtFault descriptor) fault (Bytes text) → TextFault (FieldIsAtFault descriptor) fault text
fault_within descriptor text fault (inl other) = absurd (other.1 refl)
fault_within descriptor text fault (inr at) =
    subst (TextFault (FieldIsAtFault descriptor) fault) (sym (some_is text at.0 at.1)) at.2
