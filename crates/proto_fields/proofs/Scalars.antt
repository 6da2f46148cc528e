-- Fields in which no fault stands as values of their types.
use Rattle.std.proofs.Common.{◌≡◌, ℕ, List, Some, refl, subst, inl, inr}
use Rattle.std.specs.Prelude.{IsUtf8}
use Rattle.proto_fields.specs.declared.fault.WireFault.{WireFault}
use Rattle.proto_fields.specs.Field.{Varint, Bytes}
use Rattle.proto_fields.specs.Scalar.{TypeEnum, TypeInt64, TypeUint64, TypeBool, TypeBytes, TypeString, ScalarFault}

pub sound_enum : (n : ℕ) (fault : WireFault) → ¬ ScalarFault TypeEnum fault (Varint n)
sound_enum n fault (inl h) = h.1 refl
sound_enum n fault (inr h) = let no : TypeEnum ≡ TypeString = h.1 in absurd cc

pub sound_int64 : (n : ℕ) (fault : WireFault) → ¬ ScalarFault TypeInt64 fault (Varint n)
sound_int64 n fault (inl h) = h.1 refl
sound_int64 n fault (inr h) = let no : TypeInt64 ≡ TypeString = h.1 in absurd cc

pub sound_uint64 : (n : ℕ) (fault : WireFault) → ¬ ScalarFault TypeUint64 fault (Varint n)
sound_uint64 n fault (inl h) = h.1 refl
sound_uint64 n fault (inr h) = let no : TypeUint64 ≡ TypeString = h.1 in absurd cc

pub sound_bool : (n : ℕ) (fault : WireFault) → ¬ ScalarFault TypeBool fault (Varint n)
sound_bool n fault (inl h) = h.1 refl
sound_bool n fault (inr h) = let no : TypeBool ≡ TypeString = h.1 in absurd cc

pub sound_bytes : (bytes : List ℕ) (fault : WireFault) → ¬ ScalarFault TypeBytes fault (Bytes bytes)
sound_bytes bytes fault (inl h) = h.1 refl
sound_bytes bytes fault (inr h) = let no : TypeBytes ≡ TypeString = h.1 in absurd cc

pub sound_string : (bytes : List ℕ) → IsUtf8 bytes → (fault : WireFault) → ¬ ScalarFault TypeString fault (Bytes bytes)
sound_string bytes utf8 fault (inl h) = h.1 refl
sound_string bytes utf8 fault (inr h) = h.2.2 (subst IsUtf8 (some_is bytes h.2.0 h.2.1) utf8)
  where
    some_is : (xs ys : List ℕ) → Some xs ≡ Some ys → xs ≡ ys
    some_is xs ys e = cc

pub ruleset sound_scalars = (sound_enum, sound_int64, sound_uint64, sound_bool, sound_bytes, sound_string)
