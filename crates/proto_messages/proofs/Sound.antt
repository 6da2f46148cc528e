-- Fields and texts in which no fault stands.
use Rattle.std.proofs.Common.{◌≡◌, ℕ, Bool, true, false, eqb, List, [], ◌∷◌, ◌++◌, Some, append_assoc, refl, sym, subst, ◌∙◌, inl, inr}
use Rattle.std.specs.Prelude.{◌==◌}
use Rattle.std.specs.List.{AllByRecursion}
use Rattle.std.proofs.lemmas.Bool.{eq-eqb, false≢true}
use Rattle.proto_fields.specs.declared.fault.WireFault.{WireFault}
use Rattle.proto_fields.specs.declared.fault.WireFault.TheVariants.{BadWireType, NotUtf8, OutOfMemory}
use Rattle.proto_fields.specs.Field.{Held, Bytes, Field, IsFields}
use Rattle.proto_fields.specs.Scalar.{ScalarType, TypeString, ScalarFault}
use Rattle.proto_messages.specs.Descriptor.{Descriptor, NoMore, One, Strings, Message, Messages, TextFault, EmbeddedFault, FieldIsAtFault}
use Rattle.proto_messages.specs.Taking.{WhereHere, IsSound}
use Rattle.proto_fields.proofs.Fronts.{fields_left}
use Rattle.proto_fields.proofs.FaultsApart.{no_fields_at_fault}

-- ---- one field

embedded_is : (inner : Descriptor) (f : Field) (fault : WireFault) (here : Bool) → WhereHere here ((e : WireFault) → ¬ EmbeddedFault (FieldIsAtFault inner) e f.held) → WhereHere here (EmbeddedFault (FieldIsAtFault inner) fault f.held → ⊥)
embedded_is inner f fault true s = s fault
embedded_is inner f fault false s = s

pub sound_embedded : (IsAtFault : WireFault → Field → Type 0) (bytes : List ℕ) → ((fault : WireFault) → ¬ TextFault IsAtFault fault bytes) → (fault : WireFault) → ¬ EmbeddedFault IsAtFault fault (Bytes bytes)
sound_embedded IsAtFault bytes sound fault (inl h) = h.1 refl
sound_embedded IsAtFault bytes sound fault (inr h) = sound fault (subst (λ (b : List ℕ). TextFault IsAtFault fault b) (sym (some_is bytes h.0 h.1)) h.2)
  where
    some_is : (xs ys : List ℕ) → Some xs ≡ Some ys → xs ≡ ys
    some_is xs ys e = cc

-- ---- a field of a message

-- what stands at a row of this number does not stand where the row is sound
row_is_sound : {P : Type 0} (here : Bool) (n number : ℕ) → here ≡ eqb n number → WhereHere here (P → ⊥) → n ≡ number → P → ⊥
row_is_sound true n number e sound same p = sound p
row_is_sound false n number e sound same p = false≢true (e ∙ eq-eqb n number same)

pub no_field_fault : (descriptor : Descriptor) (f : Field) (fault : WireFault) → IsSound descriptor f → ¬ FieldIsAtFault descriptor fault f
no_field_fault NoMore f fault sound at_fault = at_fault
no_field_fault (One number type others) f fault sound at_fault =
    elim at_fault [
      | inl h ↦ row_is_sound (f.number == number) f.number number refl (here_is (f.number == number) sound.0) h.0 h.1
      | inr h ↦ no_field_fault others f fault sound.1 h
    ]
  where
    here_is : (here : Bool) → WhereHere here ((e : WireFault) → ¬ ScalarFault type e f.held) → WhereHere here (ScalarFault type fault f.held → ⊥)
    here_is true s = s fault
    here_is false s = s
no_field_fault (Strings number others) f fault sound at_fault =
    elim at_fault [
      | inl h ↦ row_is_sound (f.number == number) f.number number refl (here_is (f.number == number) sound.0) h.0 h.1
      | inr h ↦ no_field_fault others f fault sound.1 h
    ]
  where
    here_is : (here : Bool) → WhereHere here ((e : WireFault) → ¬ ScalarFault TypeString e f.held) → WhereHere here (ScalarFault TypeString fault f.held → ⊥)
    here_is true s = s fault
    here_is false s = s
no_field_fault (Message number inner others) f fault sound at_fault =
    elim at_fault [
      | inl h ↦ row_is_sound (f.number == number) f.number number refl (embedded_is inner f fault (f.number == number) sound.0) h.0 h.1
      | inr h ↦ no_field_fault others f fault sound.1 h
    ]
no_field_fault (Messages number inner others) f fault sound at_fault =
    elim at_fault [
      | inl h ↦ row_is_sound (f.number == number) f.number number refl (embedded_is inner f fault (f.number == number) sound.0) h.0 h.1
      | inr h ↦ no_field_fault others f fault sound.1 h
    ]

-- ---- a text

-- each of these fields is sound
abbrev pub AllSound : Descriptor → List Field → Type 0
AllSound descriptor fields = AllByRecursion (IsSound descriptor) fields

pub sound_push : (descriptor : Descriptor) (fields : List Field) (f : Field) → AllSound descriptor fields → IsSound descriptor f → AllSound descriptor (fields ++ f ∷ [])
sound_push descriptor [] f all one = (one, tt)
sound_push descriptor (g ∷ fields) f all one = (all.0, sound_push descriptor fields f all.1 one)

sound_within : (descriptor : Descriptor) (before after : List Field) (f : Field) → AllSound descriptor (before ++ f ∷ after) → IsSound descriptor f
sound_within descriptor [] after f all = all.0
sound_within descriptor (g ∷ before) after f all = sound_within descriptor before after f all.1

pub no_text_fault : (descriptor : Descriptor) (text : List ℕ) (fields : List Field) → IsFields text fields → AllSound descriptor fields → (fault : WireFault) → ¬ TextFault (FieldIsAtFault descriptor) fault text
no_text_fault descriptor text fields is all fault at_fault =
    elim at_fault [
      | inl h ↦ no_fields_at_fault text fault fields h is
      | inr h ↦
          let left = fields_left text (h.0 ++ h.1 ∷ []) h.2 fields h.3 is in
          let whole : fields ≡ h.0 ++ h.1 ∷ left.0 = left.2 ∙ append_assoc h.0 (h.1 ∷ []) left.0 in
          no_field_fault descriptor h.1 fault (sound_within descriptor h.0 left.0 h.1 (subst (AllSound descriptor) whole all)) h.4
    ]

-- ---- refused memory is no fault of a text

no_scalar_memory : (type : ScalarType) (held : Held) → ¬ ScalarFault type OutOfMemory held
no_scalar_memory type held (inl h) = let no : OutOfMemory ≡ BadWireType = h.0 in absurd cc
no_scalar_memory type held (inr h) = let no : OutOfMemory ≡ NotUtf8 = h.0 in absurd cc

no_text_memory : (IsAtFault : WireFault → Field → Type 0) (text : List ℕ) → ((f : Field) → ¬ IsAtFault OutOfMemory f) → ¬ TextFault IsAtFault OutOfMemory text
no_text_memory IsAtFault text none (inl h) = h.stands
no_text_memory IsAtFault text none (inr h) = none h.1 h.4

no_embedded_memory : (IsAtFault : WireFault → Field → Type 0) (held : Held) → ((f : Field) → ¬ IsAtFault OutOfMemory f) → ¬ EmbeddedFault IsAtFault OutOfMemory held
no_embedded_memory IsAtFault held none (inl h) = let no : OutOfMemory ≡ BadWireType = h.0 in absurd cc
no_embedded_memory IsAtFault held none (inr h) = no_text_memory IsAtFault h.0 none h.2

no_field_memory : (descriptor : Descriptor) (f : Field) → ¬ FieldIsAtFault descriptor OutOfMemory f
no_field_memory NoMore f h = h
no_field_memory (One number type others) f h = elim h [ inl k ↦ no_scalar_memory type f.held k.1 | inr k ↦ no_field_memory others f k ]
no_field_memory (Strings number others) f h = elim h [ inl k ↦ no_scalar_memory TypeString f.held k.1 | inr k ↦ no_field_memory others f k ]
no_field_memory (Message number inner others) f h =
    elim h [ inl k ↦ no_embedded_memory (FieldIsAtFault inner) f.held (no_field_memory inner) k.1 | inr k ↦ no_field_memory others f k ]
no_field_memory (Messages number inner others) f h =
    elim h [ inl k ↦ no_embedded_memory (FieldIsAtFault inner) f.held (no_field_memory inner) k.1 | inr k ↦ no_field_memory others f k ]

pub no_memory_fault : (descriptor : Descriptor) (text : List ℕ) → ¬ TextFault (FieldIsAtFault descriptor) OutOfMemory text
no_memory_fault descriptor text = no_text_memory (FieldIsAtFault descriptor) text (no_field_memory descriptor)
