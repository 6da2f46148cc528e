-- Fields: Protocol Buffers, "Encoding", "Message Structure". A message is a list of fields, each a key, which is the
-- varint of eight times its number plus its wire type, and a content.
use Rattle.std.specs.Prelude.{◌≡◌, ◌≢◌, ℕ, ◌+◌, ◌*◌, ◌^◌, ◌<◌, ◌≤◌, ◌⊎◌, Bool, not, ◌==◌, List, [], ◌∷◌, ◌++◌, length, map, filter, Result, Ok, Err}
use Rattle.std.specs.List.{flat_map, list_all}
use Rattle.proto_fields.specs.declared.fault.WireFault.{WireFault}
use Rattle.proto_fields.specs.declared.fault.WireFault.TheVariants.{BadVarint, BadKey, BadWireType, CutShort, NotUtf8, OutOfMemory}
use Rattle.proto_fields.specs.declared.field.Content as owned_type
use Rattle.proto_fields.specs.declared.field.Content.TheVariants as owned
use Rattle.proto_fields.specs.declared.field.ContentRef as content_ref_type
use Rattle.proto_fields.specs.declared.field.ContentRef.TheVariants as lent
use Rattle.proto_fields.specs.Varint.{IsVarint, IsCutVarint, IsBadVarint, varint_text}

-- what a field holds, by its wire type
pub data Held : Type 0 where
  Varint : ℕ → Held
  Eight : List ℕ → Held
  Bytes : List ℕ → Held
  Four : List ℕ → Held

pub record Field : Type 0 where
  pub number : ℕ
  pub held : Held

abbrev pub wire_type : Held → ℕ
wire_type (Varint n) = 0
wire_type (Eight bytes) = 1
wire_type (Bytes bytes) = 2
wire_type (Four bytes) = 5

-- the greatest field number: 2^29 - 1
abbrev pub max_field_number : ℕ
max_field_number = 536870911

abbrev pub IsFieldNumber : ℕ → Type 0
IsFieldNumber n = (0 < n) × (n ≤ max_field_number)

-- these bytes encode what the field holds
abbrev pub EncodesHeld : Held → List ℕ → Type 0
EncodesHeld (Varint n) text = IsVarint text n
EncodesHeld (Eight bytes) text = (length bytes ≡ 8) × (text ≡ bytes)
EncodesHeld (Bytes bytes) text = (count : List ℕ) × IsVarint count (length bytes) × (text ≡ count ++ bytes)
EncodesHeld (Four bytes) text = (length bytes ≡ 4) × (text ≡ bytes)

-- these bytes encode the field
pub record EncodesField (f : Field) (text : List ℕ) : Type 0 where
  pub key : List ℕ
  pub content : List ℕ
  pub parts : text ≡ key ++ content
  pub number : IsFieldNumber f.number
  pub encodes_key : IsVarint key (8 * f.number + wire_type f.held)
  pub encodes_held : EncodesHeld f.held content

-- the text is these fields, one after the other, and then the rest
abbrev pub FieldsThen : List ℕ → List Field → List ℕ → Type 0
FieldsThen text [] rest = text ≡ rest
FieldsThen text (f ∷ fields) rest =
    (first others : List ℕ) × (text ≡ first ++ others) × EncodesField f first × FieldsThen others fields rest

-- the text is these fields
abbrev pub IsFields : List ℕ → List Field → Type 0
IsFields text fields = FieldsThen text fields []

-- the text begins with the key of a field of this number and wire type
abbrev pub KeyThen : List ℕ → ℕ → ℕ → List ℕ → Type 0
KeyThen text number kind rest = (key : List ℕ) × IsVarint key (8 * number + kind) × (kind < 8) × (text ≡ key ++ rest)

-- a field of this wire type stands at the front, and this is so of the text after its key
abbrev pub AfterKey : ℕ → (List ℕ → Type 0) → List ℕ → Type 0
AfterKey kind P text = (number : ℕ) × (rest : List ℕ) × KeyThen text number kind rest × P rest

-- fewer bytes follow than the length says
abbrev pub IsCutBytes : List ℕ → Type 0
IsCutBytes text = (count rest : List ℕ) × (n : ℕ) × IsVarint count n × (text ≡ count ++ rest) × (length rest < n)

-- what is wrong with a text that does not begin with a field
abbrev pub FieldFault : WireFault → List ℕ → Type 0
FieldFault BadVarint text = IsBadVarint text ⊎ AfterKey 0 IsBadVarint text ⊎ AfterKey 2 IsBadVarint text
FieldFault BadKey text = (number kind : ℕ) × (rest : List ℕ) × KeyThen text number kind rest × (¬ IsFieldNumber number)
FieldFault BadWireType text =
    (kind : ℕ) × AfterKey kind (λ _. Unit {0}) text × ((kind ≡ 3) ⊎ (kind ≡ 4) ⊎ (kind ≡ 6) ⊎ (kind ≡ 7))
FieldFault CutShort text =
    IsCutVarint text ⊎ AfterKey 0 IsCutVarint text ⊎ AfterKey 2 IsCutVarint text
    ⊎ AfterKey 2 IsCutBytes text ⊎ AfterKey 1 (λ rest. length rest < 8) text ⊎ AfterKey 5 (λ rest. length rest < 4) text
FieldFault NotUtf8 text = ⊥
FieldFault OutOfMemory text = ⊥

-- after some fields more stands, and this is wrong with it
pub record FieldsFault (fault : WireFault) (text : List ℕ) : Type 0 where
  pub fields : List Field
  pub rest : List ℕ
  pub before : FieldsThen text fields rest
  pub more : rest ≢ []
  pub stands : FieldFault fault rest

-- the text begins with the field, and then this is left
abbrev pub BeginsWith : List ℕ → Field → List ℕ → Type 0
BeginsWith text f rest = (first : List ℕ) × EncodesField f first × (text ≡ first ++ rest)

-- what has an encoding
abbrev pub FitsHeld : Held → Type 0
FitsHeld (Varint n) = n < 2 ^ 64
FitsHeld (Eight bytes) = length bytes ≡ 8
FitsHeld (Bytes bytes) = length bytes < 2 ^ 64
FitsHeld (Four bytes) = length bytes ≡ 4

pub record FitsField (f : Field) : Type 0 where
  pub number : IsFieldNumber f.number
  pub held : FitsHeld f.held

-- the one written encoding of a field: minimal varints
abbrev pub held_text : Held → List ℕ
held_text (Varint n) = varint_text n
held_text (Eight bytes) = bytes
held_text (Bytes bytes) = varint_text (length bytes) ++ bytes
held_text (Four bytes) = bytes

abbrev pub field_text : Field → List ℕ
field_text f = varint_text (8 * f.number + wire_type f.held) ++ held_text f.held

-- the one written encoding of fields in their order
abbrev pub fields_text : List Field → List ℕ
fields_text fields = flat_map field_text fields

-- proto3, "Default Field Values": what a field that is absent means
abbrev pub is_default : Held → Bool
is_default (Varint n) = n == 0
is_default (Eight bytes) = list_all (λ b. b == 0) bytes
is_default (Bytes bytes) = length bytes == 0
is_default (Four bytes) = list_all (λ b. b == 0) bytes

-- the fields that are written: those that don't hold their default
abbrev pub present : List Field → List Field
present fields = filter (λ f. not (is_default f.held)) fields

-- a field's content without where it lies in memory
abbrev pub held_of : owned_type.Content → Held
held_of (owned.Varint n) = Varint n
held_of (owned.Eight bytes) = Eight bytes
held_of (owned.Bytes bytes) = Bytes bytes.items
held_of (owned.Four bytes) = Four bytes

abbrev pub held_at : content_ref_type.ContentRef → Held
held_at (lent.Varint n) = Varint n
held_at (lent.Eight bytes) = Eight bytes
held_at (lent.Bytes bytes) = Bytes bytes.now
held_at (lent.Four bytes) = Four bytes

abbrev pub field_of : ℕ × owned_type.Content → Field
field_of f = record { number = f.0; held = held_of f.1 }

abbrev pub fields_of : List (ℕ × owned_type.Content) → List Field
fields_of fields = map field_of fields

abbrev pub field_at : ℕ → content_ref_type.ContentRef → Field
field_at number part = record { number = number; held = held_at part }

-- the call gave this, seen by view, or memory was refused
abbrev pub IsUnlessRefused : {X Y : Type 0} → (X → Y) → Result X WireFault → Y → Type 0
IsUnlessRefused view (Ok x) y = view x ≡ y
IsUnlessRefused view (Err fault) y = fault ≡ OutOfMemory

-- the fault stands in the text, or memory was refused
abbrev pub IsFaultOf : List ℕ → WireFault → Type 0
IsFaultOf text fault = (fault ≡ OutOfMemory) ⊎ FieldsFault fault text
