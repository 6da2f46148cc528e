-- What two messages of a descriptor are together: Protocol Buffers, "Encoding" ("Last One Wins", "Repeated Elements", "Submessages").
-- `texts_end_to_end_merge` ties it to what texts mean.
use Rattle.std.specs.Prelude.{◌≡◌, ◌⊎◌, ◌++◌, Option, Some, None}
use Rattle.proto_fields.specs.Scalar.{default_of}
use Rattle.proto_messages.specs.Descriptor.{Descriptor, NoMore, One, Strings, Message, Messages, Values}

-- an embedded message that both have is merged, and one that only one of them has is kept
abbrev pub OneMerged : {V : Type 0} → (V → V → V → Type 0) → Option V → Option V → Option V → Type 0
OneMerged merged None second both = both ≡ second
OneMerged merged (Some x) None both = both ≡ Some x
OneMerged merged (Some x) (Some y) None = ⊥
OneMerged merged (Some x) (Some y) (Some z) = merged x y z

-- A single field is that of the second message, or may be that of the first where the second has the default; the elements of a
-- repeated field are those of the first and then those of the second; embedded messages are merged.
abbrev pub Merged : (descriptor : Descriptor) → Values descriptor → Values descriptor → Values descriptor → Type 0
Merged NoMore first second both = Unit {0}
Merged (One number type others) first second both =
    ((both.0 ≡ second.0) ⊎ ((second.0 ≡ default_of type) × (both.0 ≡ first.0))) × Merged others first.1 second.1 both.1
Merged (Strings number others) first second both = (both.0 ≡ first.0 ++ second.0) × Merged others first.1 second.1 both.1
Merged (Message number inner others) first second both = OneMerged (Merged inner) first.0 second.0 both.0 × Merged others first.1 second.1 both.1
Merged (Messages number inner others) first second both = (both.0 ≡ first.0 ++ second.0) × Merged others first.1 second.1 both.1
