-- When two refusals of one text tell of one fault, and which of two faults may be told where both stand.
use Rattle.std.specs.Prelude.{◌≡◌, ◌⊎◌}
use Rattle.proto_fields.specs.declared.fault.WireFault.{WireFault}
use Rattle.header_types.specs.declared.fault.MetaFault.{MetaFault}
use Rattle.batch_types.specs.declared.fault.BatchFault.{BatchFault}
use Rattle.call_protocol.specs.declared.refusal.CallRefusal.{CallRefusal}
use Rattle.call_protocol.specs.declared.refusal.CallRefusal.TheVariants as refusals

-- a message means none, a header shows none, a header and a body lay out none
abbrev pub IsOfFields : CallRefusal → Type 0
IsOfFields refusal = (fault : WireFault) × (refusal ≡ refusals.Wire fault)

abbrev pub IsOfAHeader : CallRefusal → Type 0
IsOfAHeader refusal = (fault : MetaFault) × (refusal ≡ refusals.Meta fault)

abbrev pub IsOfABatch : CallRefusal → Type 0
IsOfABatch refusal = (fault : BatchFault) × (refusal ≡ refusals.Batch fault)

-- They are the same. Where several faults stand in the fields of one message, or in one header, any of them is told.
abbrev pub TellOneFault : CallRefusal → CallRefusal → Type 0
TellOneFault x y = (x ≡ y) ⊎ (IsOfFields x × IsOfFields y) ⊎ (IsOfAHeader x × IsOfAHeader y)

-- the first message of an upload is refused for its descriptor, or for its schema
abbrev pub IsOfADescriptor : CallRefusal → Type 0
IsOfADescriptor refusal = (refusal ≡ refusals.BadDescriptor) ⊎ (refusal ≡ refusals.CmdDescriptor)

abbrev pub IsOfASchema : CallRefusal → Type 0
IsOfASchema refusal = (refusal ≡ refusals.NoSchema) ⊎ IsOfAHeader refusal

-- a message behind the first is refused for what it has
abbrev pub IsOfAFurtherMessage : CallRefusal → Type 0
IsOfAFurtherMessage refusal =
    IsOfFields refusal ⊎ IsOfAHeader refusal ⊎ (refusal ≡ refusals.SecondSchema) ⊎ IsOfABatch refusal
    ⊎ (refusal ≡ refusals.TooManyBatches)

-- Either is told where both stand: a first message with a bad descriptor and a bad schema; a batch that is at fault, and is
-- one too many; a message of an upload that is at fault, and is one too many.
abbrev pub MayTellEither : CallRefusal → CallRefusal → Type 0
MayTellEither x y =
    (IsOfADescriptor x × IsOfASchema y)
    ⊎ ((x ≡ refusals.TooManyBatches) × IsOfABatch y)
    ⊎ ((x ≡ refusals.MessageCount) × IsOfAFurtherMessage y)

abbrev pub Agree : CallRefusal → CallRefusal → Type 0
Agree x y = TellOneFault x y ⊎ MayTellEither x y ⊎ MayTellEither y x
