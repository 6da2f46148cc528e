-- Fields of a table.
use Rattle.std.proofs.Common.{◌≡◌, ℕ, inl, inr, List, Option, Some, Result, Ok, Err, IfErr, sym, subst}
use Rattle.std.specs.Result.{IsErrAnd}
use Rattle.flat_places.specs.declared.fault.PlaceFault.{PlaceFault}
use Rattle.flat_places.specs.declared.fault.PlaceFault.TheVariants.{OutOfBounds, NotUtf8, SmallVtable}
use Rattle.flat_places.specs.Fault.{TextFault, TableFault}
use Rattle.header_types.specs.declared.fault.MetaFault.{MetaFault}
use Rattle.header_types.specs.declared.fault.MetaFault.TheVariants as meta
use Rattle.header_types.specs.FaultOf.{fault_of}
use Rattle.header_types.specs.Slots.{ShowsReferenceField, FromPlaceFault, FieldSlotFault, StringFault}

-- the fault of a place stands as one of a header
pub told : (Stands : PlaceFault → Type 0) (e : PlaceFault) → Stands e → FromPlaceFault Stands (fault_of e)
told Stands OutOfBounds stands = stands
told Stands NotUtf8 stands = stands
told Stands SmallVtable stands = stands

-- what the exit of a `?` hands on
pub handed_on : {A : Type 0} (Fault : MetaFault → Type 0) (r : Result A MetaFault) (e : MetaFault)
    → IsErrAnd r (λ y. y ≡ e) → Fault e → IfErr r Fault
handed_on Fault (Ok x) e h fault = tt
handed_on Fault (Err y) e h fault = subst Fault (sym h) fault

-- a fault of the text that a field refers to
pub string_wrong : (text : List ℕ) (table n target : ℕ) (field : Option ℕ) (e : PlaceFault)
    → ShowsReferenceField text table n field → field ≡ Some target
    → TextFault text target e → StringFault text table n (fault_of e)
string_wrong text table n target field e referred is fault =
    inr (target, subst (ShowsReferenceField text table n) is referred, told (TextFault text target) e fault)

-- a fault of a table, as one of each of its slots
pub table_wrong : (text : List ℕ) (table n : ℕ) (e : MetaFault) → FromPlaceFault (TableFault text table) e
    → FieldSlotFault text table n e
table_wrong text table n meta.OutOfBounds fault = inl fault
table_wrong text table n meta.NotUtf8 fault = absurd fault
table_wrong text table n meta.BadHeader fault = fault
table_wrong text table n meta.Version fault = absurd fault
table_wrong text table n meta.Endianness fault = absurd fault
table_wrong text table n (meta.Unsupported type_id) fault = absurd fault
table_wrong text table n meta.Dictionary fault = absurd fault
table_wrong text table n meta.TooDeep fault = absurd fault
table_wrong text table n meta.TooManyFields fault = absurd fault
table_wrong text table n meta.OutOfMemory fault = absurd fault
