-- The fault of a place, as the fault of a header.
use Rattle.flat_places.specs.declared.fault.PlaceFault.{PlaceFault}
use Rattle.flat_places.specs.declared.fault.PlaceFault.TheVariants as place
use Rattle.header_types.specs.declared.fault.MetaFault.{MetaFault}
use Rattle.header_types.specs.declared.fault.MetaFault.TheVariants as meta

abbrev pub fault_of : PlaceFault → MetaFault
fault_of place.OutOfBounds = meta.OutOfBounds
fault_of place.NotUtf8 = meta.NotUtf8
fault_of place.SmallVtable = meta.BadHeader
