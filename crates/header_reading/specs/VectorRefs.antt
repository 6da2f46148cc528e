-- The program's reference to a vector, as that of the definitions.
use Rattle.header_reading.specs.declared.slots.VectorRef.{VectorRef as ReadVectorRef}
use Rattle.header_types.specs.Slots.{VectorRef}

abbrev pub vector_ref_of : ReadVectorRef → VectorRef
vector_ref_of vector = record { first = vector.first; count = vector.count }
