-- Messages with a field of every kind of number and of bytes: Protocol Buffers, "Language Guide (proto3)".
use Rattle.proto_fields.specs.Scalar.{TypeEnum, TypeInt64, TypeUint64, TypeBool, TypeBytes, TypeString}
use Rattle.proto_messages.specs.Descriptor.{Descriptor, NoMore, One, Strings}

-- kind, change, count, is_last
abbrev pub numbers_descriptor : Descriptor
numbers_descriptor = One 1 TypeEnum (One 2 TypeInt64 (One 3 TypeUint64 (One 4 TypeBool NoMore)))

-- payload, name, tags
abbrev pub words_descriptor : Descriptor
words_descriptor = One 1 TypeBytes (One 2 TypeString (Strings 3 NoMore))
