use Rattle.std.proofs.Common.{length}
use Rattle.proto_fields.proofs.varint.+number_within.Given as goal

abbrev pub decreases-number_within : goal.decreases-number_within
decreases-number_within l = length l.buf.now
