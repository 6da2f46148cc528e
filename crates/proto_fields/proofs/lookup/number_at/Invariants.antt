use Rattle.std.proofs.Common.{length}
use Rattle.proto_fields.specs.Meaning.{number_meant}
use Rattle.proto_fields.proofs.Lookups.{MeantSoFar}
use Rattle.proto_fields.proofs.lookup.number_at.Given as goal

-- what the fields so far mean
abbrev pub invariant-loop-rest : goal.invariant-loop-rest
invariant-loop-rest l = MeantSoFar (number_meant l.number) l.bytes l.rest (l.meant)

abbrev pub decreases-loop-rest : goal.decreases-loop-rest
decreases-loop-rest l = length l.rest
