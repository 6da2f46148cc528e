use Rattle.std.proofs.Common.{ℕ, List, Bor, length}
use Rattle.std.specs.Option.{option_map}
use Rattle.proto_fields.specs.Meaning.{bytes_meant}
use Rattle.proto_fields.specs.Lookup.{StandsBefore}
use Rattle.proto_fields.proofs.Lookups.{MeantSoFar}
use Rattle.proto_fields.proofs.lookup.last_bytes.Given as goal

-- what the fields so far mean, and where it stands
abbrev pub invariant-loop-rest : goal.invariant-loop-rest
invariant-loop-rest l =
    let meant = option_map (λ (b : Bor (List ℕ)). b.now) l.meant in
    MeantSoFar (bytes_meant l.number) l.bytes l.rest meant × StandsBefore l.bytes meant l.behind

abbrev pub decreases-loop-rest : goal.decreases-loop-rest
decreases-loop-rest l = length l.rest
