use Rattle.std.proofs.Common.{◌≡◌, ◌≤◌, length, vec_len}
use Rattle.std.specs.Vec.{vec_capacity}
use Rattle.header_types.specs.Header.{ShowsPairs}
use Rattle.header_reading.proofs.batch.pairs_at.Given as goal

abbrev pub invariant-loop-index : goal.invariant-loop-index
invariant-loop-index l = record {
  shown : ShowsPairs l.buf l.vector.first l.pairs.items;
  all : length l.pairs.items ≡ l.index;
  counted : vec_len l.pairs ≡ l.index;
  room : l.vector.count ≤ vec_capacity l.pairs;
}
