use Rattle.std.proofs.Common.{◌≡◌, ◌++◌, map, drop}
use Rattle.batch_types.specs.Canonical.{body_with}
use Rattle.record_batches.specs.Adds.{Grows}
use Rattle.record_batches.proofs.body.append_buffers.Given as goal

abbrev pub invariant-loop-bytes : goal.invariant-loop-bytes
invariant-loop-bytes l = record {
  appended : l.text.items ++ body_with (map (λ bytes. bytes.now) (drop l.bytes-index l.buffers))
      ≡ l.fn.text.items ++ body_with (map (λ bytes. bytes.now) l.buffers);
  grows : Grows l.fn.text.items l.text.items;
}
