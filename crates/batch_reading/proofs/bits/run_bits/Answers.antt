use Rattle.std.proofs.Common.{sym, ap, ◌∙◌, ◌++◌, map, arith}
use Rattle.std.proofs.lemmas.List.{map-append}
use Rattle.std.specs.List.{range_with_len}
use Rattle.std.proofs.Common.{take, get_or}
use Rattle.batch_reading.specs.declared.selection.Run.{Run}
use Rattle.bitmaps.specs.Bits.{bit_of}
use Rattle.batch_types.specs.LaysOut.{values_limit}
use Rattle.batch_reading.specs.Spots.{places_of}
use Rattle.batch_reading.proofs.Running.{run_there, places_more}
use Rattle.batch_reading.proofs.bits.run_bits.Goals as goal

pub extend_from-requires : goal.extend_from-requires
extend_from-requires c =
    let below = (run_there c.args.runs.now c.loop-run.run-index 0 values_limit (record { start = 0; count = 0 }) c.requires c.loop-run-test.true).1 in
    omega (arith, below)

pub loop-run-preserved : goal.loop-run-preserved
loop-run-preserved c =
    let run : Run = get_or c.args.runs.now c.loop-run.run-index (record { start = 0; count = 0 }) in
    c.in_ok-extend_from.ensures.extended
    ∙ ap (λ bits. bits ++ map (bit_of c.args.bytes.now) (range_with_len run.start run.count)) c.loop-run.invariant
    ∙ sym (map-append (bit_of c.args.bytes.now) (places_of (take c.loop-run.run-index c.args.runs.now)) (range_with_len run.start run.count))
    ∙ ap (map (bit_of c.args.bytes.now))
    (sym (places_more c.args.runs.now c.loop-run.run-index (record { start = 0; count = 0 }) c.loop-run-test.true))
