use Rattle.std.proofs.Common.{sym, ap, ap₂, ◌∙◌, ℕ, List, ◌+◌, ◌*◌, ◌++◌, take, get_or, length}
use Rattle.std.proofs.lemmas.Grind.{flat_map-append}
use Rattle.std.specs.List.{flat_map, range_with_len}
use Rattle.batch_types.specs.Placed.{bytes_from}
use Rattle.batch_reading.specs.declared.selection.Run.{Run}
use Rattle.batch_reading.specs.Spots.{places_of}
use Rattle.batch_reading.proofs.Running.{run_there, places_more}
use Rattle.batch_reading.proofs.Sizing.{run_blocks_are, run_within}
use Rattle.batch_reading.proofs.blocks.run_blocks.Goals as goal

pub run_bytes-requires : goal.run_bytes-requires
run_bytes-requires c =
    let run : Run = get_or c.args.runs.now c.loop-run.run-index (record { start = 0; count = 0 }) in
    run_within c.args.size (run.start + run.count) c.requires.0 (length c.args.bytes.now)
    (run_there c.args.runs.now c.loop-run.run-index 0 c.requires.0 (record { start = 0; count = 0 }) c.requires.1 c.loop-run-test.true).1
    c.requires.2

pub loop-run-preserved : goal.loop-run-preserved
loop-run-preserved c =
    let run : Run = get_or c.args.runs.now c.loop-run.run-index (record { start = 0; count = 0 }) in
    let blocks : ℕ → List ℕ = λ place. bytes_from c.args.bytes.now (c.args.size * place) c.args.size in
    c.in_ok-extend_from_slice.ensures.items
    ∙ ap₂ (λ xs ys. xs ++ ys) c.loop-run.invariant
    (c.run_bytes.ensures ∙ run_blocks_are c.args.bytes.now c.args.size run.start run.count)
    ∙ sym (flat_map-append blocks (places_of (take c.loop-run.run-index c.args.runs.now)) (range_with_len run.start run.count))
    ∙ ap (flat_map blocks)
    (sym (places_more c.args.runs.now c.loop-run.run-index (record { start = 0; count = 0 }) c.loop-run-test.true))
