use Rattle.std.proofs.Common.{◌≡◌, sym, ap, ◌∙◌, ◌*◌}
use Rattle.std.proofs.lemmas.Result.{IfOk-weaker}
use Rattle.std.specs.List.{flat_map, zip}
use Rattle.batch_types.specs.Placed.{bytes_from}
use Rattle.batch_reading.specs.Spots.{places_of, spots_of, marks_of}
use Rattle.batch_reading.specs.Taken.{block_taken}
use Rattle.batch_reading.proofs.Running.{all_gathered}
use Rattle.batch_reading.proofs.blocks.blocks_taken.Goals as goal

pub run_blocks-requires : goal.run_blocks-requires
run_blocks-requires c = (c.requires.0, c.requires.1.rising, c.requires.2)

pub returns-in-None : goal.returns-in-None
returns-in-None c =
    IfOk-weaker c.run_blocks.result
    (λ blocks. blocks.items ≡ flat_map (λ place. bytes_from c.args.bytes.now (c.args.size * place) c.args.size) (places_of c.args.selection.now.runs.now))
    (λ blocks. blocks.items ≡ flat_map (block_taken c.args.size c.args.bytes.now) (spots_of c.args.selection.now))
    (λ blocks same.
    same
    ∙ sym (all_gathered (block_taken c.args.size c.args.bytes.now) (places_of c.args.selection.now.runs.now) c.args.selection.now.count c.requires.1.counted)
    ∙ ap (λ there. flat_map (block_taken c.args.size c.args.bytes.now) (zip (places_of c.args.selection.now.runs.now) (marks_of c.args.selection.now.count there)))
    (sym c.in-None.is))
    c.run_blocks.ensures
