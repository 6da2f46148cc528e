use Rattle.std.proofs.Common.{◌≡◌, sym, ap, ◌∙◌, map}
use Rattle.std.proofs.lemmas.Result.{IfOk-weaker}
use Rattle.bitmaps.specs.Bits.{bit_of}
use Rattle.batch_reading.specs.Spots.{places_of, spots_of, marks_of}
use Rattle.std.specs.List.{zip}
use Rattle.batch_reading.specs.Taken.{bit_taken}
use Rattle.batch_reading.proofs.Running.{within_all, all_marked}
use Rattle.batch_reading.proofs.bits.bits_taken.Goals as goal

pub run_bits-requires : goal.run_bits-requires
run_bits-requires c = within_all c.requires.0 c.args.selection.now c.requires.1

pub returns-in-None : goal.returns-in-None
returns-in-None c =
    IfOk-weaker c.run_bits.result (λ bits. bits ≡ map (bit_of c.args.bytes.now) (places_of c.args.selection.now.runs.now))
    (λ bits. bits ≡ map (bit_taken c.args.bytes.now c.args.other) (spots_of c.args.selection.now))
    (λ bits same.
    same
    ∙ sym (all_marked (bit_taken c.args.bytes.now c.args.other) (places_of c.args.selection.now.runs.now) c.args.selection.now.count c.requires.1.counted)
    ∙ ap (λ there. map (bit_taken c.args.bytes.now c.args.other) (zip (places_of c.args.selection.now.runs.now) (marks_of c.args.selection.now.count there)))
    (sym c.in-None.is))
    c.run_bits.ensures
