use Rattle.std.proofs.Common.{◌≡◌, refl, sym, ap, ◌∙◌, ◌+◌, ◌-◌, true, map, length, arith}
use Rattle.std.proofs.lemmas.Result.{IfOk-weaker}
use Rattle.std.specs.List.{flat_map}
use Rattle.batch_types.specs.Canonical.{offsets_of}
use Rattle.batch_types.specs.Placed.{bytes_from, start_of}
use Rattle.batch_reading.specs.OneRun.{offsets_from_zero}
use Rattle.batch_reading.specs.Spots.{spots_of}
use Rattle.batch_reading.specs.Taken.{span_taken}
use Rattle.batch_reading.proofs.OneRun.{only_within, only_mapped, only_gathered, run_ends, run_bytes_are, span_long}
use Rattle.batch_reading.proofs.spans.spans_taken.Goals as goal

pub returns-in-Some-clause-offsets : goal.returns-in-Some-clause-offsets
returns-in-Some-clause-offsets c =
    let offsets = c.args.offsets.now in
    let bytes = c.args.bytes.now in
    let selection = c.args.selection.now in
    let limit = c.requires.0 in
    let run = c.in-Some.run' in
    let within = only_within limit selection c.requires.1 run c.in-Some.ensures.runs c.in-Some.ensures.there in
    IfOk-weaker c.run_spans.result (λ made. made.0.items ≡ offsets_from_zero offsets run.start run.count)
    (λ made. made.0.items ≡ offsets_of 4 (map (λ spot. length (span_taken offsets bytes spot)) (spots_of selection)))
    (λ made same.
    same
    ∙ sym (run_ends offsets (λ p. length (span_taken offsets bytes (p, true))) run.start run.count
    (λ p from below. span_long offsets limit (length bytes) c.requires.2 bytes p refl (omega (arith, below, within))))
    ∙ ap (offsets_of 4)
    (sym (only_mapped limit selection c.requires.1 run c.in-Some.ensures.runs c.in-Some.ensures.there (λ spot. length (span_taken offsets bytes spot)))))
    c.run_spans.ensures.offsets

pub returns-in-Some-clause-bytes : goal.returns-in-Some-clause-bytes
returns-in-Some-clause-bytes c =
    let offsets = c.args.offsets.now in
    let bytes = c.args.bytes.now in
    let selection = c.args.selection.now in
    let limit = c.requires.0 in
    let run = c.in-Some.run' in
    let within = only_within limit selection c.requires.1 run c.in-Some.ensures.runs c.in-Some.ensures.there in
    IfOk-weaker c.run_spans.result
    (λ made. made.1.items ≡ bytes_from bytes (start_of 4 offsets run.start) (start_of 4 offsets (run.start + run.count) - start_of 4 offsets run.start))
    (λ made. made.1.items ≡ flat_map (span_taken offsets bytes) (spots_of selection))
    (λ made same.
    same ∙ sym (run_bytes_are offsets limit (length bytes) c.requires.2 bytes run.start run.count within)
    ∙ sym (only_gathered limit selection c.requires.1 run c.in-Some.ensures.runs c.in-Some.ensures.there (span_taken offsets bytes)))
    c.run_spans.ensures.bytes
