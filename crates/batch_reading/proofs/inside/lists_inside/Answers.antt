use Rattle.std.proofs.Common.{◌≡◌, sym, ap, ◌∙◌, true, map, length, arith}
use Rattle.std.proofs.lemmas.Result.{IfOk-weaker}
use Rattle.batch_types.specs.Canonical.{offsets_of}
use Rattle.batch_types.specs.Layouts.{list_layout}
use Rattle.batch_reading.specs.OneRun.{offsets_from_zero, AreElements}
use Rattle.batch_reading.specs.Planned.{elements_taken, spots_inside, AreInside}
use Rattle.batch_reading.specs.Spots.{spots_of}
use Rattle.batch_reading.proofs.OneRun.{only_within, only_mapped, run_ends, elements_long, run_inside}
use Rattle.batch_reading.proofs.inside.lists_inside.Goals as goal

pub returns-in-Some-clause-offsets : goal.returns-in-Some-clause-offsets
returns-in-Some-clause-offsets c =
    let offsets = c.args.offsets.now in
    let selection = c.args.selection.now in
    let limit = c.requires.0 in
    let run = c.in-Some.run' in
    let within = only_within limit selection c.requires.2 run c.in-Some.ensures.runs c.in-Some.ensures.there in
    IfOk-weaker c.run_lists.result (λ made. made.0.items ≡ offsets_from_zero offsets run.start run.count)
    (λ made. made.0.items ≡ offsets_of 4 (map (λ spot. length (elements_taken offsets spot)) (spots_of selection)))
    (λ made same.
    same
    ∙ sym (run_ends offsets (λ p. length (elements_taken offsets (p, true))) run.start run.count
    (λ p from below. elements_long offsets limit c.requires.1 c.requires.3 p (omega (arith, below, within))))
    ∙ ap (offsets_of 4)
    (sym (only_mapped limit selection c.requires.2 run c.in-Some.ensures.runs c.in-Some.ensures.there (λ spot. length (elements_taken offsets spot)))))
    c.run_lists.ensures.offsets

pub returns-in-Some-clause-inside : goal.returns-in-Some-clause-inside
returns-in-Some-clause-inside c =
    let offsets = c.args.offsets.now in
    let selection = c.args.selection.now in
    let run = c.in-Some.run' in
    IfOk-weaker c.run_lists.result (λ made. AreElements offsets run.start run.count made.1)
    (λ made. AreInside (spots_inside (list_layout 4) offsets (spots_of selection)) made.1)
    (λ made are. run_inside offsets c.requires.0 c.requires.1 selection c.requires.2 run c.requires.3 c.in-Some.ensures.runs c.in-Some.ensures.there made.1 are)
    c.run_lists.ensures.inside
