use Rattle.std.proofs.Common.{◌≡◌, ap, ◌∙◌, ◌+◌, ◌-◌, ◌*◌, arith}
use Rattle.std.proofs.lemmas.Result.{IfOk-weaker}
use Rattle.batch_types.specs.Placed.{bytes_from, start_of}
use Rattle.batch_reading.specs.OneRun.{offsets_from_zero}
use Rattle.batch_reading.proofs.OneRun.{offsets_copied}
use Rattle.batch_reading.proofs.one_run.run_offsets.Goals as goal

pub returns : goal.returns
returns c =
    let start = c.args.run.start in
    let count = c.args.run.count in
    let long : 4 * start + 4 * (count + 1) - 4 * start ≡ 4 * (count + 1) = omega arith in
    let none : start_of 4 c.args.offsets.now start ≡ 0 = omega (arith, c.if-first-gt0.false, c.requires.first) in
    IfOk-weaker c.from_slice.result (λ made. made.items ≡ c.part.result.now)
    (λ made. made.items ≡ offsets_from_zero c.args.offsets.now start count)
    (λ made same.
    same ∙ c.part.ensures ∙ ap (bytes_from c.args.offsets.now (4 * start)) long
    ∙ offsets_copied c.args.offsets.now c.requires.offsets.0 c.requires.offsets.1 start count c.requires.offsets.2 c.requires.some
    c.requires.offsets.3 none)
    c.from_slice.ensures.items
