use Rattle.std.proofs.Common.{arith, ◌+◌, ◌*◌, sym, ap, ◌∙◌, length}
use Rattle.proto_fields.specs.Varint.{digits}
use Rattle.uploads.proofs.CallerLemmas.{digits_few, part_size}
use Rattle.uploads.proofs.lengths.part_length.Goals as goal

pub overflow_add-result : goal.overflow_add-result
overflow_add-result c =
    omega (
      arith,
      c.varint_length.ensures 9 (omega (arith, c.ranges.number.fits, c.from.ensures)),
      c.varint_length-2.ensures 9 (omega (arith, c.requires)),
      digits_few 10 (8 * c.from.result + 2),
      digits_few 10 c.args.count,
    )

pub overflow_add-result-2 : goal.overflow_add-result-2
overflow_add-result-2 c =
    omega (
      arith,
      c.requires,
      c.varint_length.ensures 9 (omega (arith, c.ranges.number.fits, c.from.ensures)),
      c.varint_length-2.ensures 9 (omega (arith, c.requires)),
      digits_few 10 (8 * c.from.result + 2),
      digits_few 10 c.args.count,
    )

pub returns-clause-few : goal.returns-clause-few
returns-clause-few c =
    omega (
      arith,
      c.varint_length.ensures 9 (omega (arith, c.ranges.number.fits, c.from.ensures)),
      c.varint_length-2.ensures 9 (omega (arith, c.requires)),
      digits_few 10 (8 * c.from.result + 2),
      digits_few 10 c.args.count,
    )

pub returns-clause-long : goal.returns-clause-long
returns-clause-long c = λ bytes is.
    let whole = part_size c.args.number bytes c.varint_length.result c.varint_length-2.result
    (c.varint_length.ensures 9 (omega (arith, c.ranges.number.fits, c.from.ensures)) ∙ ap (λ n. length (digits 10 (8 * n + 2))) c.from.ensures)
    (c.varint_length-2.ensures 9 (omega (arith, c.requires)) ∙ ap (λ n. length (digits 10 n)) (sym is)) in
    omega (arith, whole, is)
